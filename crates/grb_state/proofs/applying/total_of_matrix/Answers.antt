use Rattle.std.proofs.Common.{◌≡◌, ap, ◌∙◌, None}
use Rattle.grb_core.specs.Results.{reduce_of}
use Rattle.grb_call.specs.declared.call.Call.TheVariants as call
use Rattle.grb_call.specs.Store.{matrix_entries}
use Rattle.grb_call.specs.After.{refused}
use Rattle.grb_objects.specs.Stored.{stored}
use Rattle.grb_states.specs.State.{RoomyStore}
use Rattle.grb_state.proofs.Totals.{matrix_total-there, matrix_total-domain, matrix_total-is}
use Rattle.grb_state.proofs.applying.total_of_matrix.Goals as goal

pub lent-requires : goal.lent-requires
lent-requires c =
    let a = c.args.a in let monoid = c.args.monoid in let ms = c.state.inside.objects.matrices.items in let vs = c.state.inside.objects.vectors.items in
    let accepted : refused (stored ms vs) (call.ReduceMatrix a monoid) ≡ None = ap (λ (x : RoomyStore). refused x.store (call.ReduceMatrix a monoid)) c.state.view_is ∙ c.requires.accepted in
    matrix_total-there ms vs a monoid accepted

pub reduce_matrix-requires : goal.reduce_matrix-requires
reduce_matrix-requires c =
    let a = c.args.a in let monoid = c.args.monoid in let ms = c.state.inside.objects.matrices.items in let vs = c.state.inside.objects.vectors.items in
    let accepted : refused (stored ms vs) (call.ReduceMatrix a monoid) ≡ None = ap (λ (x : RoomyStore). refused x.store (call.ReduceMatrix a monoid)) c.state.view_is ∙ c.requires.accepted in
    record { domain = matrix_total-domain ms vs a monoid accepted c.lent.result.now c.lent.ensures }

pub returns : goal.returns
returns c =
    let a = c.args.a in let monoid = c.args.monoid in let ms = c.state.inside.objects.matrices.items in let vs = c.state.inside.objects.vectors.items in
    let accepted : refused (stored ms vs) (call.ReduceMatrix a monoid) ≡ None = ap (λ (x : RoomyStore). refused x.store (call.ReduceMatrix a monoid)) c.state.view_is ∙ c.requires.accepted in
    c.reduce_matrix.ensures
    ∙ matrix_total-is ms vs a monoid accepted c.lent.result.now c.lent.ensures
    ∙ ap (λ (x : RoomyStore). reduce_of monoid (matrix_entries x.store a)) c.state.view_is
