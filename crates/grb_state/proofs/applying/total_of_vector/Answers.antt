use Rattle.std.proofs.Common.{◌≡◌, ap, ◌∙◌, None}
use Rattle.grb_core.specs.Results.{reduce_of}
use Rattle.grb_call.specs.declared.call.Call.TheVariants as call
use Rattle.grb_call.specs.Store.{vector_entries}
use Rattle.grb_call.specs.After.{refused}
use Rattle.grb_objects.specs.Stored.{stored}
use Rattle.grb_states.specs.State.{RoomyStore}
use Rattle.grb_state.proofs.Totals.{vector_total-there, vector_total-domain, vector_total-is}
use Rattle.grb_state.proofs.applying.total_of_vector.Goals as goal

pub lent-requires : goal.lent-requires
lent-requires c =
    let v = c.args.v in let monoid = c.args.monoid in let ms = c.state.inside.objects.matrices.items in let vs = c.state.inside.objects.vectors.items in
    let accepted : refused (stored ms vs) (call.ReduceVector v monoid) ≡ None = ap (λ (x : RoomyStore). refused x.store (call.ReduceVector v monoid)) c.state.view_is ∙ c.requires.accepted in
    vector_total-there ms vs v monoid accepted

pub reduce_vector-requires : goal.reduce_vector-requires
reduce_vector-requires c =
    let v = c.args.v in let monoid = c.args.monoid in let ms = c.state.inside.objects.matrices.items in let vs = c.state.inside.objects.vectors.items in
    let accepted : refused (stored ms vs) (call.ReduceVector v monoid) ≡ None = ap (λ (x : RoomyStore). refused x.store (call.ReduceVector v monoid)) c.state.view_is ∙ c.requires.accepted in
    record { domain = vector_total-domain ms vs v monoid accepted c.lent.result.now c.lent.ensures }

pub returns : goal.returns
returns c =
    let v = c.args.v in let monoid = c.args.monoid in let ms = c.state.inside.objects.matrices.items in let vs = c.state.inside.objects.vectors.items in
    let accepted : refused (stored ms vs) (call.ReduceVector v monoid) ≡ None = ap (λ (x : RoomyStore). refused x.store (call.ReduceVector v monoid)) c.state.view_is ∙ c.requires.accepted in
    c.reduce_vector.ensures
    ∙ vector_total-is ms vs v monoid accepted c.lent.result.now c.lent.ensures
    ∙ ap (λ (x : RoomyStore). reduce_of monoid (vector_entries x.store v)) c.state.view_is
