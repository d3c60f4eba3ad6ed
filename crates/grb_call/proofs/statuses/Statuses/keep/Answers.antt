use Rattle.std.proofs.Common.{sym, ap, ◌∙◌}
use Rattle.std.specs.Prelude.{List, Option, Some, length}
use Rattle.grb_core.specs.declared.refusal.Info.{Info}
use Rattle.grb_call.specs.declared.ids.Object.{Object}
use Rattle.grb_call.specs.Status.{with_status}
use Rattle.grb_call.specs.Statuses.{StatusRows, status_at}
use Rattle.grb_call.proofs.StatusRows.{matrix_kept, vector_kept}
use Rattle.grb_call.proofs.statuses.Statuses.keep.Goals as goal

pub returns-in-Matrix-clause-kept : goal.returns-in-Matrix-clause-kept
returns-in-Matrix-clause-kept c =
    let inside = c.self.inside in let w = c.in-Matrix in
    let rows : StatusRows = record { matrices = inside.matrices.items; vectors = inside.vectors.items } in
    let target = c.in-Some.is ∙ ap (λ (x : Object). Some x) w.is in
    ap (λ (row : List (Option Info)). status_at (record { matrices = row; vectors = inside.vectors.items })) c.put.ensures
    ∙ matrix_kept rows (length inside.matrices.items) c.self.invariant c.args.status w.a
    ∙ (λ i. with_status (c.self.view_is i).room (sym target i) c.args.status (status_at (c.self.view_is i).rows))

pub returns-in-Vector-clause-kept : goal.returns-in-Vector-clause-kept
returns-in-Vector-clause-kept c =
    let inside = c.self.inside in let w = c.in-Vector in
    let rows : StatusRows = record { matrices = inside.matrices.items; vectors = inside.vectors.items } in
    let target = c.in-Some.is ∙ ap (λ (x : Object). Some x) w.is in
    ap (λ (row : List (Option Info)). status_at (record { matrices = inside.matrices.items; vectors = row })) c.put-in-Vector.ensures
    ∙ vector_kept rows (length inside.matrices.items) c.self.invariant c.args.status w.v
    ∙ (λ i. with_status (c.self.view_is i).room (sym target i) c.args.status (status_at (c.self.view_is i).rows))
