use Rattle.std.proofs.Common.{◌<◌, ◌≡◌, ℕ, List, length, get_or, subst}
use Rattle.grb_core.specs.Semiring.{SemiringParts}
use Rattle.grb_lists.specs.Cells.{decoded}
use Rattle.grb_sums.proofs.Renamed.{passes}
use Rattle.grb_mxm.proofs.ProductRows.{sorted-mxm, no_row-mxm}
use Rattle.grb_mxm.proofs.true_rows.TrueRowsRowMakerBool.numbers.Goals as goal

pub returns-clause-sorted : goal.returns-clause-sorted
returns-clause-sorted g c =
    let s : SemiringParts = record { monoid = g.M.MonoidOver.monoid; op = g.O.Operator.op } in
    passes _ (sorted-mxm s (decoded c.args.self.now.a.now.lists.now.entries) (decoded c.args.self.now.b.now.lists.now.entries))

pub returns-clause-all : goal.returns-clause-all
returns-clause-all g c i none =
    let s : SemiringParts = record { monoid = g.M.MonoidOver.monoid; op = g.O.Operator.op } in
    no_row-mxm s (decoded c.args.self.now.a.now.lists.now.entries) (decoded c.args.self.now.b.now.lists.now.entries) i
    (c.rows.ensures.all i (subst (λ (m : List ℕ). (k : ℕ) → k < length m → get_or m k 0 ≡ i → ⊥) c.rows.ensures.list none))
