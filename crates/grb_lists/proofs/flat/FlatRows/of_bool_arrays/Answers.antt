use Rattle.std.proofs.Common.{Bool, length, ap, ◌∙◌, arith}
use Rattle.std.specs.Prelude.{map}
use Rattle.std.specs.Ordering.{nat_cmp}
use Rattle.std.specs.FinMap.{is_sorted}
use Rattle.std.proofs.lemmas.List.{length-map}
use Rattle.grb_core.specs.declared.value.Value.TheVariants as value
use Rattle.grb_lists.specs.Stored.{paired}
use Rattle.grb_lists.proofs.RisingCells.{is_sorted-cells_in}
use Rattle.grb_lists.proofs.flat.FlatRows.of_bool_arrays.Goals as goal

pub from_bools-requires-clause-ordered : goal.from_bools-requires-clause-ordered
from_bools-requires-clause-ordered c =
    let xs = c.in_ok-bools.bools.items in
    let vs = map (λ x. value.Bool x) xs in
    let long = length-map xs (λ (x : Bool). value.Bool x) in
    let same = ap length c.in_ok-bools.ensures in
    ap (λ ks. is_sorted nat_cmp (paired ks vs)) c.in_ok-cells.ensures.codes
    ∙ is_sorted-cells_in c.args.rows.now c.args.columns.now c.requires.columns c.requires.rising vs (omega (arith, long, same, c.requires.bools))
