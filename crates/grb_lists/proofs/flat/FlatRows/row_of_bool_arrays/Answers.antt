use Rattle.std.proofs.Common.{Bool, length, ap, ◌∙◌, arith}
use Rattle.std.specs.Prelude.{map}
use Rattle.std.specs.Ordering.{nat_cmp}
use Rattle.std.specs.FinMap.{is_sorted}
use Rattle.std.proofs.lemmas.List.{length-map}
use Rattle.grb_core.specs.declared.value.Value.TheVariants as value
use Rattle.grb_lists.specs.Stored.{paired}
use Rattle.grb_lists.proofs.Places.{passes}
use Rattle.grb_lists.proofs.FlatLists.{is_sorted-rising}
use Rattle.grb_lists.proofs.flat.FlatRows.row_of_bool_arrays.Goals as goal

pub row_from_bools-requires-clause-ordered : goal.row_from_bools-requires-clause-ordered
row_from_bools-requires-clause-ordered c =
    let xs = c.in_ok-copied.field-0.items in
    let vs = map (λ x. value.Bool x) xs in
    let long = length-map xs (λ (x : Bool). value.Bool x) in
    let same = ap length c.in_ok-copied.ensures in
    ap (λ ks. is_sorted nat_cmp (paired ks vs)) c.in_ok-narrowed.ensures
    ∙ passes _ (is_sorted-rising c.args.indices.now vs (omega (arith, long, same, c.requires.same)) c.requires.rising.rise)
