use Rattle.std.proofs.Common.{◌≡◌, ◌∙◌, ap, subst, Option}
use Rattle.std.specs.Prelude.{map, IfSome}
use Rattle.grb_core.specs.Entries.{VectorEntries}
use Rattle.grb_sparse.specs.Arrays.{entries_of_arrays}
use Rattle.grb_sparse.specs.Matrix.{decoded}
use Rattle.grb_call.specs.Tuples.{tuples_of}
use Rattle.grb_codes.proofs.Arrays.{tuples_of-arrays}
use Rattle.grb_codes.proofs.builds.unordered_cells.Goals as goal

pub returns-in_ok-new-in-Some : goal.returns-in_ok-new-in-Some
returns-in_ok-new-in-Some g c =
    let is = c.args.rows.now in
    let js = c.args.columns.now in
    let xs = c.args.values.now in
    let tuples : decoded c.in-Some.list ≡ entries_of_arrays is js (map g.T.Item.value xs) =
    subst (λ (made : Option VectorEntries). IfSome made (λ t. decoded t ≡ entries_of_arrays is js (map g.T.Item.value xs))) c.in-Some.is c.in_ok-list.ensures.tuples in
    c.from_apart.ensures
    ∙ ap (λ (t : VectorEntries). tuples_of (decoded t)) c.in_ok-new-in-Some.ensures.ok
    ∙ ap tuples_of tuples
    ∙ tuples_of-arrays g.T.Item.value is js xs
