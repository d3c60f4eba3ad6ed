use Rattle.std.proofs.Common.{◌≡◌, ◌∙◌, ap, subst, Option}
use Rattle.std.specs.Prelude.{map, IfSome}
use Rattle.grb_sparse.specs.Arrays.{entries_of_arrays}
use Rattle.grb_sparse.specs.Matrix.{SparseMatrixView}
use Rattle.grb_call.specs.Tuples.{tuples_of}
use Rattle.grb_codes.proofs.Arrays.{tuples_of-arrays}
use Rattle.grb_codes.proofs.builds.matrix_tuples.Goals as goal

pub returns-in_ok-new-in-Some : goal.returns-in_ok-new-in-Some
returns-in_ok-new-in-Some g c =
    let is = c.args.rows.now in
    let js = c.args.columns.now in
    let xs = c.args.values.now in
    let entries : c.in-Some.matrix.matrix.entries ≡ entries_of_arrays is js (map g.T.Item.value xs) =
    subst (λ (made : Option SparseMatrixView). IfSome made (λ a. a.matrix.entries ≡ entries_of_arrays is js (map g.T.Item.value xs))) c.in-Some.is c.in_ok-matrix.ensures.entries in
    c.from_matrix.ensures
    ∙ ap (λ (m : SparseMatrixView). tuples_of m.matrix.entries) c.in_ok-new-in-Some.ensures.ok
    ∙ ap tuples_of entries
    ∙ tuples_of-arrays g.T.Item.value is js xs
