use Rattle.std.proofs.Common.{◌≡◌, ℕ, length, sym, ap, subst, ◌∙◌, arith}
use Rattle.std.specs.Prelude.{map}
use Rattle.std.proofs.lemmas.List.{length-map}
use Rattle.grb_core.specs.declared.domain.Domain.{Domain}
use Rattle.grb_core.specs.declared.domain.Domain.TheVariants as domain
use Rattle.grb_core.specs.declared.value.Value.TheVariants as value
use Rattle.grb_core.specs.Entries.{VectorEntries}
use Rattle.grb_core.specs.Contents.{IsMatrix}
use Rattle.grb_rows.specs.Cells.{decoded}
use Rattle.grb_sparse.specs.Matrix.{SparseMatrixView}
use Rattle.grb_sparse.proofs.OfArrays.{decoded-cells_in, is_matrix-arrays, values_of_items}
use Rattle.grb_sparse.proofs.matrix.SparseMatrix.of_numbers.Goals as goal

pub from_lists-matrix-requires : goal.from_lists-matrix-requires
from_lists-matrix-requires c =
    let is = c.args.rows.now in
    let js = c.args.columns.now in
    let xs = c.args.numbers.now in
    let vs = map (λ x. value.Uint64 x) xs in
    let long = length-map xs (λ (x : ℕ). value.Uint64 x) in
    let many : length vs ≡ length is = omega (arith, long, c.requires.numbers) in
    record {
      whole = subst (λ (l : Domain × VectorEntries). IsMatrix (record { domain = l.0; nrows = c.in-Some.nrows; ncols = c.in-Some.ncols; entries = decoded l.1 }))
          (λ i. (sym c.in_ok-lists.ensures.domain i, sym c.in_ok-lists.ensures.entries i))
          (is_matrix-arrays domain.Uint64 is js vs c.requires.columns many (values_of_items domain.Uint64 (λ x. value.Uint64 x) xs 0 (λ k. (c.type_inv.numbers k).fits)) c.in-Some.ensures.rising
          c.in-Some.nrows c.in-Some.ncols c.in-Some.ensures.rows.0 c.in-Some.ensures.columns.0 c.in-Some.ensures.rows.1 c.in-Some.ensures.columns.1);
    }

pub returns-clause-entries : goal.returns-clause-entries
returns-clause-entries c =
    ap (λ (m : SparseMatrixView). m.matrix.entries) (c.make_shareable.ensures ∙ c.from_lists-matrix.ensures)
    ∙ ap decoded c.in_ok-lists.ensures.entries
    ∙ decoded-cells_in c.args.rows.now c.args.columns.now (map (λ x. value.Uint64 x) c.args.numbers.now) (λ k l. let w = c.in-Some.ensures.rising.columns_within k l in omega (arith, w))
