use Rattle.std.proofs.Common.{◌≡◌, ◌<◌, ℕ, [], ap, sym, subst, ◌∙◌, arith}
use Rattle.std.specs.Prelude.{All}
use Rattle.grb_core.specs.declared.domain.Domain.TheVariants as domain
use Rattle.grb_core.specs.Entries.{MatrixEntries}
use Rattle.grb_lists.specs.Cells.{decoded}
use Rattle.grb_mxm.proofs.WholeProduct.{all_rows, product_is, product_whole}
use Rattle.grb_mxm.proofs.mxm_product.product.Goals as goal

none_below : (n : ℕ) (m : MatrixEntries) → m ≡ [] → All (λ e. e.0.0 < n) m
none_below n m e = subst (λ (x : MatrixEntries). All (λ e. e.0.0 < n) x) (sym e) (λ k d l. absurd (omega (arith, l)))

pub append_product-requires-clause-lists : goal.append_product-requires-clause-lists
append_product-requires-clause-lists c = c.no_rows-none.ensures.lists 0

pub append_product-requires-clause-below : goal.append_product-requires-clause-below
append_product-requires-clause-below c = none_below 0 _ c.no_rows-none.ensures.entries

pub append_product-requires-in-Uint64-clause-lists : goal.append_product-requires-in-Uint64-clause-lists
append_product-requires-in-Uint64-clause-lists c = c.no_rows-none-in-Uint64.ensures.lists 0

pub append_product-requires-in-Uint64-clause-below : goal.append_product-requires-in-Uint64-clause-below
append_product-requires-in-Uint64-clause-below c = none_below 0 _ c.no_rows-none-in-Uint64.ensures.entries

pub keep_rows-requires-clause-whole : goal.keep_rows-requires-clause-whole
keep_rows-requires-clause-whole c =
    let d = sym c.in-Bool.is ∙ c.domain.ensures.op in
    let rows = ap (λ (p : ℕ × ℕ). p.0) c.dims-nrows.ensures.dims in
    let columns = ap (λ (p : ℕ × ℕ). p.1) c.dims-rows.ensures.dims in
    let monoid = sym c.domain.ensures.monoid ∙ c.domain.ensures.op in
    let first = c.lend_matrix-first in
    let second = c.lend_matrix-second in
    product_whole c.args.semiring c.args.structure _ domain.Bool c.dims-nrows.result.0 c.dims-rows.result.1 c.args.a.now.matrix c.args.b.now.matrix (decoded first.result.lists.now.entries) (decoded second.result.lists.now.entries) _
    d c.requires.a.domain rows columns first.ensures.entries second.ensures.entries
    (all_rows c.args.semiring c.args.structure _ domain.Bool c.dims-nrows.result.0 c.dims-rows.result.1 c.args.a.now.matrix c.args.b.now.matrix (decoded first.result.lists.now.entries) (decoded second.result.lists.now.entries) _ _
    d c.requires.a.domain rows columns first.ensures.entries second.ensures.entries c.no_rows-none.ensures.entries c.in_ok-made-in-Bool.ensures.entries first.ensures.whole second.ensures.whole monoid c.requires.b.domain c.requires.a.columns)
    first.ensures.whole second.ensures.whole monoid c.requires.b.domain c.requires.a.columns

pub keep_rows-requires-in-Uint64-clause-whole : goal.keep_rows-requires-in-Uint64-clause-whole
keep_rows-requires-in-Uint64-clause-whole c =
    let d = sym c.in-Uint64.is ∙ c.domain.ensures.op in
    let rows = ap (λ (p : ℕ × ℕ). p.0) c.dims-nrows.ensures.dims in
    let columns = ap (λ (p : ℕ × ℕ). p.1) c.dims-rows.ensures.dims in
    let monoid = sym c.domain.ensures.monoid ∙ c.domain.ensures.op in
    let first = c.lend_matrix-first-in-Uint64 in
    let second = c.lend_matrix-second-in-Uint64 in
    product_whole c.args.semiring c.args.structure _ domain.Uint64 c.dims-nrows.result.0 c.dims-rows.result.1 c.args.a.now.matrix c.args.b.now.matrix (decoded first.result.lists.now.entries) (decoded second.result.lists.now.entries) _
    d c.requires.a.domain rows columns first.ensures.entries second.ensures.entries
    (all_rows c.args.semiring c.args.structure _ domain.Uint64 c.dims-nrows.result.0 c.dims-rows.result.1 c.args.a.now.matrix c.args.b.now.matrix (decoded first.result.lists.now.entries) (decoded second.result.lists.now.entries) _ _
    d c.requires.a.domain rows columns first.ensures.entries second.ensures.entries c.no_rows-none-in-Uint64.ensures.entries c.in_ok-made-in-Uint64.ensures.entries first.ensures.whole second.ensures.whole monoid c.requires.b.domain c.requires.a.columns)
    first.ensures.whole second.ensures.whole monoid c.requires.b.domain c.requires.a.columns

pub keep_rows-requires-clause-flat : goal.keep_rows-requires-clause-flat
keep_rows-requires-clause-flat c = c.in_ok-made-in-Bool.ensures.lists.flat

pub keep_rows-requires-clause-same : goal.keep_rows-requires-clause-same
keep_rows-requires-clause-same c = sym c.in_ok-made-in-Bool.ensures.lists.same

pub keep_rows-requires-in-Uint64-clause-flat : goal.keep_rows-requires-in-Uint64-clause-flat
keep_rows-requires-in-Uint64-clause-flat c = c.in_ok-made-in-Uint64.ensures.lists.flat

pub keep_rows-requires-in-Uint64-clause-same : goal.keep_rows-requires-in-Uint64-clause-same
keep_rows-requires-in-Uint64-clause-same c = sym c.in_ok-made-in-Uint64.ensures.lists.same

pub returns-in_ok-made-in-Bool-clause-matrix : goal.returns-in_ok-made-in-Bool-clause-matrix
returns-in_ok-made-in-Bool-clause-matrix c =
    let d = sym c.in-Bool.is ∙ c.domain.ensures.op in
    let rows = ap (λ (p : ℕ × ℕ). p.0) c.dims-nrows.ensures.dims in
    let columns = ap (λ (p : ℕ × ℕ). p.1) c.dims-rows.ensures.dims in
    let monoid = sym c.domain.ensures.monoid ∙ c.domain.ensures.op in
    let first = c.lend_matrix-first in
    let second = c.lend_matrix-second in
    c.keep_rows.ensures.matrix
    ∙ product_is c.args.semiring c.args.structure _ domain.Bool c.dims-nrows.result.0 c.dims-rows.result.1 c.args.a.now.matrix c.args.b.now.matrix (decoded first.result.lists.now.entries) (decoded second.result.lists.now.entries) _
    d c.requires.a.domain rows columns first.ensures.entries second.ensures.entries
    (all_rows c.args.semiring c.args.structure _ domain.Bool c.dims-nrows.result.0 c.dims-rows.result.1 c.args.a.now.matrix c.args.b.now.matrix (decoded first.result.lists.now.entries) (decoded second.result.lists.now.entries) _ _
    d c.requires.a.domain rows columns first.ensures.entries second.ensures.entries c.no_rows-none.ensures.entries c.in_ok-made-in-Bool.ensures.entries first.ensures.whole second.ensures.whole monoid c.requires.b.domain c.requires.a.columns)

pub returns-in_ok-made-in-Uint64-clause-matrix : goal.returns-in_ok-made-in-Uint64-clause-matrix
returns-in_ok-made-in-Uint64-clause-matrix c =
    let d = sym c.in-Uint64.is ∙ c.domain.ensures.op in
    let rows = ap (λ (p : ℕ × ℕ). p.0) c.dims-nrows.ensures.dims in
    let columns = ap (λ (p : ℕ × ℕ). p.1) c.dims-rows.ensures.dims in
    let monoid = sym c.domain.ensures.monoid ∙ c.domain.ensures.op in
    let first = c.lend_matrix-first-in-Uint64 in
    let second = c.lend_matrix-second-in-Uint64 in
    c.keep_rows-in-Uint64.ensures.matrix
    ∙ product_is c.args.semiring c.args.structure _ domain.Uint64 c.dims-nrows.result.0 c.dims-rows.result.1 c.args.a.now.matrix c.args.b.now.matrix (decoded first.result.lists.now.entries) (decoded second.result.lists.now.entries) _
    d c.requires.a.domain rows columns first.ensures.entries second.ensures.entries
    (all_rows c.args.semiring c.args.structure _ domain.Uint64 c.dims-nrows.result.0 c.dims-rows.result.1 c.args.a.now.matrix c.args.b.now.matrix (decoded first.result.lists.now.entries) (decoded second.result.lists.now.entries) _ _
    d c.requires.a.domain rows columns first.ensures.entries second.ensures.entries c.no_rows-none-in-Uint64.ensures.entries c.in_ok-made-in-Uint64.ensures.entries first.ensures.whole second.ensures.whole monoid c.requires.b.domain c.requires.a.columns)
