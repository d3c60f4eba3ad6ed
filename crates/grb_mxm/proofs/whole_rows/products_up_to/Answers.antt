use Rattle.std.proofs.Common.{◌≡◌, ◌+◌, ◌-◌, ◌<◌, ◌≤◌, ◌∙◌, ℕ, List, [], ◌∷◌, refl, sym, ap, length, get_or, take, arith}
use Rattle.std.specs.Prelude.{min}
use Rattle.std.proofs.lemmas.List.{length-map}
use Rattle.std.proofs.lemmas.List.Sums.{sum_by_more, sum_by-take-le}
use Rattle.grb_core.specs.declared.value.Value.{Value}
use Rattle.grb_core.specs.Entries.{VectorEntries, MatrixEntries}
use Rattle.grb_core.specs.Results.{row_of}
use Rattle.grb_kernels.specs.Typed.{entries_of}
use Rattle.grb_lists.specs.Cells.{decoded}
use Rattle.grb_sums.specs.Naming.{name_in, renamed}
use Rattle.grb_mxm.specs.RowProducts.{products_count}
use Rattle.grb_mxm.proofs.whole_rows.products_up_to.Goals as goal

length-entries : {V : Type 0} (value : V → Value) (ks : List ℕ) (vs : List V) → length ks ≡ length vs → length ks ≡ length (entries_of value ks vs)
length-entries value [] vs same = refl
length-entries value (k ∷ ks) [] same = absurd (omega (arith, same))
length-entries value (k ∷ ks) (v ∷ vs) same = let rest = length-entries value ks vs (omega (arith, same)) in omega (arith, rest)

-- a row has as many products as entries
row_products : {V : Type 0} (value : V → Value) (name : ℕ → ℕ) (ks : List ℕ) (vs : List V) (row : VectorEntries) → length ks ≡ length vs → renamed name (entries_of value ks vs) ≡ row → length ks ≡ length row
row_products value name ks vs row same is = length-entries value ks vs same ∙ sym (length-map (entries_of value ks vs) (λ e. (name e.0, e.1))) ∙ ap (λ (m : VectorEntries). length m) is

counted_more : (most p r n k : ℕ) → n ≡ min most p → k ≡ min r (most - n) → n + k ≡ min most (p + r)
counted_more most p r n k so_far here = omega (arith, so_far, here)

most_counted : (most p all n : ℕ) → n ≡ min most p → n ≡ most → p ≤ all → most ≡ min most all
most_counted most p all n so_far reached within = omega (arith, so_far, reached, within)

step : (columns : List ℕ) (b : MatrixEntries) (i r : ℕ) → i < length columns → r ≡ length (row_of (get_or columns i 0) b) → products_count (take i columns) b + r ≡ products_count (take (i + 1) columns) b
step columns b i r inside is = ap (λ n. products_count (take i columns) b + n) is ∙ sym (sum_by_more (λ k. length (row_of k b)) columns i 0 inside)

pub loop-i-preserved : goal.loop-i-preserved
loop-i-preserved g c =
    let b = c.args.b.now in
    let es = decoded b.lists.now.entries in
    let cs = c.args.columns.now in
    let i = c.loop-i.i in
    let row = c.row-row.result in
    let r = row_products g.T.Scalar.value (name_in b.names.now) row.indices.now row.values.now (row_of (get_or cs i 0) es) row.same c.row-row.ensures.entries in
    counted_more c.args.most (products_count (take i cs) es) (length row.indices.now) c.loop-i.count c.min-count.result c.loop-i.invariant c.min-count.ensures
    ∙ ap (min c.args.most) (step cs es i (length row.indices.now) c.loop-i-test.true r)

pub returns-then-count-most : goal.returns-then-count-most
returns-then-count-most g c =
    let b = c.args.b.now in
    let es = decoded b.lists.now.entries in
    let cs = c.args.columns.now in
    let i = c.loop-i.i in
    let row = c.row-row.result in
    let r = row_products g.T.Scalar.value (name_in b.names.now) row.indices.now row.values.now (row_of (get_or cs i 0) es) row.same c.row-row.ensures.entries in
    let now = counted_more c.args.most (products_count (take i cs) es) (length row.indices.now) c.loop-i.count c.min-count.result c.loop-i.invariant c.min-count.ensures
    ∙ ap (min c.args.most) (step cs es i (length row.indices.now) c.loop-i-test.true r) in
    most_counted c.args.most (products_count (take (i + 1) cs) es) (products_count cs es) (c.loop-i.count + c.min-count.result) now c.if-count-most.true
    (sum_by-take-le (λ k. length (row_of k es)) cs (i + 1))
