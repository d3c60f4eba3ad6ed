use Rattle.std.proofs.Common.{List, ◌≡◌, ◌≤◌, ◌+◌, ◌*◌, ◌/◌, ◌%◌, ◌<◌, ℕ, [], ◌∷◌, ◌++◌, length, drop, ap, refl, sym, subst, ◌∙◌, arith, get_or, mul_comm}
use Rattle.std.specs.Prelude.{Some}
use Rattle.std.proofs.lemmas.List.{length-drop}
use Rattle.std.proofs.lemmas.List.Elements.{recursion_from_All}
use Rattle.std.proofs.lemmas.Nat.{mul-add-lt, div-mul-add, mod-mul-add}
use Rattle.grb_core.specs.declared.value.Value.{Value}
use Rattle.grb_core.specs.Operator.{value_of_op}
use Rattle.grb_core.specs.Entries.{Cell, VectorEntries}
use Rattle.grb_core.specs.Results.{row_of}
use Rattle.grb_kernels.specs.Typed.{entries_of}
use Rattle.grb_lists.specs.Cells.{decoded}
use Rattle.grb_ewise.proofs.MatrixRows.{rows_from-all}
use Rattle.grb_maps.proofs.Lists.{fit-dropped, parted}
use Rattle.grb_core.specs.Maps.{kronecker_of}
use Rattle.grb_maps.proofs.Pushing.{making_on, making_begins, making_ends}
use Rattle.grb_kronecker.specs.Crossing.{crossed}
use Rattle.grb_kronecker.specs.Rows.{product_rows}
use Rattle.grb_kronecker.proofs.ProductRows.{length-product, get_or-product, product-rise}
use Rattle.grb_kronecker.proofs.Products.{rows_are_crossed, row-within}
use Rattle.grb_kronecker.proofs.AllRows.{product-all}
use Rattle.grb_kronecker.proofs.Filling.{row-bound, started-some, row-indices, columns-fit}
use Rattle.grb_core.proofs.Each.{each-some}
use Rattle.grb_core.proofs.Products.{kronecker_sorted}
use Rattle.grb_kronecker.proofs.rows.fill_rows.Goals as goal

-- the rows that are listed have entries, and so are rows of the matrix
pub each-init : goal.each-init
each-init g c =
    let a = c.args.a.now in
    let b = c.args.b.now in
    let m = c.args.dims.0 in
    let n = c.args.dims.1 in
    let r = c.args.r in
    let product = kronecker_of g.O.Operator.op r c.args.c (m * r) (n * c.args.c) (decoded a.entries) (decoded b.entries) in
    let within_b = recursion_from_All (λ (e : Cell × Value). (e.0.0 < r) × (e.0.1 < c.args.c)) (decoded b.entries) c.requires.b.within in
    let starts_b = c.starts-second_starts.ensures in
    let below : (l : ℕ) → l < length b.rows → get_or b.rows l 0 < r = λ l h.
    row-bound (get_or b.rows l 0) r c.args.c (decoded b.entries) within_b
    (subst (λ (s : VectorEntries). 0 < length s) (sym (starts_b.spans l h)) (started-some b.entries c.starts-second_starts.result.now l starts_b.rise starts_b.within (let e = starts_b.len in omega (arith, e, h)))) in
    record {
      rows_len = omega (arith, c.args.rows.now.ok.0, ap length c.requires.no_rows);
      starts_len = omega (arith, c.args.starts.now.ok.0, ap length c.requires.no_starts);
      rows_capacity = refl;
      starts_capacity = refl;
      making = making_begins g.T.Scalar.value (λ i j v. Some v) product (product_rows r a.rows b.rows)
          c.args.rows.now.items c.args.starts.now.items c.args.columns.now.items c.args.values.now.items
          (rows_from-all product (kronecker_sorted g.O.Operator.op r c.args.c (m * r) (n * c.args.c) (decoded a.entries) (decoded b.entries)) (product_rows r a.rows b.rows)
          (product-rise r a.rows b.rows c.rows-first.ensures.rise c.rows-second.ensures.rise below)
          (product-all g.O.Operator.op m n r c.args.c (decoded a.entries) (decoded b.entries) a.rows b.rows c.requires.some_rows c.requires.some_columns c.requires.a c.requires.b c.rows-first.ensures.all c.rows-second.ensures.all))
          c.requires.no_rows c.requires.no_starts c.requires.no_columns c.requires.no_values;
    }

pub row_number-row-requires : goal.row_number-row-requires
row_number-row-requires g c =
    let a = c.args.a.now in
    let b = c.args.b.now in
    let m = c.args.dims.0 in
    let n = c.args.dims.1 in
    let r = c.args.r in
    let k = c.pair_of-k.result.0 in
    let l = c.pair_of-k.result.1 in
    let list_a = c.rows-first.ensures.list in
    let list_b = c.rows-second.ensures.list in
    let in_a : k < length a.rows = omega (arith, c.pair_of-k.ensures.first, ap length list_a) in
    let in_b : l < length b.rows = omega (arith, c.pair_of-k.ensures.second, ap length list_b) in
    let within_a = recursion_from_All (λ (e : Cell × Value). (e.0.0 < m) × (e.0.1 < n)) (decoded a.entries) c.requires.a.within in
    let within_b = recursion_from_All (λ (e : Cell × Value). (e.0.0 < r) × (e.0.1 < c.args.c)) (decoded b.entries) c.requires.b.within in
    let starts_a = c.starts-first_starts.ensures in
    let starts_b = c.starts-second_starts.ensures in
    let below_a : get_or a.rows k 0 < m =
    row-bound (get_or a.rows k 0) m n (decoded a.entries) within_a
    (subst (λ (s : VectorEntries). 0 < length s) (sym (starts_a.spans k in_a)) (started-some a.entries c.starts-first_starts.result.now k starts_a.rise starts_a.within (let e = starts_a.len in omega (arith, e, in_a)))) in
    let below_b : get_or b.rows l 0 < r =
    row-bound (get_or b.rows l 0) r c.args.c (decoded b.entries) within_b
    (subst (λ (s : VectorEntries). 0 < length s) (sym (starts_b.spans l in_b)) (started-some b.entries c.starts-second_starts.result.now l starts_b.rise starts_b.within (let e = starts_b.len in omega (arith, e, in_b)))) in
    let fits = mul-add-lt (get_or a.rows k 0) r (get_or b.rows l 0) m below_a below_b in
    let few = c.requires.few_rows in
    let turned = mul_comm m r in
    let is_a : get_or c.rows-first.result.now k 0 * r ≡ get_or a.rows k 0 * r = ap (λ (s : List ℕ). get_or s k 0 * r) list_a in
    let is_b : get_or c.rows-second.result.now l 0 ≡ get_or b.rows l 0 = ap (λ (s : List ℕ). get_or s l 0) list_b in
    omega (arith, fits, few, turned, is_a, is_b)

pub append_crossed-requires-clause-columns : goal.append_crossed-requires-clause-columns
append_crossed-requires-clause-columns g c =
    let m = c.args.dims.0 in
    let n = c.args.dims.1 in
    let a = decoded c.args.a.now.entries in
    let x = c.row.result in
    let i = get_or c.args.a.now.rows c.pair_of-k.result.0 0 in
    row-indices g.T.Scalar.value (λ j. j * c.args.c + c.args.c ≤ 4294967296) x.indices.now x.values.now (row_of i a) x.same c.row.ensures
    (columns-fit n c.args.c (row_of i a) c.requires.few_columns (row-within i m n a (recursion_from_All (λ (e : Cell × Value). (e.0.0 < m) × (e.0.1 < n)) a c.requires.a.within)))

pub append_crossed-requires-clause-within : goal.append_crossed-requires-clause-within
append_crossed-requires-clause-within g c =
    let r = c.args.r in
    let b = decoded c.args.b.now.entries in
    let y = c.row-in-each.result in
    let p = get_or c.args.b.now.rows c.pair_of-k.result.1 0 in
    row-indices g.T.Scalar.value (λ j. j < c.args.c) y.indices.now y.values.now (row_of p b) y.same c.row-in-each.ensures
    (row-within p r c.args.c b (recursion_from_All (λ (e : Cell × Value). (e.0.0 < r) × (e.0.1 < c.args.c)) b c.requires.b.within))

pub each-preserved : goal.each-preserved
each-preserved g c =
    let a = c.args.a.now in
    let b = c.args.b.now in
    let m = c.args.dims.0 in
    let n = c.args.dims.1 in
    let r = c.args.r in
    let tv = g.T.Scalar.value in
    let op = g.O.Operator.op in
    let f = value_of_op op in
    let rs = product_rows r a.rows b.rows in
    let product = kronecker_of op r c.args.c (m * r) (n * c.args.c) (decoded a.entries) (decoded b.entries) in
    let before = c.each.invariant in
    let t = c.each.t in
    let k = c.pair_of-k.result.0 in
    let l = c.pair_of-k.result.1 in
    let list_a = c.rows-first.ensures.list in
    let list_b = c.rows-second.ensures.list in
    let in_a : k < length a.rows = omega (arith, c.pair_of-k.ensures.first, ap length list_a) in
    let in_b : l < length b.rows = omega (arith, c.pair_of-k.ensures.second, ap length list_b) in
    let i = get_or a.rows k 0 in
    let p = get_or b.rows l 0 in
    let within_a = recursion_from_All (λ (e : Cell × Value). (e.0.0 < m) × (e.0.1 < n)) (decoded a.entries) c.requires.a.within in
    let within_b = recursion_from_All (λ (e : Cell × Value). (e.0.0 < r) × (e.0.1 < c.args.c)) (decoded b.entries) c.requires.b.within in
    let starts_a = c.starts-first_starts.ensures in
    let starts_b = c.starts-second_starts.ensures in
    let below_b : (q : ℕ) → q < length b.rows → get_or b.rows q 0 < r = λ q h.
    row-bound (get_or b.rows q 0) r c.args.c (decoded b.entries) within_b
    (subst (λ (s : VectorEntries). 0 < length s) (sym (starts_b.spans q h)) (started-some b.entries c.starts-second_starts.result.now q starts_b.rise starts_b.within (let e = starts_b.len in omega (arith, e, h)))) in
    let below_a : i < m =
    row-bound i m n (decoded a.entries) within_a
    (subst (λ (s : VectorEntries). 0 < length s) (sym (starts_a.spans k in_a)) (started-some a.entries c.starts-first_starts.result.now k starts_a.rise starts_a.within (let e = starts_a.len in omega (arith, e, in_a)))) in
    let row = c.row_number-row.result in
    let is_row : row ≡ i * r + p =
    c.row_number-row.ensures ∙ ap (λ (s : List ℕ). get_or s k 0 * r + get_or c.rows-second.result.now l 0) list_a ∙ ap (λ (s : List ℕ). i * r + get_or s l 0) list_b in
    let is_t : k * length b.rows + l ≡ t = ap (λ (s : List ℕ). k * length s + l) (sym list_b) ∙ c.pair_of-k.ensures.is in
    let at : t < length rs =
    let u = mul-add-lt k (length b.rows) l (length a.rows) in_a in_b in
    let turned = mul_comm (length a.rows) (length b.rows) in
    let long = length-product r a.rows b.rows in
    omega (arith, u, turned, long, is_t) in
    let is_r : row ≡ get_or rs t 0 = is_row ∙ sym (get_or-product r a.rows b.rows k l in_a in_b) ∙ ap (λ s. get_or rs s 0) is_t in
    let past : row < m * r =
    let u = mul-add-lt i r p m below_a (below_b l in_b) in
    let turned = mul_comm m r in
    omega (arith, u, turned, is_row) in
    let quotient : row / r ≡ i = ap (λ s. s / r) is_row ∙ div-mul-add i r p (below_b l in_b) in
    let remainder : row % r ≡ p = ap (λ s. s % r) is_row ∙ mod-mul-add i r p (below_b l in_b) in
    let row_is : row_of row product ≡ crossed f c.args.c (row_of i (decoded a.entries)) (row_of p (decoded b.entries)) =
    rows_are_crossed op m n r c.args.c row (decoded a.entries) (decoded b.entries) c.requires.some_rows c.requires.some_columns c.requires.a c.requires.b past
    ∙ ap (λ (s : ℕ). crossed f c.args.c (row_of s (decoded a.entries)) (row_of (row % r) (decoded b.entries))) quotient
    ∙ ap (λ (s : ℕ). crossed f c.args.c (row_of i (decoded a.entries)) (row_of s (decoded b.entries))) remainder in
    let pushed = c.push_row.ensures in
    let made = c.in_ok-count.ensures in
    let so_far = c.each.columns.items in
    let columns2 = c.append_crossed.new.columns.items in
    let values2 = c.append_crossed.new.values.items in
    let x = c.row.result in
    let y = c.row-in-each.result in
    let ex = entries_of tv x.indices.now x.values.now in
    let ey = entries_of tv y.indices.now y.values.now in
    let here_starts : c.len-start.result ≡ length so_far = omega (arith, c.len-start.ensures, c.each.columns.ok.0) in
    let js_long : length (drop (length so_far) columns2) ≡ c.in_ok-count.count = let s = length-drop (length so_far) columns2 in omega (arith, s, made.columns_long) in
    let ws_long : length (drop (length so_far) values2) ≡ c.in_ok-count.count = let s = length-drop (length so_far) values2 in omega (arith, s, made.values_long) in
    record {
      rows_len = omega (arith, pushed.rows_most, before.rows_len);
      starts_len = omega (arith, pushed.starts_most, before.starts_len);
      rows_capacity = pushed.rows_capacity ∙ before.rows_capacity;
      starts_capacity = pushed.starts_capacity ∙ before.starts_capacity;
      making = making_on tv (λ i j v. Some v) product rs
          (product-rise r a.rows b.rows c.rows-first.ensures.rise c.rows-second.ensures.rise below_b)
          t c.in_ok-count.count row
          c.each.rows.items c.each.starts.items c.push_row.new.rows.items c.push_row.new.starts.items
          so_far columns2 (drop (length so_far) columns2) c.each.values.items values2 (drop (length so_far) values2)
          before.making at is_r
          (parted so_far columns2 (length so_far) made.columns_before) (parted c.each.values.items values2 (length so_far) made.values_before)
          js_long ws_long
          (made.entries ∙ ap (λ (s : VectorEntries). crossed f c.args.c s ey) c.row.ensures ∙ ap (crossed f c.args.c (row_of i (decoded a.entries))) c.row-in-each.ensures ∙ sym row_is
          ∙ sym (each-some (row_of row product)))
          (fit-dropped columns2 (length so_far) (omega (arith, made.columns_long)) made.fit)
          pushed.rows_pushed (λ s. pushed.starts_pushed s ∙ ap (λ n. c.each.starts.items ++ n ∷ []) here_starts) pushed.rows_same pushed.starts_same;
    }

pub returns-clause-entries : goal.returns-clause-entries
returns-clause-entries g c =
    let a = c.args.a.now in
    let b = c.args.b.now in
    let r = c.args.r in
    let product = kronecker_of g.O.Operator.op r c.args.c (c.args.dims.0 * r) (c.args.dims.1 * c.args.c) (decoded a.entries) (decoded b.entries) in
    let long = length-product r a.rows b.rows in
    let lens : length c.rows-first.result.now * length c.rows-second.result.now ≡ length a.rows * length b.rows =
    ap (λ (s : List ℕ). length s * length c.rows-second.result.now) c.rows-first.ensures.list ∙ ap (λ (s : List ℕ). length a.rows * length s) c.rows-second.ensures.list in
    making_ends g.T.Scalar.value (λ i j v. Some v) product (product_rows r a.rows b.rows)
    c.each.t c.each.rows.items c.each.starts.items c.each.columns.items c.each.values.items c.each.invariant.making
    (omega (arith, c.each-test.false, long, lens))
    ∙ each-some product
