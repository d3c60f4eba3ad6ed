-- The lists of a matrix that are copied whole are flat, and with other values they have the same cells.
use Rattle.std.proofs.Common.{◌≡◌, ℕ, zero, suc, ◌+◌, ◌-◌, ◌*◌, ◌%◌, ◌<◌, ◌≤◌, List, [], ◌∷◌, ◌++◌, length, get_or, take, drop, refl, sym, ap, subst, ◌∙◌, arith, inl, inr}
use Rattle.std.specs.Prelude.{◌≢◌, Some, map}
use Rattle.std.proofs.lemmas.Bool.{cases_lt}
use Rattle.std.proofs.lemmas.List.{length-drop, length-map, length-take-le, drop_all, take_all, take_more, get_or_default, get_or_past}
use Rattle.std.proofs.lemmas.Nat.{div-add-mod', mod_below}
use Rattle.std.specs.FinMap.{is_sorted}
use lib.Dec.{T}
use Rattle.grb_core.specs.declared.value.Value.{Value}
use Rattle.grb_core.specs.Entries.{Cell, VectorEntries, cell_cmp, values_of}
use Rattle.grb_core.specs.Results.{row_of}
use Rattle.grb_kernels.specs.Typed.{entries_of}
use Rattle.grb_lists.specs.Cells.{codes_of, decoded, in_row, IsFlat}
use Rattle.grb_lists.specs.Stored.{started_at}
use Rattle.grb_lists.proofs.CellCodes.{length-decoded}
use Rattle.grb_lists.proofs.FlatCells.{length-codes}
use Rattle.grb_lists.proofs.FlatLists.{keys-paired}
use Rattle.grb_ewise.specs.Rows.{flat_entries}
use Rattle.grb_ewise.proofs.Lent.{entries-paired, lent}
use Rattle.grb_ewise.proofs.MatrixRows.{rows_from, rows_from-all}
use Rattle.grb_ewise.proofs.RowMerges.{written_at, length-written, fit-written}
use Rattle.grb_core.proofs.Each.{each-some}
use Rattle.grb_maps.specs.Changed.{with_values}
use Rattle.grb_maps.proofs.Between.{between}
use Rattle.grb_maps.proofs.Changed.{decoded-changed, keys_of-changed, values_of-changed}
use Rattle.grb_maps.proofs.Pushing.{IsMaking, length-front, making_begins, making_ends, making_on}

map_itself : (vs : List Value) → map (λ (v : Value). v) vs ≡ vs
map_itself [] = refl
map_itself (v ∷ vs) = ap (λ (s : List Value). v ∷ s) (map_itself vs)

-- the numbers of cells, from the cells
coded_again : (m : VectorEntries) → map (λ (e : Cell × Value). e.0.0 * 4294967296 + e.0.1) (decoded m) ≡ map (λ (e : ℕ × Value). e.0) m
coded_again [] = refl
coded_again (e ∷ m) =
    ap (λ (k : ℕ). k ∷ map (λ (d : Cell × Value). d.0.0 * 4294967296 + d.0.1) (decoded m)) (div-add-mod' e.0 4294967296)
    ∙ ap (λ (s : List ℕ). e.0 ∷ s) (coded_again m)

columns_fit : (m : VectorEntries) (i : ℕ) → i < length m → get_or (map (λ (e : Cell × Value). e.0.1) (decoded m)) i 0 < 4294967296
columns_fit [] i h = absurd (omega (arith, h))
columns_fit (e ∷ m) zero h = mod_below e.0 4294967296 (omega arith)
columns_fit (e ∷ m) (suc i) h = columns_fit m i (omega (arith, h))

plus_one : (k : ℕ) → k + 1 ≡ suc k
plus_one k = omega arith

module _ (m : VectorEntries) (ra starts columns : List ℕ) (sorted : T (is_sorted cell_cmp (decoded m)))
    (rise : (i j : ℕ) → i < j → j < length ra → get_or ra i 0 < get_or ra j 0)
    (all : (i : ℕ) → ((k : ℕ) → k < length ra → get_or ra k 0 ≢ i) → row_of i (decoded m) ≡ [])
    (same : length starts ≡ length ra) (starts_rise : (i j : ℕ) → i < j → j < length starts → get_or starts i 0 < get_or starts j 0)
    (within : (k : ℕ) → k < length starts → get_or starts k 0 < length m)
    (spans : (k : ℕ) → k < length ra → row_of (get_or ra k 0) (decoded m) ≡ in_row (started_at starts k m))
    (columns_are : columns ≡ map (λ (e : Cell × Value). e.0.1) (decoded m)) where
  -- where the k'th row starts; past the last one the end of all
  abbrev start : ℕ → ℕ
  start k = get_or starts k (length m)

  at_start : (k : ℕ) → k < length ra → start k ≡ get_or starts k 0
  at_start k h = get_or_default starts k (length m) 0 (omega (arith, h, same))

  upto : (k : ℕ) → start k ≤ length m
  upto k = elim (cases_lt k (length starts)) [
    | inl l ↦ let w = within k l in let d = get_or_default starts k (length m) 0 l in omega (arith, w, d)
    | inr l ↦ let past = get_or_past starts k (length m) l in omega (arith, past)
  ]

  next : (k : ℕ) → k < length ra → start k < start (k + 1)
  next k h = elim (cases_lt (k + 1) (length starts)) [
    | inl l ↦ let up = starts_rise k (k + 1) (omega arith) l in let here = at_start k h in let there = get_or_default starts (k + 1) (length m) 0 l in omega (arith, up, here, there)
    | inr l ↦ let past = get_or_past starts (k + 1) (length m) l in let here = at_start k h in let w = within k (omega (arith, h, same)) in omega (arith, past, here, w)
  ]

  length_row : (k : ℕ) → k < length ra → start k + length (row_of (get_or ra k 0) (decoded m)) ≡ start (k + 1)
  length_row k h =
      let s = get_or starts k 0 in
      let e = start (k + 1) in
      let into : ℕ × Value → ℕ × Value = λ d. (d.0 % 4294967296, d.1) in
      let is = ap length (spans k h) in
      let mapped = length-map (drop s (take e m)) into in
      let dropped = length-drop s (take e m) in
      let taken = length-take-le e m (upto (k + 1)) in
      let here = at_start k h in
      let up = next k h in
      omega (arith, is, mapped, dropped, taken, here, up)

  counted : (n k : ℕ) → k + n ≡ length ra → start k + length (rows_from (decoded m) (drop k ra)) ≡ length m
  counted zero k h =
      let none = ap (λ (s : List ℕ). length (rows_from (decoded m) s)) (drop_all k ra (omega (arith, h))) in
      let past = get_or_past starts k (length m) (omega (arith, h, same)) in
      omega (arith, none, past)
  counted (suc n) k h =
      let front = length-front (decoded m) ra k (omega (arith, h)) in
      let row = length_row k (omega (arith, h)) in
      let rest = counted n (k + 1) (omega (arith, h)) in
      omega (arith, front, row, rest)

  whole : rows_from (decoded m) ra ≡ decoded m
  whole = rows_from-all (decoded m) sorted ra rise all

  begins : start 0 ≡ 0
  begins =
      let count = counted (length ra) 0 (omega arith) in
      let is = ap length whole in
      let long = length-decoded m in
      omega (arith, count, is, long)

  abbrev vs : List Value
  vs = values_of m

  columns_long : length columns ≡ length m
  columns_long = ap length columns_are ∙ length-map (decoded m) (λ (e : Cell × Value). e.0.1) ∙ length-decoded m

  fit : (i : ℕ) → i < length columns → get_or columns i 0 < 4294967296
  fit i h = subst (λ (s : List ℕ). get_or s i 0 < 4294967296) (sym columns_are) (columns_fit m i (omega (arith, h, columns_long)))

  values_long : length vs ≡ length m
  values_long = length-map m (λ (e : ℕ × Value). e.1)

  abbrev value : Value → Value
  value v = v

  abbrev IsUpTo : ℕ → Type 0
  IsUpTo k = IsMaking value (λ i j v. Some v) (decoded m) ra k (take k ra) (take k starts) (take (start k) columns) (take (start k) vs)

  -- the rows before the k'th, and then those before the next
  up_to_next : (k : ℕ) → k < length ra → IsUpTo k → IsUpTo (k + 1)
  up_to_next k h before =
      let s = start k in
      let e = start (k + 1) in
      let up = next k h in
      let end = upto (k + 1) in
      let here = at_start k h in
      let count : ℕ = e - s in
      let on : e ≡ s + count = omega (arith, up) in
      let js = take count (drop s columns) in
      let ws = take count (drop s vs) in
      let row : entries_of value js ws ≡ in_row (drop s (take e m)) =
      between value s e columns js vs ws m (omega (arith, up)) columns_are (map_itself vs) refl refl in
      making_on value (λ i j v. Some v) (decoded m) ra rise
      k count (get_or ra k 0) (take k ra) (take k starts) (take (k + 1) ra) (take (k + 1) starts)
      (take s columns) (take e columns) js (take s vs) (take e vs) ws before h refl
      (ap (λ n. take n columns) on ∙ written_at s count columns columns refl) (ap (λ n. take n vs) on ∙ written_at s count vs vs refl)
      (length-written s count columns (omega (arith, on, end, columns_long))) (length-written s count vs (omega (arith, on, end, values_long)))
      (row ∙ ap (λ n. in_row (drop n (take e m))) here ∙ sym (spans k h) ∙ sym (each-some (row_of (get_or ra k 0) (decoded m))))
      (fit-written s count columns (omega (arith, on, end, columns_long)) fit)
      (λ l. take_more ra k 0 h)
      (λ l. take_more starts k 0 (omega (arith, h, same)) ∙ ap (λ n. take k starts ++ n ∷ []) (sym here ∙ sym (length-take-le s columns (omega (arith, up, end, columns_long)))))
      (λ z. absurd (omega (arith, z, on, up))) (λ z. absurd (omega (arith, z, on, up)))

  up_to : (k : ℕ) → k ≤ length ra → IsUpTo k
  up_to zero h =
      making_begins value (λ i j v. Some v) (decoded m) ra [] [] (take (start 0) columns) (take (start 0) vs) whole refl refl
      (ap (λ n. take n columns) begins) (ap (λ n. take n vs) begins)
  up_to (suc k) h = subst IsUpTo (plus_one k) (up_to_next k (omega (arith, h)) (up_to k (omega (arith, h))))

  end_is : start (length ra) ≡ length m
  end_is = get_or_past starts (length ra) (length m) (omega (arith, same))

  made_of_all : IsMaking value (λ i j v. Some v) (decoded m) ra (length ra) ra starts columns vs
  made_of_all =
      subst (λ (x : List ℕ). IsMaking value (λ i j v. Some v) (decoded m) ra (length ra) x starts columns vs) (take_all (length ra) ra (omega arith))
      (subst (λ (x : List ℕ). IsMaking value (λ i j v. Some v) (decoded m) ra (length ra) (take (length ra) ra) x columns vs) (take_all (length ra) starts (omega (arith, same)))
      (subst (λ (x : List ℕ). IsMaking value (λ i j v. Some v) (decoded m) ra (length ra) (take (length ra) ra) (take (length ra) starts) x vs)
      (take_all (start (length ra)) columns (omega (arith, end_is, columns_long)))
      (subst (λ (x : List Value). IsMaking value (λ i j v. Some v) (decoded m) ra (length ra) (take (length ra) ra) (take (length ra) starts) (take (start (length ra)) columns) x)
      (take_all (start (length ra)) vs (omega (arith, end_is, values_long))) (up_to (length ra) (omega arith)))))

  pub are_flat : IsFlat ra starts columns
  are_flat = made_of_all.flat

  codes : codes_of ra starts columns ≡ map (λ (e : ℕ × Value). e.0) m
  codes =
      let ks = codes_of ra starts columns in
      let written : decoded (entries_of value ks vs) ≡ decoded m =
      making_ends value (λ i j v. Some v) (decoded m) ra (length ra) ra starts columns vs made_of_all (omega arith) ∙ each-some (decoded m) in
      let long : length (map value vs) ≡ length ks =
      let n = length-map vs value in let l = length-codes ra starts columns are_flat in omega (arith, n, l, values_long, columns_long) in
      sym (keys-paired ks (map value vs) long) ∙ ap (map (λ (e : ℕ × Value). e.0)) (sym (entries-paired value ks vs)) ∙ sym (coded_again (entries_of value ks vs))
      ∙ ap (map (λ (e : Cell × Value). e.0.0 * 4294967296 + e.0.1)) written ∙ coded_again m

  pub changed_cells : {V : Type 0} (tv : V → Value) (g : Value → Value) (ws : List V) → map tv ws ≡ map g (values_of m) → flat_entries tv ra starts columns ws ≡ with_values g (decoded m)
  changed_cells tv g ws is =
      ap decoded (lent tv (codes_of ra starts columns) ws (with_values g m) (codes ∙ sym (keys_of-changed g m)) (is ∙ sym (values_of-changed g m))) ∙ decoded-changed g m
