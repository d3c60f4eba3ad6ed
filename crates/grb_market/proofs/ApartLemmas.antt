-- Entries at places apart: in a list as it stands, in order, and as a map.
use Rattle.std.proofs.Common.{not, ◌≡◌, ℕ, suc, ◌+◌, ◌<◌, ◌≤◌, length, get_or, eqb, ltb, arith, Bool, true, false, ◌||◌, cond, List, [], ◌∷◌, ◌++◌, map, Option, Some, None, is_some, refl, sym, ap, subst, ◌∙◌, append_assoc, append-nil, length-append}
use Rattle.grb_market.proofs.Prelude.{Ordering, Less, Equal, Greater, ◌&&◌, find, is_sorted, below_all, eq_by_cmp, is_eq, is_lt, ordering_then, ordering_reverse, nat_tests, filter_agree, T, put, take_all, take_more, at_drop_more, map-append, length-map, Value, Cell, cell_cmp, cells_of, MatrixEntries, map_from, values_of, restricted, values_at, holds, cell_cmp_total, below-trans, find-map_from, find-tied_below, is_sorted-map_from, comes_before, has_place, count_apart, are_apart}
use Rattle.std.specs.Prelude.{filter}
use Rattle.std.specs.List.Sorted.{IsSortedByKey, IsStableByKey, ties}
use native.Mathlib.Numerals.{unary_clauses}
use Rattle.std.proofs.Common.{take, drop}
use Rattle.grb_core.specs.declared.value.Value.TheVariants as value
use Rattle.grb_market.proofs.EntryMaps.{same_map, tied_cells, same_cell, same_place, map_from-push, is_some-map_from}

-- at no place stand two
abbrev pub AreOnce : MatrixEntries → Type 0
AreOnce es = (q : Cell) → length (values_at cell_cmp q es) ≤ 1

pub values_at-append : (q : Cell) (es fs : MatrixEntries) → values_at cell_cmp q (es ++ fs) ≡ values_at cell_cmp q es ++ values_at cell_cmp q fs
values_at-append q [] fs = refl
values_at-append q (e ∷ es) fs =
    let rest = values_at-append q es fs in
    elim (eq_by_cmp cell_cmp q e.0) as (λ b. values_of (cond b (e ∷ restricted (λ l. eq_by_cmp cell_cmp q l) (es ++ fs)) (restricted (λ l. eq_by_cmp cell_cmp q l) (es ++ fs)))
    ≡ values_of (cond b (e ∷ restricted (λ l. eq_by_cmp cell_cmp q l) es) (restricted (λ l. eq_by_cmp cell_cmp q l) es)) ++ values_at cell_cmp q fs) [
      | true ↦ ap (λ (s : List Value). e.1 ∷ s) rest
      | false ↦ rest
    ]

-- one entry more in front
pub values_at-tied : (q : Cell) (e : Cell × Value) (es : MatrixEntries) → eq_by_cmp cell_cmp q e.0 ≡ true → values_at cell_cmp q (e ∷ es) ≡ e.1 ∷ values_at cell_cmp q es
values_at-tied q e es t = ap (λ b. values_of (cond b (e ∷ restricted (λ l. eq_by_cmp cell_cmp q l) es) (restricted (λ l. eq_by_cmp cell_cmp q l) es))) t

pub values_at-apart : (q : Cell) (e : Cell × Value) (es : MatrixEntries) → eq_by_cmp cell_cmp q e.0 ≡ false → values_at cell_cmp q (e ∷ es) ≡ values_at cell_cmp q es
values_at-apart q e es t = ap (λ b. values_of (cond b (e ∷ restricted (λ l. eq_by_cmp cell_cmp q l) es) (restricted (λ l. eq_by_cmp cell_cmp q l) es))) t

none_there : (q : Cell) (es : MatrixEntries) → has_place es q ≡ false → values_at cell_cmp q es ≡ []
none_there q [] h = refl
none_there q (e ∷ es) h =
    elim (eq_by_cmp cell_cmp q e.0) as (λ b. (b || has_place es q) ≡ false → values_of (cond b (e ∷ restricted (λ l. eq_by_cmp cell_cmp q l) es) (restricted (λ l. eq_by_cmp cell_cmp q l) es)) ≡ []) [
      | true ↦ λ t. cc
      | false ↦ λ t. none_there q es t
    ] h

some_there : (q : Cell) (es : MatrixEntries) → has_place es q ≡ true → 1 ≤ length (values_at cell_cmp q es)
some_there q [] h = cc
some_there q (e ∷ es) h =
    elim (eq_by_cmp cell_cmp q e.0) as (λ b. (b || has_place es q) ≡ true → 1 ≤ length (values_of (cond b (e ∷ restricted (λ l. eq_by_cmp cell_cmp q l) es) (restricted (λ l. eq_by_cmp cell_cmp q l) es)))) [
      | true ↦ λ t. omega arith
      | false ↦ λ t. some_there q es t
    ] h

-- where no two stand at one place none comes at a place that was there
pub count_apart-once : (done es : MatrixEntries) → AreOnce (done ++ es) → count_apart done es ≡ length es
count_apart-once done [] h = refl
count_apart-once done (e ∷ es) h = by (count_apart-once (done ++ e ∷ []) es (subst AreOnce (sym (append_assoc done (e ∷ []) es)) h)) (has_place done e.0) refl
  where
    by : count_apart (done ++ e ∷ []) es ≡ length es → (b : Bool) → has_place done e.0 ≡ b → cond b 0 (count_apart (done ++ e ∷ []) es + 1) ≡ length (e ∷ es)
    by rest true t =
        let there = some_there e.0 done t in
        let both = ap length (values_at-append e.0 done (e ∷ es)) ∙ length-append (values_at cell_cmp e.0 done) (values_at cell_cmp e.0 (e ∷ es)) in
        let here = ap length (values_at-tied e.0 e es (same_place e.0)) in
        let most = h e.0 in
        absurd (omega (arith, there, both, here, most))
    by rest false t = omega (arith, rest)

pub count_apart-most : (done es : MatrixEntries) → count_apart done es ≤ length es
count_apart-most done [] = omega arith
count_apart-most done (e ∷ es) = by (count_apart-most (done ++ e ∷ []) es) (has_place done e.0)
  where
    by : count_apart (done ++ e ∷ []) es ≤ length es → (b : Bool) → cond b 0 (count_apart (done ++ e ∷ []) es + 1) ≤ length (e ∷ es)
    by rest true = omega arith
    by rest false = omega (arith, rest)

once_push : (done : MatrixEntries) (e : Cell × Value) → AreOnce done → has_place done e.0 ≡ false → AreOnce (done ++ e ∷ [])
once_push done e h t q =
    let both = ap length (values_at-append q done (e ∷ [])) ∙ length-append (values_at cell_cmp q done) (values_at cell_cmp q (e ∷ [])) in
    let most = h q in
    by (eq_by_cmp cell_cmp q e.0) refl both most
  where
    by : (b : Bool) → eq_by_cmp cell_cmp q e.0 ≡ b → length (values_at cell_cmp q (done ++ e ∷ [])) ≡ length (values_at cell_cmp q done) + length (values_at cell_cmp q (e ∷ []))
        → length (values_at cell_cmp q done) ≤ 1 → length (values_at cell_cmp q (done ++ e ∷ [])) ≤ 1
    by true s both most =
        let none = ap length (none_there q done (ap (has_place done) (tied_cells q e.0 s) ∙ t)) in
        let one = ap length (values_at-tied q e [] s) in
        omega (arith, both, none, one)
    by false s both most =
        let one = ap length (values_at-apart q e [] s) in
        omega (arith, both, one, most)

-- and the other way round
pub once-count_apart : (done es : MatrixEntries) → AreOnce done → count_apart done es ≡ length es → AreOnce (done ++ es)
once-count_apart done [] o h = subst AreOnce (sym (append-nil done)) o
once-count_apart done (e ∷ es) o h = by (λ p f. once-count_apart (done ++ e ∷ []) es p f) (has_place done e.0) refl h
  where
    by : (AreOnce (done ++ e ∷ []) → count_apart (done ++ e ∷ []) es ≡ length es → AreOnce ((done ++ e ∷ []) ++ es)) → (b : Bool) → has_place done e.0 ≡ b → cond b 0 (count_apart (done ++ e ∷ []) es + 1) ≡ length (e ∷ es) → AreOnce (done ++ e ∷ es)
    by rest true t f = absurd (omega (arith, f))
    by rest false t f = subst AreOnce (append_assoc done (e ∷ []) es) (rest (once_push done e o t) (omega (arith, f)))

none_found : (q : Cell) (es : MatrixEntries) → find cell_cmp q es ≡ None → values_at cell_cmp q es ≡ []
none_found q [] e = refl
none_found q (x ∷ es) e =
    elim (eq_by_cmp cell_cmp q x.0) as (λ b. cond b (Some x.1) (find cell_cmp q es) ≡ None → values_of (cond b (x ∷ restricted (λ l. eq_by_cmp cell_cmp q l) es) (restricted (λ l. eq_by_cmp cell_cmp q l) es)) ≡ []) [
      | true ↦ λ t. cc
      | false ↦ λ t. none_found q es t
    ] e

-- entries in order stand at places apart
both_hold : (a b : Bool) → T (a && b) → T a × T b
both_hold true b p = (tt, p)
both_hold false b p = absurd p

pub once-sorted : (es : MatrixEntries) → T (is_sorted cell_cmp es) → AreOnce es
once-sorted [] h q = omega arith
once-sorted (e ∷ es) h q =
    let parts = both_hold (below_all cell_cmp e.0 es) (is_sorted cell_cmp es) h in
    by parts.0 (once-sorted es parts.1 q) (eq_by_cmp cell_cmp q e.0) refl
  where
    by : T (below_all cell_cmp e.0 es) → length (values_at cell_cmp q es) ≤ 1 → (b : Bool) → eq_by_cmp cell_cmp q e.0 ≡ b → length (values_at cell_cmp q (e ∷ es)) ≤ 1
    by below rest true t =
        let here = ap length (values_at-tied q e es t) in
        let same : find cell_cmp q es ≡ None = ap (λ p. find cell_cmp p es) (tied_cells q e.0 t) ∙ find-tied_below cell_cmp cell_cmp_total e.0 e.0 es below (same_cell e.0) in
        let none = ap length (none_found q es same) in
        omega (arith, here, none)
    by below rest false t =
        let here = ap length (values_at-apart q e es t) in
        omega (arith, here, rest)

-- the first value at a place is what is found there
abbrev first_of : List Value → Option Value
first_of [] = None
first_of (v ∷ vs) = Some v

find-first : (q : Cell) (es : MatrixEntries) → find cell_cmp q es ≡ first_of (values_at cell_cmp q es)
find-first q [] = refl
find-first q (e ∷ es) =
    let rest = find-first q es in
    elim (eq_by_cmp cell_cmp q e.0) as (λ b. cond b (Some e.1) (find cell_cmp q es) ≡ first_of (values_of (cond b (e ∷ restricted (λ l. eq_by_cmp cell_cmp q l) es) (restricted (λ l. eq_by_cmp cell_cmp q l) es)))) [ true ↦ refl | false ↦ rest ]

-- the same values at each place, in order
abbrev pub HaveSame : MatrixEntries → MatrixEntries → Type 0
HaveSame es fs = (q : Cell) → values_at cell_cmp q fs ≡ values_at cell_cmp q es

pub map_from-same : (es fs : MatrixEntries) → HaveSame es fs → is_sorted cell_cmp fs ≡ true → fs ≡ map_from cell_cmp es
map_from-same es fs same s =
    same_map fs (map_from cell_cmp es) (holds s) (is_sorted-map_from cell_cmp cell_cmp_total es)
    (λ q. find-first q fs ∙ ap first_of (same q) ∙ sym (find-first q es) ∙ sym (find-map_from cell_cmp cell_cmp_total q es))

pub are_apart-once : (es : MatrixEntries) → AreOnce es → are_apart es ≡ true
are_apart-once es h = let is = count_apart-once [] es h in grind (arith, nat_tests)

pub apart_all : (es : MatrixEntries) → are_apart es ≡ true → count_apart [] es ≡ length es
apart_all es h = grind (arith, nat_tests)

pub apart_fewer : (es : MatrixEntries) → are_apart es ≡ false → count_apart [] es < length es
apart_fewer es h = let most = count_apart-most [] es in grind (arith, nat_tests)

pub are_apart-sorted : (es fs : MatrixEntries) → HaveSame es fs → is_sorted cell_cmp fs ≡ true → true ≡ are_apart es
are_apart-sorted es fs same s = sym (are_apart-once es (λ q. subst (λ vs. length vs ≤ 1) (same q) (once-sorted fs (holds s) q)))

-- one step of a test of order
comes_before-is : (p q : Cell) → comes_before p q ≡ is_lt (cell_cmp p q)
comes_before-is p q = by (ltb p.0 q.0) (eqb p.0 q.0) (ltb p.1 q.1) (eqb p.1 q.1)
  where
    by : (a b c d : Bool) → (a || (b && c)) ≡ is_lt (ordering_then (cond a Less (cond b Equal Greater)) (cond c Less (cond d Equal Greater)))
    by true b c d = refl
    by false true true d = refl
    by false true false true = refl
    by false true false false = refl
    by false false c d = refl

is_less : (o : Ordering) → is_lt o ≡ true → o ≡ Less
is_less Less h = refl
is_less Equal h = cc
is_less Greater h = cc

both_are : (a b : Bool) → (T b → T a) → (a && b) ≡ b
both_are true b h = refl
both_are false true h = absurd (h tt)
both_are false false h = refl

join : (a b : Bool) → T a → T b → T (a && b)
join true b p q = q
join false b p q = absurd p

below_first : (p : Cell) (e : Cell × Value) (es : MatrixEntries) → cell_cmp p e.0 ≡ Less → T (is_sorted cell_cmp (e ∷ es)) → T (below_all cell_cmp p (e ∷ es))
below_first p e es l s =
    let parts = both_hold (below_all cell_cmp e.0 es) (is_sorted cell_cmp es) s in
    join (is_lt (cell_cmp p e.0)) (below_all cell_cmp p es) (subst (λ o. T (is_lt o)) (sym l) tt) (below-trans cell_cmp cell_cmp_total p e.0 es l parts.0)

pub rising_step : (d e : Cell × Value) (es : MatrixEntries) → comes_before d.0 e.0 ≡ true → is_sorted cell_cmp (d ∷ e ∷ es) ≡ is_sorted cell_cmp (e ∷ es)
rising_step d e es h =
    let l = is_less (cell_cmp d.0 e.0) (sym (comes_before-is d.0 e.0) ∙ h) in
    both_are (below_all cell_cmp d.0 (e ∷ es)) (is_sorted cell_cmp (e ∷ es)) (λ s. below_first d.0 e es l s)

pub rising_not : (d e : Cell × Value) (es : MatrixEntries) → comes_before d.0 e.0 ≡ false → is_sorted cell_cmp (d ∷ e ∷ es) ≡ false
rising_not d e es h = ap (λ b. (b && below_all cell_cmp d.0 es) && is_sorted cell_cmp (e ∷ es)) (sym (comes_before-is d.0 e.0) ∙ h)

-- one entry more at the end
below_pushed : (p : Cell) (ys : MatrixEntries) (d e : Cell × Value) → cell_cmp d.0 e.0 ≡ Less → below_all cell_cmp p ((ys ++ d ∷ []) ++ e ∷ []) ≡ below_all cell_cmp p (ys ++ d ∷ [])
below_pushed p [] d e l = by (cell_cmp p d.0) refl
  where
    by : (o : Ordering) → cell_cmp p d.0 ≡ o → (is_lt (cell_cmp p d.0) && (is_lt (cell_cmp p e.0) && true)) ≡ (is_lt (cell_cmp p d.0) && true)
    by Less h = ap (λ o. is_lt (cell_cmp p d.0) && (is_lt o && true)) (cell_cmp_total.trans p d.0 e.0 h l)
    by Equal h = ap (λ o. is_lt o && (is_lt (cell_cmp p e.0) && true)) h ∙ sym (ap (λ o. is_lt o && true) h)
    by Greater h = ap (λ o. is_lt o && (is_lt (cell_cmp p e.0) && true)) h ∙ sym (ap (λ o. is_lt o && true) h)
below_pushed p (y ∷ ys) d e l = ap (λ b. is_lt (cell_cmp p y.0) && b) (below_pushed p ys d e l)

only_false : (a b c : Bool) → (a && (c && false)) ≡ ((b && c) && false)
only_false true true true = refl
only_false true true false = refl
only_false true false true = refl
only_false true false false = refl
only_false false true true = refl
only_false false true false = refl
only_false false false c = refl

and_true : (a b c : Bool) → a ≡ b → (a && (c && true)) ≡ ((b && c) && true)
and_true a b c h = by a c ∙ ap (λ b. (b && c) && true) h
  where
    by : (a c : Bool) → (a && (c && true)) ≡ ((a && c) && true)
    by true c = refl
    by false c = refl

sorted_pushed : (ys : MatrixEntries) (d e : Cell × Value) (b : Bool) → comes_before d.0 e.0 ≡ b → is_sorted cell_cmp ((ys ++ d ∷ []) ++ e ∷ []) ≡ (is_sorted cell_cmp (ys ++ d ∷ []) && b)
sorted_pushed [] d e true h = rising_step d e [] h
sorted_pushed [] d e false h = rising_not d e [] h
sorted_pushed (y ∷ ys) d e true h =
    ap (λ b. below_all cell_cmp y.0 ((ys ++ d ∷ []) ++ e ∷ []) && b) (sorted_pushed ys d e true h)
    ∙ and_true (below_all cell_cmp y.0 ((ys ++ d ∷ []) ++ e ∷ [])) (below_all cell_cmp y.0 (ys ++ d ∷ [])) (is_sorted cell_cmp (ys ++ d ∷ []))
    (below_pushed y.0 ys d e (is_less (cell_cmp d.0 e.0) (sym (comes_before-is d.0 e.0) ∙ h)))
sorted_pushed (y ∷ ys) d e false h =
    ap (λ b. below_all cell_cmp y.0 ((ys ++ d ∷ []) ++ e ∷ []) && b) (sorted_pushed ys d e false h)
    ∙ only_false (below_all cell_cmp y.0 ((ys ++ d ∷ []) ++ e ∷ [])) (below_all cell_cmp y.0 (ys ++ d ∷ [])) (is_sorted cell_cmp (ys ++ d ∷ []))

-- tuples that are sorted by their places
abbrev pub Tuple : Type 0
Tuple = ℕ × ℕ × Value

abbrev pub place_of : Tuple → Cell
place_of t = (t.0, t.1)

abbrev pub entry : Tuple → Cell × Value
entry t = ((t.0, t.1), t.2)

one_more : (q : Cell) (e : Cell × Value) (es : MatrixEntries) → 2 ≤ length (values_at cell_cmp q es) → 2 ≤ length (values_at cell_cmp q (e ∷ es))
one_more q e es h = by (eq_by_cmp cell_cmp q e.0) refl
  where
    by : (b : Bool) → eq_by_cmp cell_cmp q e.0 ≡ b → 2 ≤ length (values_at cell_cmp q (e ∷ es))
    by true t = let here = ap length (values_at-tied q e es t) in omega (arith, here, h)
    by false t = let here = ap length (values_at-apart q e es t) in omega (arith, here, h)

abbrev HaveTwo : MatrixEntries → Type 0
HaveTwo es = (q : Cell) × (2 ≤ length (values_at cell_cmp q es))

twice : (t u : Tuple) (ts : List Tuple) → (HaveTwo (cells_of (u ∷ ts))) → HaveTwo (cells_of (t ∷ u ∷ ts))
twice t u ts h = (h.0, one_more h.0 (entry t) (cells_of (u ∷ ts)) h.1)

tied : (t u : Tuple) (ts : List Tuple) → cell_cmp (place_of t) (place_of u) ≡ Equal → HaveTwo (cells_of (t ∷ u ∷ ts))
tied t u ts e =
    let here = ap length (values_at-tied (place_of t) (entry t) (cells_of (u ∷ ts)) (same_place (place_of t))) in
    let next = ap length (values_at-tied (place_of t) (entry u) (cells_of ts) (ap is_eq e)) in
    (place_of t, omega (arith, here, next))

sorted_rest : (t u : Tuple) (ts : List Tuple) → IsSortedByKey place_of cell_cmp (t ∷ u ∷ ts) → IsSortedByKey place_of cell_cmp (u ∷ ts)
sorted_rest t u ts s k d low high = simp unary_clauses (simp unary_clauses at (s (suc k) d (omega arith) (omega (arith, high))))

-- sorted, and yet not rising: two stand at one place
pub two_there : (ts : List Tuple) → IsSortedByKey place_of cell_cmp ts → is_sorted cell_cmp (cells_of ts) ≡ false → HaveTwo (cells_of ts)
two_there [] s h = cc
two_there (t ∷ []) s h = cc
two_there (t ∷ u ∷ ts) s h = by (λ f. two_there (u ∷ ts) (sorted_rest t u ts s) f) (cell_cmp (place_of t) (place_of u)) refl
  where
    by : (is_sorted cell_cmp (cells_of (u ∷ ts)) ≡ false → HaveTwo (cells_of (u ∷ ts))) → (o : Ordering) → cell_cmp (place_of t) (place_of u) ≡ o → HaveTwo (cells_of (t ∷ u ∷ ts))
    by rest Less e = twice t u ts (rest (sym (rising_step (entry t) (entry u) (cells_of ts) (comes_before-is (place_of t) (place_of u) ∙ ap is_lt e)) ∙ h))
    by rest Equal e = tied t u ts e
    by rest Greater e =
        let up : is_lt (cell_cmp (place_of u) (place_of t)) ≡ false = s 0 t (omega arith) (omega arith) in
        let down : cell_cmp (place_of u) (place_of t) ≡ Less = cell_cmp_total.antisymm (place_of u) (place_of t) ∙ ap ordering_reverse e in
        let no : true ≡ false = sym (ap is_lt down) ∙ up in cc

pub are_apart-unsorted : (es : MatrixEntries) (ts : List Tuple) → HaveSame es (cells_of ts) → IsSortedByKey place_of cell_cmp ts → is_sorted cell_cmp (cells_of ts) ≡ false → false ≡ are_apart es
are_apart-unsorted es ts same s h =
    by (two_there ts s h) (are_apart es) refl
  where
    by : HaveTwo (cells_of ts) → (b : Bool) → are_apart es ≡ b → false ≡ b
    by two false t = refl
    by two true t =
        let one : length (values_at cell_cmp two.0 es) ≤ 1 = once-count_apart [] es (λ q. omega arith) (apart_all es t) two.0 in
        let same_two = ap length (same two.0) in
        absurd (omega (arith, one, same_two, two.1))

-- a stable sort keeps the values of each place
values_at-cells_of : (q : Cell) (ts : List Tuple) → values_at cell_cmp q (cells_of ts) ≡ map (λ (t : Tuple). t.2) (filter (λ t. eq_by_cmp cell_cmp q (place_of t)) ts)
values_at-cells_of q [] = refl
values_at-cells_of q (t ∷ ts) =
    let rest = values_at-cells_of q ts in
    elim (eq_by_cmp cell_cmp q (place_of t)) as (λ b. values_of (cond b (entry t ∷ restricted (λ l. eq_by_cmp cell_cmp q l) (cells_of ts)) (restricted (λ l. eq_by_cmp cell_cmp q l) (cells_of ts)))
    ≡ map (λ (t : Tuple). t.2) (cond b (t ∷ filter (λ t. eq_by_cmp cell_cmp q (place_of t)) ts) (filter (λ t. eq_by_cmp cell_cmp q (place_of t)) ts))) [
      | true ↦ ap (λ (s : List Value). t.2 ∷ s) rest
      | false ↦ rest
    ]

tie : (a b : Ordering) → b ≡ ordering_reverse a → is_eq a ≡ (not (is_lt a) && not (is_lt b))
tie Less b e = refl
tie Equal b e = ap (λ r. not (is_lt r)) (sym e)
tie Greater b e = ap (λ r. not (is_lt r)) (sym e)

pub same_when_stable : (ts us : List Tuple) → IsStableByKey place_of cell_cmp ts us → HaveSame (cells_of ts) (cells_of us)
same_when_stable ts us stable q =
    let at : Tuple = (q.0, q.1, value.Bool false) in
    let agree = filter_agree (λ t. eq_by_cmp cell_cmp q (place_of t)) (ties (λ a b. is_lt (cell_cmp (place_of a) (place_of b))) at) (λ t. tie (cell_cmp q (place_of t)) (cell_cmp (place_of t) q) (cell_cmp_total.antisymm (place_of t) q)) in
    values_at-cells_of q us
    ∙ ap (map (λ (t : Tuple). t.2)) (agree us ∙ stable at ∙ sym (agree ts))
    ∙ sym (values_at-cells_of q ts)

pub length-cells_of : (ts : List Tuple) → length (cells_of ts) ≡ length ts
length-cells_of ts = length-map ts entry

-- so the answer is right in either case
pub are_apart-ordered : (es : MatrixEntries) (ts : List Tuple) (b : Bool) → HaveSame es (cells_of ts) → IsSortedByKey place_of cell_cmp ts → b ≡ is_sorted cell_cmp (cells_of ts) → b ≡ are_apart es
are_apart-ordered es ts true same s is = are_apart-sorted es (cells_of ts) same (sym is)
are_apart-ordered es ts false same s is = are_apart-unsorted es ts same s (sym is)

-- steps of the loops over tuples
pub rising_next : (last : Tuple) (rest : List Tuple) (i : ℕ) (d : Tuple) (b : Bool) → i < length rest → comes_before (place_of last) (place_of (get_or rest i d)) ≡ true → is_sorted cell_cmp (cells_of (last ∷ drop i rest)) ≡ b
    → is_sorted cell_cmp (cells_of (get_or rest i d ∷ drop (i + 1) rest)) ≡ b
rising_next last rest i d b inside h e =
    sym (rising_step (entry last) (entry (get_or rest i d)) (cells_of (drop (i + 1) rest)) h) ∙ sym (at_drop_more (λ l. is_sorted cell_cmp (cells_of (last ∷ l))) rest i d inside) ∙ e

cells_more : (ts : List Tuple) (i : ℕ) (d : Tuple) → i < length ts → cells_of (take (i + 1) ts) ≡ cells_of (take i ts) ++ entry (get_or ts i d) ∷ []
cells_more ts i d inside = ap cells_of (take_more ts i d inside) ∙ map-append entry (take i ts) (get_or ts i d ∷ [])

-- a place more behind tuples
pub rising_pushed : (ts : List Tuple) (i : ℕ) (d : Tuple) (q : Cell) (v : Value) (b : Bool) → length ts ≡ i + 1 → comes_before (place_of (get_or ts i d)) q ≡ b → is_sorted cell_cmp (cells_of ts ++ (q, v) ∷ []) ≡ (is_sorted cell_cmp (cells_of ts) && b)
rising_pushed ts i d q v b long is =
    let all : cells_of ts ≡ cells_of (take i ts) ++ entry (get_or ts i d) ∷ [] = ap cells_of (sym (take_all (i + 1) ts (omega (arith, long)))) ∙ cells_more ts i d (omega (arith, long)) in
    ap (λ es. is_sorted cell_cmp (es ++ (q, v) ∷ [])) all ∙ sorted_pushed (cells_of (take i ts)) (entry (get_or ts i d)) (q, v) b is ∙ ap (λ es. is_sorted cell_cmp es && b) (sym all)

pub count_step : (ts : List Tuple) (i : ℕ) (d : Tuple) (b : Bool) → i < length ts → has_place (cells_of (take i ts)) (place_of (get_or ts i d)) ≡ b
    → count_apart (cells_of (take i ts)) (cells_of (drop i ts)) ≡ cond b 0 (count_apart (cells_of (take (i + 1) ts)) (cells_of (drop (i + 1) ts)) + 1)
count_step ts i d b inside h =
    at_drop_more (λ l. count_apart (cells_of (take i ts)) (cells_of l)) ts i d inside
    ∙ ap (λ b. cond b 0 (count_apart (cells_of (take i ts) ++ entry (get_or ts i d) ∷ []) (cells_of (drop (i + 1) ts)) + 1)) h
    ∙ ap (λ m. cond b 0 (count_apart m (cells_of (drop (i + 1) ts)) + 1)) (sym (cells_more ts i d inside))

none_of : (o : Option Value) → is_some o ≡ false → o ≡ None
none_of None h = refl
none_of (Some v) h = cc

pub there_if_found : (ts : List Tuple) (i : ℕ) (q : Cell) (m : MatrixEntries) (b : Bool) → m ≡ map_from cell_cmp (cells_of (take i ts)) → b ≡ is_some (find cell_cmp q m) → has_place (cells_of (take i ts)) q ≡ b
there_if_found ts i q m b is found = sym (found ∙ ap (λ m. is_some (find cell_cmp q m)) is ∙ is_some-map_from q (cells_of (take i ts)))

pub map_step : (ts : List Tuple) (i : ℕ) (d : Tuple) (m new : MatrixEntries) → i < length ts → m ≡ map_from cell_cmp (cells_of (take i ts)) → is_some (find cell_cmp (place_of (get_or ts i d)) m) ≡ false
    → new ≡ put cell_cmp (place_of (get_or ts i d)) (get_or ts i d).2 m → new ≡ map_from cell_cmp (cells_of (take (i + 1) ts))
map_step ts i d m new inside is absent made =
    let x = get_or ts i d in
    made ∙ ap (put cell_cmp (place_of x) x.2) is
    ∙ map_from-push (cells_of (take i ts)) (entry x) (none_of (find cell_cmp (place_of x) (map_from cell_cmp (cells_of (take i ts)))) (ap (λ m. is_some (find cell_cmp (place_of x) m)) (sym is) ∙ absent))
    ∙ ap (map_from cell_cmp) (sym (cells_more ts i d inside))
