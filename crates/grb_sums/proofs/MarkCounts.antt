-- As many values are marked as the words have bits.
use Rattle.std.proofs.Common.{◌≡◌, ℕ, zero, suc, ◌+◌, ◌-◌, ◌*◌, ◌/◌, ◌%◌, ◌^◌, ◌<◌, ◌≤◌, Bool, true, false, cond, List, refl, sym, ap, ◌∙◌, arith, length, get_or, drop, sum_by, count_ones}
use Rattle.std.specs.Prelude.{Option, Some, None, nat_eq, slice_index}
use Rattle.std.proofs.lemmas.List.{drop_all}
use Rattle.std.proofs.lemmas.List.Sums.{sum_by-drop_more}
use Rattle.std.proofs.lemmas.Nat.{ones-le}
use Rattle.std.proofs.lemmas.Nat.Bits.{bit_at_lowest, bit_at-suc}
use lib.Count.{ones_step}
use Rattle.grb_core.specs.declared.value.Value.{Value}
use Rattle.grb_core.specs.Entries.{VectorEntries, before_entries}
use Rattle.grb_kernels.specs.Bits.{has_bit}
use Rattle.grb_sums.specs.Bits.{is_marked, value_at, entries_at, marked_values, AreMarked}
use Rattle.grb_sums.proofs.MarkedPlaces.{marked_in_word, value_there}

-- one for a place that is picked
one_if : Bool → ℕ
one_if true = 1
one_if false = 0

-- how many of n places from p on are picked
picked : (ℕ → Bool) → ℕ → ℕ → ℕ
picked picks p zero = 0
picked picks p (suc n) = one_if (picks p) + picked picks (p + 1) n

picked-nil : (picks : ℕ → Bool) (p : ℕ) → ◌≡◌ {A = ℕ} (picked picks p 0) 0
unfolding picked
picked-nil picks p = refl

picked-next : (picks : ℕ → Bool) (p n : ℕ) → picked picks p (suc n) ≡ one_if (picks p) + picked picks (p + 1) n
unfolding picked
picked-next picks p n = refl

picked-split : (picks : ℕ → Bool) (p a b : ℕ) → picked picks p (a + b) ≡ picked picks p a + picked picks (p + a) b
picked-split picks p zero b =
    let none : picked picks p (0 + b) ≡ picked picks p b = ap (picked picks p) (let e : 0 + b ≡ b = omega arith in e) in
    let moved : picked picks p b ≡ picked picks (p + 0) b = ap (λ q. picked picks q b) (let e : p ≡ p + 0 = omega arith in e) in
    omega (arith, none, moved, picked-nil picks p)
picked-split picks p (suc a) b =
    let whole : picked picks p (suc a + b) ≡ picked picks p (suc (a + b)) = ap (picked picks p) (let e : suc a + b ≡ suc (a + b) = omega arith in e) in
    let rest = picked-split picks (p + 1) a b in
    let moved : picked picks (p + 1 + a) b ≡ picked picks (p + suc a) b = ap (λ q. picked picks q b) (let e : p + 1 + a ≡ p + suc a = omega arith in e) in
    omega (arith, whole, picked-next picks p (a + b), picked-next picks p a, rest, moved)

picked-none : (picks : ℕ → Bool) (p n : ℕ) → ((i : ℕ) → p ≤ i → picks i ≡ false) → ◌≡◌ {A = ℕ} (picked picks p n) 0
unfolding one_if
picked-none picks p zero h = picked-nil picks p
picked-none picks p (suc n) h =
    let here : one_if (picks p) ≡ one_if false = ap one_if (h p (omega arith)) in
    let nothing : ◌≡◌ {A = ℕ} (one_if false) 0 = refl in
    let rest = picked-none picks (p + 1) n (λ i l. h i (omega (arith, l))) in
    omega (arith, picked-next picks p n, here, nothing, rest)

picked-same : (picks other : ℕ → Bool) (p q n : ℕ) → ((i : ℕ) → i < n → picks (p + i) ≡ other (q + i)) → picked picks p n ≡ picked other q n
picked-same picks other p q zero h = picked-nil picks p ∙ sym (picked-nil other q)
picked-same picks other p q (suc n) h =
    let here : one_if (picks p) ≡ one_if (other q) =
    ap one_if (ap picks (let e : p ≡ p + 0 = omega arith in e) ∙ h 0 (omega arith) ∙ ap other (let e : q + 0 ≡ q = omega arith in e)) in
    let rest = picked-same picks other (p + 1) (q + 1) n
    (λ i l. ap picks (let e : p + 1 + i ≡ p + suc i = omega arith in e) ∙ h (suc i) (omega (arith, l)) ∙ ap other (let e : q + suc i ≡ q + 1 + i = omega arith in e)) in
    omega (arith, picked-next picks p n, picked-next other q n, here, rest)

-- an entry for each place that is picked
length-before : (k : ℕ) (b : Bool) (w : Option Value) (v : Value) (m : VectorEntries) → w ≡ Some v → length (before_entries k (cond b w None) m) ≡ one_if b + length m
unfolding one_if
length-before k true w v m e = ap (λ o. length (before_entries k o m)) e ∙ (let one : suc (length m) ≡ 1 + length m = omega arith in one)
length-before k false w v m e = omega arith

length-entries_at : (name : ℕ → ℕ) (picks : ℕ → Bool) (at : ℕ → Option Value) (p n : ℕ) → ((i : ℕ) → i < p + n → (v : Value) × (at i ≡ Some v))
    → length (entries_at name picks at p n) ≡ picked picks p n
unfolding entries_at
length-entries_at name picks at p zero h = sym (picked-nil picks p)
length-entries_at name picks at p (suc n) h =
    let rest = length-entries_at name picks at (p + 1) n (λ i l. h i (omega (arith, l))) in
    let there = h p (omega arith) in
    let first = length-before (name p) (picks p) (at p) there.0 (entries_at name picks at (p + 1) n) there.1 in
    first ∙ (let e : one_if (picks p) + length (entries_at name picks at (p + 1) n) ≡ picked picks p (suc n) = omega (arith, rest, picked-next picks p n) in e)

-- the ones of a word
one_of_bit : (r : ℕ) → r < 2 → one_if (nat_eq r 1) ≡ r
unfolding one_if
one_of_bit zero h = refl
one_of_bit (suc zero) h = refl
one_of_bit (suc (suc r)) h = absurd (omega (arith, h))

lowest_one : (x : ℕ) → one_if (has_bit x 0) ≡ x % 2
lowest_one x = ap (λ b. one_if (nat_eq b 1)) (bit_at_lowest x) ∙ one_of_bit (x % 2) (omega arith)

picked_bits : (n x : ℕ) → x < 2 ^ n → picked (has_bit x) 0 n ≡ count_ones x
picked_bits zero x h = let few = ones-le 0 x h in omega (arith, few, picked-nil (has_bit x) 0)
picked_bits (suc n) x h =
    let rest : picked (has_bit (x / 2)) 0 n ≡ count_ones (x / 2) = picked_bits n (x / 2) (halved n x h) in
    let first : picked (has_bit x) 0 (suc n) ≡ one_if (has_bit x 0) + picked (has_bit x) (0 + 1) n = picked-next (has_bit x) 0 n in
    let moved : picked (has_bit x) (0 + 1) n ≡ picked (has_bit (x / 2)) 0 n =
    picked-same (has_bit x) (has_bit (x / 2)) (0 + 1) 0 n
    (λ i l. ap (has_bit x) (let e : 0 + 1 + i ≡ suc i = omega arith in e) ∙ ap (λ (b : ℕ). nat_eq b 1) (bit_at-suc x i) ∙ ap (has_bit (x / 2)) (let e : i ≡ 0 + i = omega arith in e)) in
    let low = lowest_one x in
    let both = ones_step x in
    omega (arith, first, rest, moved, low, both)
  where
    halved : (n x : ℕ) → x < 2 ^ suc n → x / 2 < 2 ^ n
    halved n x h = omega (arith, h)

-- the marks of all words
picked_words : (words : List ℕ) → ((i : ℕ) → get_or words i 0 < 2 ^ 64) → (d w : ℕ) → w + d ≡ length words → picked (is_marked words) (64 * w) (64 * d) ≡ sum_by (λ x. count_ones x) (drop w words)
picked_words words fit zero w e =
    ap (picked (is_marked words) (64 * w)) (let none : 64 * 0 ≡ 0 = omega arith in none)
    ∙ picked-nil (is_marked words) (64 * w)
    ∙ ap (sum_by (λ (x : ℕ). count_ones x)) (sym (drop_all w words (omega (arith, e))))
picked_words words fit (suc d) w e =
    let inside : w < length words = omega (arith, e) in
    let one : picked (is_marked words) (64 * w) 64 ≡ count_ones (get_or words w 0) =
    picked-same (is_marked words) (has_bit (get_or words w 0)) (64 * w) 0 64
    (λ t l. marked_in_word words w t l ∙ ap (has_bit (get_or words w 0)) (let same : t ≡ 0 + t = omega arith in same))
    ∙ picked_bits 64 (get_or words w 0) (fit w) in
    let long : picked (is_marked words) (64 * w) (64 * suc d) ≡ picked (is_marked words) (64 * w) (64 + 64 * d) =
    ap (picked (is_marked words) (64 * w)) (let more : 64 * suc d ≡ 64 + 64 * d = omega arith in more) in
    let split = picked-split (is_marked words) (64 * w) 64 (64 * d) in
    let next : picked (is_marked words) (64 * w + 64) (64 * d) ≡ picked (is_marked words) (64 * (w + 1)) (64 * d) =
    ap (λ q. picked (is_marked words) q (64 * d)) (let after : 64 * w + 64 ≡ 64 * (w + 1) = omega arith in after) in
    let rest = picked_words words fit d (w + 1) (omega (arith, e)) in
    let sums = sum_by-drop_more (λ (x : ℕ). count_ones x) words w 0 inside in
    omega (arith, one, long, split, next, rest, sums)

pub length-marked_values : {V : Type 0} (tv : V → Value) (names words : List ℕ) (vs : List V) → ((i : ℕ) → get_or words i 0 < 2 ^ 64) → AreMarked (length names) words vs
    → length (marked_values tv names words vs) ≡ sum_by (λ x. count_ones x) words
length-marked_values tv names words vs fit are =
    let n = length names in
    let values = length-entries_at (slice_index names) (is_marked words) (value_at tv vs) 0 n (λ i l. value_there tv vs i (omega (arith, l, are.long))) in
    let none : ◌≡◌ {A = ℕ} (picked (is_marked words) (0 + n) (64 * length words - n)) 0 =
    picked-none (is_marked words) (0 + n) (64 * length words - n) (λ i l. unmarked i (is_marked words i) refl (omega (arith, l))) in
    let split = picked-split (is_marked words) 0 n (64 * length words - n) in
    let all : picked (is_marked words) 0 (n + (64 * length words - n)) ≡ picked (is_marked words) (64 * 0) (64 * length words) =
    ap (picked (is_marked words) 0) (let e : n + (64 * length words - n) ≡ 64 * length words = omega (arith, are.enough) in e)
    ∙ ap (λ q. picked (is_marked words) q (64 * length words)) (let e : 0 ≡ 64 * 0 = omega arith in e) in
    let whole = picked_words words fit (length words) 0 (omega arith) in
    values ∙ (let same : picked (is_marked words) 0 n ≡ sum_by (λ (x : ℕ). count_ones x) (drop 0 words) = omega (arith, none, split, all, whole) in same)
  where
    unmarked : (i : ℕ) (b : Bool) → is_marked words i ≡ b → length names ≤ i → is_marked words i ≡ false
    unmarked i true e l = absurd (omega (arith, are.within i e, l))
    unmarked i false e l = e
