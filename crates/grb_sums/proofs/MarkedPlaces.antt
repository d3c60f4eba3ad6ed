-- Entries at places that a test picks, place by place and word by word.
use Rattle.std.proofs.Common.{◌≡◌, ℕ, zero, suc, ◌+◌, ◌-◌, ◌*◌, ◌/◌, ◌%◌, ◌^◌, ◌<◌, ◌≤◌, Bool, true, false, cond, List, [], ◌∷◌, ◌++◌, inl, inr, refl, sym, ap, subst, ◌∙◌, append_assoc, arith, length, get_or, drop}
use Rattle.std.specs.Prelude.{◌&&◌, Option, Some, None, nat_eq, slice_index}
use Rattle.std.specs.Ordering.{nat_cmp, is_lt}
use Rattle.std.specs.declared.cmp.Ordering.TheVariants.{Less}
use Rattle.std.specs.Cmp.{nat_cmp_is}
use Rattle.std.specs.FinMap.{is_sorted}
use Rattle.std.specs.FinMap.Entries.{below_all}
use Rattle.std.proofs.lemmas.Bool.{cases_eq, cases_lt}
use Rattle.std.proofs.lemmas.List.{drop_more, drop_all}
use Rattle.std.proofs.lemmas.Nat.Bits.{bit_at-zero, bit_at_above}
use lib.Dec.{T}
use Rattle.grb_core.specs.declared.value.Value.{Value}
use Rattle.grb_core.specs.Entries.{VectorEntries, before_entries, map_on}
use Rattle.grb_core.proofs.Maps.{is_sorted-before}
use Rattle.grb_kernels.specs.Bits.{has_bit}
use Rattle.grb_sums.specs.Bits.{is_marked, value_at, entries_at, marked_values, word_values, AreMarked}

differ : false ≡ true → ⊥
differ e = cc

before_append : (k : ℕ) (w : Option Value) (m n : VectorEntries) → before_entries k w m ++ n ≡ before_entries k w (m ++ n)
before_append k None m n = refl
before_append k (Some v) m n = refl

module _ (name : ℕ → ℕ) (picks : ℕ → Bool) (at : ℕ → Option Value) where
  pub entries_at-split : (p a b : ℕ) → entries_at name picks at p (a + b) ≡ entries_at name picks at p a ++ entries_at name picks at (p + a) b
  unfolding entries_at
  entries_at-split p zero b =
      ap (entries_at name picks at p) (let e : 0 + b ≡ b = omega arith in e) ∙ ap (λ q. entries_at name picks at q b) (let e : p ≡ p + 0 = omega arith in e)
  entries_at-split p (suc a) b =
      ap (entries_at name picks at p) (let e : suc a + b ≡ suc (a + b) = omega arith in e)
      ∙ ap (before_entries (name p) (cond (picks p) (at p) None)) (entries_at-split (p + 1) a b)
      ∙ ap (λ q. before_entries (name p) (cond (picks p) (at p) None) (entries_at name picks at (p + 1) a ++ entries_at name picks at q b)) (let e : p + 1 + a ≡ p + suc a = omega arith in e)
      ∙ sym (before_append (name p) (cond (picks p) (at p) None) (entries_at name picks at (p + 1) a) (entries_at name picks at (p + suc a) b))

  pub entries_at-none : (p n : ℕ) → ((i : ℕ) → p ≤ i → picks i ≡ false) → entries_at name picks at p n ≡ []
  unfolding entries_at
  entries_at-none p zero h = refl
  entries_at-none p (suc n) h =
      ap (λ b. before_entries (name p) (cond b (at p) None) (entries_at name picks at (p + 1) n)) (h p (omega arith)) ∙ entries_at-none (p + 1) n (λ i l. h i (omega (arith, l)))

  -- other places of the same names, tests and values
  pub entries_at-shifted : (b p n : ℕ) → entries_at (λ t. name (b + t)) (λ t. picks (b + t)) (λ t. at (b + t)) p n ≡ entries_at name picks at (b + p) n
  unfolding entries_at
  entries_at-shifted b p zero = refl
  entries_at-shifted b p (suc n) =
      ap (before_entries (name (b + p)) (cond (picks (b + p)) (at (b + p)) None))
      (entries_at-shifted b (p + 1) n ∙ ap (λ q. entries_at name picks at q n) (let e : b + (p + 1) ≡ b + p + 1 = omega arith in e))

  -- a test that picks the same
  pub entries_at-same : (other : ℕ → Bool) (p n : ℕ) → ((i : ℕ) → p ≤ i → i < p + n → other i ≡ picks i) → entries_at name other at p n ≡ entries_at name picks at p n
  unfolding entries_at
  entries_at-same other p zero h = refl
  entries_at-same other p (suc n) h =
      ap (λ b. before_entries (name p) (cond b (at p) None) (entries_at name other at (p + 1) n)) (h p (omega arith) (omega arith))
      ∙ ap (before_entries (name p) (cond (picks p) (at p) None)) (entries_at-same other (p + 1) n (λ i l m. h i (omega (arith, l)) (omega (arith, m))))

  -- where a place is picked there is an entry
  pub some_picked : (p n i : ℕ) (v : Value) → p ≤ i → i < p + n → picks i ≡ true → at i ≡ Some v → 0 < length (entries_at name picks at p n)
  unfolding entries_at
  some_picked p zero i v from upto is there = absurd (omega (arith, from, upto))
  some_picked p (suc n) i v from upto is there =
      elim (cases_eq p i) [
        | inl e ↦
            subst (λ w. 0 < length (before_entries (name p) w (entries_at name picks at (p + 1) n))) (sym (ap (λ b. cond b (at p) None) (ap picks e ∙ is) ∙ ap at e ∙ there)) (omega arith)
        | inr m ↦ more (cond (picks p) (at p) None) (some_picked (p + 1) n i v (omega (arith, from, m)) (omega (arith, upto)) is there)
      ]
    where
      more : (w : Option Value) → 0 < length (entries_at name picks at (p + 1) n) → 0 < length (before_entries (name p) w (entries_at name picks at (p + 1) n))
      more None h = h
      more (Some x) h = omega arith

  -- they are in order, where the names rise
  below_before : (x j : ℕ) (w : Option Value) (m : VectorEntries) → x < j → T (below_all nat_cmp x m) → T (below_all nat_cmp x (before_entries j w m))
  below_before x j None m l h = h
  below_before x j (Some v) m l h = and _ _ (subst (λ r. T (is_lt r)) (nat_cmp_is x j Less l) tt) h
    where
      and : (a b : Bool) → T a → T b → T (a && b)
      and true b p q = q
      and false b p q = absurd p

  below-entries_at : (x p n : ℕ) → ((i : ℕ) → p ≤ i → i < p + n → x < name i) → T (below_all nat_cmp x (entries_at name picks at p n))
  unfolding entries_at
  below-entries_at x p zero h = tt
  below-entries_at x p (suc n) h =
      below_before x (name p) (cond (picks p) (at p) None) (entries_at name picks at (p + 1) n) (h p (omega arith) (omega arith))
      (below-entries_at x (p + 1) n (λ i l m. h i (omega (arith, l)) (omega (arith, m))))

  pub is_sorted-entries_at : (p n : ℕ) → ((i j : ℕ) → i < j → j < p + n → name i < name j) → T (is_sorted nat_cmp (entries_at name picks at p n))
  unfolding entries_at
  is_sorted-entries_at p zero h = tt
  is_sorted-entries_at p (suc n) h =
      is_sorted-before nat_cmp (name p) (cond (picks p) (at p) None) (entries_at name picks at (p + 1) n)
      (below-entries_at (name p) (p + 1) n (λ i l m. h p i (omega (arith, l)) (omega (arith, m))))
      (is_sorted-entries_at (p + 1) n (λ i j l m. h i j l (omega (arith, m))))

-- as what is made of each name
pub entries_at-made : (names : List ℕ) (picks : ℕ → Bool) (at g : ℕ → Option Value) (p n : ℕ) → p + n ≡ length names
    → ((i : ℕ) → i < length names → cond (picks i) (at i) None ≡ g (get_or names i 0)) → entries_at (slice_index names) picks at p n ≡ map_on (drop p names) g
unfolding entries_at
entries_at-made names picks at g p zero e h = ap (λ (js : List ℕ). map_on js g) (sym (drop_all p names (omega arith)))
entries_at-made names picks at g p (suc n) e h =
    ap (λ w. before_entries (get_or names p 0) w (entries_at (slice_index names) picks at (p + 1) n)) (h p (omega arith))
    ∙ ap (before_entries (get_or names p 0) (g (get_or names p 0))) (entries_at-made names picks at g (p + 1) n (omega arith) h)
    ∙ ap (λ (js : List ℕ). map_on js g) (sym (drop_more names p 0 (omega arith)))

-- the lowest set bit is taken off
module _ (name : ℕ → ℕ) (bit bit' : ℕ → Bool) (at : ℕ → Option Value) (low : ℕ) (is : bit low ≡ true) (below : (i : ℕ) → i < low → bit i ≡ false) (gone : bit' low ≡ false)
    (same : (i : ℕ) → i < 64 → (i ≡ low → ⊥) → bit' i ≡ bit i) where
  lowest_first : (n t : ℕ) → t ≤ low → low < t + n → t + n ≤ 64 → entries_at name bit at t n ≡ before_entries (name low) (at low) (entries_at name bit' at t n)
  unfolding entries_at
  lowest_first zero t h l f = absurd (omega arith)
  lowest_first (suc n) t h l f =
      elim (cases_eq t low) [
        | inl e ↦
            ap (λ b. before_entries (name t) (cond b (at t) None) (entries_at name bit at (t + 1) n)) (ap bit e ∙ is)
            ∙ ap (λ i. before_entries (name i) (at i) (entries_at name bit at (t + 1) n)) e
            ∙ ap (before_entries (name low) (at low)) (sym (entries_at-same name bit at bit' (t + 1) n (λ i from upto. same i (omega (arith, upto)) (λ k. omega (arith, from, k, e)))))
            ∙ ap (λ b. before_entries (name low) (at low) (before_entries (name t) (cond b (at t) None) (entries_at name bit' at (t + 1) n))) (sym (ap bit' e ∙ gone))
        | inr n' ↦
            let unset : bit t ≡ false = below t (omega arith) in
            ap (λ b. before_entries (name t) (cond b (at t) None) (entries_at name bit at (t + 1) n)) unset
            ∙ lowest_first n (t + 1) (omega arith) (omega arith) (omega arith)
            ∙ ap (λ b. before_entries (name low) (at low) (before_entries (name t) (cond b (at t) None) (entries_at name bit' at (t + 1) n))) (sym (same t (omega arith) n' ∙ unset))
      ]

  -- one more entry goes out
  pub took_lowest : (out out' total : VectorEntries) (v : Value) → low < 64 → out ++ entries_at name bit at 0 64 ≡ total → Some v ≡ at low
      → out' ≡ out ++ (name low, v) ∷ [] → out' ++ entries_at name bit' at 0 64 ≡ total
  took_lowest out out' total v lt so_far at_low e =
      ap (λ m. m ++ entries_at name bit' at 0 64) e
      ∙ append_assoc out ((name low, v) ∷ []) (entries_at name bit' at 0 64)
      ∙ ap (λ m. out ++ m) (ap (λ w. before_entries (name low) w (entries_at name bit' at 0 64)) at_low ∙ sym (lowest_first 64 0 (omega arith) (omega arith) (omega arith)))
      ∙ so_far

  pub fewer_left : (v : Value) → low < 64 → Some v ≡ at low → length (entries_at name bit at 0 64) ≡ length (entries_at name bit' at 0 64) + 1
  fewer_left v lt at_low =
      ap length (lowest_first 64 0 (omega arith) (omega arith) (omega arith) ∙ ap (λ w. before_entries (name low) w (entries_at name bit' at 0 64)) (sym at_low))
      ∙ (let e : suc (length (entries_at name bit' at 0 64)) ≡ length (entries_at name bit' at 0 64) + 1 = omega arith in e)

pub value_there : {V : Type 0} (tv : V → Value) (vs : List V) (i : ℕ) → i < length vs → (v : Value) × (value_at tv vs i ≡ Some v)
value_there tv [] i h = absurd (omega arith)
value_there tv (v ∷ vs) zero h = (tv v, refl)
value_there tv (v ∷ vs) (suc i) h = value_there tv vs i (omega arith)

-- where a bit of a word is left there is a value more
pub some_in_word : {V : Type 0} (tv : V → Value) (names : List ℕ) (word base t : ℕ) (vs : List V) → has_bit word t ≡ true → t < 64 → base + t < length vs
    → 0 < length (word_values tv names word base vs)
some_in_word tv names word base t vs is low inside =
    let there = value_there tv vs (base + t) inside in
    some_picked (λ i. get_or names (base + i) 0) (has_bit word) (λ i. value_at tv vs (base + i)) 0 64 t there.0 (omega arith) (omega (arith, low)) is there.1

-- the places of a word
pub marked_in_word : (words : List ℕ) (w t : ℕ) → t < 64 → is_marked words (64 * w + t) ≡ has_bit (get_or words w 0) t
marked_in_word words w t h =
    let word : (64 * w + t) / 64 ≡ w = omega arith in
    let low : (64 * w + t) % 64 ≡ t = omega arith in
    ap (λ x. has_bit (get_or words x 0) ((64 * w + t) % 64)) word ∙ ap (has_bit (get_or words w 0)) low

-- a word has no bits above
pub no_bit_above : (word t : ℕ) → word < 2 ^ 64 → 64 ≤ t → has_bit word t ≡ false
no_bit_above word t fits high = ap (λ (b : ℕ). nat_eq b 1) (bit_at_above word 64 t fits high)

pub bit_in_range : (words : List ℕ) (n w t : ℕ) → ((p : ℕ) → is_marked words p ≡ true → p < n) → get_or words w 0 < 2 ^ 64 → has_bit (get_or words w 0) t ≡ true → 64 * w + t < n
bit_in_range words n w t within fits is =
    elim (cases_lt t 64) [
      | inl low ↦ within (64 * w + t) (marked_in_word words w t low ∙ is)
      | inr high ↦ absurd (differ (sym (no_bit_above (get_or words w 0) t fits high) ∙ is))
    ]

-- no bit is set
pub no_bit : (word t : ℕ) → word ≡ 0 → has_bit word t ≡ false
no_bit word t e = ap (λ x. has_bit x t) e ∙ ap (λ (b : ℕ). nat_eq b 1) (bit_at-zero t)

module _ {V : Type 0} (tv : V → Value) (names words : List ℕ) (vs : List V) where
  -- the entries from a word on
  abbrev pub from_word : ℕ → VectorEntries
  from_word w = entries_at (slice_index names) (is_marked words) (value_at tv vs) (64 * w) (64 * (length words - w))

  pub next_word : (w : ℕ) → w < length words → from_word w ≡ word_values tv names (get_or words w 0) (64 * w) vs ++ from_word (w + 1)
  next_word w lt =
      ap (entries_at (slice_index names) (is_marked words) (value_at tv vs) (64 * w)) (let e : 64 * (length words - w) ≡ 64 + 64 * (length words - (w + 1)) = omega (arith, lt) in e)
      ∙ entries_at-split (slice_index names) (is_marked words) (value_at tv vs) (64 * w) 64 (64 * (length words - (w + 1)))
      ∙ ap (λ (m : VectorEntries). m ++ entries_at (slice_index names) (is_marked words) (value_at tv vs) (64 * w + 64) (64 * (length words - (w + 1)))) (sym here)
      ∙ ap (λ q. word_values tv names (get_or words w 0) (64 * w) vs ++ entries_at (slice_index names) (is_marked words) (value_at tv vs) q (64 * (length words - (w + 1))))
      (let e : 64 * w + 64 ≡ 64 * (w + 1) = omega arith in e)
    where
      here : word_values tv names (get_or words w 0) (64 * w) vs ≡ entries_at (slice_index names) (is_marked words) (value_at tv vs) (64 * w) 64
      here =
          entries_at-same (λ t. get_or names (64 * w + t) 0) (λ t. is_marked words (64 * w + t)) (λ t. value_at tv vs (64 * w + t)) (has_bit (get_or words w 0)) 0 64
          (λ i l m. sym (marked_in_word words w i (omega (arith, m))))
          ∙ entries_at-shifted (slice_index names) (is_marked words) (value_at tv vs) (64 * w) 0 64
          ∙ ap (λ q. entries_at (slice_index names) (is_marked words) (value_at tv vs) q 64) (let e : 64 * w + 0 ≡ 64 * w = omega arith in e)

  pub past_words : (w : ℕ) → length words ≤ w → from_word w ≡ []
  unfolding entries_at
  past_words w h = ap (entries_at (slice_index names) (is_marked words) (value_at tv vs) (64 * w)) (let e : 64 * (length words - w) ≡ 0 = omega (arith, h) in e)

  -- the marked values are those of all words
  pub all_words : AreMarked (length names) words vs → from_word 0 ≡ marked_values tv names words vs
  all_words are =
      let n = length names in
      ap (entries_at (slice_index names) (is_marked words) (value_at tv vs) 0) (let e : 64 * (length words - 0) ≡ n + (64 * length words - n) = omega (arith, are.enough) in e)
      ∙ entries_at-split (slice_index names) (is_marked words) (value_at tv vs) 0 n (64 * length words - n)
      ∙ ap (λ q. marked_values tv names words vs ++ entries_at (slice_index names) (is_marked words) (value_at tv vs) q (64 * length words - n)) (let e : 0 + n ≡ n = omega arith in e)
      ∙ ap (λ (m : VectorEntries). marked_values tv names words vs ++ m)
      (entries_at-none (slice_index names) (is_marked words) (value_at tv vs) n (64 * length words - n)
      (λ i l. unmarked i (is_marked words i) refl l))
      ∙ nothing_more (marked_values tv names words vs)
    where
      unmarked : (i : ℕ) (b : Bool) → is_marked words i ≡ b → length names ≤ i → is_marked words i ≡ false
      unmarked i true e l = absurd (omega (arith, are.within i e, l))
      unmarked i false e l = e

      nothing_more : (xs : VectorEntries) → xs ++ [] ≡ xs
      nothing_more [] = refl
      nothing_more (x ∷ xs) = ap (λ (t : VectorEntries). x ∷ t) (nothing_more xs)

pub length-both : (x y : VectorEntries) → length (x ++ y) ≡ length x + length y
length-both [] y = omega arith
length-both (e ∷ x) y = let rest = length-both x y in omega (arith, rest)
