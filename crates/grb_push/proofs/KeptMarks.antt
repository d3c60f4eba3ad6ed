-- Marks at places that are wanted, and the sums at these.
use Rattle.std.proofs.Common.{◌≡◌, ℕ, zero, suc, ◌+◌, ◌*◌, ◌/◌, ◌%◌, ◌^◌, ◌-◌, ◌<◌, ◌≤◌, Bool, true, false, cond, List, [], ◌∷◌, inl, inr, refl, sym, ap, subst, ◌∙◌, arith, length, get_or, set, drop}
use Rattle.std.specs.Prelude.{◌≢◌, ◌&&◌, not, min, nat_eq, bit_and, Option, Some, None}
use Rattle.std.specs.Int.{bit_at}
use Rattle.std.specs.Ordering.{nat_cmp}
use Rattle.std.proofs.lemmas.Bool.{cases_eq, cases_lt}
use Rattle.std.proofs.lemmas.List.{drop_more, drop_all, get_or_past, get_or-set_same, get_or-set_other}
use Rattle.std.proofs.lemmas.Nat.Bits.{bit_at_and}
use Rattle.grb_core.specs.declared.value.Value.{Value}
use Rattle.grb_core.specs.declared.monoid.Monoid.{Monoid}
use Rattle.grb_core.specs.Fold.{fold_of_some}
use Rattle.grb_core.specs.Entries.{VectorEntries, before_entries, map_on, restricted, values_at}
use Rattle.grb_kernels.specs.Bits.{has_bit}
use Rattle.grb_sums.specs.Bits.{is_marked, marked_values, value_at, AreMarked}
use Rattle.grb_sums.specs.ColumnSums.{AreSums, column_folds}
use Rattle.grb_sums.proofs.MarkedPlaces.{entries_at-made, no_bit}
use Rattle.grb_push.specs.Wanted.{is_among}
use Rattle.grb_push.proofs.Searching.{same_index, other_index}

-- one more place is marked
pub listed_more : (words words2 names : List ℕ) (i p : ℕ) → i < length names → (get_or names i 0 ≡ p → is_marked words2 p ≡ true) → ((get_or names i 0 ≡ p → ⊥) → is_marked words2 p ≡ is_marked words p)
    → cond (is_marked words p) true (is_among p (drop i names)) ≡ is_among p names → cond (is_marked words2 p) true (is_among p (drop (i + 1) names)) ≡ is_among p names
listed_more words words2 names i p inside here others was =
    elim (cases_eq (get_or names i 0) p) [
      | inl e ↦
          ap (λ b. cond b true (is_among p (drop (i + 1) names))) (here e)
          ∙ sym (either (is_marked words p))
          ∙ ap (λ b. cond (is_marked words p) true (cond b true (is_among p (drop (i + 1) names)))) (sym (same_index p (get_or names i 0) e))
          ∙ ap (λ (ks : List ℕ). cond (is_marked words p) true (is_among p ks)) (sym split)
          ∙ was
      | inr n ↦
          ap (λ b. cond b true (is_among p (drop (i + 1) names))) (others n)
          ∙ ap (λ b. cond (is_marked words p) true (cond b true (is_among p (drop (i + 1) names)))) (sym (other_index p (get_or names i 0) n))
          ∙ ap (λ (ks : List ℕ). cond (is_marked words p) true (is_among p ks)) (sym split)
          ∙ was
    ]
  where
    split : drop i names ≡ get_or names i 0 ∷ drop (i + 1) names
    split = drop_more names i 0 inside

    either : (b : Bool) → cond b true true ≡ true
    either true = refl
    either false = refl

-- all are
pub listed_all : (words names : List ℕ) (i p : ℕ) → length names ≤ i → cond (is_marked words p) true (is_among p (drop i names)) ≡ is_among p names → is_marked words p ≡ is_among p names
listed_all words names i p past was =
    sym (as_is (is_marked words p)) ∙ ap (λ (ks : List ℕ). cond (is_marked words p) true (is_among p ks)) (sym (drop_all i names past)) ∙ was
  where
    as_is : (b : Bool) → cond b true false ≡ b
    as_is true = refl
    as_is false = refl

-- no place is marked past the words
pub past_words : (words : List ℕ) (p : ℕ) → 64 * length words ≤ p → is_marked words p ≡ false
past_words words p past = no_bit (get_or words (p / 64) 0) (p % 64) (get_or_past words (p / 64) 0 (omega (arith, past)))

-- a bit of two words
two_bits : (x y : ℕ) → x < 2 → y < 2 → nat_eq (min x y) 1 ≡ (nat_eq x 1 && nat_eq y 1)
two_bits zero zero l h = refl
two_bits zero (suc zero) l h = refl
two_bits (suc zero) zero l h = refl
two_bits (suc zero) (suc zero) l h = refl
two_bits (suc (suc x)) y l h = absurd (omega (arith, l))
two_bits zero (suc (suc y)) l h = absurd (omega (arith, h))
two_bits (suc zero) (suc (suc y)) l h = absurd (omega (arith, h))

pub both_bits : (a b t : ℕ) → has_bit (bit_and a b) t ≡ (has_bit a t && has_bit b t)
both_bits a b t = ap (λ n. nat_eq n 1) (bit_at_and a b t) ∙ two_bits (bit_at a t) (bit_at b t) (below_2 (a / 2 ^ t)) (below_2 (b / 2 ^ t))
  where
    below_2 : (x : ℕ) → x % 2 < 2
    below_2 x = omega arith

pub other_bit : (x : ℕ) → x < 2 → nat_eq (1 - x) 1 ≡ not (nat_eq x 1)
other_bit zero h = refl
other_bit (suc zero) h = refl
other_bit (suc (suc x)) h = absurd (omega (arith, h))

module _ (words : List ℕ) (w word p : ℕ) where
  -- a place of a word that is written
  pub written_here : w < length words → p / 64 ≡ w → is_marked (set words w word) p ≡ has_bit word (p % 64)
  written_here inside e = ap (λ u. has_bit (get_or (set words w word) u 0) (p % 64)) e ∙ ap (λ x. has_bit x (p % 64)) (get_or-set_same words w word 0 inside)

  -- and one of another
  pub written_elsewhere : p / 64 ≢ w → is_marked (set words w word) p ≡ is_marked words p
  written_elsewhere n = ap (λ x. has_bit x (p % 64)) (get_or-set_other words w (p / 64) word 0 n)

pub and_first : (a b : Bool) → (a && b) ≡ true → a ≡ true
and_first true b e = refl
and_first false b e = e

and_cond : (a b : Bool) (o : Option Value) → cond (a && b) o None ≡ cond b (cond a o None) None
and_cond true true o = refl
and_cond true false o = refl
and_cond false true o = refl
and_cond false false o = refl

-- what is made of each name that is wanted
map_on-wanted : (wanted : ℕ → Bool) (f : ℕ → Option Value) (names : List ℕ) → map_on names (λ j. cond (wanted j) (f j) None) ≡ restricted wanted (map_on names f)
map_on-wanted wanted f [] = refl
map_on-wanted wanted f (k ∷ ks) = ap (before_entries k (cond (wanted k) (f k) None)) (map_on-wanted wanted f ks) ∙ first (f k) (map_on ks f)
  where
    first : (o : Option Value) (m : VectorEntries) → before_entries k (cond (wanted k) o None) (restricted wanted m) ≡ restricted wanted (before_entries k o m)
    first None m = elim (wanted k) as (λ b. before_entries k (cond {A = Option Value} b None None) (restricted wanted m) ≡ restricted wanted m) [ true ↦ refl | false ↦ refl ]
    first (Some v) m =
        elim (wanted k) as (λ b. before_entries k (cond b (Some v) None) (restricted wanted m) ≡ cond b ((k, v) ∷ restricted wanted m) (restricted wanted m)) [ true ↦ refl | false ↦ refl ]

module _ {V : Type 0} (tv : V → Value) (names words kept : List ℕ) (ss : List V) (wanted : ℕ → Bool) (those : (p : ℕ) → is_marked kept p ≡ (is_marked words p && wanted p)) where
  -- fewer places are marked
  pub kept_marked : (n : ℕ) → length kept ≡ length words → AreMarked n words ss → AreMarked n kept ss
  kept_marked n long was = record {
    few = omega (arith, was.few, long);
    enough = omega (arith, was.enough, long);
    within = λ p e. was.within p (and_first (is_marked words p) (wanted p) (sym (those p) ∙ e));
    long = was.long;
  }

  -- the sums at them are the folds of the columns that are wanted
  pub kept_values : (m : Monoid) (added : VectorEntries) → ((p : ℕ) → p < length names → get_or names p 0 ≡ p) → AreSums tv m names added words ss
      → marked_values tv names kept ss ≡ restricted wanted (column_folds m names added)
  kept_values m added own are =
      entries_at-made names (is_marked kept) (value_at tv ss) (λ j. cond (wanted j) (folds j) None) 0 (length names) (omega arith)
      (λ i l. ap (λ b. cond b (value_at tv ss i) None) (those i)
      ∙ and_cond (is_marked words i) (wanted i) (value_at tv ss i)
      ∙ ap (λ o. cond (wanted i) o None) (are.held i l)
      ∙ ap (λ j. cond (wanted j) (folds (get_or names i 0)) None) (sym (own i l)))
      ∙ map_on-wanted wanted folds names
    where
      folds : ℕ → Option Value
      folds j = fold_of_some m (values_at nat_cmp j added)
