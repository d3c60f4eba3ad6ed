-- Words of a second level that no row reaches have no bits.
use Rattle.std.proofs.Common.{◌≡◌, ℕ, zero, suc, ◌+◌, ◌*◌, ◌/◌, ◌^◌, ◌<◌, Bool, true, false, cond, List, [], ◌∷◌, ◌++◌, length, get_or, refl, sym, ap, ◌∙◌, arith, eq-eqb, inl, inr}
use Rattle.std.specs.Prelude.{Option, Some, None}
use Rattle.std.specs.Ordering.{nat_cmp, eq_by_cmp}
use Rattle.std.specs.FinMap.{find}
use Rattle.std.proofs.lemmas.Bool.{cases_lt, cases_eq}
use Rattle.std.proofs.lemmas.Bool.Decides.{nat_tests}
use Rattle.std.proofs.lemmas.List.{get_or_past}
use Rattle.std.proofs.lemmas.Nat.Bits.{bit_at-trailing_zeros}
use mir.Syntax.{w64}
use Rattle.grb_core.specs.declared.value.Value.{Value}
use Rattle.grb_core.specs.declared.operator.BinaryOp.{BinaryOp}
use Rattle.grb_core.specs.Operator.{value_of_op}
use Rattle.grb_core.specs.Written.{both_values}
use Rattle.grb_kernels.specs.Bits.{has_bit}
use Rattle.grb_kernels.specs.Typed.{kept, entries_of}
use Rattle.grb_semirings.specs.Open.{marked_at}
use Rattle.grb_semirings.specs.Products.{list_of, products}
use Rattle.grb_sums.specs.Marks.{marks_of, has_any, touched, AreMarks, AreTops}
use Rattle.grb_sums.proofs.MarksOf.{length-marks_of}

differ : true ≡ false → ⊥
differ e = cc

-- a place that is none of a row's has no entry there
pub find-none : {V : Type 0} (value : V → Value) (p : ℕ) (rs : List ℕ) (vs : List V) → ((k : ℕ) → k < length rs → get_or rs k 0 ≡ p → ⊥) → find nat_cmp p (entries_of value rs vs) ≡ None
find-none value p [] vs h = refl
find-none value p (r ∷ rs) [] h = refl
find-none value p (r ∷ rs) (v ∷ vs) h =
    ap (λ b. cond b (Some (value v)) (find nat_cmp p (entries_of value rs vs))) (other p r (h 0 (omega arith)))
    ∙ find-none value p rs vs (λ k l. h (suc k) (omega (arith, l)))
  where
    other : (j c : ℕ) → (c ≡ j → ⊥) → eq_by_cmp nat_cmp j c ≡ false
    other j c h = grind (arith, nat_tests)

-- there are no products with nothing
pub products-none : {V : Type 0} (value : V → Value) (op : BinaryOp) (y : ℕ → Option Value) (ks : List ℕ) (vs : List V) → ((i : ℕ) → i < length ks → y (get_or ks i 0) ≡ None) → products op y (entries_of value ks vs) ≡ []
products-none value op y [] vs h = refl
products-none value op y (k ∷ ks) [] h = refl
products-none value op y (k ∷ ks) (v ∷ vs) h =
    ap (λ w. list_of (both_values (value_of_op op) (Some (value v)) w) ++ products op y (entries_of value ks vs)) (h 0 (omega arith))
    ∙ products-none value op y ks vs (λ i l. h (suc i) (omega (arith, l)))

unmarked : {V : Type 0} (value : V → Value) (ms : List Bool) (vs : List V) (p : ℕ) → p < length vs → marked_at value ms vs p ≡ None → get_or ms p false ≡ false
unmarked value [] vs p l h = refl
unmarked value (m ∷ ms) [] p l h = absurd (omega (arith, l))
unmarked value (m ∷ ms) (v ∷ vs) zero l h = none m h
  where
    none : (m : Bool) → kept (value v) m ≡ None → m ≡ false
    none false h = refl
    none true h = absurd (some h)
      where
        some : Some (value v) ≡ None → ⊥
        some e = cc
unmarked value (m ∷ ms) (v ∷ vs) (suc p) l h = unmarked value ms vs p (omega (arith, l)) h

-- a word without a bit
no_word : (word : ℕ) → word < 2 ^ 64 → ((t : ℕ) → t < 64 → has_bit word t ≡ false) → word ≡ 0
no_word word fits none =
    elim (cases_eq word 0) [
      | inl e ↦ e
      | inr n ↦
          let lowest = bit_at-trailing_zeros w64 word (omega (arith, n)) fits in
          absurd (differ (sym (eq-eqb _ _ lowest.1) ∙ none _ lowest.0))
    ]

module _ {V : Type 0} (value : V → Value) (words tops : List ℕ) (sums : List V) (bits : AreMarks (marks_of (length sums) words) words) (topped : AreTops words tops)
    (words_fit : (w : ℕ) → get_or words w 0 < 2 ^ 64) (tops_fit : (h : ℕ) → h < length tops → get_or tops h 0 < 2 ^ 64) (h : ℕ)
    (none : (p : ℕ) → p < length sums → p / 4096 ≡ h → marked_at value (marks_of (length sums) words) sums p ≡ None) where
  no_mark : (p : ℕ) → p / 4096 ≡ h → get_or (marks_of (length sums) words) p false ≡ false
  no_mark p at =
      elim (cases_lt p (length sums)) [
        | inl l ↦ unmarked value (marks_of (length sums) words) sums p l (none p l at)
        | inr past ↦ get_or_past (marks_of (length sums) words) p false (omega (arith, past, length-marks_of words (length sums)))
      ]

  no_touched : (w : ℕ) → w / 64 ≡ h → get_or words w 0 ≡ 0
  no_touched w at = no_word (get_or words w 0) (words_fit w) (λ t l. bits w t l ∙ no_mark (64 * w + t) (omega (arith, at, l)))

  untouched : (ws : List ℕ) (w : ℕ) → get_or ws w 0 ≡ 0 → get_or (touched ws) w false ≡ false
  untouched [] w e = refl
  untouched (word ∷ ws) zero e = ap has_any e
  untouched (word ∷ ws) (suc w) e = untouched ws w e

  -- where no sum lies open in the words of a word of tops, it has no bit
  pub unreached : get_or tops h 0 ≡ 0
  unreached =
      elim (cases_lt h (length tops)) [
        | inl here ↦ no_word (get_or tops h 0) (tops_fit h here) (λ t l. topped.bits h t l ∙ untouched words (64 * h + t) (no_touched (64 * h + t) (omega (arith, l))))
        | inr past ↦ get_or_past tops h 0 past
      ]
