-- Words that are taken one after another, and words between them that have no bits.
use Rattle.std.proofs.Common.{◌≡◌, ℕ, zero, suc, ◌+◌, ◌-◌, ◌*◌, ◌/◌, ◌%◌, ◌<◌, ◌≤◌, Bool, true, false, List, [], ◌++◌, refl, sym, ap, subst, ◌∙◌, arith, length, get_or, set, drop, inl, inr}
use Rattle.std.specs.Prelude.{Some, nat_eq}
use Rattle.std.proofs.lemmas.Bool.{cases_lt, cases_eq}
use Rattle.std.proofs.lemmas.List.{get_or-set_same, get_or-set_other, get_or_past}
use Rattle.std.proofs.lemmas.Nat.Bits.{bit_at-zero}
use Rattle.grb_core.specs.declared.value.Value.{Value}
use Rattle.grb_core.specs.Entries.{VectorEntries}
use Rattle.grb_kernels.specs.Typed.{first_entries}
use Rattle.grb_kernels.proofs.Lists.{append_nil}
use Rattle.grb_sums.specs.Open.{marked_from}
use Rattle.grb_kernels.specs.Bits.{has_bit}
use Rattle.grb_sums.specs.Bits.{value_at}
use Rattle.grb_sums.specs.Marks.{bits_from, marks_of, AreMarks, HoldUnmarked}
use Rattle.grb_sums.proofs.Cleared.{cleared_next}
use Rattle.grb_sums.proofs.LowestBit.{no_bits, same_bits}
use Rattle.grb_sums.proofs.MarksOf.{length-marks_of}
use Rattle.grb_sums.proofs.WordByWord.{word_step, words_all}

no_bit_of : (word : ℕ) → word ≡ 0 → (t : ℕ) → has_bit word t ≡ false
no_bit_of word e t = ap (λ x. has_bit x t) e ∙ ap (λ (b : ℕ). nat_eq b 1) (bit_at-zero t)

module _ {V : Type 0} (tv : V → Value) (v : Value) (name : ℕ → ℕ) (words : List ℕ) (ss : List V) where
  abbrev pub ms : List Bool
  ms = marks_of (length ss) words

  -- the marked values from a word on
  abbrev pub rest_from : ℕ → VectorEntries
  rest_from n = marked_from tv name (64 * n) (drop (64 * n) ms) (drop (64 * n) ss)

  -- the words before n are written and cleared, and the others are as they were
  pub record IsTaken (n k : ℕ) (words2 columns : List ℕ) (ss2 values : List V) : Type 0 where
    pub zeros : (u : ℕ) → u < n → get_or words2 u 0 ≡ 0
    pub later : (u : ℕ) → n ≤ u → get_or words2 u 0 ≡ get_or words u 0
    pub left : (i : ℕ) → 64 * n ≤ i → value_at tv ss2 i ≡ value_at tv ss i
    pub clear : (p : ℕ) → p < 64 * n → p < length ss → value_at tv ss2 p ≡ Some v
    pub so_far : first_entries tv k columns values ++ rest_from n ≡ marked_from tv name 0 ms ss

  pub taken_begins : (columns : List ℕ) (values : List V) → IsTaken 0 0 words columns ss values
  taken_begins columns values = record {
    zeros = λ u h. absurd (omega (arith, h));
    later = λ u h. refl;
    left = λ i h. refl;
    clear = λ p h l. absurd (omega (arith, h));
    so_far = refl;
  }

  module _ (are : AreMarks ms words) where
    skip_words : (d n : ℕ) (out total : VectorEntries) → ((u : ℕ) → n ≤ u → u < n + d → get_or words u 0 ≡ 0) → out ++ rest_from n ≡ total → out ++ rest_from (n + d) ≡ total
    skip_words zero n out total none e = subst (λ j. out ++ rest_from j ≡ total) (let k : n ≡ n + 0 = omega arith in k) e
    skip_words (suc d) n out total none e =
        let nothing : bits_from name (has_bit (get_or words n 0)) (value_at tv ss) (64 * n) 64 0 ≡ [] = no_bits name (has_bit (get_or words n 0)) (value_at tv ss) (64 * n) 64 0 (no_bit_of (get_or words n 0) (none n (omega arith) (omega arith))) in
        let one : out ++ rest_from (n + 1) ≡ total = word_step tv name ms ss (length-marks_of words (length ss)) words n out out total are e (sym (append_nil out) ∙ ap (λ m. out ++ m) (sym nothing)) in
        subst (λ j. out ++ rest_from j ≡ total) (let k : n + 1 + d ≡ n + suc d = omega arith in k) (skip_words d (n + 1) out total (λ u h l. none u (omega (arith, h)) (omega (arith, l))) one)

    no_mark_in : (p : ℕ) → get_or words (p / 64) 0 ≡ 0 → get_or ms p false ≡ false
    no_mark_in p e =
        ap (λ k. get_or ms k false) (let is : p ≡ 64 * (p / 64) + p % 64 = omega arith in is)
        ∙ sym (are (p / 64) (p % 64) (omega arith))
        ∙ no_bit_of (get_or words (p / 64) 0) e (p % 64)

    module _ (held : HoldUnmarked tv v ms ss) where
      -- words without bits are as good as taken
      pub taken_skip : (n w k : ℕ) (words2 columns : List ℕ) (ss2 values : List V) → IsTaken n k words2 columns ss2 values → n ≤ w → ((u : ℕ) → n ≤ u → u < w → get_or words u 0 ≡ 0) → IsTaken w k words2 columns ss2 values
      taken_skip n w k words2 columns ss2 values was to none = record {
        zeros = λ u h. elim (cases_lt u n) [
          | inl under ↦ was.zeros u under
          | inr from ↦ was.later u from ∙ none u from h
        ];
        later = λ u h. was.later u (omega (arith, h, to));
        left = λ i h. was.left i (omega (arith, h, to));
        clear = λ p h l. elim (cases_lt p (64 * n)) [
          | inl under ↦ was.clear p under l
          | inr from ↦ was.left p from ∙ held p l (no_mark_in p (none (p / 64) (omega (arith, from)) (omega (arith, h))))
        ];
        so_far = subst (λ j. first_entries tv k columns values ++ rest_from j ≡ marked_from tv name 0 ms ss) (let e : n + (w - n) ≡ w = omega (arith, to) in e)
            (skip_words (w - n) n (first_entries tv k columns values) (marked_from tv name 0 ms ss) (λ u h l. none u h (omega (arith, l, to))) was.so_far);
      }

      -- one more word is taken
      pub taken_more : (w k k2 : ℕ) (words2 columns columns2 : List ℕ) (ss2 ss3 values values2 : List V) → IsTaken w k words2 columns ss2 values → w < length words2
          → first_entries tv k2 columns2 values2 ≡ first_entries tv k columns values ++ bits_from name (has_bit (get_or words2 w 0)) (value_at tv ss2) (64 * w) 64 0
          → ((t : ℕ) → t < 64 → has_bit (get_or words2 w 0) t ≡ true → value_at tv ss3 (64 * w + t) ≡ Some v)
          → ((i : ℕ) → value_at tv ss2 i ≡ Some v → value_at tv ss3 i ≡ Some v)
          → ((i : ℕ) → 64 * w + 64 ≤ i → value_at tv ss3 i ≡ value_at tv ss2 i) → IsTaken (w + 1) k2 (set words2 w 0) columns2 ss3 values2
      taken_more w k k2 words2 columns columns2 ss2 ss3 values values2 was lt entries clear stay above =
          let out = first_entries tv k columns values in
          let here : get_or words2 w 0 ≡ get_or words w 0 = was.later w (omega arith) in
          record {
            zeros = λ u h. elim (cases_eq u w) [
              | inl e ↦ ap (λ x. get_or (set words2 w 0) x 0) e ∙ get_or-set_same words2 w 0 0 lt
              | inr n ↦ get_or-set_other words2 w u 0 0 n ∙ was.zeros u (omega (arith, h, n))
            ];
            later = λ u h. get_or-set_other words2 w u 0 0 (λ e. omega (arith, e, h)) ∙ was.later u (omega (arith, h));
            left = λ i h. above i (omega (arith, h)) ∙ was.left i (omega (arith, h));
            clear = cleared_next tv v ms ss ss2 ss3 words w are held was.left was.clear (λ t l h. clear t l (ap (λ x. has_bit x t) here ∙ h)) stay;
            so_far = word_step tv name ms ss (length-marks_of words (length ss)) words w out (first_entries tv k2 columns2 values2) (marked_from tv name 0 ms ss) are was.so_far
                (entries
                ∙ ap (λ x. out ++ bits_from name (has_bit x) (value_at tv ss2) (64 * w) 64 0) here
                ∙ ap (λ m. out ++ m) (same_bits name (has_bit (get_or words w 0)) (value_at tv ss2) (value_at tv ss) (64 * w) 64 0 was.left));
          }

  -- all words are taken
  module _ (n k : ℕ) (words2 columns : List ℕ) (ss2 values : List V) (was : IsTaken n k words2 columns ss2 values) where
    pub taken_entries : length ss ≤ 64 * n → first_entries tv k columns values ≡ marked_from tv name 0 ms ss
    taken_entries long = words_all tv name ms ss (length-marks_of words (length ss)) (64 * n) _ _ (omega (arith, long, length-marks_of words (length ss))) was.so_far

    pub taken_zeros : length words ≤ n → (u : ℕ) → get_or words2 u 0 ≡ 0
    taken_zeros all u =
        elim (cases_lt u n) [
          | inl under ↦ was.zeros u under
          | inr from ↦ was.later u from ∙ get_or_past words u 0 (omega (arith, from, all))
        ]
