-- Words that have a bit, by the bits of a second level.
use Rattle.std.proofs.Common.{◌≡◌, ◌≢◌, ℕ, zero, suc, ◌+◌, ◌-◌, ◌*◌, ◌/◌, ◌%◌, ◌<◌, ◌≤◌, Bool, true, false, List, [], ◌∷◌, ◌++◌, refl, sym, ap, subst, ◌∙◌, arith, length, get_or, set, inl, inr}
use Rattle.std.specs.Prelude.{Some, nat_eq}
use Rattle.std.proofs.lemmas.Bool.{cases_lt, cases_order}
use Rattle.std.proofs.lemmas.List.{length-set, get_or_past}
use Rattle.std.proofs.lemmas.Nat.Bits.{bit_at-zero}
use Rattle.grb_core.specs.declared.value.Value.{Value}
use Rattle.grb_kernels.specs.Typed.{first_entries}
use Rattle.grb_kernels.specs.Bits.{has_bit}
use Rattle.grb_sums.specs.Bits.{value_at}
use Rattle.grb_sums.specs.Marks.{has_any, touched, bits_from, marks_of, AreMarks, HoldUnmarked, AreTops, AreNoTops}
use Rattle.grb_sums.proofs.Taken.{IsTaken, taken_skip, taken_more}

differ : false ≡ true → ⊥
differ e = cc

no_bit : (word t : ℕ) → word ≡ 0 → has_bit word t ≡ false
no_bit word t e = ap (λ x. has_bit x t) e ∙ ap (λ (b : ℕ). nat_eq b 1) (bit_at-zero t)

pub any_of_bit : (word t : ℕ) → has_bit word t ≡ true → has_any word ≡ true
any_of_bit zero t h = absurd (differ (sym (no_bit 0 t refl) ∙ h))
any_of_bit (suc word) t h = refl

none_of : (word : ℕ) → has_any word ≡ false → word ≡ 0
none_of zero h = refl
none_of (suc word) h = absurd (differ (sym h))

pub length-touched : (words : List ℕ) → length (touched words) ≡ length words
length-touched [] = refl
length-touched (word ∷ words) = ap suc (length-touched words)

-- a bit of tops stands for a word
pub top_in_range : (words tops : List ℕ) (h t : ℕ) → AreMarks (touched words) tops → t < 64 → has_bit (get_or tops h 0) t ≡ true → 64 * h + t < length words
top_in_range words tops h t are low has =
    elim (cases_lt (64 * h + t) (length (touched words))) [
      | inl lt ↦ omega (arith, lt, length-touched words)
      | inr past ↦ absurd (differ (sym (get_or_past (touched words) (64 * h + t) false past) ∙ sym (are h t low) ∙ has))
    ]

-- a word gets a bit
pub touched-set : (words : List ℕ) (q new : ℕ) → has_any new ≡ true → touched (set words q new) ≡ set (touched words) q true
touched-set [] q new h = refl
touched-set (word ∷ words) zero new h = ap (λ (b : Bool). b ∷ touched words) h
touched-set (word ∷ words) (suc q) new h = ap (λ (t : List Bool). has_any word ∷ t) (touched-set words q new h)

untouched : (words : List ℕ) (u : ℕ) → get_or (touched words) u false ≡ false → get_or words u 0 ≡ 0
untouched [] u h = refl
untouched (word ∷ words) zero h = none_of word h
untouched (word ∷ words) (suc u) h = untouched words u h

none-touched : (words : List ℕ) → ((w : ℕ) → get_or words w 0 ≡ 0) → (p : ℕ) → get_or (touched words) p false ≡ false
none-touched [] h p = refl
none-touched (word ∷ words) h zero = ap has_any (h 0)
none-touched (word ∷ words) h (suc p) = none-touched words (λ w. h (suc w)) p

-- where no word has a bit, there are no bits of words
pub no_tops : (words tops : List ℕ) → ((w : ℕ) → get_or words w 0 ≡ 0) → AreNoTops words tops → AreTops words tops
no_tops words tops none are = record {
  long = are.long;
  bits = λ h t l. no_bit (get_or tops h 0) t (are.none h) ∙ sym (none-touched words none (64 * h + t));
}

-- the bit of a word is set together with that of a place in it
pub tops_marked : (words words2 tops tops2 : List ℕ) (q : ℕ) → AreTops words tops → touched words2 ≡ set (touched words) q true → AreMarks (set (touched words) q true) tops2 → length tops2 ≡ length tops → AreTops words2 tops2
tops_marked words words2 tops tops2 q was is bits same =
    let long : length words2 ≡ length words = sym (length-touched words2) ∙ ap length is ∙ length-set (touched words) q true ∙ length-touched words in
    record {
      long = same ∙ was.long ∙ ap (λ n. n / 64 + 1) (sym long);
      bits = subst (λ (m : List Bool). AreMarks m tops2) (sym is) bits;
    }

-- a bit that is left is above the lowest
pub after_lowest : (bit bit' : ℕ → Bool) (low t : ℕ) → ((i : ℕ) → i < low → bit i ≡ false) → bit' low ≡ false → ((i : ℕ) → bit' i ≡ true → bit i ≡ true) → bit' t ≡ true → low < t
after_lowest bit bit' low t below gone among has =
    elim (cases_order t low) [
      | inl e ↦ absurd (differ (sym gone ∙ ap bit' (sym e) ∙ has))
      | inr (inl h) ↦ absurd (differ (sym (below t h) ∙ among t has))
      | inr (inr h) ↦ h
    ]

module _ {V : Type 0} (tv : V → Value) (v : Value) (name : ℕ → ℕ) (words : List ℕ) (ss : List V) where
  -- of the words of one word of tops those before some place are taken, and the others that have a bit are at the bits that are left
  pub record IsAmong (h left k : ℕ) (words2 columns : List ℕ) (ss2 values : List V) : Type 0 where
    pub next : ℕ
    pub from : 64 * h ≤ next
    pub upto : next ≤ 64 * h + 64
    pub few : k ≤ 64 * next
    pub ahead : (t : ℕ) → has_bit left t ≡ true → next ≤ 64 * h + t
    pub all : (t : ℕ) → t < 64 → next ≤ 64 * h + t → has_bit left t ≡ false → get_or words (64 * h + t) 0 ≡ 0
    pub taken : IsTaken tv v name words ss next k words2 columns ss2 values

  module _ (tops : List ℕ) (are : AreMarks (marks_of (length ss) words) words) (held : HoldUnmarked tv v (marks_of (length ss) words) ss) (topped : AreMarks (touched words) tops) where
    pub among_begins : (h left k : ℕ) (words2 columns : List ℕ) (ss2 values : List V) → left ≡ get_or tops h 0 → IsTaken tv v name words ss (64 * h) k words2 columns ss2 values → k ≤ 64 * (64 * h) → IsAmong h left k words2 columns ss2 values
    among_begins h left k words2 columns ss2 values is was few = record {
      next = 64 * h;
      from = omega arith;
      upto = omega arith;
      few = few;
      ahead = λ t b. omega arith;
      all = λ t l f gone. untouched words (64 * h + t) (sym (topped h t l) ∙ ap (λ x. has_bit x t) (sym is) ∙ gone);
      taken = was;
    }

    -- words of tops without a bit are as good as taken
    pub tops_skipped : (h h2 k : ℕ) (words2 columns : List ℕ) (ss2 values : List V) → h ≤ h2 → ((q : ℕ) → h ≤ q → q < h2 → get_or tops q 0 ≡ 0)
        → IsTaken tv v name words ss (64 * h) k words2 columns ss2 values → IsTaken tv v name words ss (64 * h2) k words2 columns ss2 values
    tops_skipped h h2 k words2 columns ss2 values onward none was =
        taken_skip tv v name words ss are held (64 * h) (64 * h2) k words2 columns ss2 values was (omega (arith, onward))
        (λ u f l.
        let is : 64 * (u / 64) + u % 64 ≡ u = omega arith in
        let zero : get_or tops (u / 64) 0 ≡ 0 = none (u / 64) (omega (arith, f)) (omega (arith, l)) in
        subst (λ x. get_or words x 0 ≡ 0) is (untouched words (64 * (u / 64) + u % 64) (sym (topped (u / 64) (u % 64) (omega arith)) ∙ no_bit (get_or tops (u / 64) 0) (u % 64) zero)))

    module _ (h left k : ℕ) (words2 columns : List ℕ) (ss2 values : List V) (was : IsAmong h left k words2 columns ss2 values) where
      -- the words up to a place have no bits
      skipped : (n : ℕ) → n ≤ 64 * h + 64 → ((t : ℕ) → t < 64 → 64 * h + t < n → has_bit left t ≡ false) → (u : ℕ) → was.next ≤ u → u < n → get_or words u 0 ≡ 0
      skipped n upto none u f l =
          let from = was.from in
          let t64 : u - 64 * h < 64 = omega (arith, f, l, from, upto) in
          let is : 64 * h + (u - 64 * h) ≡ u = omega (arith, f, from) in
          subst (λ x. get_or words x 0 ≡ 0) is (was.all (u - 64 * h) t64 (omega (arith, is, f)) (none (u - 64 * h) t64 (omega (arith, is, l))))

      -- the word of the lowest bit is taken
      pub among_more : (left' k2 low : ℕ) (columns2 : List ℕ) (ss3 values2 : List V) → low < 64 → has_bit left low ≡ true → ((i : ℕ) → i < low → has_bit left i ≡ false) → has_bit left' low ≡ false
          → ((i : ℕ) → i < 64 → i ≢ low → has_bit left' i ≡ has_bit left i) → ((i : ℕ) → has_bit left' i ≡ true → has_bit left i ≡ true) → 64 * h + low < length words2 → k2 ≤ 64 * (64 * h + low) + 64
          → first_entries tv k2 columns2 values2 ≡ first_entries tv k columns values ++ bits_from name (has_bit (get_or words2 (64 * h + low) 0)) (value_at tv ss2) (64 * (64 * h + low)) 64 0
          → ((t : ℕ) → t < 64 → has_bit (get_or words2 (64 * h + low) 0) t ≡ true → value_at tv ss3 (64 * (64 * h + low) + t) ≡ Some v)
          → ((i : ℕ) → value_at tv ss2 i ≡ Some v → value_at tv ss3 i ≡ Some v)
          → ((i : ℕ) → 64 * (64 * h + low) + 64 ≤ i → value_at tv ss3 i ≡ value_at tv ss2 i) → IsAmong h left' k2 (set words2 (64 * h + low) 0) columns2 ss3 values2
      among_more left' k2 low columns2 ss3 values2 low64 has below gone same among inside most entries clear stay above =
          let w = 64 * h + low in
          let ahead : was.next ≤ w = was.ahead low has in
          record {
            next = w + 1;
            from = omega arith;
            upto = omega (arith, low64);
            few = omega (arith, most);
            ahead = λ t b. let l = after_lowest (has_bit left) (has_bit left') low t below gone among b in omega (arith, l);
            all = λ t l f none. was.all t l (omega (arith, ahead, f)) (sym (same t l (λ e. omega (arith, f, e))) ∙ none);
            taken = taken_more tv v name words ss are held w k k2 words2 columns columns2 ss2 ss3 values values2
                (taken_skip tv v name words ss are held was.next w k words2 columns ss2 values was.taken ahead (skipped w (omega (arith, low64)) (λ t l u. below t (omega (arith, u))))) inside entries clear stay above;
          }

      -- after the last bit all are
      pub among_ends : left ≡ 0 → IsTaken tv v name words ss (64 * (h + 1)) k words2 columns ss2 values
      among_ends none =
          let upto = was.upto in
          taken_skip tv v name words ss are held was.next (64 * (h + 1)) k words2 columns ss2 values was.taken (omega (arith, upto)) (skipped (64 * (h + 1)) (omega arith) (λ t l u. no_bit left t none))
