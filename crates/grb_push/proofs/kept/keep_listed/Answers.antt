use Rattle.std.proofs.Common.{◌≡◌, ◌*◌, ◌/◌, ◌%◌, ◌<◌, ◌≤◌, ℕ, Bool, false, cond, inl, inr, length, get_or, arith, refl, ap, sym, ◌∙◌}
use Rattle.std.specs.Prelude.{◌&&◌, not, bit_and}
use Rattle.std.proofs.lemmas.Bool.{cases_eq, cases_lt}
use Rattle.grb_kernels.specs.Bits.{has_bit}
use Rattle.grb_sums.specs.Bits.{is_marked}
use Rattle.grb_push.proofs.KeptMarks.{both_bits, past_words, written_here, written_elsewhere}
use Rattle.grb_push.proofs.kept.keep_listed.Goals as goal

pub words-init : goal.words-init
words-init c = record { done = λ p h. absurd (omega (arith, h)); left = λ p h. refl }

pub words-preserved : goal.words-preserved
words-preserved c =
    let w = c.words.w in
    let words = c.words.words in
    let bits = c.wanted_bits.result in
    let word = bit_and (get_or words w 0) bits in
    let was = c.words.invariant in
    let kept : ℕ → Bool = λ p. is_marked c.args.words.now p && cond c.args.among (is_marked c.args.listed.now p) (not (is_marked c.args.listed.now p)) in
    let inside : w < length words = omega (arith, c.words-test.true, c.words.auto.words) in
    record {
      done = λ p below. elim (cases_eq (p / 64) w) [
        | inl e ↦
            written_here words w word p inside e
            ∙ both_bits (get_or words w 0) bits (p % 64)
            ∙ ap (λ u. has_bit (get_or words u 0) (p % 64) && has_bit bits (p % 64)) (sym e)
            ∙ ap (λ b. b && has_bit bits (p % 64)) (was.left p (omega (arith, e)))
            ∙ ap (λ b. is_marked c.args.words.now p && b) (c.wanted_bits.ensures (p % 64) (omega arith)
            ∙ ap (λ u. cond c.args.among (has_bit (get_or c.args.listed.now u 0) (p % 64)) (not (has_bit (get_or c.args.listed.now u 0) (p % 64)))) (sym e))
        | inr n ↦ written_elsewhere words w word p n ∙ was.done p (omega (arith, below, n))
      ];
      left = λ p above. written_elsewhere words w word p (λ e. omega (arith, e, above)) ∙ was.left p (omega (arith, above));
    }

pub returns : goal.returns
returns c p =
    elim (cases_lt p (64 * c.words.w)) [
      | inl below ↦ c.words.invariant.done p below
      | inr above ↦
          let none : is_marked c.args.words.now p ≡ false = past_words c.args.words.now p (omega (arith, above, c.words-test.false, c.words.auto.words)) in
          c.words.invariant.left p above
          ∙ none
          ∙ sym (ap (λ b. b && cond c.args.among (is_marked c.args.listed.now p) (not (is_marked c.args.listed.now p))) none)
    ]
