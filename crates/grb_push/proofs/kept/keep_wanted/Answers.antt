use Rattle.std.proofs.Common.{◌≡◌, ◌*◌, ◌<◌, ℕ, List, Bool, false, cond, inl, inr, length, arith, refl, ap, sym, subst, ◌∙◌}
use Rattle.std.specs.Prelude.{◌&&◌, not}
use Rattle.std.proofs.lemmas.Bool.{cases_lt}
use Rattle.grb_sums.specs.Bits.{is_marked}
use Rattle.grb_sums.proofs.SumsByColumn.{nothing_marked}
use Rattle.grb_push.specs.Wanted.{is_among, is_wanted}
use Rattle.grb_push.proofs.KeptMarks.{past_words}
use Rattle.grb_push.proofs.kept.keep_wanted.Goals as goal

pub mark_each-requires : goal.mark_each-requires
mark_each-requires c = record {
  none = λ p. ap (λ (ws : List ℕ). is_marked ws p) (c.as_mut_slice-bits.ensures.value ∙ c.in_ok-listed.ensures.items_if_clones_equal (λ y e. e)) ∙ nothing_marked (length c.args.words.now) p;
}

pub returns : goal.returns
returns c p =
    let w = c.args.wanted.now in
    let words = c.args.words.now in
    let listed = c.mark_each.new.words in
    c.keep_listed.ensures p
    ∙ elim (cases_lt p (64 * length words)) [
      | inl inside ↦ ap (λ b. is_marked words p && cond w.among b (not b)) (c.mark_each.ensures p (omega (arith, inside, ap length c.as_mut_slice-bits.ensures.value, c.in_ok-listed.ensures.len)))
      | inr past ↦
          let none : is_marked words p ≡ false = past_words words p past in
          ap (λ b. b && cond w.among (is_marked listed p) (not (is_marked listed p))) none
          ∙ sym (ap (λ b. b && is_wanted w.among w.names.now p) none)
    ]
