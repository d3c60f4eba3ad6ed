use Rattle.std.proofs.Common.{◌≡◌, ◌∙◌, ◌-◌, ◌++◌, ◌∷◌, [], suc, ℕ, List, Option, Some, None, length, refl, subst, sym, ap, arith, length-append, length-set}
use Rattle.std.specs.Prelude.{MatchOption, slice_get}
use Rattle.grb_context.specs.Known.{Knowing}
use Rattle.grb_codes.specs.Codes.{success}
use Rattle.grb_c.specs.Opening.{Holds}
use Rattle.grb_c.proofs.Opening.{at_set, get_last, get_left}
use Rattle.grb_c.proofs.open.hand_out_all.Goals as goal

pub loop-at-preserved : goal.loop-at-preserved
loop-at-preserved c =
    let held = c.loop-at.invariant in let n : ℕ = length c.args.passes.now in let at = c.loop-at.at in let m : ℕ = n - 1 - at in
    let context = c.args.context.now.value in let opened : List Knowing = c.args.opened.items in
    let before : List Knowing = c.loop-at.rest.items in let after : List Knowing = c.last_pass.new.passes.items in let pass : Knowing = c.in-Some.pass in
    let code : c.hand_out-code.result ≡ success = grind (arith, c.if-code-ne-SUCCESS.false) in
    let above : n - at ≡ suc m = omega (arith, c.loop-at-test.true) in
    let split : before ≡ after ++ pass ∷ [] = subst (λ (o : Option Knowing). MatchOption o (before ≡ []) (λ p. before ≡ after ++ p ∷ [])) c.in-Some.is c.last_pass.ensures.last in
    let left : length after ≡ m = omega (arith, above, held.left, ap length split, length-append after (pass ∷ [])) in
    let got : slice_get opened m ≡ Some pass =
    sym (held.first m (omega (arith, above))) ∙ ap (λ (l : List Knowing). slice_get l m) split ∙ ap (slice_get (after ++ pass ∷ [])) (sym left) ∙ get_last after pass in
    record {
      passes = c.last_pass.ensures.rest;
      count = length-set c.loop-at.passes _ _ ∙ held.count;
      left = omega (arith, left, c.loop-at-test.true);
      first = λ k lt. sym (get_left after (pass ∷ []) k (omega (arith, lt, left, c.loop-at-test.true))) ∙ ap (λ (l : List Knowing). slice_get l k) (sym split) ∙ held.first k (omega (arith, lt, c.loop-at-test.true));
      hold = λ k from within. at_set (λ (l : ℕ). Holds context c.args.store (λ p. slice_get opened l ≡ Some p)) (λ h. h.raw.session) c.loop-at.passes m c.hand_out-code.new.slot None
          (subst (Holds context c.args.store (λ p. slice_get opened m ≡ Some p)) (sym (c.hand_out-code.ensures.holds code)) (refl, (refl, got)))
          (λ l a b. held.hold l (omega (arith, a, c.loop-at-test.true)) b) k (omega (arith, from, c.loop-at-test.true)) within;
    }
