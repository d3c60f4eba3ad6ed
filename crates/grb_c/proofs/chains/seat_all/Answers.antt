use Rattle.std.proofs.Common.{◌≡◌, ◌∙◌, ◌-◌, ◌++◌, ◌∷◌, [], suc, ℕ, List, Option, Some, None, length, subst, sym, ap, arith, length-append, length-set}
use Rattle.std.specs.Prelude.{MatchOption, slice_get}
use Rattle.grb_generations.specs.Seated.{Seated}
use Rattle.grb_c.specs.Chains.{HasMember}
use Rattle.grb_codes.specs.Codes.{success}
use Rattle.grb_c.proofs.Opening.{at_set, get_last, get_left}
use Rattle.grb_c.proofs.chains.seat_all.Goals as goal

pub loop-at-preserved : goal.loop-at-preserved
loop-at-preserved c =
    let held = c.loop-at.invariant in let n : ℕ = length c.args.passes.now in let at = c.loop-at.at in let m : ℕ = n - 1 - at in
    let members : List Seated = c.args.members.items in
    let before : List Seated = c.loop-at.rest.items in let after : List Seated = c.last_member.new.members.items in let member : Seated = c.in-Some.member in
    let code : c.seat-code.result ≡ success = grind (arith, c.if-code-ne-SUCCESS.false) in
    let above : n - at ≡ suc m = omega (arith, c.loop-at-test.true) in
    let split : before ≡ after ++ member ∷ [] = subst (λ (o : Option Seated). MatchOption o (before ≡ []) (λ p. before ≡ after ++ p ∷ [])) c.in-Some.is c.last_member.ensures in
    let left : length after ≡ m = omega (arith, above, held.left, ap length split, length-append after (member ∷ [])) in
    let got : slice_get members m ≡ Some member =
    sym (held.first m (omega (arith, above))) ∙ ap (λ (l : List Seated). slice_get l m) split ∙ ap (slice_get (after ++ member ∷ [])) (sym left) ∙ get_last after member in
    record {
      count = length-set c.loop-at.passes _ _ ∙ held.count;
      left = omega (arith, left, c.loop-at-test.true);
      first = λ k lt. sym (get_left after (member ∷ []) k (omega (arith, lt, left, c.loop-at-test.true))) ∙ ap (λ (l : List Seated). slice_get l k) (sym split) ∙ held.first k (omega (arith, lt, c.loop-at-test.true));
      have = λ k from within. at_set (λ (l : ℕ). HasMember members c.args.store l) (λ h. h.raw.session) c.loop-at.passes m c.seat-code.new.slot None
          (member, got, c.seat-code.ensures.has code)
          (λ l a b. held.have l (omega (arith, a, c.loop-at-test.true)) b) k (omega (arith, from, c.loop-at-test.true)) within;
    }
