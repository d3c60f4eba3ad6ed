use Rattle.std.proofs.Common.{◌≡◌, ℕ, ◌+◌, List, [], ◌∷◌, ◌++◌, length, refl, sym, ap, subst, ◌∙◌, arith, length-append}
use Rattle.std.specs.List.{All}
use Rattle.std.proofs.lemmas.List.Elements.{All-tail}
use Rattle.grb_context.specs.Known.{IsPassOf, Knowing}
use Rattle.grb_generations.specs.Seated.{AreNewMembers, IsNewMember, Seated}
use Rattle.grb_generations.proofs.Opening.{AreLeft, left_all, left_head, left_tail, new_more, new_none}
use Rattle.grb_generations.proofs.generations.members_of.Goals as goal

pub passes-preserved : goal.passes-preserved
passes-preserved c =
    let context = c.args.context.now.value in let chain = c.args.generations.now.value in let before = c.passes.invariant in
    let pass : Knowing = c.in-Some.pass in let rest : List Knowing = c.next.new.self.rest.items in let members : List Seated = c.passes.members.items in let made : Seated = c.in_ok-member.member in
    let step : c.passes.pass-iterator.rest.items ≡ pass ∷ rest = c.in-Some.ensures.steps.0 in
    let ours : All (IsPassOf context) (pass ∷ rest) = subst (All (IsPassOf context)) step before.ours in
    let left : AreLeft (length c.args.passes.items) (length members) (pass ∷ rest) = subst (AreLeft (length c.args.passes.items) (length members)) step before.left in
    let head = left_head (length c.args.passes.items) (length members) pass rest left in
    let more : length (members ++ made ∷ []) ≡ length members + 1 = length-append members (made ∷ []) in
    let items : c.push.new.self.items ≡ members ++ made ∷ [] = c.in_ok-push.ensures.items in
    let member : IsNewMember chain context (length members) made = subst (IsNewMember chain context (length members)) (sym c.in_ok-member.ensures)
    (record { chain_is = refl; context_is = refl; number_is = head.0; generation = refl; numbers = refl; none = head.1 }) in
    record {
      ours = All-tail (IsPassOf context) pass rest ours;
      left = subst (λ (n : ℕ). AreLeft (length c.args.passes.items) n rest) (sym (ap length items ∙ more)) (left_tail (length c.args.passes.items) (length members) pass rest left);
      count = omega (arith, before.count, ap length step, ap length items, more);
      members = subst (λ (ms : List Seated). AreNewMembers chain context ms (length ms)) (sym items) (new_more chain context members made before.members member);
    }

pub passes-init : goal.passes-init
passes-init c =
    let context = c.args.context.now.value in let chain = c.args.generations.now.value in let ps : List Knowing = c.args.passes.items in
    let none : c.in_ok-members.members.items ≡ [] = c.in_ok-members.ensures.items in let all : c.into_iter-pass-iterator.result.rest.items ≡ ps = c.into_iter-pass-iterator.ensures.into_iter_gives.0 in
    record {
      ours = subst (All (IsPassOf context)) (sym all) c.requires.ours;
      left = subst (AreLeft (length ps) (length c.in_ok-members.members.items)) (sym all) (subst (λ (n : ℕ). AreLeft (length ps) n ps) (sym (ap length none)) (left_all context.order (length ps) ps c.requires.new));
      count = omega (arith, ap length none, ap length all);
      members = subst (λ (ms : List Seated). AreNewMembers chain context ms (length ms)) (sym none) (new_none chain context);
    }
