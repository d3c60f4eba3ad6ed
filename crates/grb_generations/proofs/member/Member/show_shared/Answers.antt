use Rattle.std.proofs.Common.{◌≡◌, ℕ, ap, length, sym, subst, ◌∙◌}
use Rattle.grb_slots.specs.Row.{AllFit}
use Rattle.grb_call.specs.History.{store_of}
use Rattle.grb_context.specs.Known.{Shared, known}
use Rattle.grb_context.specs.Succeeding.{AreBegun}
use Rattle.grb_numbers.specs.Numbers.{NumbersSeen}
use Rattle.grb_numbers.specs.Seen.{AreNumbersOf}
use Rattle.grb_numbers.proofs.Next.{next_numbers_show_the_same}
use Rattle.grb_order.specs.Order.{room_of}
use Rattle.grb_generations.specs.Keeping.{Suffice, kept_store}
use Rattle.grb_generations.specs.Reasons.{IsMember}
use Rattle.grb_generations.specs.Seated.{GoesOn, Seated}
use Rattle.grb_generations.specs.declared.told.Told.{Told}
use Rattle.grb_generations.specs.Chain.{Chain}
use Rattle.grb_generations.proofs.Ending.{is_true, may_follow}
use Rattle.grb_generations.proofs.Keeping.{all_go_on, numbers_at_end}
use Rattle.grb_generations.proofs.member.Member.show_shared.Goals as goal

pub seats_at-requires : goal.seats_at-requires
seats_at-requires c =
    let m : Seated = c.args.self.now in
    let member : IsMember m = subst IsMember c.self.view_is c.self.invariant.0 in
    let of : AreNumbersOf m.numbers (store_of (known m.pass)) = numbers_at_end m.numbers m.pass member.numbers c.requires.end in
    let told : Told = record { context = c.args.context.value; numbers = c.args.numbers.value; last = m.pass } in
    let all : AllFit (λ k p. GoesOn m.chain.room m.chain.members told p × (p.view.number ≡ k)) c.args.passes.items =
    all_go_on next_numbers_show_the_same m.chain.room m.chain.members told m.numbers c.requires.end of c.requires.numbers c.requires.suffice c.requires.room c.args.passes.items c.requires.begun in
    record {
      passes = λ k p e. record {
        goes_on = subst (λ (y : Chain × Told). GoesOn y.0.room y.0.members y.1 p) (λ i. (sym c.next_site-site.ensures.chain i, sym c.next_site-site.ensures.told i)) (all k p e).0;
        number_is = (all k p e).1;
      };
    }

pub turn_to-requires-clause-follows : goal.turn_to-requires-clause-follows
turn_to-requires-clause-follows c =
    let m : Seated = c.args.self.now in let told = c.next_site-site.ensures.told in let next : Told = c.next_site-site.result.mark in let passes = c.args.passes.items in
    let member : IsMember m = subst IsMember c.self.view_is c.self.invariant.0 in
    let context : next.context ≡ c.args.context.value = ap (λ (t : Told). t.context) told in
    let numbers : next.numbers ≡ c.args.numbers.value = ap (λ (t : Told). t.numbers) told in
    let begun : AreBegun c.args.context.value (kept_store (store_of (known m.pass))) (length passes) passes = subst (λ (n : ℕ). AreBegun c.args.context.value (kept_store (store_of (known m.pass))) n passes) (sym c.requires.begun.count) c.requires.begun in
    may_follow m next passes member c.requires.end (ap (λ (t : Told). t.last) told)
    (subst (λ (x : Shared). AreBegun x (kept_store (store_of (known m.pass))) (length passes) passes) (sym context) begun)
    c.requires.begun.count
    (numbers ∙ c.requires.numbers)
    (subst (λ (y : NumbersSeen × Shared). Suffice y.0 (room_of y.1.order)) (λ i. (sym numbers i, sym context i)) c.requires.suffice)

pub returns-clause-moved : goal.returns-clause-moved
returns-clause-moved c = λ e. c.turn_to.ensures.moved (is_true c.turn_to.result e)
