use Rattle.std.proofs.Common.{◌≡◌, ℕ, sym, subst, ◌∙◌}
use Rattle.grb_order.specs.Order.{room_of}
use Rattle.grb_call.specs.History.{store_of}
use Rattle.grb_context.specs.Known.{known}
use Rattle.grb_numbers.specs.Numbers.{NumbersSeen}
use Rattle.grb_generations.specs.Keeping.{Suffice, kept_store}
use Rattle.grb_generations.proofs.Keeping.{room_first}
use Rattle.grb_generations.proofs.member.Member.numbers_for.Goals as goal

pub returns-clause-suffice : goal.returns-clause-suffice
returns-clause-suffice c =
    let is : c.room_of_first.result ≡ room_of c.args.context.now.order =
    room_first c.args.context.now (kept_store (store_of (known c.args.self.now.pass))) c.args.self.now.chain.members c.args.passes.now.items c.requires.begun c.room_of_first.ensures.some c.room_of_first.result c.room_of_first.ensures.room in
    subst (λ (n : ℕ). Suffice c.in-Ok.numbers n) is (c.suffice.ensures.enough c.if-not-suffice.false)

pub returns-then-not-suffice-clause-refused : goal.returns-then-not-suffice-clause-refused
returns-then-not-suffice-clause-refused c =
    let is : c.room_of_first.result ≡ room_of c.args.context.now.order =
    room_first c.args.context.now (kept_store (store_of (known c.args.self.now.pass))) c.args.self.now.chain.members c.args.passes.now.items c.requires.begun c.room_of_first.ensures.some c.room_of_first.result c.room_of_first.ensures.room in
    (c.requires.end, λ suffices. c.suffice.ensures.few c.if-not-suffice.true (subst (λ (y : NumbersSeen × ℕ). Suffice y.0 y.1) (λ i. (sym c.in-Ok.ensures i, sym (is ∙ c.requires.room) i)) suffices))
