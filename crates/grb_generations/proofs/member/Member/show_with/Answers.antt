use Rattle.std.proofs.Common.{ap, sym, subst, ◌∙◌}
use Rattle.grb_order.specs.Order.{room_of}
use Rattle.grb_call.specs.History.{store_of}
use Rattle.grb_context.specs.Known.{Shared, known}
use Rattle.grb_context.specs.Succeeding.{AreBegun}
use Rattle.grb_numbers.specs.Numbers.{NumbersSeen}
use Rattle.grb_generations.specs.Keeping.{Suffice, kept_store}
use Rattle.grb_generations.proofs.member.Member.show_with.Goals as goal

pub show_shared-requires-clause-numbers : goal.show_shared-requires-clause-numbers
show_shared-requires-clause-numbers c = c.in_ok-numbers.ensures.ok ∙ c.requires.numbers

pub show_shared-requires-clause-suffice : goal.show_shared-requires-clause-suffice
show_shared-requires-clause-suffice c =
    subst (λ (y : NumbersSeen × Shared). Suffice y.0 (room_of y.1.order)) (λ i. (sym c.in_ok-numbers.ensures.ok i, sym c.in_ok-context.ensures.ok i)) c.requires.suffice

pub show_shared-requires-clause-room : goal.show_shared-requires-clause-room
show_shared-requires-clause-room c = ap (λ (x : Shared). room_of x.order) c.in_ok-context.ensures.ok ∙ c.requires.room

pub show_shared-requires-clause-begun : goal.show_shared-requires-clause-begun
show_shared-requires-clause-begun c =
    subst (λ (x : Shared). AreBegun x (kept_store (store_of (known c.args.self.now.pass))) c.args.self.now.chain.members c.args.passes.items) (sym c.in_ok-context.ensures.ok) c.requires.begun
