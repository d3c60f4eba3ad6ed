use Rattle.std.proofs.Common.{◌≡◌, ◌+◌, length}
use Rattle.std.specs.List.{All}
use Rattle.grb_context.specs.Known.{IsPassOf}
use Rattle.grb_generations.specs.Seated.{AreNewMembers}
use Rattle.grb_generations.proofs.Opening.{AreLeft}
use Rattle.grb_generations.proofs.generations.members_of.Given as goal

abbrev pub invariant-passes : goal.invariant-passes
invariant-passes l = record {
  ours : All (IsPassOf l.context.value) l.pass-iterator.rest.items;
  left : AreLeft (length l.fn.passes.items) (length l.members.items) l.pass-iterator.rest.items;
  count : length l.members.items + length l.pass-iterator.rest.items ≡ length l.fn.passes.items;
  members : AreNewMembers l.generations.value l.context.value l.members.items (length l.members.items);
}
