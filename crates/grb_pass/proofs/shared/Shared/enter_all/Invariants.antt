use Rattle.std.proofs.Common.{◌≡◌, ◌++◌}
use Rattle.grb_pass.proofs.Prelude.{store_of, AreTaken, IsPassOf, known}
use Rattle.grb_pass.specs.Succeeding.{made_by}
use Rattle.grb_pass.proofs.shared.Shared.enter_all.Given as goal

abbrev pub invariant-calls : goal.invariant-calls
invariant-calls g l = record {
  pass : IsPassOf l.self l.pass;
  number : l.pass.view.number ≡ l.fn.pass.view.number;
  passes : l.pass.view.passes ≡ l.fn.pass.view.passes;
  statuses : l.pass.statuses ≡ l.fn.pass.statuses;
  settled : l.pass.settled ≡ l.fn.pass.settled;
  taken : AreTaken (store_of (known l.pass)) l.call-iterator.rest.items;
  known : known l.pass ++ made_by l.fn.pass.view.number l.call-iterator.rest.items ≡ made_by l.fn.pass.view.number l.fn.calls.items;
}
