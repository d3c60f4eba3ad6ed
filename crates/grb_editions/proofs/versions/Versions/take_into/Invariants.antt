use Rattle.std.proofs.Common.{◌≡◌}
use Rattle.grb_editions.proofs.versions.Versions.take_into.Given as goal

abbrev pub invariant-looks : goal.invariant-looks
invariant-looks l = l.table ≡ l.initial.table
