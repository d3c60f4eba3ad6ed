use Rattle.std.proofs.Common.{◌≡◌, drop}
use Rattle.grb_ewise.specs.Marks.{marked}
use Rattle.grb_ewise.proofs.marks.mark.Given as goal

abbrev pub invariant-columns : goal.invariant-columns
invariant-columns l = marked l.here (drop l.column-index l.columns) l.marks ≡ marked l.here l.columns l.initial.marks
