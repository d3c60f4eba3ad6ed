use Rattle.std.proofs.Common.{◌≡◌, take}
use Rattle.std.specs.Prelude.{map}
use Rattle.grb_maps.proofs.changing.write_changed.Given as goal

abbrev pub invariant-values : goal.invariant-values
invariant-values g l = map g.T.Scalar.value (take l.at l.made) ≡ map (g.C.Change.gives l.change) (map g.T.Scalar.value (take l.at l.values))
