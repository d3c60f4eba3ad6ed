use Rattle.std.proofs.Common.{◌≡◌, length, take}
use Rattle.std.specs.Prelude.{map}
use Rattle.grb_push.proofs.push.make_each.Given as goal

-- what is made of the values so far
abbrev pub invariant-values : goal.invariant-values
invariant-values g l =
    let tv = g.T.Scalar.value in
    record {
      long : length l.made ≡ length l.values;
      so_far : map tv (take l.i l.made) ≡ map (λ v. g.R.Term.gives l.term (tv v)) (take l.i l.values);
    }
