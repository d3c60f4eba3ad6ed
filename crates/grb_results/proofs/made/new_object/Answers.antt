use Rattle.std.proofs.Common.{◌≡◌, true, subst}
use Rattle.grb_results.proofs.Prelude.{is_dimension, Call, has_valid_values}
use Rattle.grb_links.proofs.Blank.{both_true}
use Rattle.grb_results.proofs.made.new_object.Goals as goal

pub new-matrix-requires-clause-rows : goal.new-matrix-requires-clause-rows
new-matrix-requires-clause-rows c =
    (both_true (is_dimension c.in-NewMatrix.nrows) (is_dimension c.in-NewMatrix.ncols) (subst (λ (x : Call). has_valid_values c.requires.0 x ≡ true) c.in-NewMatrix.is c.requires.1)).0

pub new-matrix-requires-clause-columns : goal.new-matrix-requires-clause-columns
new-matrix-requires-clause-columns c =
    (both_true (is_dimension c.in-NewMatrix.nrows) (is_dimension c.in-NewMatrix.ncols) (subst (λ (x : Call). has_valid_values c.requires.0 x ≡ true) c.in-NewMatrix.is c.requires.1)).1

pub new-vector-requires : goal.new-vector-requires
new-vector-requires c = record { dimension = subst (λ (x : Call). has_valid_values c.requires.0 x ≡ true) c.in-NewVector.is c.requires.1 }
