-- Lists that objects lend, as their entries.
use Rattle.std.proofs.Common.{◌≡◌, List, [], ◌∷◌, refl, sym, ap, ◌∙◌}
use Rattle.grb_core.specs.declared.value.Value.{Value}
use Rattle.grb_core.specs.declared.monoid.Monoid.{Monoid}
use Rattle.grb_core.specs.Entries.{VectorEntries, MatrixEntries, values_of}
use Rattle.grb_core.specs.Fold.{fold_of}
use Rattle.grb_core.specs.Results.{reduce_of}
use Rattle.grb_lists.specs.Cells.{decoded}

-- the values of entries do not depend on how their cells are written
pub values-decoded : (m : VectorEntries) → values_of (decoded m) ≡ values_of m
values-decoded [] = refl
values-decoded (e ∷ m) = ap (λ (t : List Value). e.1 ∷ t) (values-decoded m)

-- the fold of all values of a matrix is its total
pub total_of : (m : Monoid) (v : Value) (vs : List Value) (k : VectorEntries) (a : MatrixEntries) → v ≡ fold_of m vs → vs ≡ values_of k → decoded k ≡ a → v ≡ reduce_of m a
total_of m v vs k a e p q = e ∙ ap (fold_of m) (p ∙ sym (values-decoded k) ∙ ap values_of q)
