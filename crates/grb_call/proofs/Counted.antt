-- How many objects of each sort there are after calls: one more for each call at most.
use Rattle.std.proofs.Common.{ℕ, ◌+◌, ◌≤◌, List, [], ◌∷◌, ◌++◌, length, slice_set, arith, length-set, Option, Some, None}
use Rattle.std.specs.Option.{option_map_or}
use Rattle.grb_core.specs.declared.refusal.Refusal.{Refusal}
use Rattle.grb_call.specs.declared.call.Call.{Call}
use Rattle.grb_call.specs.declared.call.Call.TheVariants as call
use Rattle.grb_call.specs.declared.ids.Object.{Object}
use Rattle.grb_call.specs.declared.ids.Object.TheVariants as object
use Rattle.grb_call.specs.Refused.{refused_by_shapes, reshaped, shapes_after}
use Rattle.grb_call.specs.Shapes.{ObjectShapes}
use Rattle.grb_call.specs.Store.{Store}
use Rattle.grb_call.specs.After.{changed, output_changed, after}
use Rattle.grb_call.specs.History.{after_all}
use Rattle.grb_call.proofs.Changed.{changed_holds}
use Rattle.grb_call.proofs.ObjectLists.{length-push}
use Rattle.grb_call.proofs.ObjectsAfter.{after_holds}

pushed : {X : Type 0} (xs : List X) (x : X) → length (xs ++ x ∷ []) ≤ length xs + 1
pushed xs x = omega (arith, length-push xs x)

put : {X : Type 0} (xs : List X) (n : ℕ) (x : X) → length (slice_set xs n x) ≤ length xs + 1
put xs n x = omega (arith, length-set xs n x)

module _ (s : Store) where
  matrices_output : (c : Call) (q : Option Object) → length (output_changed s c q).matrices ≤ length s.matrices + 1
  matrices_output c None = omega arith
  matrices_output c (Some (object.Matrix a)) = put s.matrices a.0 _
  matrices_output c (Some (object.Vector v)) = omega arith

  matrices_changed : (c : Call) → length (changed s c).matrices ≤ length s.matrices + 1
  matrices_changed c = changed_holds (λ t. length t.matrices ≤ length s.matrices + 1) s c (λ m. pushed s.matrices m) (λ x. omega arith) (λ q is. matrices_output c q)

  matrices_after : (c : Call) → length (after s c).matrices ≤ length s.matrices + 1
  matrices_after c = after_holds (λ t. length t.matrices ≤ length s.matrices + 1) s c (omega arith) (matrices_changed c)

pub matrices_after_all : (s : Store) (cs : List Call) → length (after_all s cs).matrices ≤ length s.matrices + length cs
matrices_after_all s [] = omega arith
matrices_after_all s (c ∷ cs) = let one = matrices_after s c in let rest = matrices_after_all (after s c) cs in omega arith

module _ (s : Store) where
  vectors_output : (c : Call) (q : Option Object) → length (output_changed s c q).vectors ≤ length s.vectors + 1
  vectors_output c None = omega arith
  vectors_output c (Some (object.Matrix a)) = omega arith
  vectors_output c (Some (object.Vector v)) = put s.vectors v.0 _

  vectors_changed : (c : Call) → length (changed s c).vectors ≤ length s.vectors + 1
  vectors_changed c = changed_holds (λ t. length t.vectors ≤ length s.vectors + 1) s c (λ m. omega arith) (λ x. pushed s.vectors x) (λ q is. vectors_output c q)

  vectors_after : (c : Call) → length (after s c).vectors ≤ length s.vectors + 1
  vectors_after c = after_holds (λ t. length t.vectors ≤ length s.vectors + 1) s c (omega arith) (vectors_changed c)

pub vectors_after_all : (s : Store) (cs : List Call) → length (after_all s cs).vectors ≤ length s.vectors + length cs
vectors_after_all s [] = omega arith
vectors_after_all s (c ∷ cs) = let one = vectors_after s c in let rest = vectors_after_all (after s c) cs in omega arith

matrices_reshaped : (s : ObjectShapes) (c : Call) → length (reshaped s c).matrices ≤ length s.matrices + 1
matrices_reshaped s (call.NewMatrix domain nrows ncols) = pushed s.matrices _
matrices_reshaped s (call.FreeMatrix a) = put s.matrices a.0 _
matrices_reshaped s (call.ResizeMatrix a nrows ncols) = put s.matrices a.0 _
matrices_reshaped s (call.DupMatrix a) = pushed s.matrices _
matrices_reshaped s (call.Diag v diagonal) = pushed s.matrices _
matrices_reshaped s c = omega arith

vectors_reshaped : (s : ObjectShapes) (c : Call) → length (reshaped s c).vectors ≤ length s.vectors + 1
vectors_reshaped s (call.NewVector domain size) = pushed s.vectors _
vectors_reshaped s (call.FreeVector v) = put s.vectors v.0 _
vectors_reshaped s (call.ResizeVector v size) = put s.vectors v.0 _
vectors_reshaped s (call.DupVector v) = pushed s.vectors _
vectors_reshaped s c = omega arith

one_more : (s t : ObjectShapes) (o : Option Refusal) (f : ObjectShapes → ℕ) → f t ≤ f s + 1 → f (option_map_or (λ _. s) o t) ≤ f s + 1
one_more s t None f few = few
one_more s t (Some r) f few = omega arith

-- shapes of one more object of each sort at most
pub shapes_grow : (s : ObjectShapes) (c : Call) → (length (shapes_after s c).matrices ≤ length s.matrices + 1) × (length (shapes_after s c).vectors ≤ length s.vectors + 1)
shapes_grow s c =
    (one_more s (reshaped s c) (refused_by_shapes s c) (λ t. length t.matrices) (matrices_reshaped s c), one_more s (reshaped s c) (refused_by_shapes s c) (λ t. length t.vectors) (vectors_reshaped s c))
