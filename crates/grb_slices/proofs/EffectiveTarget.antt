-- The target of a call by the answer of a check.
use Rattle.std.proofs.Common.{◌≡◌, true, false, refl, is_some, Option, Some, None, Result, Ok, Err}
use Rattle.grb_slices.proofs.Prelude.{option_map_or, Refusal, Call, Object, ObjectShapes, refused_by_shapes, kind_of, check_of, reshaped, shapes_after, target_of, effective_target}
use Rattle.grb_call.specs.declared.call.Call.TheVariants as call
use Rattle.grb_call.specs.declared.checking.Kind.{Kind}

by_refusal : (p : Option Refusal) (k : Kind) (r : Refusal) (t : Option Object) → ◌≡◌ {A = Result Kind Refusal} (option_map_or Err p (Ok k)) (Err r) → option_map_or (λ _. None) p t ≡ None
by_refusal None k r t e = cc
by_refusal (Some q) k r t e = refl

by_kind : (p : Option Refusal) (k l : Kind) (t : Option Object) → ◌≡◌ {A = Result Kind Refusal} (option_map_or Err p (Ok k)) (Ok l) → option_map_or (λ _. None) p t ≡ t
by_kind None k l t e = refl
by_kind (Some q) k l t e = cc

pub no_target : (s : ObjectShapes) (c : Call) (r : Refusal) → check_of s c ≡ Err r → effective_target s c ≡ None
no_target s c r e = by_refusal (refused_by_shapes s c) (kind_of s c) r (target_of s c) e

pub its_target : (s : ObjectShapes) (c : Call) (l : Kind) → check_of s c ≡ Ok l → effective_target s c ≡ target_of s c
its_target s c l e = by_kind (refused_by_shapes s c) (kind_of s c) l (target_of s c) e

accepted : (p : Option Refusal) (t : Option Object) → is_some (option_map_or (λ _. None) p t) ≡ true → p ≡ None
accepted None t e = refl
accepted (Some r) t e = cc

by_target : (p : Option Refusal) (t : Option Object) (u v : ObjectShapes) → is_some (option_map_or (λ _. None) p t) ≡ false → (is_some t ≡ false → v ≡ u) → option_map_or (λ _. u) p v ≡ u
by_target None t u v e same = same e
by_target (Some r) t u v e same = refl

reshapes-none : (s : ObjectShapes) (c : Call) → is_some (target_of s c) ≡ false → reshaped s c ≡ s
reshapes-none s (call.NewMatrix domain nrows ncols) e = cc
reshapes-none s (call.NewVector domain size) e = cc
reshapes-none s (call.FreeMatrix a) e = cc
reshapes-none s (call.FreeVector v) e = cc
reshapes-none s (call.ResizeMatrix a nrows ncols) e = cc
reshapes-none s (call.ResizeVector v size) e = cc
reshapes-none s (call.DupMatrix a) e = cc
reshapes-none s (call.DupVector v) e = cc
reshapes-none s (call.Diag v diagonal) e = cc
reshapes-none s c e = refl

-- a call that has a target is not refused
pub target-accepted : (s : ObjectShapes) (c : Call) → is_some (effective_target s c) ≡ true → refused_by_shapes s c ≡ None
target-accepted s c e = accepted (refused_by_shapes s c) (target_of s c) e

-- and one that has none leaves the shapes
pub target-none : (s : ObjectShapes) (c : Call) → is_some (effective_target s c) ≡ false → shapes_after s c ≡ s
target-none s c e = by_target (refused_by_shapes s c) (target_of s c) s (reshaped s c) e (reshapes-none s c)
