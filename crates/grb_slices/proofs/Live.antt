-- When an object is there: what it stores tells, and so does a call that shapes do not refuse.
use Rattle.std.proofs.Common.{◌≡◌, Bool, true, false, not, ◌||◌, if◌then◌else◌, List, [], ◌∷◌, refl, sym, ap, subst, ◌∙◌, Option, Some, None, option_map, is_some}
use Rattle.grb_slices.proofs.Prelude.{list_all, list_any, Refusal, UninitializedObject, Call, Object, ObjectShapes, is_live, is_same_object, Store, matrix_at, matrix_shape, shapes_of, vector_at, vector_shape, is_initialized, refused_by_shapes, object_at-map, MatrixContent, VectorContent, content_at, is_among}
use Rattle.std.proofs.lemmas.Bool.{and_parts}
use Rattle.grb_call.specs.declared.ids.Object.TheVariants as object
use Rattle.grb_slices.proofs.Wants.{is_same_object-true}

some_map : {X Y : Type 0} (f : X → Y) (o : Option X) → is_some (option_map f o) ≡ is_some o
some_map f (Some x) = refl
some_map f None = refl

pub live_by : (s : Store) (o : Object) → is_live (shapes_of s) o ≡ is_some (content_at s o)
live_by s (object.Matrix a) = ap is_some (object_at-map matrix_shape s.matrices a.0) ∙ (some_map matrix_shape (matrix_at s a) ∙ sym (some_map MatrixContent (matrix_at s a)))
live_by s (object.Vector v) = ap is_some (object_at-map vector_shape s.vectors v.0) ∙ (some_map vector_shape (vector_at s v) ∙ sym (some_map VectorContent (vector_at s v)))

first_holds : (b : Bool) (rest : Option Refusal) → (if not b then Some UninitializedObject else rest) ≡ None → b ≡ true
first_holds true rest e = refl
first_holds false rest e = cc

pub initialized : (s : ObjectShapes) (c : Call) → refused_by_shapes s c ≡ None → is_initialized s c ≡ true
initialized s c e = first_holds (is_initialized s c) _ e

pub all_of : (P : Object → Bool) (os : List Object) (o : Object) → list_all P os ≡ true → is_among os o ≡ true → P o ≡ true
all_of P [] o all among = cc
all_of P (p ∷ os) o all among = elim (is_same_object o p) as (λ b. is_same_object o p ≡ b → (b || list_any (is_same_object o) os) ≡ true → P o ≡ true) [
  | true ↦ λ e _. subst (λ (x : Object). P x ≡ true) (sym (is_same_object-true o p e)) (and_parts (P p) (list_all P os) all).0
  | false ↦ λ _ h. all_of P os o (and_parts (P p) (list_all P os) all).1 h
] refl among
