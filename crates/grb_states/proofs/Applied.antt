-- The parts of an evaluated store after one more call.
use Rattle.std.proofs.Common.{◌≡◌, ℕ, ◌+◌, ◌≤◌, Bool, true, false, not, List, [], ◌∷◌, ◌++◌, length, refl, sym, ap, subst, ◌∙◌, arith}
use Rattle.std.specs.Prelude.{Option, Some, None, is_some, map}
use Rattle.std.proofs.lemmas.List.{length_push}
use Rattle.std.specs.Option.{option_map, option_map_or}
use Rattle.grb_core.specs.declared.refusal.Refusal.{Refusal}
use Rattle.grb_call.specs.declared.call.Call.{Call}
use Rattle.grb_call.specs.declared.ids.Object.{Object}
use Rattle.grb_call.specs.declared.ids.Object.TheVariants as object
use Rattle.grb_call.specs.Shapes.{RoomyShapes, ObjectShapes, shapes_with_place}
use Rattle.grb_call.specs.Refused.{shapes_after}
use Rattle.grb_call.specs.Store.{Store, matrix_shape, shapes_of, vector_shape, with_place}
use Rattle.grb_call.specs.After.{refused, changed, after}
use Rattle.grb_call.proofs.Counted.{matrices_after_all, vectors_after_all}
use Rattle.grb_call.proofs.ShapesAfter.{shapes_of-after}
use Rattle.grb_states.specs.State.{IsState}

pub after_changed : (s : Store) (c : Call) → refused s c ≡ None → after s c ≡ changed s c
after_changed s c e = ap (λ (o : Option Refusal). option_map_or (λ _. s) o (changed s c)) e

pub after_refused : (s : Store) (c : Call) (r : Refusal) → refused s c ≡ Some r → after s c ≡ s
after_refused s c r e = ap (λ (o : Option Refusal). option_map_or (λ _. s) o (changed s c)) e

-- the shapes follow the store
pub follows : (shapes new : RoomyShapes) (s : Store) (c : Call) → shapes.objects ≡ shapes_of s → new.objects ≡ shapes_after shapes.objects c → new.objects ≡ shapes_of (after s c)
follows shapes new s c is absorbed = absorbed ∙ ap (λ (o : ObjectShapes). shapes_after o c) is ∙ sym (shapes_of-after s c)

none_if : (o : Option Refusal) (b : Bool) → is_some o ≡ not b → b ≡ true → o ≡ None
none_if None b e is = refl
none_if (Some r) b e is = let no : true ≡ false = e ∙ ap not is in cc

some_if : (o : Option Refusal) (b : Bool) → is_some o ≡ not b → b ≡ false → (r : Refusal) × (o ≡ Some r)
some_if None b e is = let no : false ≡ true = e ∙ ap not is in cc
some_if (Some r) b e is = (r, refl)

module _ (s : Store) (c : Call) (o : Option Refusal) (b : Bool) (is : o ≡ refused s c) (some : is_some o ≡ not b) where
  pub after_then : b ≡ true → after s c ≡ changed s c
  after_then e = after_changed s c (sym is ∙ none_if o b some e)

  pub after_else : b ≡ false → after s c ≡ s
  after_else e = let r : (r : Refusal) × (o ≡ Some r) = some_if o b some e in after_refused s c r.0 (sym is ∙ r.1)

-- the parts of the state after the call
pub state_after : (shapes new : RoomyShapes) (s t : Store) (matrices vectors matrices' vectors' : ℕ) (c : Call) → IsState shapes s matrices vectors → t ≡ after s c → new.objects ≡ shapes_after shapes.objects c → new.room + 1 ≡ shapes.room
    → matrices' ≡ matrices → vectors' ≡ vectors → IsState new t matrices' vectors'
state_after shapes new s t matrices vectors matrices' vectors' c before is absorbed room same same' =
    let m : length (after s c).matrices ≤ length s.matrices + 1 = matrices_after_all s (c ∷ []) in
    let v : length (after s c).vectors ≤ length s.vectors + 1 = vectors_after_all s (c ∷ []) in
    let after_it : IsState new (after s c) matrices' vectors' = record {
      shapes_are = follows shapes new s c before.shapes_are absorbed;
      matrices = omega (arith, before.matrices);
      vectors = omega (arith, before.vectors);
    } in
    subst (λ (x : Store). IsState new x matrices' vectors') (sym is) after_it

-- and with one more place
map_push : {X Y : Type 0} (f : X → Y) (xs : List X) (x : X) → map f (xs ++ x ∷ []) ≡ map f xs ++ f x ∷ []
map_push f [] x = refl
map_push f (y ∷ ys) x = ap (λ zs. f y ∷ zs) (map_push f ys x)

pub placed_shapes : (s : Store) (o : Object) → shapes_with_place (shapes_of s) o ≡ shapes_of (with_place s o)
placed_shapes s (object.Matrix a) = ap (λ ms. record { matrices = ms; vectors = map (option_map vector_shape) s.vectors }) (sym (map_push (option_map matrix_shape) s.matrices None))
placed_shapes s (object.Vector v) = ap (λ vs. record { matrices = map (option_map matrix_shape) s.matrices; vectors = vs }) (sym (map_push (option_map vector_shape) s.vectors None))

count_push : {X : Type 0} (xs : List X) (x : X) → length (xs ++ x ∷ []) ≤ length xs + 1
count_push xs x = omega (arith, length_push xs x)

placed_matrices : (s : Store) (o : Object) → length (with_place s o).matrices ≤ length s.matrices + 1
placed_matrices s (object.Matrix a) = count_push s.matrices None
placed_matrices s (object.Vector v) = omega arith

placed_vectors : (s : Store) (o : Object) → length (with_place s o).vectors ≤ length s.vectors + 1
placed_vectors s (object.Matrix a) = omega arith
placed_vectors s (object.Vector v) = count_push s.vectors None

pub state_placed : (shapes new : RoomyShapes) (s t : Store) (matrices vectors matrices' vectors' : ℕ) (o : Object) → IsState shapes s matrices vectors → t ≡ with_place s o → new.objects ≡ shapes_with_place shapes.objects o → new.room + 1 ≡ shapes.room
    → matrices' ≡ matrices → vectors' ≡ vectors → IsState new t matrices' vectors'
state_placed shapes new s t matrices vectors matrices' vectors' o before is placed room same same' =
    let m : length (with_place s o).matrices ≤ length s.matrices + 1 = placed_matrices s o in
    let v : length (with_place s o).vectors ≤ length s.vectors + 1 = placed_vectors s o in
    let after_it : IsState new (with_place s o) matrices' vectors' = record {
      shapes_are = placed ∙ (ap (λ (x : ObjectShapes). shapes_with_place x o) before.shapes_are ∙ placed_shapes s o);
      matrices = omega (arith, before.matrices);
      vectors = omega (arith, before.vectors);
    } in
    subst (λ (x : Store). IsState new x matrices' vectors') (sym is) after_it
