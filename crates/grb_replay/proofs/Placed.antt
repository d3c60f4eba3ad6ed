-- The target of a call that a store lacks gets a place, as its numbers tell.
use Rattle.std.proofs.Common.{◌≡◌, ℕ, zero, suc, ◌<◌, true, false, List, [], ◌∷◌, length, refl, sym, ap, ◌∙◌, arith, Option, Some, None, is_some}
use Rattle.grb_replay.proofs.Prelude.{option_map_or, Call, Object, masks, objects_read, operands, output_of, is_live, object_at, Store, shapes_of, with_place, effective_target, HasPlaceIn, LacksPlaceIn, part_after}
use Rattle.grb_call.specs.declared.ids.Object.TheVariants as object
use Rattle.grb_call.proofs.Outputs.{some_object}
use Rattle.grb_slices.proofs.Effects.{effective}
use Rattle.grb_replay.proofs.Followed.{matrices_of, vectors_of}
use Rattle.grb_slices.proofs.Live.{all_of, initialized}
use Rattle.grb_slices.proofs.Outputs.{output_among, output_target}
use Rattle.grb_slices.proofs.Wants.{among_before}

-- an object that is there is among those that were made
within : {X : Type 0} (xs : List (Option X)) (n : ℕ) → is_some (object_at xs n) ≡ true → n < length xs
within [] zero e = cc
within [] (suc n) e = cc
within (x ∷ xs) zero e = omega arith
within (x ∷ xs) (suc n) e = let rest : n < length xs = within xs n e in omega (arith, rest)

live_place : (s : Store) (o : Object) → is_live (shapes_of s) o ≡ true → HasPlaceIn s o
live_place s (object.Matrix a) e = let near : a.0 < length (shapes_of s).matrices = within (shapes_of s).matrices a.0 e in omega (arith, near, matrices_of s)
live_place s (object.Vector v) e = let near : v.0 < length (shapes_of s).vectors = within (shapes_of s).vectors v.0 e in omega (arith, near, vectors_of s)

-- the output of a call that shapes do not refuse was made before
output_place : (s : Store) (c : Call) (o : Object) → effective_target (shapes_of s) c ≡ Some o → output_of c ≡ Some o → HasPlaceIn s o
output_place s c o target output =
    let accepted = (effective (shapes_of s) c o target).0 in
    live_place s o (all_of (is_live (shapes_of s)) (objects_read c) o (initialized (shapes_of s) c accepted) (among_before o (operands c) (masks c) (output_among c o output)))

both : (s part : Store) (o : Object) → length part.matrices ≡ length s.matrices → length part.vectors ≡ length s.vectors → HasPlaceIn s o → LacksPlaceIn part o → ⊥
both s part (object.Matrix a) m v has lacks = omega (arith, m, has, lacks)
both s part (object.Vector x) m v has lacks = omega (arith, v, has, lacks)

-- what becomes of a part that has as many objects, at a call with this target that is not made
module _ (s part : Store) (c : Call) (o : Object) (target : effective_target (shapes_of s) c ≡ Some o) (m : length part.matrices ≡ length s.matrices) (v : length part.vectors ≡ length s.vectors) where
  by_output : (q : Option Object) → output_of c ≡ q → part_after false (Some o) c part ≡ option_map_or (λ _. part) q (with_place part o)
  by_output q e = ap (λ (p : Option Object). option_map_or (λ _. part) p (with_place part o)) e

  -- it is new: it gets a place
  pub left_new : LacksPlaceIn part o → part_after false (Some o) c part ≡ with_place part o
  left_new lacks = by (output_of c) refl
    where
      by : (q : Option Object) → output_of c ≡ q → part_after false (Some o) c part ≡ with_place part o
      by None e = by_output None e
      by (Some p) e =
          let same : p ≡ o = some_object p o (sym (output_target (shapes_of s) c p e) ∙ (effective (shapes_of s) c o target).1) in
          absurd (both s part o m v (output_place s c o target (e ∙ ap (λ (q : Object). Some q) same)) lacks)
