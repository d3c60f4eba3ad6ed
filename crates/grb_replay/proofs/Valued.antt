-- The object after all calls, and which of them were made for it.
use Rattle.std.proofs.Common.{◌≡◌, is_some, option_map, refl, if◌then◌else◌, Bool, false, true, List, length, sym, ap, subst, ◌∙◌, Option, Some, None, ℕ}
use Rattle.grb_call.specs.declared.call.Call.{Call}
use Rattle.grb_call.specs.declared.ids.Object.{Object}
use Rattle.grb_call.specs.declared.ids.Object.TheVariants as object
use Rattle.grb_call.specs.Shapes.{ObjectShapes, is_live}
use Rattle.grb_call.specs.Status.{is_same_object}
use Rattle.grb_call.specs.Store.{Store, empty_store, matrix_at, matrix_shape, shapes_of, vector_at, vector_shape}
use Rattle.grb_call.proofs.ShapesAfter.{object_at-map}
use Rattle.grb_call.specs.History.{after_all}
use Rattle.grb_slices.specs.Content.{MatrixContent, VectorContent, content_at}
use Rattle.grb_replay.specs.declared.slice.Slice.{Slice}
use Rattle.grb_replay.specs.SliceFor.{IsSliceFor}
use Rattle.grb_slices.specs.Slice.{Step, Wants, entries, sliced}
use Rattle.grb_replay.specs.Held.{slice_of, slice_length}
use Rattle.grb_replay.specs.Followed.{Follows, GoesOn, HasGoneOver}
use Rattle.grb_replay.specs.Targets.{targets_of}
use Rattle.grb_replay.proofs.Going.{entries_are}

-- the elements of the slice of one object, which is all that is wanted
pub slice_is : (o : Object) (s : Store) (cs : List Call) (ts : List (Option Object)) (w : Wants) → ((p : Object) → w p ≡ is_same_object o p) → ts ≡ targets_of (shapes_of s) cs →
    (sliced w (entries ts cs)).elements ≡ slice_of s o cs
slice_is o s cs ts w one targets =
    ap (λ (v : Wants). (sliced v (entries ts cs)).elements) (λ i p. one p i)
    ∙ ap (λ (xs : List Step). (sliced (is_same_object o) xs).elements) (ap (λ (us : List (Option Object)). entries us cs) targets ∙ entries_are (shapes_of s) cs)

none_of : {X Y Z : Type 0} (f : X → Y) (g : X → Z) (x : Option X) → is_some (option_map f x) ≡ false → option_map g x ≡ None
none_of f g (Some x) e = cc
none_of f g None e = refl

-- an object that is not there holds what it holds in the empty store
pub not_there : (s : Store) (o : Object) → is_live (shapes_of s) o ≡ false → content_at s o ≡ content_at empty_store o
not_there s (object.Matrix a) e = none_of matrix_shape MatrixContent (matrix_at s a) (sym (ap is_some (object_at-map matrix_shape s.matrices a.0)) ∙ e)
not_there s (object.Vector v) e = none_of vector_shape VectorContent (vector_at s v) (sym (ap is_some (object_at-map vector_shape s.vectors v.0)) ∙ e)

-- an equal store
follows_same : (w : Wants) (whole part : Store) → part ≡ whole → Follows w whole part
follows_same w whole part e = record { matrices = ap (λ (s : Store). length s.matrices) e; vectors = ap (λ (s : Store). length s.vectors) e; agree = λ o is. ap (λ (s : Store). content_at s o) (sym e) }

-- the slice of what is wanted, gone over on an equal store
pub goes_over : (w : Wants) (cs : List Call) (ts : List (Option Object)) (bs : List Bool) (slice : Slice) (whole part made : Store) → IsSliceFor slice w ts cs → ts ≡ targets_of (shapes_of whole) cs →
    bs ≡ slice.chosen.items → part ≡ whole → ((u : Wants) (s : Store) → GoesOn u s cs ts bs part → HasGoneOver u s cs ts part made) → HasGoneOver w whole cs ts whole made
goes_over w cs ts bs slice whole part made found targets chosen equal goes =
    subst (λ (r : Store). HasGoneOver w whole cs ts r made) equal
    (goes w whole (record { targets_are = targets; chosen_are = chosen ∙ found.chosen; follows = follows_same (sliced w (entries ts cs)).wanted whole part equal }))

-- how many calls were made
pub length_none : (s : Store) (o : Object) (cs : List Call) (u : ObjectShapes) → u ≡ shapes_of (after_all s cs) → is_live u o ≡ false → 0 ≡ slice_length s o cs
length_none s o cs u is gone = by (is_live (shapes_of (after_all s cs)) o) (ap (λ (t : ObjectShapes). is_live t o) (sym is) ∙ gone)
  where
    by : (b : Bool) → b ≡ false → 0 ≡ (if b then length (slice_of s o cs) else 0)
    by true e = cc
    by false e = refl

pub length_all : (s : Store) (o : Object) (cs : List Call) (u : ObjectShapes) (n : ℕ) → u ≡ shapes_of (after_all s cs) → is_live u o ≡ true → n ≡ length (slice_of s o cs) → n ≡ slice_length s o cs
length_all s o cs u n is live count = by (is_live (shapes_of (after_all s cs)) o) (ap (λ (t : ObjectShapes). is_live t o) (sym is) ∙ live)
  where
    by : (b : Bool) → b ≡ true → n ≡ (if b then length (slice_of s o cs) else 0)
    by true e = count
    by false e = cc
