-- The links of a call are those of the objects that it reads.
use Rattle.std.proofs.Common.{◌≡◌, ℕ, ◌≤◌, Bool, true, false, if◌then◌else◌, List, [], ◌∷◌, length, refl, ap, Some, arith}
use Rattle.std.specs.Prelude.{slice_get}
use Rattle.std.specs.Option.{option_map_or}
use Rattle.grb_call.specs.declared.call.Call.{Call}
use Rattle.grb_call.specs.declared.call.Call.TheVariants as call
use Rattle.grb_call.specs.declared.class.Class.TheVariants.{Edits}
use Rattle.grb_call.specs.declared.ids.Object.{Object}
use Rattle.grb_call.specs.declared.ids.Object.TheVariants as object
use Rattle.grb_call.specs.Kinds.{class_of}
use Rattle.grb_call.specs.Operands.{objects_read}
use Rattle.grb_call.specs.Output.{output_of}
use Rattle.grb_slices.specs.Content.{Contents, outcome}
use Rattle.grb_links.specs.Dup.{is_dup}
use Rattle.grb_links.specs.Lasts.{AreLinks}
use Rattle.grb_links.specs.Overwrites.{forgets, inputs_of, objects_needed}

-- the one object that an edit reads and changes
pub record EditsOne (c : Call) : Type 0 where
  pub object : Object
  pub output : output_of c ≡ Some object
  pub reads : objects_read c ≡ object ∷ []

pub edits_one : (c : Call) → class_of c ≡ Edits → EditsOne c
edits_one (call.FreeMatrix a) e = record { object = object.Matrix a; output = refl; reads = refl }
edits_one (call.FreeVector v) e = record { object = object.Vector v; output = refl; reads = refl }
edits_one (call.SetMatrix a i j value) e = record { object = object.Matrix a; output = refl; reads = refl }
edits_one (call.SetVector v i value) e = record { object = object.Vector v; output = refl; reads = refl }
edits_one (call.RemoveMatrix a i j) e = record { object = object.Matrix a; output = refl; reads = refl }
edits_one (call.RemoveVector v i) e = record { object = object.Vector v; output = refl; reads = refl }
edits_one (call.ClearMatrix a) e = record { object = object.Matrix a; output = refl; reads = refl }
edits_one (call.ClearVector v) e = record { object = object.Vector v; output = refl; reads = refl }
edits_one (call.ResizeMatrix a nrows ncols) e = record { object = object.Matrix a; output = refl; reads = refl }
edits_one (call.ResizeVector v size) e = record { object = object.Vector v; output = refl; reads = refl }
edits_one (call.BuildMatrix a tuples dup) e = record { object = object.Matrix a; output = refl; reads = refl }
edits_one (call.BuildVector v tuples dup) e = record { object = object.Vector v; output = refl; reads = refl }
edits_one _ e = cc

-- the one object that a dup reads, and to which it makes an equal one
pub record DupsOne (c : Call) : Type 0 where
  pub object : Object
  pub reads : objects_read c ≡ object ∷ []
  pub outcome_is : (r : Contents) → outcome r c ≡ r object
  pub keeps : forgets c ≡ false

pub dups_one : (c : Call) → is_dup c ≡ true → DupsOne c
dups_one (call.DupMatrix a) e = record { object = object.Matrix a; reads = refl; outcome_is = λ r. refl; keeps = refl }
dups_one (call.DupVector v) e = record { object = object.Vector v; reads = refl; outcome_is = λ r. refl; keeps = refl }
dups_one _ e = cc

pub four_links : (f : Object → ℕ) (os : List Object) (w x y z : ℕ) → length os ≤ 4 → w ≡ option_map_or f (slice_get os 0) 0 → x ≡ option_map_or f (slice_get os 1) 0 →
    y ≡ option_map_or f (slice_get os 2) 0 → z ≡ option_map_or f (slice_get os 3) 0 → AreLinks f os (w ∷ x ∷ y ∷ z ∷ [])
four_links f [] w x y z few a b c d = (a, (b, (c, (d, tt))))
four_links f (p ∷ []) w x y z few a b c d = (a, (b, (c, (d, tt))))
four_links f (p ∷ q ∷ []) w x y z few a b c d = (a, (b, (c, (d, tt))))
four_links f (p ∷ q ∷ r ∷ []) w x y z few a b c d = (a, (b, (c, (d, tt))))
four_links f (p ∷ q ∷ r ∷ s ∷ []) w x y z few a b c d = (a, (b, (c, (d, tt))))
four_links f (p ∷ q ∷ r ∷ s ∷ t ∷ os) w x y z few a b c d = absurd (omega (arith, few))

-- what a call needs, by whether it needs nothing of what its output stored
pub needs_all : (c : Call) → forgets c ≡ false → objects_needed c ≡ objects_read c
needs_all c keeps = ap (λ (b : Bool). if b then inputs_of c else objects_read c) keeps

pub needs_inputs : (c : Call) → forgets c ≡ true → objects_needed c ≡ inputs_of c
needs_inputs c forgets_it = ap (λ (b : Bool). if b then inputs_of c else objects_read c) forgets_it
