-- What a check after all known calls found.
use Rattle.std.proofs.Common.{◌≡◌, Bool, true, false, cond, ◌&&◌, if◌then◌else◌, [], ◌∷◌, refl, ap, subst, ◌∙◌, inl, inr}
use Rattle.grb_reader.proofs.Prelude.{◌⊎◌, not, option_map_or, Result, Ok, Err, option_or, Refusal, Call, ObjectShapes, is_live, check_of, is_in_bounds, is_one_domain, refused_by_shapes, Store, shapes_of, ByStore, ground_of, IsBuildChecked, IsChecked, count_call, count_of_output}
use Rattle.std.specs.Prelude.{Option, Some, None}
use Rattle.std.specs.List.{list_all}
use Rattle.grb_core.specs.declared.domain.Domain.{Domain}
use Rattle.grb_core.specs.declared.refusal.Refusal.TheVariants.{DomainMismatch, IndexOutOfBounds, OutOfMemory, OutputNotEmpty, UninitializedObject}
use Rattle.grb_call.specs.declared.call.Call.TheVariants as call
use Rattle.grb_call.specs.declared.checking.Kind.{Kind}
use Rattle.grb_call.specs.declared.checking.Kind.TheVariants.{Build, Enters, Reads}
use Rattle.grb_call.specs.Kinds.{enters, is_build, is_entry_read, is_size}
use Rattle.grb_call.specs.declared.ids.Object.{Object}
use Rattle.grb_call.specs.declared.ids.Object.TheVariants as object
use Rattle.grb_call.specs.Shapes.{domain_at}
use Rattle.grb_call.specs.Refused.{are_of_domain, same_domain}
use Rattle.grb_call.specs.declared.reply.Reply.TheVariants as reply
use Rattle.grb_call.specs.After.{has_old_entries, refused_build, refused, reply_of}
use Rattle.grb_call.proofs.ByShapes.{by_check}
use Rattle.grb_call.proofs.Checked.{refused-err, refused-ok, refused-none, by_shapes-ok}
use Rattle.grb_call.proofs.KindsChecked.{kind-checked}
use Rattle.grb_slices.proofs.Live.{initialized}

-- one object is of one domain with nothing else
alone : (u : ObjectShapes) (o : Object) → is_one_domain u (o ∷ []) [] ≡ true
alone u o = by (domain_at u o)
  where
    by : (d : Option Domain) → option_map_or (λ x. are_of_domain u x [] && list_all (same_domain x) []) d true ≡ true
    by (Some x) = refl
    by None = refl

-- a call that only reads is no build, and a build asks for no dimensions and reads no entry
pub reads_no_build : (c : Call) → enters c ≡ false → is_build c ≡ false
reads_no_build (call.BuildMatrix a tuples dup) e = cc
reads_no_build (call.BuildVector v tuples dup) e = cc
reads_no_build _ e = refl

pub build_no_size : (c : Call) → is_build c ≡ true → is_size c ≡ false
build_no_size (call.BuildMatrix a tuples dup) e = refl
build_no_size (call.BuildVector v tuples dup) e = refl
build_no_size (call.SizeMatrix a) e = cc
build_no_size (call.SizeVector v) e = cc
build_no_size _ e = refl

pub build_no_entry_read : (c : Call) → is_build c ≡ true → is_entry_read c ≡ false
build_no_entry_read (call.BuildMatrix a tuples dup) e = refl
build_no_entry_read (call.BuildVector v tuples dup) e = refl
build_no_entry_read (call.GetMatrix a i j) e = cc
build_no_entry_read (call.GetVector v i) e = cc
build_no_entry_read (call.NvalsMatrix a) e = cc
build_no_entry_read (call.NvalsVector v) e = cc
build_no_entry_read (call.ReduceMatrix a monoid) e = cc
build_no_entry_read (call.ReduceVector v monoid) e = cc
build_no_entry_read (call.WaitMatrix a mode) e = cc
build_no_entry_read (call.WaitVector v mode) e = cc
build_no_entry_read _ e = refl

-- a call that would be entered asks for no dimensions and reads no entry
pub enters_no_size : (c : Call) → enters c ≡ true → is_size c ≡ false
enters_no_size (call.SizeMatrix a) e = cc
enters_no_size (call.SizeVector v) e = cc
enters_no_size _ e = refl

pub enters_no_entry_read : (c : Call) → enters c ≡ true → is_entry_read c ≡ true → ⊥
enters_no_entry_read (call.GetMatrix a i j) e is = cc
enters_no_entry_read (call.GetVector v i) e is = cc
enters_no_entry_read (call.NvalsMatrix a) e is = cc
enters_no_entry_read (call.NvalsVector v) e is = cc
enters_no_entry_read (call.ReduceMatrix a monoid) e is = cc
enters_no_entry_read (call.ReduceVector v monoid) e is = cc
enters_no_entry_read (call.WaitMatrix a mode) e is = cc
enters_no_entry_read (call.WaitVector v mode) e is = cc
enters_no_entry_read _ e is = cc

or_none : (o p : Option Refusal) → option_or o p ≡ None → o ≡ None
or_none None p e = refl
or_none (Some r) p e = cc

pub unrefused_by_shapes : (s : Store) (c : Call) → refused s c ≡ None → refused_by_shapes (shapes_of s) c ≡ None
unrefused_by_shapes s c none = or_none (refused_by_shapes (shapes_of s) c) (refused_build s c) none

-- what holds of both refusals of a build holds of any that what is stored decides
module _ (P : Refusal → Type 0) (r : Refusal) (not_empty : P OutputNotEmpty) (out : P IndexOutOfBounds) where
  by_tests : (old in_bounds : Bool) → cond old (Some OutputNotEmpty) (cond (not in_bounds) (Some IndexOutOfBounds) None) ≡ Some r → P r
  by_tests true in_bounds e = let same : OutputNotEmpty ≡ r = cc in subst P same not_empty
  by_tests false false e = let same : IndexOutOfBounds ≡ r = cc in subst P same out
  by_tests false true e = cc

  pub by_build : (s : Store) (c : Call) → refused_build s c ≡ Some r → P r
  by_build s c e = by_tests (has_old_entries s c) (is_in_bounds (shapes_of s) c) e

-- a refusal by shapes
checked_as : (s : Store) (c : Call) (r : Refusal) → refused s c ≡ Some r → ground_of (Err r) ≡ ByStore → IsChecked s c (Err r)
checked_as s c OutOfMemory is by = cc
checked_as s c _ is by = (is, by)

pub checked_err : (s : Store) (c : Call) (r : Refusal) → check_of (shapes_of s) c ≡ Err r → IsChecked s c (Err r)
checked_err s c r e = checked_as s c r (refused-err s c r e) (by_check (λ (q : Refusal). ground_of (Err q) ≡ ByStore) r (shapes_of s) c refl refl refl refl refl e)

plain_kind : (s : ObjectShapes) (c : Call) (kind : Kind) → check_of s c ≡ Ok kind → (kind ≡ Enters) ⊎ (kind ≡ Reads) → is_build c ≡ false
plain_kind s c kind e (inl is) = (kind-checked s c Enters (e ∙ ap (λ (k : Kind). Ok k) is)).1
plain_kind s c kind e (inr is) = (kind-checked s c Reads (e ∙ ap (λ (k : Kind). Ok k) is)).1

-- a call that is no build and that shapes do not refuse
pub checked_plain : (s : Store) (c : Call) (kind : Kind) → check_of (shapes_of s) c ≡ Ok kind → (kind ≡ Enters) ⊎ (kind ≡ Reads) → refused s c ≡ None
checked_plain s c kind e is = refused-none s c kind e (plain_kind (shapes_of s) c kind e is)

-- a build that shapes do not refuse
pub checked_build : (s : Store) (c : Call) (in_bounds : Bool) (r : Result (Unit {0}) Refusal) → check_of (shapes_of s) c ≡ Ok (Build in_bounds) → IsBuildChecked s c r → IsChecked s c r
checked_build s c in_bounds (Ok u) e is = refused-ok s c (Build in_bounds) e ∙ is
checked_build s c in_bounds (Err OutOfMemory) e is = (by_shapes-ok s c (Build in_bounds) e, (kind-checked (shapes_of s) c (Build in_bounds) e).1)
checked_build s c in_bounds (Err r) e is = (refused-ok s c (Build in_bounds) e ∙ is, by_build (λ (q : Refusal). ground_of (Err q) ≡ ByStore) r refl refl s c is)

-- the call that asks for the count of a build's object is not refused where shapes do not refuse the build
count_unrefused : (b : Bool) (rest : Option Refusal) → (b && true) ≡ true → rest ≡ None → option_or (if not (b && true) then Some UninitializedObject else rest) None ≡ None
count_unrefused true rest live none = ap (λ (p : Option Refusal). option_or p None) none
count_unrefused false rest live none = cc

pub count_accepted : (s : Store) (c : Call) → is_build c ≡ true → refused_by_shapes (shapes_of s) c ≡ None → refused s (count_call c) ≡ None
count_accepted s (call.BuildMatrix a tuples dup) build none =
    count_unrefused (is_live (shapes_of s) (object.Matrix a)) (if not (is_one_domain (shapes_of s) (object.Matrix a ∷ []) []) then Some DomainMismatch else None)
    (initialized (shapes_of s) (call.BuildMatrix a tuples dup) none) (ap (λ (b : Bool). if not b then Some DomainMismatch else None) (alone (shapes_of s) (object.Matrix a)))
count_accepted s (call.BuildVector v tuples dup) build none =
    count_unrefused (is_live (shapes_of s) (object.Vector v)) (if not (is_one_domain (shapes_of s) (object.Vector v ∷ []) []) then Some DomainMismatch else None)
    (initialized (shapes_of s) (call.BuildVector v tuples dup) none) (ap (λ (b : Bool). if not b then Some DomainMismatch else None) (alone (shapes_of s) (object.Vector v)))
count_accepted s _ build none = cc

-- and its reply is the count
pub count_replied : (s : Store) (c : Call) → is_build c ≡ true → reply_of s (count_call c) ≡ reply.Count (count_of_output s c)
count_replied s (call.BuildMatrix a tuples dup) build = refl
count_replied s (call.BuildVector v tuples dup) build = refl
count_replied s _ build = cc

-- it is a call that only reads, of no size
pub count_reads : (c : Call) → is_build c ≡ true → (enters (count_call c) ≡ false) × (is_size (count_call c) ≡ false)
count_reads (call.BuildMatrix a tuples dup) build = (refl, refl)
count_reads (call.BuildVector v tuples dup) build = (refl, refl)
count_reads _ build = cc
