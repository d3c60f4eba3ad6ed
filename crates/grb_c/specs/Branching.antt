-- believed: What a handle's branch is, and the build of an object of another store (own).
use Rattle.std.specs.Prelude.{◌≡◌, ◌<◌, ◌^◌, ◌⊎◌, ℕ, ℤ, true, List, map, length, Option, Some, None, Result, Ok, Err, IfOk}
use Rattle.grb_core.specs.declared.refusal.Refusal.{Refusal}
use Rattle.grb_sparse.specs.Matrix.{SparseMatrixView}
use Rattle.grb_sparse.specs.Vector.{SparseVectorView}
use Rattle.grb_call.specs.declared.call.Call.{Call}
use Rattle.grb_call.specs.declared.call.Call.TheVariants as call
use Rattle.grb_call.specs.declared.wait_mode.WaitMode.TheVariants.{Complete}
use Rattle.grb_call.specs.History.{store_of}
use Rattle.grb_call.specs.Store.{Store}
use Rattle.grb_call.specs.Tuples.{tuples_of}
use Rattle.grb_rebuild.specs.Rebuilt.{monoid_for}
use Rattle.grb_context.specs.Known.{known}
use Rattle.grb_context.specs.Snapshot.{IsSnapshot}
use Rattle.grb_context.specs.StoredIn.{IsMatrixOf, IsVectorOf}
use Rattle.grb_codes.specs.Codes.{out_of_memory, refusal_code, success, uninitialized_object}
use Rattle.grb_codes.specs.Named.{matrices_named, vectors_named}
use Rattle.grb_c.specs.Handles.{Makes, are_none}
use Rattle.grb_c.specs.Opening.{IsWithin}
use Rattle.grb_generations.specs.Branched.{LooksFirst}
use Rattle.grb_generations.specs.Seated.{Seated}
use Rattle.grb_c.specs.Bounded.{InStore}
use Rattle.grb_c.specs.Kinds.{HandsOutBy, IsMemberMatrix, IsMemberVector, store_chosen}
use Rattle.grb_c.specs.Sessions.{Goes, KnowsNow, LooksIn, Opened}
use Rattle.grb_c.specs.Succession.{GoesOn}
use Rattle.grb_c.specs.declared.handle.TrbPass.{TrbPass}

-- each array has less than 2^32 numbers
pub record AreFew (matrices vectors : List ℕ) : Type 0 where
  pub matrices_are : length matrices < 2 ^ 32
  pub vectors_are : length vectors < 2 ^ 32

-- a branch may be asked for: a store may have so much room and so many passes, none of the handles has one, and the objects are few
pub record IsBranchAsked (room : ℕ) (hs : List TrbPass) (matrices vectors : List ℕ) : Type 0 where
  pub within : IsWithin room (length hs)
  pub none : are_none hs ≡ true
  pub few : AreFew matrices vectors

-- a handle looks before it branches, by its pass or its member; or memory is refused before, and it is as it was
abbrev pub LooksOrLacks : ℤ → Opened → Opened → Type 0
LooksOrLacks code old new = Goes LooksIn LooksFirst old new ⊎ ((code ≡ out_of_memory) × (new ≡ old))

-- and where there is a branch, it knows all that the history held at one step in between; or there is no pass
abbrev pub LooksToBranch : ℤ → Option Opened → Option Opened → Type 0
LooksToBranch code None new = new ≡ None
LooksToBranch code (Some old) (Some new) = LooksOrLacks code old new × (code ≡ success → KnowsNow old new)
LooksToBranch code (Some old) None = ⊥

-- handles go on from the store of the objects of these numbers that a handle knows; or there is no pass
abbrev pub GoesApartFrom : ℕ → ℕ → Option Opened → List ℕ → List ℕ → ℤ → ℕ → ℕ → List TrbPass → Type 0
GoesApartFrom store room (Some s) matrices vectors code before after hs = GoesOn store room (length hs) (store_chosen s.kind (matrices_named matrices) (vectors_named vectors)) code before after (map (λ h. h.raw.session) hs)
GoesApartFrom store room None matrices vectors code before after hs = (code ≡ uninitialized_object) × (after ≡ before)

-- the build of all entries of this matrix, of which no place stands twice
abbrev pub matrix_build_of : ℕ → SparseMatrixView → Call
matrix_build_of c m = call.BuildMatrix (record { 0 = c }) (tuples_of m.matrix.entries) (monoid_for m.matrix.domain)

abbrev pub vector_build_of : ℕ → SparseVectorView → Call
vector_build_of w x = call.BuildVector (record { 0 = w }) x.vector.entries (monoid_for x.vector.domain)

-- what is built of what was handed out: where that was refused, nothing
abbrev pub BuildsHanded : {X : Type 0} → (X → Call) → TrbPass → TrbPass → Result X Refusal → ℤ → Type 0
BuildsHanded build old new (Ok x) code = Makes old new (Ok (build x)) code
BuildsHanded build old new (Err r) code = (code ≡ refusal_code r) × (new.raw.session ≡ old.raw.session)

-- A snapshot by a pass of its context, of an object of which this holds, with all that the store promises of that
pub record HandsOut {X : Type 0} (wait : Call) (IsOf : Store → X → Type 0) (handed : Result X Refusal) (theirs left : InStore) : Type 0 where
  pub context : left.context ≡ theirs.context
  pub snapshot : IsSnapshot theirs.context theirs.pass left.pass wait handed
  pub is : IfOk handed (IsOf (store_of (known left.pass)))

-- A build of an object of another store or chain: that hands the object out as a snapshot does, with all that it promises of that, and the
-- build is made of it
pub record BuildsFrom {X : Type 0} (wait : Call) (build : X → Call) (IsOf : Store → X → Type 0) (IsMembers : Seated → X → Type 0) (old new : TrbPass) (theirs left : Opened) (code : ℤ) : Type 0 where
  pub handed : Result X Refusal
  pub hands : Goes (HandsOut wait IsOf handed) (HandsOutBy wait IsMembers handed) theirs left
  pub builds : BuildsHanded build old new handed code

-- the same by handles, of which each has a pass or none
abbrev pub BuildsFromHandle : {X : Type 0} → Call → (X → Call) → (Store → X → Type 0) → (Seated → X → Type 0) → TrbPass → TrbPass → Option Opened → Option Opened → ℤ → Type 0
BuildsFromHandle wait build IsOf IsMembers old new (Some theirs) (Some left) code = BuildsFrom wait build IsOf IsMembers old new theirs left code
BuildsFromHandle wait build IsOf IsMembers old new None None code = (code ≡ uninitialized_object) × (new.raw.session ≡ old.raw.session)
BuildsFromHandle wait build IsOf IsMembers old new (Some theirs) None code = ⊥
BuildsFromHandle wait build IsOf IsMembers old new None (Some left) code = ⊥

-- of a matrix, and of a vector
abbrev pub BuildsMatrixFrom : ℕ → ℕ → TrbPass → TrbPass → TrbPass → TrbPass → ℤ → Type 0
BuildsMatrixFrom c a old new theirs left code =
    BuildsFromHandle (call.WaitMatrix (record { 0 = a }) Complete) (matrix_build_of c) (λ s m. IsMatrixOf s (record { 0 = a }) m) (λ n m. IsMemberMatrix n (record { 0 = a }) m) old new theirs.raw.session left.raw.session code

abbrev pub BuildsVectorFrom : ℕ → ℕ → TrbPass → TrbPass → TrbPass → TrbPass → ℤ → Type 0
BuildsVectorFrom w v old new theirs left code =
    BuildsFromHandle (call.WaitVector (record { 0 = v }) Complete) (vector_build_of w) (λ s x. IsVectorOf s (record { 0 = v }) x) (λ n x. IsMemberVector n (record { 0 = v }) x) old new theirs.raw.session left.raw.session code
