-- believed: What a read of all entries is, by a pass, by a member of a chain and by a handle (own).
use Rattle.std.specs.Prelude.{◌≡◌, ℕ, ℤ, List, Option, Some, None, Result, Ok, Err}
use Rattle.grb_core.specs.declared.domain.Domain.{Domain}
use Rattle.grb_core.specs.declared.refusal.Refusal.{Refusal}
use Rattle.grb_core.specs.declared.value.Value.{Value}
use Rattle.grb_sparse.specs.Matrix.{SparseMatrixView}
use Rattle.grb_sparse.specs.Vector.{SparseVectorView}
use Rattle.grb_call.specs.declared.ids.MatrixId.{MatrixId}
use Rattle.grb_call.specs.declared.ids.VectorId.{VectorId}
use Rattle.grb_call.specs.declared.call.Call.TheVariants as call
use Rattle.grb_call.specs.declared.wait_mode.WaitMode.TheVariants.{Complete}
use Rattle.grb_call.specs.History.{store_of}
use Rattle.grb_context.specs.Explains.{Answer}
use Rattle.grb_context.specs.Known.{Knowing, known}
use Rattle.grb_context.specs.Answered.{Answered}
use Rattle.grb_context.specs.StoredIn.{IsMatrixOf, IsVectorOf}
use Rattle.grb_generations.specs.Seated.{Seated}
use Rattle.grb_codes.specs.Arrays.{PutsHanded, PutsHandedVector, PutsMatrix, PutsVector}
use Rattle.grb_codes.specs.Codes.{refusal_code, uninitialized_object}
use Rattle.grb_c.specs.Bounded.{InStore}
use Rattle.grb_c.specs.Kinds.{HandsOutBy, IsMemberMatrix, IsMemberVector}
use Rattle.grb_c.specs.Sessions.{Goes, Opened}

-- what a read of all entries leaves after this answer to a wait for the matrix: all of the matrix that the store then has; where the wait
-- was refused, nothing is written
abbrev pub ReadsMatrix : {X : Type 0} → Domain → (Value → X) → Knowing → MatrixId → Answer → ℤ → List ℕ → List ℕ → List X → ℕ → List ℕ → List ℕ → List X → ℕ → Type 0
ReadsMatrix wanted f p a (Ok reply) code rows columns values count rows' columns' values' count' =
    (m : SparseMatrixView) × IsMatrixOf (store_of (known p)) a m × PutsMatrix wanted f m code rows columns values count rows' columns' values' count'
ReadsMatrix wanted f p a (Err r) code rows columns values count rows' columns' values' count' = (code ≡ refusal_code r) × (rows' ≡ rows) × (columns' ≡ columns) × (values' ≡ values) × (count' ≡ count)

-- A read of all entries of a matrix by a pass: a wait for it, with all that the store promises of that, and what it leaves
pub record ReadsMatrixBy {X : Type 0} (wanted : Domain) (f : Value → X) (old new : InStore) (a : ℕ) (code : ℤ) (rows columns : List ℕ) (values : List X) (count : ℕ) (rows' columns' : List ℕ) (values' : List X) (count' : ℕ) : Type 0 where
  pub answer : Answer
  pub context : new.context ≡ old.context
  pub answered : Answered old.context old.pass new.pass (call.WaitMatrix (record { 0 = a }) Complete) answer
  pub reads : ReadsMatrix wanted f new.pass (record { 0 = a }) answer code rows columns values count rows' columns' values' count'

-- The same by a member: a snapshot of the matrix, with all that a chain promises of that, and what it leaves
pub record ReadsMatrixByMember {X : Type 0} (wanted : Domain) (f : Value → X) (old new : Seated) (a : ℕ) (code : ℤ) (rows columns : List ℕ) (values : List X) (count : ℕ) (rows' columns' : List ℕ) (values' : List X) (count' : ℕ) : Type 0 where
  pub handed : Result SparseMatrixView Refusal
  pub hands : HandsOutBy (call.WaitMatrix (record { 0 = a }) Complete) (λ n m. IsMemberMatrix n (record { 0 = a }) m) handed old new
  pub puts : PutsHanded wanted f handed code rows columns values count rows' columns' values' count'

-- by the one or the other
abbrev pub ReadsMatrixOf : {X : Type 0} → Domain → (Value → X) → Opened → Opened → ℕ → ℤ → List ℕ → List ℕ → List X → ℕ → List ℕ → List ℕ → List X → ℕ → Type 0
ReadsMatrixOf wanted f old new a code rows columns values count rows' columns' values' count' =
    Goes (λ o n. ReadsMatrixBy wanted f o n a code rows columns values count rows' columns' values' count') (λ o n. ReadsMatrixByMember wanted f o n a code rows columns values count rows' columns' values' count') old new

-- and by a handle, which may have no pass
abbrev pub ReadsAll : {X : Type 0} → Domain → (Value → X) → Option Opened → Option Opened → ℕ → ℤ → List ℕ → List ℕ → List X → ℕ → List ℕ → List ℕ → List X → ℕ → Type 0
ReadsAll wanted f None None a code rows columns values count rows' columns' values' count' = (code ≡ uninitialized_object) × (rows' ≡ rows) × (columns' ≡ columns) × (values' ≡ values) × (count' ≡ count)
ReadsAll wanted f (Some old) (Some new) a code rows columns values count rows' columns' values' count' = ReadsMatrixOf wanted f old new a code rows columns values count rows' columns' values' count'
ReadsAll wanted f None (Some new) a code rows columns values count rows' columns' values' count' = ⊥
ReadsAll wanted f (Some old) None a code rows columns values count rows' columns' values' count' = ⊥

-- the same of a vector, in two arrays
abbrev pub ReadsVector : {X : Type 0} → Domain → (Value → X) → Knowing → VectorId → Answer → ℤ → List ℕ → List X → ℕ → List ℕ → List X → ℕ → Type 0
ReadsVector wanted f p v (Ok reply) code indices values count indices' values' count' =
    (x : SparseVectorView) × IsVectorOf (store_of (known p)) v x × PutsVector wanted f x code indices values count indices' values' count'
ReadsVector wanted f p v (Err r) code indices values count indices' values' count' = (code ≡ refusal_code r) × (indices' ≡ indices) × (values' ≡ values) × (count' ≡ count)

pub record ReadsVectorBy {X : Type 0} (wanted : Domain) (f : Value → X) (old new : InStore) (v : ℕ) (code : ℤ) (indices : List ℕ) (values : List X) (count : ℕ) (indices' : List ℕ) (values' : List X) (count' : ℕ) : Type 0 where
  pub answer : Answer
  pub context : new.context ≡ old.context
  pub answered : Answered old.context old.pass new.pass (call.WaitVector (record { 0 = v }) Complete) answer
  pub reads : ReadsVector wanted f new.pass (record { 0 = v }) answer code indices values count indices' values' count'

pub record ReadsVectorByMember {X : Type 0} (wanted : Domain) (f : Value → X) (old new : Seated) (v : ℕ) (code : ℤ) (indices : List ℕ) (values : List X) (count : ℕ) (indices' : List ℕ) (values' : List X) (count' : ℕ) : Type 0 where
  pub handed : Result SparseVectorView Refusal
  pub hands : HandsOutBy (call.WaitVector (record { 0 = v }) Complete) (λ n x. IsMemberVector n (record { 0 = v }) x) handed old new
  pub puts : PutsHandedVector wanted f handed code indices values count indices' values' count'

abbrev pub ReadsVectorOf : {X : Type 0} → Domain → (Value → X) → Opened → Opened → ℕ → ℤ → List ℕ → List X → ℕ → List ℕ → List X → ℕ → Type 0
ReadsVectorOf wanted f old new v code indices values count indices' values' count' =
    Goes (λ o n. ReadsVectorBy wanted f o n v code indices values count indices' values' count') (λ o n. ReadsVectorByMember wanted f o n v code indices values count indices' values' count') old new

abbrev pub ReadsAllOfVector : {X : Type 0} → Domain → (Value → X) → Option Opened → Option Opened → ℕ → ℤ → List ℕ → List X → ℕ → List ℕ → List X → ℕ → Type 0
ReadsAllOfVector wanted f None None v code indices values count indices' values' count' = (code ≡ uninitialized_object) × (indices' ≡ indices) × (values' ≡ values) × (count' ≡ count)
ReadsAllOfVector wanted f (Some old) (Some new) v code indices values count indices' values' count' = ReadsVectorOf wanted f old new v code indices values count indices' values' count'
ReadsAllOfVector wanted f None (Some new) v code indices values count indices' values' count' = ⊥
ReadsAllOfVector wanted f (Some old) None v code indices values count indices' values' count' = ⊥
