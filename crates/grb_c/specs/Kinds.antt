-- believed: Who makes the calls of a handle (own): the pass of a bounded store, or a member of a chain of stores.
use Rattle.std.specs.Prelude.{Bool, true, false, List, Option, Result, IfOk}
use Rattle.grb_core.specs.declared.refusal.Refusal.{Refusal}
use Rattle.grb_core.specs.declared.refusal.Info.{Info}
use Rattle.grb_sparse.specs.Matrix.{SparseMatrixView}
use Rattle.grb_sparse.specs.Vector.{SparseVectorView}
use Rattle.grb_call.specs.declared.call.Call.{Call}
use Rattle.grb_call.specs.declared.ids.MatrixId.{MatrixId}
use Rattle.grb_call.specs.declared.ids.Object.{Object}
use Rattle.grb_call.specs.declared.ids.VectorId.{VectorId}
use Rattle.grb_call.specs.History.{store_of}
use Rattle.grb_call.specs.Store.{Store}
use Rattle.grb_context.specs.Chosen.{chosen_store}
use Rattle.grb_context.specs.Known.{Knowing, known}
use Rattle.grb_context.specs.Statuses.{status_at}
use Rattle.grb_context.specs.StoredIn.{IsMatrixOf, IsVectorOf}
use Rattle.grb_numbers.specs.Inside.{inner_matrix, inner_vector, inside_object}
use Rattle.grb_generations.specs.Branched.{store_named}
use Rattle.grb_generations.specs.Snapped.{Snaps}
use Rattle.grb_generations.specs.Seated.{Seated}
use Rattle.grb_c.specs.Bounded.{InStore}
use Rattle.grb_c.specs.declared.session.Kind.{Kind}
use Rattle.grb_c.specs.declared.session.Kind.TheVariants as kind

-- the pass by which the next call is made, in the store of the generation of a member
abbrev pub pass_at : Kind → Knowing
pass_at (kind.Bounded p) = p.pass
pass_at (kind.Member m) = m.pass

-- the matrix that a member has under this number, and the vector
abbrev pub IsMemberMatrix : Seated → MatrixId → SparseMatrixView → Type 0
IsMemberMatrix m a x = IsMatrixOf (store_of (known m.pass)) (inner_matrix m.numbers a) x

abbrev pub IsMemberVector : Seated → VectorId → SparseVectorView → Type 0
IsMemberVector m v x = IsVectorOf (store_of (known m.pass)) (inner_vector m.numbers v) x

-- a snapshot by a member, of an object of which this holds, with all that a chain promises of that
pub record HandsOutBy {X : Type 0} (wait : Call) (IsMembers : Seated → X → Type 0) (handed : Result X Refusal) (old new : Seated) : Type 0 where
  pub snapshot : Snaps old new wait handed
  pub is : IfOk handed (IsMembers new)

-- the store of these objects, as a pass knows them or a member
abbrev pub store_chosen : Kind → List MatrixId → List VectorId → Store
store_chosen (kind.Bounded p) matrices vectors = chosen_store (store_of (known p.pass)) matrices vectors
store_chosen (kind.Member m) matrices vectors = store_named m matrices vectors

-- the status that the last call on an object left
abbrev pub info_at : Kind → Object → Option Info
info_at (kind.Bounded p) o = status_at p.pass.statuses o
info_at (kind.Member m) o = status_at m.pass.statuses (inside_object m.numbers o)

abbrev pub is_member : Kind → Bool
is_member (kind.Bounded p) = false
is_member (kind.Member m) = true

-- a pass stays a pass, of which the one holds, and a member a member, of which the other does
abbrev pub IsEither : (InStore → InStore → Type 0) → (Seated → Seated → Type 0) → Kind → Kind → Type 0
IsEither P M (kind.Bounded old) (kind.Bounded new) = P old new
IsEither P M (kind.Member old) (kind.Member new) = M old new
IsEither P M (kind.Bounded old) (kind.Member new) = ⊥
IsEither P M (kind.Member old) (kind.Bounded new) = ⊥
