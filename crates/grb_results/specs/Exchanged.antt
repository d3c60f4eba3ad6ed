-- inside: no public contract names it. What functions make of the results that a table keeps: some are given out, some dropped, some taken
-- from a state (own).
use Rattle.std.specs.Prelude.{◌≡◌, ℕ, suc, Bool, true, List, length, slice_get, take, Option, Some}
use Rattle.std.specs.Option.{option_map_or}
use Rattle.grb_sparse.specs.Matrix.{SparseMatrixView}
use Rattle.grb_sparse.specs.Vector.{SparseVectorView}
use Rattle.grb_call.specs.declared.call.Call.{Call}
use Rattle.grb_call.specs.declared.ids.Object.{Object}
use Rattle.grb_call.specs.History.{after_all}
use Rattle.grb_call.specs.Shapes.{object_at}
use Rattle.grb_call.specs.Store.{Store, empty_store}
use Rattle.grb_objects.specs.Stored.{stored_matrices, stored_vectors}
use Rattle.grb_objects.specs.declared.shared_content.SharedContent.{SharedContent}
use Rattle.grb_results.specs.declared.table.Table.{Table}
use Rattle.grb_results.specs.Kept.{IsSameBut, IsTableOf, KeepsAll}
use Rattle.grb_results.specs.Results.{AreTaken}
use Rattle.grb_links.specs.Lasts.{last_of}

-- this is kept as the result of the call that last changed the object
pub record IsLastKept (t : Table) (o : Object) (v : SharedContent) : Type 0 where
  pub at : ℕ
  pub last : last_of t.learnt.lasts o ≡ suc at
  pub kept : slice_get t.results.items at ≡ Some (Some v)

-- no result is kept that was not kept before
abbrev pub AreLeft : List (Option SharedContent) → List (Option SharedContent) → Type 0
AreLeft old new = (k : ℕ) (v : SharedContent) → slice_get new k ≡ Some (Some v) → slice_get old k ≡ Some (Some v)

-- results were taken from another table, and none was lost
pub record IsTakenFrom (old other new : Table) : Type 0 where
  pub taken : AreTaken old.results.items other.results.items new.results.items
  pub places : length new.results.items ≡ length old.results.items
  pub settled : new.settled ≡ old.settled
  pub stays : KeepsAll old new
  pub same : IsSameBut old new

-- results were taken from a store, as that of the calls learnt
pub record Begins (s : Store) (old new : Table) : Type 0 where
  pub table : (cs : List Call) → IsTableOf cs old → s ≡ after_all empty_store cs → IsTableOf cs new
  pub same : IsSameBut old new
  pub stays : KeepsAll old new

-- the first matrices, and the first vectors, of the store that the calls learnt leave
abbrev pub AreMatricesOf : Table → List (Option SparseMatrixView) → ℕ → Type 0
AreMatricesOf t ms n = (cs : List Call) → IsTableOf cs t → stored_matrices ms ≡ take n (after_all empty_store cs).matrices

abbrev pub AreVectorsOf : Table → List (Option SparseVectorView) → ℕ → Type 0
AreVectorsOf t vs n = (cs : List Call) → IsTableOf cs t → stored_vectors vs ≡ take n (after_all empty_store cs).vectors

-- what holds of each of these that is there
abbrev pub OfEach : {X : Type 0} → (X → Bool) → List (Option X) → Type 0
OfEach p xs = (n : ℕ) → option_map_or p (object_at xs n) true ≡ true
