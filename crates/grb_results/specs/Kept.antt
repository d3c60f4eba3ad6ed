-- believed: Which objects a table has as they are after the calls that it learnt (own).
use Rattle.std.specs.Prelude.{◌≡◌, ◌<◌, ◌≤◌, ℕ, suc, false, true, List, length, slice_get, None, Some, All}
use Rattle.grb_call.specs.declared.call.Call.{Call}
use Rattle.grb_call.specs.declared.ids.Object.{Object}
use Rattle.grb_call.specs.After.{refused}
use Rattle.grb_call.specs.History.{after_all}
use Rattle.grb_call.specs.Kinds.{enters, is_size}
use Rattle.grb_call.specs.Shapes.{is_live}
use Rattle.grb_call.specs.Status.{object_of}
use Rattle.grb_call.specs.Store.{Store, empty_store}
use Rattle.grb_objects.specs.SharedContent.{is_assembled_content}
use Rattle.grb_objects.specs.declared.shared_content.SharedContent.{SharedContent}
use Rattle.grb_results.specs.declared.exchange.Kept.{Kept}
use Rattle.grb_results.specs.declared.table.Table.{Table}
use Rattle.grb_links.specs.Lasts.{last_of}
use Rattle.grb_results.specs.Results.{IsResult, IsTable}

-- the result of the call that last changed the object is kept
pub record IsKept (t : Table) (o : Object) : Type 0 where
  pub at : ℕ
  pub content : SharedContent
  pub last : last_of t.learnt.lasts o ≡ suc at
  pub kept : slice_get t.results.items at ≡ Some (Some content)

-- and no change waits in it
pub record IsReady (t : Table) (o : Object) : Type 0 where
  pub at : ℕ
  pub content : SharedContent
  pub last : last_of t.learnt.lasts o ≡ suc at
  pub kept : slice_get t.results.items at ≡ Some (Some content)
  pub assembled : is_assembled_content content ≡ true

-- this is the result of the call that last changed the object, and it is kept
pub record IsLast (t : Table) (o : Object) (v : SharedContent) : Type 0 where
  pub at : ℕ
  pub last : last_of t.learnt.lasts o ≡ suc at
  pub kept : slice_get t.results.items at ≡ Some (Some v)

-- the object lies ready, if it is there
abbrev pub IsReadyIfThere : Table → Object → Type 0
IsReadyIfThere t o = is_live t.learnt.shapes.objects o ≡ true → IsReady t o

-- each object that is there lies ready
abbrev pub AreReady : Table → Type 0
AreReady t = (o : Object) → IsReadyIfThere t o

-- the table is of all calls of the list
pub record IsTableOf (cs : List Call) (t : Table) : Type 0 where
  pub table : IsTable cs t
  pub all : length t.learnt.nodes.items ≡ length cs

-- the call reads entries of this object of a store, or has changes done in it, and is not refused
pub record ReadsObject (s : Store) (o : Object) (c : Call) : Type 0 where
  pub reads : enters c ≡ false
  pub no_size : is_size c ≡ false
  pub about : object_of c ≡ Some o
  pub accepted : refused s c ≡ None

-- some calls were all learnt, and the call reads this object of the store that they leave
pub record MayReply (t : Table) (o : Object) (c : Call) : Type 0 where
  pub calls : List Call
  pub table : IsTableOf calls t
  pub reads : ReadsObject (after_all empty_store calls) o c

-- this is the result of one of the calls
pub record IsKeptOf (cs : List Call) (k : Kept) : Type 0 where
  pub within : k.at < length cs
  pub result : IsResult cs k.at k.content

abbrev pub AreKept : List Call → List Kept → Type 0
AreKept cs ks = All (IsKeptOf cs) ks

-- no result that was kept is lost, or another one
abbrev pub KeepsAll : Table → Table → Type 0
KeepsAll old new = (k : ℕ) (v : SharedContent) → slice_get old.results.items k ≡ Some (Some v) → slice_get new.results.items k ≡ Some (Some v)

-- what is kept of the calls at other places stays
abbrev pub KeepsOthers : Table → ℕ → Table → Type 0
KeepsOthers old at new = (k : ℕ) → (k ≡ at → ⊥) → slice_get new.results.items k ≡ slice_get old.results.items k

-- what is kept of the calls from this place on stays
abbrev pub KeepsFrom : ℕ → Table → Table → Type 0
KeepsFrom count old new = (k : ℕ) → count ≤ k → slice_get new.results.items k ≡ slice_get old.results.items k

-- the call at this place is the last that changed an object which is there
pub record IsLastCall (t : Table) (k : ℕ) : Type 0 where
  pub object : Object
  pub last : last_of t.learnt.lasts object ≡ suc k
  pub live : is_live t.learnt.shapes.objects object ≡ true

-- what the first calls of a list were learnt of stays, but the results
pub record IsSameBut (old new : Table) : Type 0 where
  pub learnt : new.learnt ≡ old.learnt
  pub made : new.made ≡ old.made

-- a result is kept of the call at this place
pub record IsKeptAt (t : Table) (k : ℕ) : Type 0 where
  pub content : SharedContent
  pub kept : slice_get t.results.items k ≡ Some (Some content)

-- of each call that both have learnt, a result is kept here where the other keeps one
abbrev pub KeepsAlso : Table → Table → Type 0
KeepsAlso other t = (k : ℕ) → k < length t.results.items → IsKeptAt other k → IsKeptAt t k
