-- believed: What a rule makes of two lists of entries, and how many entries that has at most (own).
use Rattle.std.specs.Prelude.{ℕ, ◌+◌, ◌++◌, min, Bool, true, false, List, [], Option}
use Rattle.std.specs.Ordering.{nat_cmp}
use Rattle.grb_core.specs.declared.value.Value.{Value}
use Rattle.grb_core.specs.Entries.{VectorEntries, before_entries}
use Rattle.grb_core.specs.Written.{pointwise}
use Rattle.grb_kernels.specs.declared.list.EntryList.{EntryList}
use Rattle.grb_kernels.specs.declared.list.EntrySlice.{EntrySlice}
use Rattle.grb_kernels.specs.declared.scalar.Scalar.{Ghosts}
use Rattle.grb_kernels.specs.Typed.{kept, entries_of, first_entries}

-- the most entries, of two maps of so many: whether what the first alone stores may be kept, and what the second alone does
abbrev pub most_of : Bool → Bool → ℕ → ℕ → ℕ
most_of true true a b = a + b
most_of true false a b = a
most_of false true a b = b
most_of false false a b = min a b

-- what a rule makes of two maps, each as its indices and its values
abbrev pub made : {R V W : Type 0} → (R → Option Value → Option Value → Option Value) → R → (V → Value) → List ℕ → List V → (W → Value) → List ℕ → List W → VectorEntries
made gives rule tv ac av uv bc bv = pointwise nat_cmp (gives rule) (entries_of tv ac av) (entries_of uv bc bv)

-- the first k entries of lists, and one more, if it is kept
abbrev pub with_kept : {V : Type 0} → (V → Value) → ℕ → List ℕ → List V → ℕ → V → Bool → VectorEntries
with_kept value k cs vs index v keep = first_entries value k cs vs ++ before_entries index (kept (value v) keep) []

-- the entries of lists that are owned
abbrev pub owned : {T : Type 0} {S : Ghosts T} → EntryList T S → VectorEntries
owned {T} {S} list = entries_of S.value list.indices.items list.values.items

-- the entries of lists that are lent
abbrev pub lent : {T : Type 0} {S : Ghosts T} → EntrySlice T S → VectorEntries
lent {T} {S} list = entries_of S.value list.indices.now list.values.now
