-- believed: Flat lists with pending changes, and the map that they stand for (own).
use Rattle.std.specs.Prelude.{◌≡◌, ℕ, Bool, true, List, [], length, IsTrue, IfSome}
use Rattle.std.specs.Ordering.{nat_cmp}
use Rattle.std.specs.FinMap.{is_sorted}
use Rattle.grb_core.specs.declared.domain.Domain.{Domain}
use Rattle.grb_core.specs.Entries.{VectorEntries}
use Rattle.grb_rows.specs.Pending.{Change, PendingView, changed, last_at, IsChangeOf}
use Rattle.grb_lists.specs.Stored.{RowView}
use Rattle.grb_rows.specs.Layers.{IsPlaced}

-- the map: the entries, and then the changes
abbrev pub stored : RowView → List Change → VectorEntries
stored row cs = changed row.entries cs

-- the entries rise, and the last change of each place is of their domain
pub record IsLaid (row : RowView) (cs : List Change) : Type 0 where
  pub ordered : IsTrue (is_sorted nat_cmp row.entries)
  pub inside : (k : ℕ) → IfSome (last_at k cs) (λ c. IsChangeOf row.domain (k, c))

-- what is held of one object, as its owner sees it: the map, by the numbers of cells; the domain of the values; whether no change waits
-- to be assembled; for how many more changes memory is held; and how many were made at cells that did not stand in the lists
pub record HeldView : Type 0 where
  pub entries : VectorEntries
  pub domain : Domain
  pub assembled : Bool
  pub reserved : ℕ
  pub pending : ℕ

-- the same, from the lists
abbrev pub held_view : RowView → PendingView → Bool → HeldView
held_view row p a =
    record { entries = stored row p.changes; domain = row.domain; assembled = a; reserved = p.reserved; pending = p.apart }

-- these entries of a domain, with no place reserved for a change and none counted as pending; `assembled` is what the object says of itself
abbrev pub settled_view : VectorEntries → Domain → Bool → HeldView
settled_view entries domain assembled =
    record { entries = entries; domain = domain; assembled = assembled; reserved = 0; pending = 0 }

-- what is held, with no place reserved for a change
abbrev pub unreserved_view : HeldView → HeldView
unreserved_view held =
    record { entries = held.entries; domain = held.domain; assembled = held.assembled; reserved = 0; pending = held.pending }

-- the number of entries and the places of those that have a change are kept, and what is assembled has no change
pub record IsHeld (row : RowView) (p : PendingView) (nvals : ℕ) (a : Bool) : Type 0 where
  pub laid : IsLaid row p.changes
  pub placed : IsPlaced row.entries p.places p.changes
  pub counted : nvals ≡ length (stored row p.changes)
  pub settled : a ≡ true → p.changes ≡ []
