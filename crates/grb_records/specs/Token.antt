-- believed: Records and their tokens, as contracts see them (own). Each pass has a row of cells; a record is a call in a cell.
-- Which cell that is has a name, and above this crate a token is its pass, its index and its call; `IsOf` says of which records it
-- is.
use Rattle.std.specs.Prelude.{◌≡◌, ℕ, List, length, All, Option, None, Some, slice_get}
use Rattle.once_cell.specs.Once.{cell_name}
use Rattle.std.specs.declared.alloc.Global.{Global}
use Rattle.grb_call.specs.declared.call.Call.{Call}
use Rattle.grb_call.specs.declared.call.Call.TheVariants as call

-- a token: of which pass its record is, the record's index, its call, and the name of its cell
pub record Shown : Type 0 where
  pub pass : ℕ
  pub index : ℕ
  pub call : Call
  pub cell : ℕ

-- the call that a cell is known to hold. No token stands for a cell of which nothing is known
abbrev pub held : Option Call → Call
held None = call.NvalsVector (record { 0 = 0 })
held (Some c) = c

-- the cells of one pass: each has the allocator and its name
abbrev pub Cells : Type 0
Cells = List (Global × ℕ)

-- a store of records: the cells of each pass
abbrev pub Shelf : Type 0
Shelf = List Cells

abbrev pub in_row : Option Cells → ℕ → Option (Global × ℕ)
in_row None at = None
in_row (Some row) at = slice_get row at

abbrev pub name_of : Option (Global × ℕ) → Option ℕ
name_of None = None
name_of (Some cell) = Some (cell_name cell)

-- the name of the cell at the index in the row of the pass, if there is one
abbrev pub cell_at : Shelf → ℕ → ℕ → Option ℕ
cell_at records pass at = name_of (in_row (slice_get records pass) at)

-- there are so many rows, of so many cells each
abbrev pub HasRows : ℕ → ℕ → Shelf → Type 0
HasRows passes room records = (length records ≡ passes) × All (λ row. length row ≡ room) records

-- the token is of these records
abbrev pub IsOf : Shelf → Shown → Type 0
IsOf records token = cell_at records token.pass token.index ≡ Some token.cell

-- the tokens are of one record
abbrev pub IsSameRecord : Shown → Shown → Type 0
IsSameRecord a b = (a.pass ≡ b.pass) × (a.index ≡ b.index)
