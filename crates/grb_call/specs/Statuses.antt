-- believed: The statuses of a pass, in a row for each sort of object (own).
use Rattle.std.specs.Prelude.{◌≡◌, ℕ, List, length, replicate, Option, None}
use Rattle.grb_core.specs.declared.refusal.Info.{Info}
use Rattle.grb_call.specs.declared.ids.Object.TheVariants as object
use Rattle.grb_call.specs.Shapes.{object_at}
use Rattle.grb_call.specs.Status.{Statuses}

-- the statuses of the matrices and of the vectors by number, None where there is none
pub record StatusRows : Type 0 where
  pub matrices : List (Option Info)
  pub vectors : List (Option Info)

-- the status of an object stands in the row of its sort, at its number; beyond the end of the row there is none
abbrev pub status_at : StatusRows → Statuses
status_at rows (object.Matrix a) = object_at rows.matrices a.0
status_at rows (object.Vector v) = object_at rows.vectors v.0

-- rows with a place for each number below the room, and no status
abbrev pub no_rows : ℕ → StatusRows
no_rows room = record { matrices = replicate room None; vectors = replicate room None }

-- rows, and below which number an object has a place there
pub record RoomyStatuses : Type 0 where
  pub rows : StatusRows
  pub room : ℕ

-- the rows have a place for each number below the room
pub record AreRows (matrices vectors : List (Option Info)) (room : ℕ) : Type 0 where
  pub matrices_are : length matrices ≡ room
  pub vectors_are : length vectors ≡ room
