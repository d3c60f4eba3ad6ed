-- believed: What a contract sees of a chain of stores (own): the sizes that each of them has, and which chain it is.
use Rattle.std.specs.Prelude.{ℕ, ◌<◌, ◌≤◌, ◌*◌}
use Rattle.grb_chronicle.specs.Pages.{Book}
use Rattle.grb_order.specs.declared.limits.TheConstants.{MOST_PASSES, MOST_ROOM, MOST_SEATS}

-- how many calls each generation takes beside those that begin it, for how many members, and the book of its chronicle, which no other chain
-- has
pub record Chain : Type 0 where
  pub room : ℕ
  pub members : ℕ
  pub book : Book

-- a store may have this room, and so many passes
pub record IsChain (room members : ℕ) : Type 0 where
  pub some_room : 0 < room
  pub most_room : room ≤ MOST_ROOM
  pub some : 0 < members
  pub most : members ≤ MOST_PASSES
  pub seats : room * members ≤ MOST_SEATS
