-- believed: What a pass knows that learns the order to its end and enters nothing (own).
use Rattle.std.specs.Prelude.{◌≡◌, ℕ, length}
use Rattle.grb_reader.specs.Counting.{CountsCall, LooksOnce}
use Rattle.grb_reader.specs.Known.{Knowing, known}
use Rattle.grb_reader.specs.Learning.{Learns}
use Rattle.grb_reader.specs.Point.{IsAtPoint}

-- it learnt entries of others alone, no status changed, and no call was settled; its steps are those of a call that only reads
pub record Looks (room : ℕ) (old new : Knowing) : Type 0 where
  pub learns : Learns old new
  pub counts : CountsCall room old new
  pub once : LooksOnce old new

-- all that it knows then is what the order held at one step in between
pub record IsNow (room : ℕ) (old new : Knowing) : Type 0 where
  pub point : IsAtPoint room old.view new.view (known new)
  pub all : length (known new) ≡ length new.view.words
