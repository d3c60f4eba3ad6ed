-- The passes of a new context.
use Rattle.std.proofs.Common.{◌≡◌, ◌<◌, ℕ, List, [], ◌∷◌, refl}
use Rattle.grb_run.proofs.Prelude.{slice_get, room_of, Knowing, none_made, AreNew}
use Rattle.std.specs.Prelude.{Option, Some}
use Rattle.grb_order.specs.Holding.{TableId}
use Rattle.grb_order.specs.View.{fresh}
use Rattle.grb_context.specs.Statuses.{no_rows}

abbrev pub new_pass : TableId → ℕ → Knowing
new_pass order passes = record { order = order; view = fresh 0 passes; shown = []; steps = 0; statuses = no_rows (room_of order); settled = 0; made = none_made }

same_some : (o : Option Knowing) (p q : Knowing) → o ≡ Some p → o ≡ Some q → p ≡ q
same_some o p q e f = cc

-- the first of them knows nothing
pub first_pass : (order : TableId) (n : ℕ) (p : Knowing) (rest : List Knowing) → 0 < n → AreNew order n (p ∷ rest) n → p ≡ new_pass order n
first_pass order n p rest some are = same_some (slice_get (p ∷ rest) 0) p (new_pass order n) refl (are.each 0 some)
