-- believed: What holds of any two passes of one context (own).
use Rattle.std.specs.Prelude.{◌≡◌, ℕ, List, ◌++◌, ◌⊎◌, Contains}
use Rattle.grb_order.specs.Laws.{HasSeat, Row}
use Rattle.grb_order.specs.Rule.{Orderly}
use Rattle.grb_order.specs.declared.rule.Size.{Size}
use Rattle.grb_records.specs.Token.{Shown, IsSameRecord}
use Rattle.grb_call.specs.History.{History}
use Rattle.grb_reader.specs.Known.{Shared, Knowing, known, IsKnown}

-- the history h begins with g
abbrev pub Begins : History → History → Type 0
Begins g h = (rest : History) × (h ≡ g ++ rest)

-- tokens of one record have one call, as `Records::same` promises of any two
abbrev pub ShareCalls : List Shown → List Shown → Type 0
ShareCalls a b = (t u : Shown) → Contains a t → Contains b u → IsSameRecord t u → t.call ≡ u.call

-- of the histories that two passes know the one begins the other, at any step of the order
abbrev pub HistoriesAgree : Type 0
HistoriesAgree =
    (size : Size) (s : Row) → Orderly size s → (i j : ℕ) (context : Shared) (p q : Knowing) → HasSeat s i p.view → HasSeat s j q.view → IsKnown context p → IsKnown context q
    → ShareCalls p.shown q.shown → Begins (known p) (known q) ⊎ Begins (known q) (known p)
