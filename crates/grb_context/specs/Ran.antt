-- believed: What the calls of a list promise together (own): each its own promise, one after another, and all of them one
-- explanation.
use Rattle.std.specs.Prelude.{◌≡◌, ℕ, List, [], ◌∷◌, ◌++◌}
use Rattle.grb_order.specs.Order.{room_of}
use Rattle.grb_call.specs.declared.call.Call.{Call}
use Rattle.grb_call.specs.Status.{Statuses, statuses_after}
use Rattle.grb_pass.specs.Known.{Shared, Knowing, known, calls_by}
use Rattle.grb_pass.specs.Explains.{Answer, Explains, entered_calls}
use Rattle.grb_pass.specs.Answered.{Answered}
use Rattle.grb_pass.specs.Statuses.{status_at}

-- each call of the list is answered in turn, from what the pass knew after the one before it
abbrev pub AreAnswered : Shared → Knowing → List Call → List Answer → Knowing → Type 0
AreAnswered context old [] [] new = new ≡ old
AreAnswered context old (c ∷ cs) (r ∷ rs) new = (next : Knowing) × Answered context old next c r × AreAnswered context next cs rs new
AreAnswered context old _ _ new = ⊥

-- the calls of a list that were entered, in its order
abbrev pub all_entered : List Call → List Answer → List Call
all_entered (c ∷ cs) (r ∷ rs) = entered_calls c r ++ all_entered cs rs
all_entered _ _ = []

-- the statuses after the calls of a list, from those before: each call changes them in turn
abbrev pub all_statuses : ℕ → List Call → List Answer → Statuses → Statuses
all_statuses room (c ∷ cs) (r ∷ rs) before = all_statuses room cs rs (statuses_after room c r before)
all_statuses room [] rs before = before
all_statuses room (c ∷ cs) [] before = before

-- The calls of a list, made one after another: one history explains all answers, and what is settled from call to call; of its own calls
-- the pass knows those of before, and after them those of the list that were entered; the statuses are those that the calls left in turn;
-- and each call keeps the promise of a call made by itself, its steps too
pub record Ran (context : Shared) (old new : Knowing) (calls : List Call) (answers : List Answer) : Type 0 where
  pub explains : Explains (room_of context.order) old calls answers new
  pub own : calls_by old.view.number (known new) ≡ calls_by old.view.number (known old) ++ all_entered calls answers
  pub statuses : status_at new.statuses ≡ all_statuses (room_of context.order) calls answers (status_at old.statuses)
  pub each : AreAnswered context old calls answers new
