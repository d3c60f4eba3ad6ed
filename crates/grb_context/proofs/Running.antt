-- One call more at the end of a list, and what a list of calls promises.
use Rattle.std.proofs.Common.{◌≡◌, ℕ, List, [], ◌∷◌, ◌++◌, refl, sym, ap, ◌∙◌, subst, append_assoc, append-nil}
use Rattle.grb_order.specs.Order.{room_of}
use Rattle.grb_call.specs.declared.call.Call.{Call}
use Rattle.grb_pass.specs.Known.{Shared, Knowing, known, calls_by}
use Rattle.grb_pass.specs.Explains.{Answer, Explains, entered_calls}
use Rattle.grb_pass.specs.Answered.{Promise, Answered}
use Rattle.grb_pass.specs.Statuses.{status_at}
use Rattle.grb_pass.proofs.Promised.{promise}
use Rattle.grb_context.specs.Ran.{AreAnswered, Ran, all_entered, all_statuses}

-- the list so far, and one call more
pub answered_more : (context : Shared) (old mid new : Knowing) (cs : List Call) (rs : List Answer) (c : Call) (r : Answer) → AreAnswered context old cs rs mid → Answered context mid new c r
    → AreAnswered context old (cs ++ c ∷ []) (rs ++ r ∷ []) new
answered_more context old mid new [] [] c r is one = (new, subst (λ (p : Knowing). Answered context p new c r) is one, refl)
answered_more context old mid new [] (x ∷ rs) c r is one = absurd is
answered_more context old mid new (x ∷ cs) [] c r is one = absurd is
answered_more context old mid new (x ∷ cs) (y ∷ rs) c r is one = (is.0, is.1, answered_more context is.0 mid new cs rs c r is.2 one)

explains_all : (context : Shared) (old new : Knowing) (cs : List Call) (rs : List Answer) → AreAnswered context old cs rs new → Explains (room_of context.order) old cs rs new
explains_all context old new [] [] is = is
explains_all context old new [] (r ∷ rs) is = absurd is
explains_all context old new (c ∷ cs) [] is = absurd is
explains_all context old new (c ∷ cs) (r ∷ rs) is = (is.0, (promise context old is.0 c r is.1).explains, explains_all context is.0 new cs rs is.2)

own_all : (context : Shared) (old new : Knowing) (cs : List Call) (rs : List Answer) → AreAnswered context old cs rs new
    → calls_by old.view.number (known new) ≡ calls_by old.view.number (known old) ++ all_entered cs rs
own_all context old new [] [] is = ap (λ (p : Knowing). calls_by old.view.number (known p)) is ∙ sym (append-nil (calls_by old.view.number (known old)))
own_all context old new [] (r ∷ rs) is = absurd is
own_all context old new (c ∷ cs) [] is = absurd is
own_all context old new (c ∷ cs) (r ∷ rs) is =
    let next : Knowing = is.0 in
    let one : Promise context old next c r = promise context old next c r is.1 in
    let number : next.view.number ≡ old.view.number = one.explains.answer.grown.number in
    let rest : calls_by next.view.number (known new) ≡ calls_by next.view.number (known next) ++ all_entered cs rs = own_all context next new cs rs is.2 in
    let here : calls_by old.view.number (known new) ≡ calls_by old.view.number (known next) ++ all_entered cs rs =
    subst (λ (n : ℕ). calls_by n (known new) ≡ calls_by n (known next) ++ all_entered cs rs) number rest in
    here ∙ ap (λ (l : List Call). l ++ all_entered cs rs) one.own ∙ append_assoc (calls_by old.view.number (known old)) (entered_calls c r) (all_entered cs rs)

statuses_all : (context : Shared) (old new : Knowing) (cs : List Call) (rs : List Answer) → AreAnswered context old cs rs new
    → status_at new.statuses ≡ all_statuses (room_of context.order) cs rs (status_at old.statuses)
statuses_all context old new [] [] is = ap (λ (p : Knowing). status_at p.statuses) is
statuses_all context old new [] (r ∷ rs) is = absurd is
statuses_all context old new (c ∷ cs) [] is = absurd is
statuses_all context old new (c ∷ cs) (r ∷ rs) is =
    let one : Promise context old is.0 c r = promise context old is.0 c r is.1 in
    statuses_all context is.0 new cs rs is.2 ∙ ap (all_statuses (room_of context.order) cs rs) one.statuses

-- a list of calls that were all made has run
pub ran : (context : Shared) (old new : Knowing) (cs : List Call) (rs : List Answer) → AreAnswered context old cs rs new → Ran context old new cs rs
ran context old new cs rs is = record {
  explains = explains_all context old new cs rs is;
  own = own_all context old new cs rs is;
  statuses = statuses_all context old new cs rs is;
  each = is;
}
