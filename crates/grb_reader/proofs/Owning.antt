-- Of its own calls a pass knows just those that it entered.
use Rattle.std.proofs.Common.{◌≡◌, ◌≢◌, ℕ, ◌<◌, ◌≤◌, Bool, true, false, cond, eqb, List, [], ◌∷◌, ◌++◌, length, refl, sym, ap, subst, ◌∙◌, eq-eqb, ne_eqb}
use Rattle.grb_reader.proofs.Prelude.{filter, append-nil, All-head, All-tail, All-nil, All-cons, number_of, IsWord, room_of, Shown, Call, Entry, History, calls_of, Shared, Knowing, known, spelled, IsOfOthers, IsOfPasses, IsPassOf, IsKnown, calls_by, Answer, ExplainsAnswer, is_entered, entered_calls, IsSteady, Learns}
use Rattle.std.specs.Prelude.{◌==◌}
use Rattle.std.specs.List.{All}
use Rattle.grb_order.specs.Holding.{TableId}
use Rattle.grb_reader.proofs.Spelling.{length_spelled}

pushed : (b : Bool) (e : Entry) (x y : History) (z : List Call) → calls_of x ≡ calls_of y ++ z → calls_of (cond b (e ∷ x) x) ≡ calls_of (cond b (e ∷ y) y) ++ z
pushed true e x y z same = ap (λ (l : List Call). e.1 ∷ l) same
pushed false e x y z same = same

calls_by-append : (number : ℕ) (a b : History) → calls_by number (a ++ b) ≡ calls_by number a ++ calls_by number b
calls_by-append number [] b = refl
calls_by-append number (e ∷ a) b = pushed (eqb e.0 number) e (filter (λ (x : Entry). x.0 == number) (a ++ b)) (filter (λ (x : Entry). x.0 == number) a) (calls_by number b) (calls_by-append number a b)

calls_by-others : (number : ℕ) (h : History) → IsOfOthers number h → calls_by number h ≡ []
calls_by-others number [] all = refl
calls_by-others number (e ∷ h) all =
    let other : e.0 ≢ number = All-head (λ (x : Entry). x.0 ≢ number) e h all in
    let rest : History = filter (λ (x : Entry). x.0 == number) h in
    ap (λ (b : Bool). calls_of (cond b (e ∷ rest) rest)) (ne_eqb e.0 number other) ∙ calls_by-others number h (All-tail (λ (x : Entry). x.0 ≢ number) e h all)

calls_by-own : (number : ℕ) (c : Call) → calls_by number ((number, c) ∷ []) ≡ c ∷ []
calls_by-own number c = ap (λ (b : Bool). calls_of (cond b ((number, c) ∷ []) [])) (eq-eqb number number refl)

by_kind : (b : Bool) (number : ℕ) (c : Call) (g : History) → calls_by number (cond b (g ++ (number, c) ∷ []) g) ≡ calls_by number g ++ cond b (c ∷ []) []
by_kind true number c g = calls_by-append number g ((number, c) ∷ []) ∙ ap (λ (l : List Call). calls_by number g ++ l) (calls_by-own number c)
by_kind false number c g = sym (append-nil (calls_by number g))

-- of its own calls the pass knows one more where it entered one
pub own_calls : (room : ℕ) (old new : Knowing) (c : Call) (r : Answer) → ExplainsAnswer room old new c r → calls_by old.view.number (known new) ≡ calls_by old.view.number (known old) ++ entered_calls c r
own_calls room old new c r is =
    let number : ℕ = old.view.number in let before : List Call = calls_by number (known old) in
    ap (calls_by number) is.known_is ∙ by_kind (is_entered c r) number c (known old ++ is.learnt)
    ∙ ap (λ (l : List Call). l ++ entered_calls c r) (calls_by-append number (known old) is.learnt ∙ ap (λ (l : List Call). before ++ l) (calls_by-others number is.learnt is.others) ∙ append-nil before)

-- where it entered none, its own calls stay
pub own_learns : (old new : Knowing) → Learns old new → calls_by old.view.number (known new) ≡ calls_by old.view.number (known old)
own_learns old new l =
    let number : ℕ = old.view.number in let before : List Call = calls_by number (known old) in
    ap (calls_by number) l.known_is ∙ calls_by-append number (known old) l.learnt ∙ ap (λ (c : List Call). before ++ c) (calls_by-others number l.learnt l.others) ∙ append-nil before

numbers : (passes : ℕ) (words : List ℕ) (shown : List Shown) → All (IsWord passes) words → IsOfPasses passes (spelled words shown)
numbers passes [] shown all = All-nil (λ (e : Entry). e.0 < passes)
numbers passes (word ∷ words) [] all = All-nil (λ (e : Entry). e.0 < passes)
numbers passes (word ∷ words) (t ∷ shown) all =
    let word_is : IsWord passes word = All-head (IsWord passes) word words all in
    let e : Entry = (number_of word, t.call) in
    All-cons (λ (x : Entry). x.0 < passes) e (spelled words shown) word_is.1 (numbers passes words shown (All-tail (IsWord passes) word words all))

pub is_known : (context : Shared) (p : Knowing) → IsPassOf context p → IsSteady p → IsKnown context p
is_known context p of steady = record {
  records = steady.records;
  shown = of.records;
  passes = numbers p.view.passes p.view.words p.shown steady.sound.words;
  own = steady.sound.own;
  few = subst (λ (n : ℕ). n ≤ length p.view.words) (sym (length_spelled p.view.words p.shown steady.few)) steady.few;
  within = subst (λ (o : TableId). length p.view.words ≤ room_of o) of.order steady.sound.few;
  unshown = steady.others;
}
