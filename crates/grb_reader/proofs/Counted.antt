-- The steps of a call are counted.
use Rattle.std.proofs.Common.{◌≡◌, ℕ, ◌+◌, ◌^◌, ◌<◌, ◌≤◌, List, [], ◌∷◌, ◌++◌, length, refl, sym, ap, ◌∙◌, subst, arith, length-append}
use Rattle.grb_reader.proofs.Prelude.{append-nil, length_push, All-nil, learns, enters_word, LookedLast, View, Call, steps_of, look_steps, Counts, CountsTries, CountsCall, LooksLast, LooksOnce, LooksRise, others_end, Knowing, known, none_made, Answer, ExplainsAnswer, ground_of, IsReady, Learns, LooksAtEnd}
use Rattle.grb_order.specs.declared.limits.TheConstants.{MOST_WORDS}
use Rattle.grb_order.specs.Steps.{Looks}
use Rattle.grb_order.specs.declared.step.Look.{Look}
use Rattle.grb_order.specs.declared.step.Look.TheVariants.{Next, Vacant, Full}
use Rattle.grb_reader.proofs.Learnt.{grows_refl}
use Rattle.grb_reader.proofs.Answering.{grounded_before}
use Rattle.grb_reader.proofs.Rising.{LooksTried, rising_few, rise_looked, rise_won, rise_lost, rise_before, tried_few, tried_again, looks_number, looks_exact, looks_full, looks_unshown, looks_ready}

pub counts_look : (room : ℕ) (v : View) (found : Look) (w : View) → Looks room v found w → look_steps found + steps_of v ≡ steps_of w
counts_look room v (Next word) w l =
    let n : length w.words ≡ length v.words + 1 = ap (λ (x : View). length x.words) l.0 ∙ length_push v.words word in
    let k : length w.looks ≡ length v.looks = ap (λ (x : View). length x.looks) l.0 in omega arith
counts_look room v Vacant w l =
    let n : length w.words ≡ length v.words = ap (λ (x : View). length x.words) l.0 in
    let k : length w.looks ≡ length v.looks + 1 = ap (λ (x : View). length x.looks) l.0 ∙ length_push v.looks (length v.words) in omega arith
counts_look room v Full w l =
    let n : length w.words ≡ length v.words = ap (λ (x : View). length x.words) l.0 in
    let k : length w.looks ≡ length v.looks = ap (λ (x : View). length x.looks) l.0 in omega arith

pub counts_learns : (v w : View) (word : ℕ) → w ≡ learns v word → 1 + steps_of v ≡ steps_of w
counts_learns v w word is =
    let n : length w.words ≡ length v.words + 1 = ap (λ (x : View). length x.words) is ∙ length_push v.words word in
    let k : length w.looks ≡ length v.looks = ap (λ (x : View). length x.looks) is in omega arith

pub counts_same : (a b : Knowing) → b.steps ≡ a.steps → b.view ≡ a.view → Counts a b
counts_same a b steps view = let n : steps_of b.view ≡ steps_of a.view = ap steps_of view in omega arith

pub counts_then : (a b c : Knowing) → Counts a b → Counts b c → Counts a c
counts_then a b c first next = omega (arith, first, next)

-- the steps while no look was added: no more than the words
pub steps_few : (a b : Knowing) → Counts a b → b.view.looks ≡ a.view.looks → a.steps < 2 ^ 30 → length b.view.words ≤ MOST_WORDS → b.steps < 2 ^ 31
steps_few a b counts looks few small = let k : length b.view.looks ≡ length a.view.looks = ap length looks in omega (arith, counts)

-- what a call counts, by its looks
pub counts_call : (room : ℕ) (old new : Knowing) → Counts old new → old.steps ≡ 0 → length old.view.own ≤ length new.view.own → length old.view.words + length new.view.own ≤ length new.view.words + length old.view.own
    → LooksRise room old.view.looks old new → CountsCall room old new
counts_call room old new counts begun own learnt rise =
    let earlier : List ℕ = old.view.looks ++ rise.lost in let end : ℕ = others_end old.view new.view in
    let m : length earlier ≡ length old.view.looks + length rise.lost = length-append old.view.looks rise.lost in
    let few : length rise.lost + length old.view.words ≤ end = rising_few (length old.view.words) end rise.lost (omega arith) rise.rising in
    let k : length new.view.looks ≤ length earlier + 1 = looks_number room earlier end new rise.looks in record {
      count = omega (arith, counts);
      rise = rise;
      exact = λ shown left. let n : length new.view.looks ≡ length earlier + 1 = looks_exact room earlier end new shown left rise.looks in omega (arith, counts);
      full = λ full. let n : length new.view.looks ≡ length earlier = looks_full room earlier end new full rise.looks in omega (arith, counts);
      unshown = λ unshown. let n : length new.view.looks ≡ length earlier = looks_unshown room earlier end new unshown rise.looks in omega (arith, counts);
      few = omega (arith, counts);
      alone = λ just. omega (arith, counts, just);
    }

pub learnt_more : (old new : Knowing) → Learns old new → length old.view.words ≤ length new.view.words
learnt_more old new l = let n : length new.view.words ≡ length old.view.words + length l.grown.words.0 = ap length l.grown.words.1 ∙ length-append old.view.words l.grown.words.0 in omega arith

-- a call that learnt to the end alone
pub counts_looked : (room : ℕ) (old new : Knowing) → Learns old new → Counts old new → old.steps ≡ 0 → LooksAtEnd room old new → CountsCall room old new
counts_looked room old new l counts begun looks =
    let own : length new.view.own ≡ length old.view.own = ap length l.own in
    let more : length old.view.words ≤ length new.view.words = learnt_more old new l in
    counts_call room old new counts begun (omega arith) (omega arith) (rise_looked room old new l.own looks)

pub looks_once : (room : ℕ) (old new : Knowing) → Counts old new → old.steps ≡ 0 → LooksAtEnd room old new → LooksOnce old new
looks_once room old new counts begun looks = let k : length new.view.looks ≤ length old.view.looks + 1 = looks_number room old.view.looks (length new.view.words) new looks in omega (arith, counts)

-- a call that learnt to the end, looked there, and then tried
pub counts_tried : (room : ℕ) (old mid new : Knowing) → Learns old mid → Counts old mid → CountsTries room mid new → old.steps ≡ 0 → mid.view.looks ≡ old.view.looks ++ length mid.view.words ∷ [] → CountsCall room old new
counts_tried room old mid new l first tries begun looks =
    let own : length mid.view.own ≡ length old.view.own = ap length l.own in
    let more : length old.view.words ≤ length mid.view.words = learnt_more old mid l in
    let learnt = tries.learnt in let grown = tries.own in
    counts_call room old new (counts_then old mid new first tries.count) begun (omega (arith, own, grown)) (omega (arith, own, more, learnt))
    (rise_before room old.view.looks old mid new more l.own (tries.rise old.view.looks looks))

-- before a try each one of the call was lost
abbrev pub AreLost : Knowing → Knowing → Type 0
AreLost old mid = (earlier : List ℕ) → old.view.looks ≡ earlier ++ length old.view.words ∷ [] → LooksTried earlier old.view mid.view

-- tries of which the last was won
pub counts_won : (room : ℕ) (old mid new : Knowing) (word : ℕ) → Learns old mid → Counts old mid → Counts mid new → new.view ≡ enters_word mid.view word → length mid.view.words < room → length (known new) ≡ length new.view.words → AreLost old mid → CountsTries room old new
counts_won room old mid new word l first next is left shown tried =
    let own : length mid.view.own ≡ length old.view.own = ap length l.own in
    let learnt : length old.view.words ≤ length mid.view.words = learnt_more old mid l in
    let more : length new.view.own ≡ length mid.view.own + 1 = ap (λ (x : View). length x.own) is ∙ length_push mid.view.own (length mid.view.words) in
    let n : length new.view.words ≡ length mid.view.words + 1 = ap (λ (x : View). length x.words) is ∙ length_push mid.view.words word in
    record { count = counts_then old mid new first next; own = omega arith; learnt = omega arith; rise = λ earlier looks. rise_won room earlier old mid new word l.own (tried earlier looks) left is shown }

-- a lost try taught a word
words_lost : (mid lost new : Knowing) (word : ℕ) → lost.view ≡ learns mid.view word → Learns lost new → length mid.view.words < length new.view.words
words_lost mid lost new word is l =
    let n : length lost.view.words ≡ length mid.view.words + 1 = ap (λ (x : View). length x.words) is ∙ length_push mid.view.words word in
    let more : length lost.view.words ≤ length new.view.words = learnt_more lost new l in omega arith

-- tries after which the call was refused
pub counts_lost : (room : ℕ) (old mid lost new : Knowing) (word : ℕ) → Learns old mid → Learns old new → Counts old new → AreLost old mid → lost.view ≡ learns mid.view word → Learns lost new → LooksAtEnd room lost new → CountsTries room old new
counts_lost room old mid lost new word before l counts tried is after looks =
    let own : length new.view.own ≡ length old.view.own = ap length l.own in
    let more : length old.view.words ≤ length new.view.words = learnt_more old new l in
    let same : lost.view.looks ≡ mid.view.looks = ap (λ (x : View). x.looks) is in
    record {
      count = counts;
      own = omega arith;
      learnt = omega arith;
      rise = λ earlier first. rise_lost room earlier old mid new (learnt_more old mid before) (words_lost mid lost new word is after) l.own (tried earlier first) (subst (λ (x : List ℕ). LooksLast room x (length new.view.words) new) same looks);
    }

-- after a lost try the pass learnt to the end, and the call is not refused there
pub lost_again : (room : ℕ) (old mid lost new : Knowing) (word : ℕ) (c : Call) → Learns old mid → AreLost old mid → lost.view ≡ learns mid.view word → Learns lost new → LooksAtEnd room lost new → IsReady room new c → AreLost old new
lost_again room old mid lost new word c before tried is after looks ready = λ earlier first.
    tried_again earlier old.view mid.view (learnt_more old mid before) (tried earlier first) new.view (words_lost mid lost new word is after)
    (looks_ready room lost new c looks ready ∙ ap (λ (x : View). x.looks ++ length new.view.words ∷ []) is)

abbrev pub begun : Knowing → Knowing
begun p = record p { steps = 0; made = none_made }

learns_begun : (p : Knowing) → Learns p (begun p)
learns_begun p = record {
  grown = grows_refl p.view;
  own = refl;
  learnt = [];
  known_is = sym (append-nil (known p));
  others = All-nil _;
  passes = All-nil _;
  statuses = refl;
  settled = refl;
}

-- what a call explains once it has begun to count, it explains
pub explains_begun : (room : ℕ) (old now new : Knowing) (c : Call) (r : Answer) → now ≡ begun old → ExplainsAnswer room now new c r → ExplainsAnswer room old new c r
explains_begun room old now new c r is e =
    let f : ExplainsAnswer room (begun old) new c r = subst (λ (k : Knowing). ExplainsAnswer room k new c r) is e in record {
      grown = f.grown;
      learnt = f.learnt;
      others = f.others;
      passes = f.passes;
      grounds = grounded_before room old (begun old) new c (learns_begun old) r (known old ++ f.learnt) (ground_of r) f.grounds;
      known_is = f.known_is;
    }

pub counts_begun : (room : ℕ) (old now new : Knowing) → now ≡ begun old → CountsCall room now new → CountsCall room old new
counts_begun room old now new is e =
    let f : CountsCall room (begun old) new = subst (λ (k : Knowing). CountsCall room k new) is e in let rise = f.rise in record {
      count = f.count;
      rise = record { lost = rise.lost; rising = rise.rising; looks = rise.looks };
      exact = f.exact;
      full = f.full;
      unshown = f.unshown;
      few = f.few;
      alone = f.alone;
    }

-- the steps of a call that is about to try once more
pub steps_near : (old mid : Knowing) → Learns old mid → Counts old mid → old.steps < 2 ^ 28 → LookedLast old.view → AreLost old mid → length mid.view.words ≤ MOST_WORDS → mid.steps < 2 ^ 29
steps_near old mid l counts begun looked tried small =
    let looks : length mid.view.looks + length old.view.words ≤ length old.view.looks + length mid.view.words = tried_few looked.0 old.view mid.view (learnt_more old mid l) (tried looked.0 looked.1) l.own looked.1 in omega (arith, counts)

pub steps_lost : (mid lost : Knowing) (word : ℕ) → Counts mid lost → lost.view ≡ learns mid.view word → mid.steps < 2 ^ 29 → lost.steps < 2 ^ 30
steps_lost mid lost word counts is near = let n : 1 + steps_of mid.view ≡ steps_of lost.view = counts_learns mid.view lost.view word is in omega (arith, counts)
