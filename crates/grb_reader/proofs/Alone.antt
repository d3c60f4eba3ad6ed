-- A pass that is alone in its context learns no entries of others, and waits for no record of theirs: each of its answers rests on what
-- it knows.
use Rattle.std.proofs.Common.{◌≡◌, ◌≢◌, ℕ, ◌<◌, ◌≤◌, List, [], ◌∷◌, ◌++◌, length, drop, refl, ap, ◌∙◌, subst, arith}
use Rattle.std.specs.List.{All}
use Rattle.grb_reader.proofs.Prelude.{append-nil, length-drop, All-head, IsOthers, View, Call, Entry, History, Shown, Shared, Knowing, known, AreRecords, IsOfOthers, IsOfPasses, IsKnown, Answer, ground_of, history_after, IsGrounded, IsUnshown, ExplainsAnswer}
use Rattle.grb_reader.proofs.Spelling.{length_spelled}

-- no entry is of another pass than the first, where there is no other
pub no_others : (h : History) → IsOfOthers 0 h → IsOfPasses 1 h → h ≡ []
no_others [] others passes = refl
no_others (e ∷ h) others passes =
    let other : e.0 ≢ 0 = All-head (λ (x : Entry). x.0 ≢ 0) e h others in
    let below : e.0 < 1 = All-head (λ (x : Entry). x.0 < 1) e h passes in
    absurd (omega arith)

-- and no word
no_words : (v : View) (words : List ℕ) → v.number ≡ 0 → v.passes ≡ 1 → All (IsOthers v) words → words ≡ []
no_words v [] first one others = refl
no_words v (word ∷ words) first one others =
    let other : IsOthers v word = All-head (IsOthers v) word words others in
    let apart = other.1 in
    let below = other.0.1 in
    absurd (omega (arith, apart, below))

none_left : (n : ℕ) (words : List ℕ) → drop n words ≡ [] → length words ≤ n
none_left n words e = let left : length (drop n words) ≡ 0 = ap length e in omega (arith, length-drop n words)

few_records : (words : List ℕ) (shown : List Shown) → AreRecords words shown → length shown ≤ length words
few_records words [] are = omega arith
few_records [] (t ∷ shown) are = absurd are
few_records (word ∷ words) (t ∷ shown) are = let rest : length shown ≤ length words = few_records words shown are.2 in omega arith

module _ (context : Shared) (p : Knowing) (first : p.view.number ≡ 0) (one : p.view.passes ≡ 1) (is : IsKnown context p) where
  -- the records of all its words were shown
  pub shown-alone : IsUnshown p → ⊥
  shown-alone unshown =
      let all : length p.view.words ≤ length p.shown = none_left (length p.shown) p.view.words (no_words p.view (drop (length p.shown) p.view.words) first one is.unshown) in
      let few : length p.shown ≤ length p.view.words = few_records p.view.words p.shown is.records in
      let same : length (known p) ≡ length p.shown = length_spelled p.view.words p.shown few in
      omega arith

module _ (room : ℕ) (old new : Knowing) (c : Call) (r : Answer) (first : old.view.number ≡ 0) (one : old.view.passes ≡ 1) (is : ExplainsAnswer room old new c r) where
  learnt-alone : is.learnt ≡ []
  learnt-alone = no_others is.learnt (subst (λ (n : ℕ). IsOfOthers n is.learnt) first is.others) (subst (λ (n : ℕ). IsOfPasses n is.learnt) one is.passes)

  known_at_call : known old ++ is.learnt ≡ known old
  known_at_call = ap (λ (h : History). known old ++ h) learnt-alone ∙ append-nil (known old)

  -- the answer rests on what the pass knew
  pub grounds-alone : IsGrounded room old new c r (known old) (ground_of r)
  grounds-alone = subst (λ (g : History). IsGrounded room old new c r g (ground_of r)) known_at_call is.grounds

  -- what it knows grew by the call itself, if that was entered
  pub known-alone : known new ≡ history_after 0 c r (known old)
  known-alone = is.known_is ∙ ap (history_after old.view.number c r) known_at_call ∙ ap (λ (n : ℕ). history_after n c r (known old)) first
