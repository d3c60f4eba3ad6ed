-- What is entered after objects were made anew is entered after the calls that left them, as users see it.
use Rattle.std.proofs.Common.{◌≡◌, ℕ, ◌≤◌, List, [], ◌∷◌, ◌++◌, length, map, refl, sym, ap, ◌∙◌, subst, arith, inl, inr}
use Rattle.std.proofs.lemmas.Bool.{cases_lt}
use Rattle.grb_call.specs.declared.call.Call.{Call}
use Rattle.grb_call.specs.After.{after}
use Rattle.grb_call.specs.Store.{Store, empty_store}
use Rattle.grb_call.specs.History.{History, calls_of, after_all, store_of}
use Rattle.grb_call.proofs.ObjectsAfter.{matrix_counts-all, vector_counts-all}
use Rattle.grb_call.proofs.Runs.{after_all-append}
use Rattle.grb_context.specs.Known.{known}
use Rattle.grb_numbers.specs.Inside.{inside}
use Rattle.grb_numbers.specs.Laws.{CallsLeaveTheSame, FirstNumbersShowTheStore, NextNumbersShowTheSame}
use Rattle.grb_numbers.specs.Numbers.{AreCarried, CarriedNumbers, NumbersSeen, first_numbers, outer_number}
use Rattle.grb_numbers.specs.Seen.{AreNumbersOf, seen_store}
use Rattle.grb_numbers.proofs.Numbering.{outer-rising}
use Rattle.grb_generations.specs.Keeping.{kept_store}
use Rattle.grb_generations.specs.Lossless.{Later, GoesOnFrom, AreChained, all_entered, entries_inside, history_of, last_seen}
use Rattle.grb_generations.proofs.Living.{kept_shows}

pub calls_of-append : (g h : History) → calls_of (g ++ h) ≡ calls_of g ++ calls_of h
calls_of-append [] h = refl
calls_of-append (e ∷ g) h = ap (λ (cs : List Call). e.1 ∷ cs) (calls_of-append g h)

pub store_of-append : (g h : History) → store_of (g ++ h) ≡ after_all (store_of g) (calls_of h)
store_of-append g h = ap (after_all empty_store) (calls_of-append g h) ∙ after_all-append empty_store (calls_of g) (calls_of h)

calls_of-inside : (n : NumbersSeen) (h : History) → calls_of (entries_inside n h) ≡ map (inside n) (calls_of h)
calls_of-inside n [] = refl
calls_of-inside n (e ∷ h) = ap (λ (cs : List Call). inside n e.1 ∷ cs) (calls_of-inside n h)

-- outer numbers do not fall
pub outer-steps : (n : CarriedNumbers) → AreCarried n → (i j : ℕ) → i ≤ j → outer_number n i ≤ outer_number n j
outer-steps n are i j le = elim (cases_lt i j) as (λ _. outer_number n i ≤ outer_number n j) [
  | inl lt ↦ omega (arith, outer-rising n are i j lt)
  | inr ge ↦ let same : i ≡ j = omega (arith, le, ge) in omega (arith, ap (outer_number n) same)
]

-- numbers of the objects after some calls are those of the objects before, of which there were no fewer than were carried over
pub numbered_before : (n : NumbersSeen) (s t : Store) → AreNumbersOf n t → length n.matrices.carried ≤ length s.matrices → length n.vectors.carried ≤ length s.vectors → length s.matrices ≤ length t.matrices → length s.vectors ≤ length t.vectors → AreNumbersOf n s
numbered_before n s t are matrices vectors more_matrices more_vectors = record {
  numbers = are.numbers;
  matrices = record { carried = matrices; room = omega (arith, are.matrices.room, outer-steps n.matrices are.numbers.matrices (length s.matrices) (length t.matrices) more_matrices) };
  vectors = record { carried = vectors; room = omega (arith, are.vectors.room, outer-steps n.vectors are.numbers.vectors (length s.vectors) (length t.vectors) more_vectors) };
}

-- many calls commute
pub all_commute : CallsLeaveTheSame → (n : NumbersSeen) (s : Store) (cs : List Call) → length n.matrices.carried ≤ length s.matrices → length n.vectors.carried ≤ length s.vectors → AreNumbersOf n (after_all s (map (inside n) cs))
    → seen_store n (after_all s (map (inside n) cs)) ≡ after_all (seen_store n s) cs
all_commute same n s [] matrices vectors are = refl
all_commute same n s (c ∷ cs) matrices vectors are =
    let next : Store = after s (inside n c) in
    let one_matrices = matrix_counts-all s (inside n c ∷ []) in
    let one_vectors = vector_counts-all s (inside n c ∷ []) in
    let all_matrices = matrix_counts-all next (map (inside n) cs) in
    let all_vectors = vector_counts-all next (map (inside n) cs) in
    let before : AreNumbersOf n s =
    numbered_before n s (after_all next (map (inside n) cs)) are matrices vectors (omega (arith, one_matrices, all_matrices)) (omega (arith, one_vectors, all_vectors)) in
    all_commute same n next cs (omega (arith, matrices, one_matrices)) (omega (arith, vectors, one_vectors)) are ∙ ap (λ (t : Store). after_all t cs) (sym (same n s c before))

-- what a generation leaves is seen as what the calls in it leave of what the one before it left
pub one_generation : CallsLeaveTheSame → NextNumbersShowTheSame → (n : NumbersSeen) (g : History) (later : Later) → AreNumbersOf n (store_of g) → GoesOnFrom n g later
    → seen_store later.numbers (store_of (history_of later)) ≡ after_all (seen_store n (store_of g)) (calls_of later.entered)
one_generation same show n g later are on =
    let ln : NumbersSeen = later.numbers in
    let begun : Store = store_of (known later.first) in
    let kept = kept_shows show n (store_of g) are in
    let begins : begun ≡ kept_store (store_of g) = on.begins.store_is in
    let numbered : AreNumbersOf ln begun = subst (λ (t : Store). AreNumbersOf ln t) (sym begins) (subst (λ (m : NumbersSeen). AreNumbersOf m (kept_store (store_of g))) (sym on.numbers_are) kept.numbers) in
    let seen : seen_store ln begun ≡ seen_store n (store_of g) = (λ i. seen_store (on.numbers_are i) (begins i)) ∙ kept.store in
    let left : store_of (history_of later) ≡ after_all begun (map (inside ln) (calls_of later.entered)) =
    store_of-append (known later.first) (entries_inside ln later.entered) ∙ ap (after_all begun) (calls_of-inside ln later.entered) in
    ap (seen_store ln) left
    ∙ all_commute same ln begun (calls_of later.entered) numbered.matrices.carried numbered.vectors.carried (subst (AreNumbersOf ln) left on.numbered)
    ∙ ap (λ (t : Store). after_all t (calls_of later.entered)) seen

all_generations : CallsLeaveTheSame → NextNumbersShowTheSame → (n : NumbersSeen) (g : History) (later : List Later) → AreNumbersOf n (store_of g) → AreChained n g later
    → last_seen n g later ≡ after_all (seen_store n (store_of g)) (calls_of (all_entered later))
all_generations same show n g [] are chained = refl
all_generations same show n g (later ∷ rest) are chained =
    let from : Store = seen_store n (store_of g) in
    all_generations same show later.numbers (history_of later) rest chained.0.numbered chained.1
    ∙ ap (λ (t : Store). after_all t (calls_of (all_entered rest))) (one_generation same show n g later are chained.0)
    ∙ sym (after_all-append from (calls_of later.entered) (calls_of (all_entered rest)))
    ∙ ap (after_all from) (sym (calls_of-append later.entered (all_entered rest)))

pub one_history : CallsLeaveTheSame → NextNumbersShowTheSame → FirstNumbersShowTheStore → (g : History) (later : List Later) → AreNumbersOf first_numbers (store_of g) → AreChained first_numbers g later
    → last_seen first_numbers g later ≡ store_of (g ++ all_entered later)
one_history same show first g later are chained =
    all_generations same show first_numbers g later are chained
    ∙ ap (λ (t : Store). after_all t (calls_of (all_entered later))) (first (store_of g))
    ∙ sym (store_of-append g (all_entered later))
