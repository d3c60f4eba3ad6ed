-- The numbers of the objects that are there: they rise, are below the number that is made next, and none is left out.
use Rattle.std.proofs.Common.{◌≡◌, ℕ, zero, suc, ◌+◌, ◌<◌, ◌≤◌, Bool, true, false, cond, List, [], ◌∷◌, ◌++◌, length, get_or, refl, sym, ap, subst, ◌∙◌, arith, Option, is_some, filter, inl, inr, append-nil, length-append}
use Rattle.std.specs.List.{Contains}
use Rattle.std.proofs.lemmas.Bool.{cases_lt, false≢true}
use Rattle.std.proofs.lemmas.List.{get_or_append_left, get_or_push, length-map}
use Rattle.std.proofs.lemmas.List.Elements.{Contains-append_left, Contains-push, filter-append}
use Rattle.grb_call.specs.Shapes.{object_at}
use Rattle.grb_call.specs.Store.{Store}
use Rattle.grb_call.specs.declared.ids.MatrixId.{MatrixId}
use Rattle.grb_call.specs.declared.ids.VectorId.{VectorId}
use Rattle.grb_context.specs.LiveNumbers.{live_numbers, matrix_ids, numbers_below, vector_ids}
use Rattle.grb_numbers.specs.Laws.{HaveAllLive, NextNumbersShowTheSame, ShowTheSame, matrix_numbers, vector_numbers}
use Rattle.grb_numbers.specs.Numbers.{AreChosen, NumbersSeen}
use Rattle.grb_numbers.specs.Seen.{AreNumbersOf}
use Rattle.grb_numbers.proofs.Lists.{object_at-made, rise-above}

-- of the numbers below this one, these are those that pass, and they rise
record Pass (f : ℕ → Bool) (n : ℕ) (xs : List ℕ) : Type 0 where
  pub chosen : AreChosen xs n
  pub all : (k : ℕ) → k < n → f k ≡ true → Contains xs k

pass_none : (f : ℕ → Bool) → Pass f 0 []
pass_none f = record { chosen = record { rising = λ i j lt within. absurd (omega arith); below = λ i within. absurd (omega arith) }; all = λ k lt is. absurd (omega arith) }

pass_less : (f : ℕ → Bool) (n : ℕ) (xs : List ℕ) → f n ≡ false → Pass f n xs → Pass f (suc n) xs
pass_less f n xs not p = record {
  chosen = record { rising = p.chosen.rising; below = λ i within. omega (arith, p.chosen.below i within) };
  all = λ k lt is. elim (cases_lt k n) as (λ _. Contains xs k) [
    | inl below ↦ p.all k below is
    | inr above ↦ let same : k ≡ n = omega (arith, lt, above) in absurd (false≢true (sym not ∙ ap f (sym same) ∙ is))
  ];
}

module _ (f : ℕ → Bool) (n : ℕ) (xs : List ℕ) (p : Pass f n xs) where
  more_length : length (xs ++ n ∷ []) ≡ length xs + 1
  more_length = length-append xs (n ∷ [])

  before : (i : ℕ) → i < length xs → get_or (xs ++ n ∷ []) i 0 ≡ get_or xs i 0
  before i within = get_or_append_left xs (n ∷ []) 0 i within

  at_end : (i : ℕ) → i ≡ length xs → get_or (xs ++ n ∷ []) i 0 ≡ n
  at_end i is = get_or_push xs n 0 i (sym is)

  more_rise : (i j : ℕ) → i < j → j < length (xs ++ n ∷ []) → get_or (xs ++ n ∷ []) i 0 < get_or (xs ++ n ∷ []) j 0
  more_rise i j lt within = elim (cases_lt j (length xs)) as (λ _. get_or (xs ++ n ∷ []) i 0 < get_or (xs ++ n ∷ []) j 0) [
    | inl below ↦ omega (arith, p.chosen.rising i j lt below, before i (omega (arith, lt, below)), before j below)
    | inr above ↦ let here : j ≡ length xs = omega (arith, above, within, more_length) in
        omega (arith, p.chosen.below i (omega (arith, lt, here)), before i (omega (arith, lt, here)), at_end j here)
  ]

  more_made : (i : ℕ) → i < length (xs ++ n ∷ []) → get_or (xs ++ n ∷ []) i 0 < suc n
  more_made i within = elim (cases_lt i (length xs)) as (λ _. get_or (xs ++ n ∷ []) i 0 < suc n) [
    | inl below ↦ omega (arith, p.chosen.below i below, before i below)
    | inr above ↦ omega (arith, at_end i (omega (arith, above, within, more_length)))
  ]

  pass_more : Pass f (suc n) (xs ++ n ∷ [])
  pass_more = record {
    chosen = record { rising = more_rise; below = more_made };
    all = λ k lt is. elim (cases_lt k n) as (λ _. Contains (xs ++ n ∷ []) k) [
      | inl below ↦ Contains-append_left xs (n ∷ []) k (p.all k below is)
      | inr above ↦ let same : n ≡ k = omega (arith, lt, above) in subst (λ (m : ℕ). Contains (xs ++ n ∷ []) m) same (Contains-push xs n)
    ];
  }

pass_by : (f : ℕ → Bool) (n : ℕ) (xs : List ℕ) (b : Bool) → f n ≡ b → Pass f n xs → Pass f (suc n) (xs ++ cond b (n ∷ []) [])
pass_by f n xs true is p = pass_more f n xs p
pass_by f n xs false is p = subst (Pass f (suc n)) (sym (append-nil xs)) (pass_less f n xs is p)

pass_all : (f : ℕ → Bool) (n : ℕ) → Pass f n (filter f (numbers_below n))
pass_all f zero = pass_none f
pass_all f (suc n) = subst (Pass f (suc n)) (sym (filter-append f (numbers_below n) (n ∷ []))) (pass_by f n (filter f (numbers_below n)) (f n) refl (pass_all f n))

pub live_numbers-all : {X : Type 0} (xs : List (Option X)) → HaveAllLive xs (live_numbers xs)
live_numbers-all xs =
    let p = pass_all (λ n. is_some (object_at xs n)) (length xs) in
    record { chosen = p.chosen; all = λ k x at. p.all k (object_at-made xs k x at) (ap is_some at) }

matrix_numbers-ids : (ns : List ℕ) → matrix_numbers (matrix_ids ns) ≡ ns
matrix_numbers-ids [] = refl
matrix_numbers-ids (n ∷ ns) = ap (λ (l : List ℕ). n ∷ l) (matrix_numbers-ids ns)

vector_numbers-ids : (ns : List ℕ) → vector_numbers (vector_ids ns) ≡ ns
vector_numbers-ids [] = refl
vector_numbers-ids (n ∷ ns) = ap (λ (l : List ℕ). n ∷ l) (vector_numbers-ids ns)

-- the objects of a store that are there are carried over, and seen as before
pub kept_shows : NextNumbersShowTheSame → (n : NumbersSeen) (s : Store) → AreNumbersOf n s → ShowTheSame n s (matrix_ids (live_numbers s.matrices)) (vector_ids (live_numbers s.vectors))
kept_shows show n s are =
    show n s (matrix_ids (live_numbers s.matrices)) (vector_ids (live_numbers s.vectors)) are
    (subst (HaveAllLive s.matrices) (sym (matrix_numbers-ids (live_numbers s.matrices))) (live_numbers-all s.matrices))
    (subst (HaveAllLive s.vectors) (sym (vector_numbers-ids (live_numbers s.vectors))) (live_numbers-all s.vectors))

pub matrices_chosen : (s : Store) (ids : List MatrixId) → ids ≡ matrix_ids (live_numbers s.matrices) → AreChosen (matrix_numbers ids) (length s.matrices)
matrices_chosen s ids are = subst (λ (ns : List ℕ). AreChosen ns (length s.matrices)) (sym (ap matrix_numbers are ∙ matrix_numbers-ids (live_numbers s.matrices))) (live_numbers-all s.matrices).chosen

pub vectors_chosen : (s : Store) (ids : List VectorId) → ids ≡ vector_ids (live_numbers s.vectors) → AreChosen (vector_numbers ids) (length s.vectors)
vectors_chosen s ids are = subst (λ (ns : List ℕ). AreChosen ns (length s.vectors)) (sym (ap vector_numbers are ∙ vector_numbers-ids (live_numbers s.vectors))) (live_numbers-all s.vectors).chosen

-- numbers that rise are no more than those that were made
few_by : (xs : List ℕ) (n k : ℕ) → AreChosen xs n → length xs ≡ k → k ≤ n
few_by xs n zero chosen is = omega arith
few_by xs n (suc p) chosen is =
    let above = rise-above xs p chosen.rising (omega (arith, is)) in
    let below = chosen.below p (omega (arith, is)) in
    omega (arith, above, below)

pub few_matrices : (s : Store) (ids : List MatrixId) → ids ≡ matrix_ids (live_numbers s.matrices) → length ids ≤ length s.matrices
few_matrices s ids are = few_by (matrix_numbers ids) (length s.matrices) (length ids) (matrices_chosen s ids are) (length-map ids (λ (a : MatrixId). a.0))

pub few_vectors : (s : Store) (ids : List VectorId) → ids ≡ vector_ids (live_numbers s.vectors) → length ids ≤ length s.vectors
few_vectors s ids are = few_by (vector_numbers ids) (length s.vectors) (length ids) (vectors_chosen s ids are) (length-map ids (λ (v : VectorId). v.0))
