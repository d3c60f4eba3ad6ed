-- believed: The laws of numbers (own): calls commute with them, the next generation's numbers show the same store, and the first ones
-- change nothing.
use Rattle.std.specs.Prelude.{◌≡◌, ◌<◌, ℕ, suc, true, List, [], ◌∷◌, length, map, Option, Some, None}
use Rattle.std.specs.List.{Contains}
use Rattle.grb_call.specs.declared.call.Call.{Call}
use Rattle.grb_call.specs.declared.ids.MatrixId.{MatrixId}
use Rattle.grb_call.specs.declared.ids.VectorId.{VectorId}
use Rattle.grb_call.specs.After.{after, answer, refused}
use Rattle.grb_call.specs.History.{after_all}
use Rattle.grb_call.specs.Shapes.{object_at}
use Rattle.grb_call.specs.Store.{Store, IsStore, matrix_at, vector_at}
use Rattle.grb_numbers.specs.Inside.{inside, outside_reply}
use Rattle.grb_numbers.specs.Numbers.{NumbersSeen, AreChosen, next_carried, first_numbers, has_room, no_number}
use Rattle.grb_numbers.specs.Seen.{AreNumbersOf, seen_store}

-- the store that a call leaves inside is seen as the one that it leaves outside
abbrev pub CallsLeaveTheSame : Type 0
CallsLeaveTheSame = (n : NumbersSeen) (s : Store) (c : Call) → AreNumbersOf n s → after (seen_store n s) c ≡ seen_store n (after s (inside n c))

-- a call answers outside what it answers inside
abbrev pub CallsAnswerTheSame : Type 0
CallsAnswerTheSame = (n : NumbersSeen) (s : Store) (c : Call) → AreNumbersOf n s → answer (seen_store n s) c ≡ outside_reply n (answer s (inside n c))

-- and is refused alike
abbrev pub CallsAreRefusedAlike : Type 0
CallsAreRefusedAlike = (n : NumbersSeen) (s : Store) (c : Call) → AreNumbersOf n s → refused (seen_store n s) c ≡ refused s (inside n c)

-- so do calls in turn, while there are outer numbers, and the numbers are then those of the store that they leave
pub record CommuteAll (n : NumbersSeen) (s : Store) (cs : List Call) : Type 0 where
  pub numbers : AreNumbersOf n (after_all s (map (inside n) cs))
  pub store : after_all (seen_store n s) cs ≡ seen_store n (after_all s (map (inside n) cs))

abbrev pub HistoriesLeaveTheSame : Type 0
HistoriesLeaveTheSame = (n : NumbersSeen) (s : Store) (cs : List Call) → AreNumbersOf n s → has_room n (length s.matrices) (length s.vectors) (length cs) ≡ true → CommuteAll n s cs

-- what is whole inside is seen whole
abbrev pub SeenStoresAreWhole : Type 0
SeenStoresAreWhole = (n : NumbersSeen) (s : Store) → IsStore s → IsStore (seen_store n s)

-- these inner numbers rise, and those of all objects that are there are among them
pub record HaveAllLive {X : Type 0} (xs : List (Option X)) (inner : List ℕ) : Type 0 where
  pub chosen : AreChosen inner (length xs)
  pub all : (k : ℕ) (x : X) → object_at xs k ≡ Some x → Contains inner k

-- the numbers of the objects that are there, counted from this one
abbrev pub live_from : {X : Type 0} → ℕ → List (Option X) → List ℕ
live_from k [] = []
live_from k (None ∷ xs) = live_from (suc k) xs
live_from k (Some x ∷ xs) = k ∷ live_from (suc k) xs

-- those of a store are all of them, and rise
pub record LiveNumbersAreAll (s : Store) : Type 0 where
  pub matrices : HaveAllLive s.matrices (live_from 0 s.matrices)
  pub vectors : HaveAllLive s.vectors (live_from 0 s.vectors)

-- the numbers of some matrices, and of some vectors
abbrev pub matrix_numbers : List MatrixId → List ℕ
matrix_numbers matrices = map (λ (a : MatrixId). a.0) matrices

abbrev pub vector_numbers : List VectorId → List ℕ
vector_numbers vectors = map (λ (v : VectorId). v.0) vectors

-- the numbers of the next generation, to which these objects of this store are carried over
abbrev pub next_numbers : NumbersSeen → Store → List MatrixId → List VectorId → NumbersSeen
next_numbers n s matrices vectors =
    record { matrices = next_carried n.matrices (matrix_numbers matrices) (length s.matrices); vectors = next_carried n.vectors (vector_numbers vectors) (length s.vectors) }

-- the store of these objects, which have the numbers 0, 1, 2 .. in it
abbrev pub carried_store : Store → List MatrixId → List VectorId → Store
carried_store s matrices vectors = record { matrices = map (matrix_at s) matrices; vectors = map (vector_at s) vectors }

-- the next generation begins with the same store, as it is seen from outside
pub record ShowTheSame (n : NumbersSeen) (s : Store) (matrices : List MatrixId) (vectors : List VectorId) : Type 0 where
  pub numbers : AreNumbersOf (next_numbers n s matrices vectors) (carried_store s matrices vectors)
  pub store : seen_store (next_numbers n s matrices vectors) (carried_store s matrices vectors) ≡ seen_store n s

abbrev pub NextNumbersShowTheSame : Type 0
NextNumbersShowTheSame = (n : NumbersSeen) (s : Store) (matrices : List MatrixId) (vectors : List VectorId) → AreNumbersOf n s →
    HaveAllLive s.matrices (matrix_numbers matrices) → HaveAllLive s.vectors (vector_numbers vectors) → ShowTheSame n s matrices vectors

-- with the first numbers nothing has another number
abbrev pub FirstNumbersShowTheStore : Type 0
FirstNumbersShowTheStore = (s : Store) → seen_store first_numbers s ≡ s

abbrev pub FirstNumbersKeepCalls : Type 0
FirstNumbersKeepCalls = (c : Call) → inside first_numbers c ≡ c

abbrev pub FirstNumbersKeepAnswers : Type 0
FirstNumbersKeepAnswers = (s : Store) (c : Call) → length s.matrices < no_number → length s.vectors < no_number → outside_reply first_numbers (answer s c) ≡ answer s c
