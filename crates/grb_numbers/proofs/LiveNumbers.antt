-- The numbers of the objects that are there.
use Rattle.std.proofs.Common.{◌≡◌, ℕ, zero, suc, ◌+◌, ◌<◌, ◌≤◌, List, [], ◌∷◌, ◌++◌, length, get_or, take, refl, ap, subst, ◌∙◌, arith, add-one, Option, None, Some, is_some, if◌then◌else◌}
use Rattle.std.specs.List.{Contains}
use Rattle.grb_call.specs.Shapes.{object_at}
use Rattle.grb_call.specs.Store.{Store}
use Rattle.grb_numbers.specs.Laws.{HaveAllLive, LiveNumbersAreAll, live_from}

module _ {X : Type 0} where
  live-from : (k : ℕ) (xs : List (Option X)) (i : ℕ) → i < length (live_from k xs) → k ≤ get_or (live_from k xs) i 0
  live-from k [] i lt = absurd (omega arith)
  live-from k (None ∷ xs) i lt = let rest = live-from (suc k) xs i lt in omega arith
  live-from k (Some x ∷ xs) zero lt = omega arith
  live-from k (Some x ∷ xs) (suc i) lt = let rest = live-from (suc k) xs i (omega arith) in omega arith

  live-below : (k : ℕ) (xs : List (Option X)) (i : ℕ) → i < length (live_from k xs) → get_or (live_from k xs) i 0 < k + length xs
  live-below k [] i lt = absurd (omega arith)
  live-below k (None ∷ xs) i lt = let rest = live-below (suc k) xs i lt in omega arith
  live-below k (Some x ∷ xs) zero lt = omega arith
  live-below k (Some x ∷ xs) (suc i) lt = let rest = live-below (suc k) xs i (omega arith) in omega arith

  live-rising : (k : ℕ) (xs : List (Option X)) (i j : ℕ) → i < j → j < length (live_from k xs) → get_or (live_from k xs) i 0 < get_or (live_from k xs) j 0
  live-rising k [] i j lt j_in = absurd (omega arith)
  live-rising k (None ∷ xs) i j lt j_in = live-rising (suc k) xs i j lt j_in
  live-rising k (Some x ∷ xs) i zero lt j_in = absurd (omega arith)
  live-rising k (Some x ∷ xs) zero (suc j) lt j_in = let rest = live-from (suc k) xs j (omega arith) in omega arith
  live-rising k (Some x ∷ xs) (suc i) (suc j) lt j_in = live-rising (suc k) xs i j (omega arith) (omega arith)

  live-there : (k : ℕ) (xs : List (Option X)) (m : ℕ) (x : X) → object_at xs m ≡ Some x → Contains (live_from k xs) (k + m)
  live-there k [] m x e = cc
  live-there k (None ∷ xs) zero x e = cc
  live-there k (None ∷ xs) (suc m) x e = subst (λ n. Contains (live_from (suc k) xs) n) (omega arith) (live-there (suc k) xs m x e)
  live-there k (Some y ∷ xs) zero x e = (0, omega arith, omega arith)
  live-there k (Some y ∷ xs) (suc m) x e =
      let rest : Contains (live_from (suc k) xs) (k + suc m) = subst (λ n. Contains (live_from (suc k) xs) n) (omega arith) (live-there (suc k) xs m x e) in
      (suc rest.0, omega (arith, rest.1), rest.2)

  live_all : (xs : List (Option X)) → HaveAllLive xs (live_from 0 xs)
  live_all xs = record {
    chosen = record {
      rising = λ i j lt j_in. live-rising 0 xs i j lt j_in;
      below = λ i lt. let small = live-below 0 xs i lt in omega arith;
    };
    all = λ m x e. subst (λ n. Contains (live_from 0 xs) n) (omega arith) (live-there 0 xs m x e);
  }

  more : (k : ℕ) (xs : List (Option X)) (m : ℕ) → m < length xs → live_from k (take (suc m) xs) ≡ live_from k (take m xs) ++ (if is_some (object_at xs m) then (k + m) ∷ [] else [])
  more k [] m lt = absurd (omega arith)
  more k (None ∷ xs) zero lt = refl
  more k (Some x ∷ xs) zero lt = ap (λ n. n ∷ []) (omega arith)
  more k (None ∷ xs) (suc m) lt = more (suc k) xs m (omega arith) ∙ ap (λ n. live_from (suc k) (take m xs) ++ (if is_some (object_at xs m) then n ∷ [] else [])) (omega arith)
  more k (Some x ∷ xs) (suc m) lt =
      ap (λ t. k ∷ t) (more (suc k) xs m (omega arith) ∙ ap (λ n. live_from (suc k) (take m xs) ++ (if is_some (object_at xs m) then n ∷ [] else [])) (omega arith))

  -- one place more, as a loop over all numbers goes
  pub live-more : (xs : List (Option X)) (m : ℕ) → m < length xs → live_from 0 (take (m + 1) xs) ≡ live_from 0 (take m xs) ++ (if is_some (object_at xs m) then m ∷ [] else [])
  live-more xs m lt =
      ap (λ n. live_from 0 (take n xs)) (add-one m) ∙ more 0 xs m lt ∙ ap (λ n. live_from 0 (take m xs) ++ (if is_some (object_at xs m) then n ∷ [] else [])) (omega arith)

pub live_numbers_are_all : (s : Store) → LiveNumbersAreAll s
live_numbers_are_all s = record { matrices = live_all s.matrices; vectors = live_all s.vectors }
