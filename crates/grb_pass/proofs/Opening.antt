-- The passes of a new context, one after another.
use Rattle.std.proofs.Common.{◌≡◌, ◌≢◌, ℕ, zero, suc, ◌+◌, ◌<◌, ◌≤◌, List, [], ◌∷◌, ◌++◌, length, drop, get_or, refl, sym, ap, subst, ◌∙◌, arith}
use mathlib.Core.Logic.{dite}
use native.Mathlib.Decide.{ℕ_discrete}
use Rattle.grb_pass.proofs.Prelude.{slice_get, All, length_push, fresh, Holding, TableId, AreFresh, room_of, IsOf, no_rows, Shared, Knowing, none_made, AreNew, HasNoStatus, IsPassOf}
use Rattle.std.specs.Prelude.{Option, Some}
use Rattle.std.proofs.lemmas.List.Elements.{All-nil}
use Rattle.grb_call.proofs.StatusRows.{none_at}

get_before : {A : Type 0} (xs : List A) (y : A) (k : ℕ) → k < length xs → slice_get (xs ++ y ∷ []) k ≡ slice_get xs k
get_before [] y k lt = absurd (omega arith)
get_before (x ∷ xs) y zero lt = refl
get_before (x ∷ xs) y (suc k) lt = get_before xs y k (omega arith)

get_last : {A : Type 0} (xs : List A) (y : A) → slice_get (xs ++ y ∷ []) (length xs) ≡ Some y
get_last [] y = refl
get_last (x ∷ xs) y = get_last xs y

-- the next element of what is left
pub drop_head : {A : Type 0} (xs : List A) (k : ℕ) (y : A) (ys : List A) → drop k xs ≡ y ∷ ys → (k < length xs) × (slice_get xs k ≡ Some y) × (drop (suc k) xs ≡ ys)
drop_head [] zero y ys e = cc
drop_head [] (suc k) y ys e = cc
drop_head (x ∷ xs) zero y ys e = (omega arith, cc, cc)
drop_head (x ∷ xs) (suc k) y ys e = let next : (k < length xs) × (slice_get xs k ≡ Some y) × (drop (suc k) xs ≡ ys) = drop_head xs k y ys e in (omega (arith, next.0), next.1, next.2)

abbrev pub fresh_at : TableId → ℕ → ℕ → Holding
fresh_at order passes number = record { table_id = order; view = fresh number passes }

abbrev pub new_at : TableId → ℕ → ℕ → Knowing
new_at order passes number = record { order = order; view = fresh number passes; shown = []; steps = 0; statuses = no_rows (room_of order); settled = 0; made = none_made }

same_some : {A : Type 0} (o : Option A) (x y : A) → o ≡ Some x → o ≡ Some y → x ≡ y
same_some o x y e f = cc

pub next_seat : (order : TableId) (passes : ℕ) (seats : List Holding) (k : ℕ) (seat : Holding) (rest : List Holding) → AreFresh order passes seats passes → drop k seats ≡ seat ∷ rest
    → (k < passes) × (seat ≡ fresh_at order passes k) × (drop (suc k) seats ≡ rest)
next_seat order passes seats k seat rest are e =
    let head : (k < length seats) × (slice_get seats k ≡ Some seat) × (drop (suc k) seats ≡ rest) = drop_head seats k seat rest e in
    let lt : k < passes = omega (arith, are.count, head.0) in
    (lt, same_some (slice_get seats k) seat (fresh_at order passes k) head.1 (are.each k lt), head.2)

near_of : (k n m : ℕ) → k < n + 1 → k ≢ n → m ≡ n → k < m
near_of k n m lt ne e = omega arith

pub new_more : (order : TableId) (passes : ℕ) (opened : List Knowing) (p : Knowing) → AreNew order passes opened (length opened) → p ≡ new_at order passes (length opened) → AreNew order passes (opened ++ p ∷ []) (length opened + 1)
new_more order passes opened p are is = record {
  count = length_push opened p;
  each = λ k lt. dite (ℕ_discrete k (length opened))
      (λ (e : k ≡ length opened). ap (slice_get (opened ++ p ∷ [])) e ∙ get_last opened p ∙ ap Some is ∙ ap (λ (n : ℕ). Some (new_at order passes n)) (sym e))
      (λ (ne : k ≢ length opened). get_before opened p k (near_of k (length opened) (length opened) lt ne refl) ∙ are.each k (near_of k (length opened) (length opened) lt ne refl));
}

dropped : {A : Type 0} (xs : List A) (k : ℕ) → drop k xs ≡ [] → length xs ≤ k
dropped [] k e = omega arith
dropped (x ∷ xs) zero e = cc
dropped (x ∷ xs) (suc k) e = let rest : length xs ≤ k = dropped xs k e in omega arith

pub all_opened : (order : TableId) (passes : ℕ) (seats : List Holding) (opened : List Knowing) → AreFresh order passes seats passes → drop (length opened) seats ≡ [] → length opened ≤ passes
    → AreNew order passes opened (length opened) → AreNew order passes opened passes
all_opened order passes seats opened are none few new =
    let over : length seats ≤ length opened = dropped seats (length opened) none in
    let same : length opened ≡ passes = omega (arith, are.count) in
    subst (λ (n : ℕ). AreNew order passes opened n) same new

pub none_left : {A : Type 0} (xs : List A) (n : ℕ) → n ≡ length xs → n ≡ 0 → xs ≡ []
none_left [] n a b = refl
none_left (x ∷ xs) n a b = absurd (omega arith)

get_at : {A : Type 0} (xs : List A) (k : ℕ) (d v : A) → slice_get xs k ≡ Some v → get_or xs k d ≡ v
get_at [] k d v e = cc
get_at (x ∷ xs) zero d v e = cc
get_at (x ∷ xs) (suc k) d v e = get_at xs k d v e

-- a new pass is one of the context's
pub all_ours : (context : Shared) (passes : ℕ) (opened : List Knowing) → AreNew context.order passes opened passes → All (IsPassOf context) opened
all_ours context passes opened are = λ k d lt.
    let near : k < passes = subst (λ (n : ℕ). k < n) are.count lt in
    let ours : IsPassOf context (new_at context.order passes k) = record { order = refl; records = All-nil (IsOf context.records) } in
    subst (IsPassOf context) (sym (get_at opened k d (new_at context.order passes k) (are.each k near))) ours

-- and has no status
pub all_blank : (order : TableId) (passes : ℕ) (opened : List Knowing) → AreNew order passes opened passes → All HasNoStatus opened
all_blank order passes opened are = λ k d lt.
    let near : k < passes = subst (λ (n : ℕ). k < n) are.count lt in
    let blank : HasNoStatus (new_at order passes k) = none_at (room_of order) in
    subst HasNoStatus (sym (get_at opened k d (new_at order passes k) (are.each k near))) blank
