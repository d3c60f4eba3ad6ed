-- The walk back over entries: one step of it, and where it begins.
use Rattle.std.proofs.Common.{◌≡◌, ℕ, zero, suc, ◌+◌, ◌<◌, ◌≤◌, Bool, true, false, ◌||◌, if◌then◌else◌, List, [], ◌∷◌, refl, sym, ap, ◌∙◌, arith, length, drop, get_or, set, Option, Some, None}
use Rattle.grb_replay.proofs.Prelude.{slice_get, option_map_or, Call, Object, Step, Entry, Make, Wants, wants_before, choices, entries, sliced, is_chosen, wants_before_entry}
use Rattle.grb_replay.proofs.Places.{drop_end}

drop-set : {X : Type 0} (xs : List X) (k : ℕ) (x : X) → k < length xs → drop k (set xs k x) ≡ x ∷ drop (suc k) xs
drop-set [] k x h = absurd (omega arith)
drop-set (y ∷ xs) zero x h = refl
drop-set (y ∷ xs) (suc k) x h = drop-set xs k x (omega arith)

-- what is wanted before an entry, and whether it is chosen, are matters of what is wanted after it
pub sliced_before : (w : Wants) (t : Option Object) (c : Call) (xs : List Step) (p : Object) →
    (sliced w (Entry t c ∷ xs)).wanted p ≡ wants_before_entry (sliced w xs).wanted t c p
sliced_before w None c xs p = refl
sliced_before w (Some o) c xs p = if_wanted ((sliced w xs).wanted o)
  where
    if_wanted : (b : Bool) → (if b then (record { wanted = wants_before (sliced w xs).wanted o (Make c); elements = (o, Make c) ∷ (sliced w xs).elements }) else sliced w xs).wanted p
        ≡ (if b then wants_before (sliced w xs).wanted o (Make c) else (sliced w xs).wanted) p
    if_wanted true = refl
    if_wanted false = refl

-- one more element, where the entry is chosen
counts : (w : Wants) (t : Option Object) (c : Call) (xs : List Step) (n : ℕ) → n ≡ length (sliced w xs).elements →
    (if is_chosen (sliced w xs).wanted t then n + 1 else n) ≡ length (sliced w (Entry t c ∷ xs)).elements
counts w None c xs n e = e
counts w (Some o) c xs n e = if_chosen ((sliced w xs).wanted o)
  where
    if_chosen : (b : Bool) → (if b then n + 1 else n) ≡ length (if b then (record { wanted = wants_before (sliced w xs).wanted o (Make c); elements = (o, Make c) ∷ (sliced w xs).elements }) else sliced w xs).elements
    if_chosen true = omega (arith, e)
    if_chosen false = e

chosen_same : (w v : Wants) → ((p : Object) → w p ≡ v p) → (t : Option Object) → is_chosen w t ≡ is_chosen v t
chosen_same w v same None = refl
chosen_same w v same (Some o) = same o

before_same : (w v : Wants) → ((p : Object) → w p ≡ v p) → (t : Option Object) (c : Call) (p : Object) → wants_before_entry w t c p ≡ wants_before_entry v t c p
before_same w v same None c p = same p
before_same w v same (Some o) c p =
    ap (λ b. (if b then wants_before w o (Make c) else w) p) (same o) ∙ by_want (v o)
  where
    by_want : (b : Bool) → (if b then wants_before w o (Make c) else w) p ≡ (if b then wants_before v o (Make c) else v) p
    by_want true = ap (λ b. wants_before (λ _. b) o (Make c) p) (same p)
    by_want false = same p

entries_at : (ts : List (Option Object)) (cs : List Call) (k : ℕ) (c : Call) → length ts ≡ length cs → k < length cs → get_or cs k c ≡ c →
    drop k (entries ts cs) ≡ Entry (get_or ts k None) c ∷ drop (suc k) (entries ts cs)
entries_at ts [] k c same h e = absurd (omega arith)
entries_at [] (d ∷ cs) k c same h e = absurd (omega (arith, same))
entries_at (t ∷ ts) (d ∷ cs) zero c same h e = ap (λ b. Entry t b ∷ entries ts cs) e
entries_at (t ∷ ts) (d ∷ cs) (suc k) c same h e = entries_at ts cs k c (omega (arith, same)) (omega arith) e

entries-length : (ts : List (Option Object)) (cs : List Call) → length ts ≡ length cs → length (entries ts cs) ≡ length cs
entries-length [] [] same = refl
entries-length [] (c ∷ cs) same = absurd (omega (arith, same))
entries-length (t ∷ ts) [] same = absurd (omega (arith, same))
entries-length (t ∷ ts) (c ∷ cs) same = ap suc (entries-length ts cs (omega (arith, same)))

-- the walk has gone back to a place: what it has chosen after the place, and what is wanted there
pub record IsWalked (w : Wants) (xs : List Step) (at : ℕ) (chosen : List Bool) (count : ℕ) (wanted : Wants) : Type 0 where
  pub count_is : count ≡ length (sliced w (drop at xs)).elements
  pub chosen_is : drop at chosen ≡ choices w (drop at xs)
  pub wanted_is : (p : Object) → wanted p ≡ (sliced w (drop at xs)).wanted p

pub walk_begins : (w : Wants) (ts : List (Option Object)) (cs : List Call) (chosen : List Bool) (n : ℕ) → n ≡ length cs → length ts ≡ length cs → length chosen ≡ n →
    IsWalked w (entries ts cs) n chosen 0 w
walk_begins w ts cs chosen n end same count =
    let none : drop n (entries ts cs) ≡ [] = drop_end (entries ts cs) n (end ∙ sym (entries-length ts cs same)) in
    record {
      count_is = sym (ap (λ (ys : List Step). length (sliced w ys).elements) none);
      chosen_is = drop_end chosen n (sym count) ∙ sym (ap (choices w) none);
      wanted_is = λ p. sym (ap (λ (ys : List Step). (sliced w ys).wanted p) none);
    }

pub walk_goes : (w v u : Wants) (ts : List (Option Object)) (cs : List Call) (k : ℕ) (c : Call) (chosen : List Bool) (n : ℕ) (b : Bool) → length ts ≡ length cs → k < length cs → length chosen ≡ length cs →
    get_or cs k c ≡ c → IsWalked w (entries ts cs) (suc k) chosen n v → b ≡ is_chosen v (get_or ts k None) → ((p : Object) → u p ≡ wants_before_entry v (get_or ts k None) c p) →
    IsWalked w (entries ts cs) k (set chosen k b) (if b then n + 1 else n) u
walk_goes w v u ts cs k c chosen n b same within count is walked chose goes =
    let t = get_or ts k None in
    let rest = drop (suc k) (entries ts cs) in
    let here = entries_at ts cs k c same within is in
    record {
      count_is = ap (λ d. if d then n + 1 else n) (chose ∙ chosen_same v (sliced w rest).wanted walked.wanted_is t)
          ∙ (counts w t c rest n walked.count_is ∙ sym (ap (λ (ys : List Step). length (sliced w ys).elements) here));
      chosen_is = drop-set chosen k b (omega (arith, within, count))
          ∙ (ap (λ d. d ∷ drop (suc k) chosen) (chose ∙ chosen_same v (sliced w rest).wanted walked.wanted_is t)
          ∙ (ap (λ ds. option_map_or (sliced w rest).wanted t false ∷ ds) walked.chosen_is ∙ sym (ap (choices w) here)));
      wanted_is = λ p. goes p ∙ (before_same v (sliced w rest).wanted walked.wanted_is t c p ∙ (sym (sliced_before w t c rest p) ∙ sym (ap (λ (ys : List Step). (sliced w ys).wanted p) here)));
    }

-- and never more than the entries after
pub walk_count : (k m n : ℕ) (b : Bool) → n + suc k ≤ m → (if b then n + 1 else n) + k ≤ m
walk_count k m n true h = omega (arith, h)
walk_count k m n false h = omega (arith, h)

-- a call at a place of a list
pub call_there : (cs : List Call) (n : ℕ) → n < length cs → (c : Call) × (slice_get cs n ≡ Some c)
call_there [] n h = absurd (omega arith)
call_there (c ∷ cs) zero h = (c, refl)
call_there (c ∷ cs) (suc n) h = call_there cs n (omega arith)

pub or_nothing : (a b : Bool) → b ≡ false → (a || b) ≡ a
or_nothing true b e = refl
or_nothing false b e = e
