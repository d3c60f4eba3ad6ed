-- What the passes of a successor know, call by call.
use Rattle.std.proofs.Common.{◌≡◌, ℕ, zero, suc, ◌+◌, ◌<◌, List, [], ◌∷◌, ◌++◌, length, refl, sym, ap, subst, ◌∙◌, arith, length-append}
use Rattle.grb_pass.proofs.Prelude.{slice_get, slice_index_or, All, insert, remove, append-nil, slice_get_within, same_Some, fresh, room_of, IsOf, Call, Store, IsStore, empty_store, after, History, calls_of, after_all, store_of, no_rows, rebuilt, AreNew, IsPassOf, Shared, Knowing, known, none_made, Begins, AreBegun, BeginsWith, IsOpened, IsOpenedWith, calls_of-append}
use Rattle.std.specs.Prelude.{Some}
use Rattle.std.proofs.lemmas.List.Elements.{All-cons}
use Rattle.grb_call.proofs.Runs.{after_all-append}
use Rattle.grb_rebuild.proofs.Rebuilding.{rebuild_leaves_the_store}
use Rattle.grb_pass.specs.Succeeding.{made_by, begun}

-- the store after one more call
pub store_of-push : (h : History) (n : ℕ) (c : Call) → store_of (h ++ (n, c) ∷ []) ≡ after (store_of h) c
store_of-push h n c = ap (after_all empty_store) (calls_of-append h ((n, c) ∷ [])) ∙ after_all-append empty_store (calls_of h) (c ∷ [])

pub calls_of-made_by : (n : ℕ) (cs : List Call) → calls_of (made_by n cs) ≡ cs
calls_of-made_by n [] = refl
calls_of-made_by n (c ∷ cs) = ap (λ ds. c ∷ ds) (calls_of-made_by n cs)

pub store_of-made_by : (n : ℕ) (cs : List Call) → store_of (made_by n cs) ≡ after_all empty_store cs
store_of-made_by n cs = ap (after_all empty_store) (calls_of-made_by n cs)

-- a successor begins as the old store ends
pub store_of-begun : (s : Store) → IsStore s → store_of (begun s) ≡ s
store_of-begun s whole = store_of-made_by 0 (rebuilt s) ∙ rebuild_leaves_the_store s whole

-- a history that another begins, and which is as long, is that one
empty_rest : (h : History) → length h ≡ 0 → h ≡ []
empty_rest [] e = refl
empty_rest (x ∷ h) e = absurd (omega arith)

pub begins_whole : (g h : History) → Begins g h → length h ≡ length g → h ≡ g
begins_whole g h b same =
    let n = ap length b.1 ∙ length-append g b.0 in
    let none : b.0 ≡ [] = empty_rest b.0 (omega (arith, n, same)) in
    b.1 ∙ ap (λ (r : History). g ++ r) none ∙ append-nil g

-- an element is put at the beginning, and taken from there
pub inserted_first : {X : Type 0} (xs ys : List X) (f : X) → ys ≡ insert xs 0 f → ys ≡ f ∷ xs
inserted_first [] ys f e = e
inserted_first (x ∷ xs) ys f e = e

pub removed_first : {X : Type 0} (xs : List X) (x y : X) → 0 < length xs → slice_get xs 0 ≡ Some x → slice_index_or xs 0 y ≡ x
removed_first [] x y some at = absurd (omega arith)
removed_first (z ∷ xs) x y some at = cc

pub removed_rest : {X : Type 0} (xs ys : List X) (n : ℕ) → 0 < length xs → ys ≡ remove xs 0 → slice_get ys n ≡ slice_get xs (n + 1)
removed_rest [] ys n some e = absurd (omega arith)
removed_rest (x ∷ xs) ys n some e = let next : suc n ≡ n + 1 = omega arith in ap (λ zs. slice_get zs n) e ∙ ap (slice_get (x ∷ xs)) next

-- what holds of each element by its index holds of all
pub each_all : {X : Type 0} (P : X → Type 0) (xs : List X) → ((n : ℕ) (p : X) → slice_get xs n ≡ Some p → P p) → All P xs
each_all P [] h = λ k d lt. absurd (omega arith)
each_all P (x ∷ xs) h = All-cons P x xs (h 0 x refl) (each_all P xs (λ n p e. h (suc n) p e))

-- the pass is one of so many
abbrev IsOfMany : ℕ → Knowing → Type 0
IsOfMany passes p = p.view.passes ≡ passes

-- the first pass, and those after it
pub are_begun : (context : Shared) (s : Store) (passes : ℕ) (first : Knowing) (others all : List Knowing) → IsStore s → all ≡ first ∷ others → length others + 1 ≡ passes → IsOpened context 0 first → first.view.passes ≡ passes → known first ≡ begun s
    → ((n : ℕ) (p : Knowing) → slice_get others n ≡ Some p → IsOpenedWith context first (n + 1) p) → ((n : ℕ) (p : Knowing) → slice_get others n ≡ Some p → known p ≡ known first) → AreBegun context s passes all
are_begun context s passes first others all whole is count opened many knows each told = subst (AreBegun context s passes) (sym is) (record { count = omega (arith, count); passes_are = each_all (IsOfMany passes) (first ∷ others) of; each = at }) where
  of : (number : ℕ) (p : Knowing) → slice_get (first ∷ others) number ≡ Some p → IsOfMany passes p
  of zero p e = subst (IsOfMany passes) (same_Some first p e) many
  of (suc n) p e = (each n p e).passes ∙ many

  begins : (number : ℕ) (p : Knowing) → IsOpened context number p → known p ≡ begun s → BeginsWith context s number p
  begins number p fresh same = record { opened = fresh; known_is = same; store_is = ap store_of same ∙ store_of-begun s whole }

  at : (number : ℕ) (p : Knowing) → slice_get (first ∷ others) number ≡ Some p → BeginsWith context s number p
  at zero p e = subst (BeginsWith context s 0) (same_Some first p e) (begins 0 first opened knows)
  at (suc n) p e = begins (suc n) p (subst (λ (m : ℕ). IsOpened context m p) (omega arith) (each n p e).opened) (told n p e ∙ knows)

-- a pass that was opened
pub new_opened : (context : Shared) (passes : ℕ) (opened : List Knowing) (n : ℕ) (p : Knowing) → AreNew context.order passes opened passes → slice_get opened n ≡ Some p → IsOpened context n p × (known p ≡ []) × (p.view.passes ≡ passes)
new_opened context passes opened n p new at =
    let lt : n < passes = omega (arith, slice_get_within opened n p at, new.count) in
    let is : record { order = context.order; view = fresh n passes; shown = []; steps = 0; statuses = no_rows (room_of context.order); settled = 0; made = none_made } ≡ p = same_Some _ p (sym (new.each n lt) ∙ at) in (
      record {
        pass = record { order = ap (λ (k : Knowing). k.order) (sym is); records = subst (λ (k : Knowing). All (IsOf context.records) k.shown) is (λ k d none. absurd (omega arith)) };
        number_is = ap (λ (k : Knowing). k.view.number) (sym is);
        statuses = ap (λ (k : Knowing). k.statuses) (sym is);
        settled = ap (λ (k : Knowing). k.settled) (sym is);
        steps = ap (λ (k : Knowing). k.steps) (sym is);
        made = ap (λ (k : Knowing). k.made) (sym is);
      },
      ap known (sym is),
      ap (λ (k : Knowing). k.view.passes) (sym is),
    )

pub all_begun : (context : Shared) (s : Store) (passes : ℕ) (opened : List Knowing) → AreBegun context s passes opened → All (IsPassOf context) opened
all_begun context s passes opened is = each_all (IsPassOf context) opened (λ n p at. (is.each n p at).opened.pass)

-- the one that is taken from the beginning
pub new_first : (context : Shared) (passes : ℕ) (opened : List Knowing) (first : Knowing) → AreNew context.order passes opened passes → 0 < length opened → first ≡ slice_index_or opened 0 first → IsOpened context 0 first × (first.view.passes ≡ passes)
new_first context passes opened first new some is =
    let lt : 0 < passes = omega (arith, new.count) in
    let o = new_opened context passes opened 0 first new (new.each 0 lt ∙ ap Some (sym (removed_first opened _ first some (new.each 0 lt)) ∙ sym is)) in (o.0, o.2)
