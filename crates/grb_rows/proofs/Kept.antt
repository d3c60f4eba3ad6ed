-- Entries and changes of which those at cells that pass a test are kept, run by run.
use Rattle.std.proofs.Common.{◌≡◌, ℕ, zero, suc, ◌+◌, ◌<◌, ◌≤◌, Bool, true, false, cond, List, [], ◌∷◌, ◌++◌, length, get_or, take, drop, Some, None, Option, refl, sym, ap, subst, ◌∙◌, arith}
use Rattle.std.specs.List.{AllByRecursion}
use Rattle.std.specs.Ordering.{nat_cmp}
use Rattle.std.specs.FinMap.{is_sorted}
use Rattle.std.proofs.lemmas.List.{append-nil, append_assoc, get_or_default}
use Rattle.std.proofs.lemmas.List.Elements.{filter-append}
use lib.Dec.{T}
use Rattle.grb_core.specs.declared.value.Value.{Value}
use Rattle.grb_core.specs.Entries.{VectorEntries, restricted, without_entry}
use Rattle.grb_rows.specs.Pending.{Change, changed_at}
use Rattle.grb_lists.proofs.Ends.{keys_rise, put-end, without-end}
use Rattle.grb_rows.proofs.Merging.{none_between, all-part, so_far, ChangesBelow, run_more}
use Rattle.grb_lists.proofs.Cut.{restricted-push, all-restricted}

-- one more entry of those from a place on
part_more : (s at : ℕ) (m : VectorEntries) (d : ℕ × Value) → s ≤ at → at < length m → drop s (take (suc at) m) ≡ drop s (take at m) ++ get_or m at d ∷ []
part_more s at [] d l n = absurd (omega arith)
part_more zero zero (x ∷ m) d l n = refl
part_more zero (suc at) (x ∷ m) d l n = ap (λ (s : VectorEntries). x ∷ s) (part_more zero at m d (omega arith) (omega arith))
part_more (suc s) zero (x ∷ m) d l n = absurd (omega arith)
part_more (suc s) (suc at) (x ∷ m) d l n = part_more s at m d (omega arith) (omega arith)

joined_below : (k x : ℕ) (old run : VectorEntries) → AllByRecursion (λ e. e.0 < x) old → x ≤ k → AllByRecursion (λ e. e.0 < k) run → AllByRecursion (λ e. e.0 < k) (old ++ run)
joined_below k x [] run h l g = g
joined_below k x (e ∷ old) run h l g = let a = h.0 in (omega (arith, a, l), joined_below k x old run h.1 l g)

module _ (t : ℕ → Bool) (m : VectorEntries) (start : ℕ) where
  -- what is kept of the entries from `start` up to a place
  abbrev pub kept : ℕ → VectorEntries
  kept at = restricted t (drop start (take at m))

  kept-more : (at : ℕ) (d : ℕ × Value) → start ≤ at → at < length m → kept (suc at) ≡ cond (t (get_or m at d).0) (kept at ++ get_or m at d ∷ []) (kept at)
  kept-more at d l n = ap (restricted t) (part_more start at m d l n) ∙ restricted-push t (drop start (take at m)) (get_or m at d).0 (get_or m at d).1

  module _ (old new : VectorEntries) (from at k : ℕ) (after : start ≤ from) (order : from ≤ at) (inside : at < length m) (d : ℕ × Value) (is : k ≡ (get_or m at d).0)
      (held : new ++ drop from (take at m) ≡ old ++ kept at) where
    -- an entry that is kept waits to be copied
    pub kept-waits : t k ≡ true → new ++ drop from (take (at + 1) m) ≡ old ++ kept (at + 1)
    kept-waits passes =
        let e = get_or m at d in
        let up : at + 1 ≡ suc at = omega arith in
        ap (λ n. new ++ drop from (take n m)) up
        ∙ ap (λ (x : VectorEntries). new ++ x) (part_more from at m d order inside)
        ∙ sym (append_assoc new (drop from (take at m)) (e ∷ []))
        ∙ ap (λ (x : VectorEntries). x ++ e ∷ []) held
        ∙ append_assoc old (kept at) (e ∷ [])
        ∙ ap (λ (x : VectorEntries). old ++ x) (sym (kept-more at d (omega (arith, after, order)) inside ∙ ap (λ b. cond b (kept at ++ e ∷ []) (kept at)) (ap t (sym is) ∙ passes)))
        ∙ ap (λ n. old ++ kept n) (sym up)

    -- at one that is not, those that wait are copied, and none waits
    pub kept-copied : t k ≡ false → (more : VectorEntries) → more ≡ new ++ drop from (take at m) → more ++ drop (at + 1) (take (at + 1) m) ≡ old ++ kept (at + 1)
    kept-copied fails more copied =
        let e = get_or m at d in
        let up : at + 1 ≡ suc at = omega arith in
        ap (λ (x : VectorEntries). more ++ x) (none_between (at + 1) (at + 1) m (omega arith))
        ∙ append-nil more ∙ copied ∙ held
        ∙ ap (λ (x : VectorEntries). old ++ x) (sym (kept-more at d (omega (arith, after, order)) inside ∙ ap (λ b. cond b (kept at ++ e ∷ []) (kept at)) (ap t (sym is) ∙ fails)))
        ∙ ap (λ n. old ++ kept n) (sym up)

    -- the next entry comes after all those
    pub kept-below : T (is_sorted nat_cmp m) → at + 1 < length m → AllByRecursion (λ e. e.0 < (get_or m start d).0) old → (more : VectorEntries) → more ≡ new ++ drop from (take at m)
        → AllByRecursion (λ e. e.0 < (get_or m (at + 1) d).0) more
    kept-below sorted next low more copied =
        let k = (get_or m (at + 1) d).0 in
        let first = keys_rise m d sorted start (at + 1) (omega (arith, after, order)) next in
        subst (λ (x : VectorEntries). AllByRecursion (λ e. e.0 < k) x) (sym (copied ∙ held))
        (joined_below k (get_or m start d).0 old (kept at) low (omega (arith, first))
        (all-restricted t k (drop start (take at m)) (all-part (λ e. e.0 < k) start at m (λ q z a b n. below q z b n))))
      where
        below : (q : ℕ) (z : ℕ × Value) → q < at → q < length m → (get_or m q z).0 < (get_or m (at + 1) d).0
        below q z b n =
            let rises = keys_rise m z sorted q (at + 1) (omega (arith, b)) next in
            let same = ap (λ (e : ℕ × Value). e.0) (get_or_default m (at + 1) z d next) in
            omega (arith, rises, same)

-- a change above all others, kept or not
pub restricted_changed : (t : ℕ → Bool) (k : ℕ) (c : Option Value) (m : VectorEntries) → AllByRecursion (λ e. e.0 < k) m
    → cond (t k) (changed_at k c (restricted t m)) (restricted t m) ≡ restricted t (changed_at k c m)
restricted_changed t k None m low =
    elim (t k) as (λ b. cond b (without_entry nat_cmp k (restricted t m)) (restricted t m) ≡ restricted t m) [
      | true ↦ without-end k (restricted t m) (all-restricted t k m low)
      | false ↦ refl
    ]
    ∙ ap (restricted t) (sym (without-end k m low))
restricted_changed t k (Some v) m low =
    ap (λ (x : VectorEntries). cond (t k) x (restricted t m)) (put-end k v (restricted t m) (all-restricted t k m low))
    ∙ sym (restricted-push t m k v)
    ∙ ap (restricted t) (sym (put-end k v m low))

-- what is kept of a run, after what is kept of the entries and the changes so far
pub kept_so_far : (t : ℕ → Bool) (m : VectorEntries) (cs : List Change) (i j next : ℕ) → T (is_sorted nat_cmp m) → i ≤ next → next ≤ length m → ChangesBelow m cs i j → (new more : VectorEntries)
    → new ≡ restricted t (so_far m cs i j) → more ≡ new ++ restricted t (drop i (take next m)) → more ≡ restricted t (so_far m cs next j)
kept_so_far t m cs i j next sorted order within below new more is joined =
    joined
    ∙ ap (λ (x : VectorEntries). x ++ restricted t (drop i (take next m))) is
    ∙ sym (filter-append (λ e. t e.0) (so_far m cs i j) (drop i (take next m)))
    ∙ ap (restricted t) (run_more m cs i j next sorted order within below)
