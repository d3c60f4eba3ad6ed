-- The exchange that adds a generation keeps the rule.
use Rattle.std.proofs.Common.{◌≡◌, ℕ, ◌+◌, ◌<◌, ◌==◌, Bool, true, false, List, [], ◌∷◌, ◌++◌, length, refl, ap, sym, subst, ◌∙◌, arith, inl, length-append, None}
use Rattle.std.proofs.lemmas.List.{append-nil}
use Rattle.std.proofs.lemmas.Bool.Decides.{nat_tests}
use mathlib.Core.List.{IsPrefix}
use prog.Atomic.{either}
use Rattle.logbook.specs.Pages.{Cell, cell, keeps, no_nib, step, Moves, Goes}
use Rattle.grb_chronicle.specs.Linked.{AreLinked, MayFollow}
use Rattle.grb_chronicle.specs.Steps.{IsKept, Turns}
use Rattle.grb_chronicle.proofs.Beginnings.{linked_push, prefix_whole}

module _ {E : Type 0} (follows : E → E → Type 0) where
  abbrev pub shown : List E → List E
  shown log = []

  abbrev pub moved : List E → List E → ℕ → Type 0
  moved xs ys n = Unit {0}

  pub turns_goes : (log v : List E) (e : E) (old n : ℕ) → length v ≡ old + 1 → length log ≡ n + 1 → MayFollow follows v e → AreLinked follows log → IsPrefix v log
      → (b : Bool) → (n == old) ≡ b
      → Goes (IsKept follows) shown moved 0 (v, (no_nib, None)) (λ k. either (k == old) (old + 1) k) (Turns follows (step 0 old (old + 1) e) (v, (no_nib, None))) ((n, true) ∷ []) log
  turns_goes log v e old n long all may linked pre true is =
      let here : n ≡ old = grind (arith, nat_tests) in
      let same : v ≡ log = prefix_whole v log pre (omega (arith, long, all, here)) in
      let after : AreLinked follows (log ++ e ∷ []) = linked_push follows log e linked (subst (λ (l : List E). MayFollow follows l e) same may) in (
        keeps,
        e ∷ [],
        None,
        tt,
        record { number = old + 1; cells_are = rw is refl; long = omega (arith, length-append log (e ∷ []), all, here); linked = after },
        inl (refl, refl),
        rw is (ap (λ w. w ++ e ∷ []) (sym same), after),
      )
  turns_goes log v e old n long all may linked pre false is =
      let whole : log ++ [] ≡ log = append-nil log in
      let after : AreLinked follows (log ++ []) = subst (AreLinked follows) (sym whole) linked in
      let more : length (log ++ []) ≡ n + 1 = ap length whole ∙ all in (
        keeps,
        [],
        None,
        tt,
        record { number = n; cells_are = rw is refl; long = more; linked = after },
        inl (refl, refl),
        rw is (more, after),
      )

  -- whatever the book is, the exchange adds the generation to all that was seen, or finds that there are more
  pub turns_moves : (v : List E) (e : E) (old : ℕ) → length v ≡ old + 1 → MayFollow follows v e
      → Moves (IsKept follows) shown moved 0 (v, (no_nib, None)) (λ k. either (k == old) (old + 1) k) (Turns follows (step 0 old (old + 1) e) (v, (no_nib, None)))
  turns_moves v e old long may cs log kept pre away =
      let P : List Cell → Type 0 = λ c. (0 < length c) × ((cell c 0).1 ≡ true)
      × Goes (IsKept follows) shown moved 0 (v, (no_nib, None)) (λ k. either (k == old) (old + 1) k) (Turns follows (step 0 old (old + 1) e) (v, (no_nib, None))) c log in
      subst P (sym kept.cells_are) (omega arith, refl, turns_goes log v e old kept.number long kept.long may kept.linked pre (kept.number == old) refl)
