-- A row of a Kronecker product is in order.
use Rattle.std.proofs.Common.{ℕ, ◌+◌, ◌*◌, ◌<◌, ◌≤◌, [], ◌∷◌, ◌++◌, subst, arith}
use Rattle.std.specs.List.{AllByRecursion}
use Rattle.std.specs.declared.cmp.Ordering.TheVariants.{Less}
use Rattle.std.specs.Ordering.{nat_cmp, is_lt}
use Rattle.std.specs.Cmp.{nat_cmp_is}
use Rattle.std.specs.FinMap.{is_sorted}
use Rattle.std.specs.FinMap.Entries.{below_all}
use Rattle.std.proofs.lemmas.Bool.Decides.{nat_tests}
use Rattle.std.proofs.lemmas.Nat.{row_fits}
use lib.Dec.{T}
use Rattle.grb_core.specs.declared.value.Value.{Value}
use Rattle.grb_core.specs.Entries.{VectorEntries}
use Rattle.grb_core.proofs.Maps.{both as and, first as fst, second as snd, below-append}
use Rattle.grb_kronecker.specs.Crossing.{crossed, shifted}

less : (p q : ℕ) → p < q → T (is_lt (nat_cmp p q))
less p q h = subst (λ o. T (is_lt o)) (nat_cmp_is p q Less h) tt

is_less : (p q : ℕ) → T (is_lt (nat_cmp p q)) → p < q
is_less p q h = grind (arith, nat_tests, h)

module _ (f : Value → Value → Value) (c : ℕ) where
  -- what comes before a part of a row
  below-shifted : (x base : ℕ) (v : Value) (m : VectorEntries) → x < base → T (below_all nat_cmp x (shifted f base v m))
  below-shifted x base v [] h = tt
  below-shifted x base v (d ∷ m) h = and _ _ (less x (base + d.0) (omega (arith, h))) (below-shifted x base v m h)

  below-within : (x base : ℕ) (v : Value) (m : VectorEntries) → T (below_all nat_cmp x m) → T (below_all nat_cmp (base + x) (shifted f base v m))
  below-within x base v [] h = tt
  below-within x base v (d ∷ m) h =
      let l = is_less x d.0 (fst _ _ h) in
      and _ _ (less (base + x) (base + d.0) (omega (arith, l))) (below-within x base v m (snd _ _ h))

  sorted-shifted : (base : ℕ) (v : Value) (m : VectorEntries) → T (is_sorted nat_cmp m) → T (is_sorted nat_cmp (shifted f base v m))
  sorted-shifted base v [] h = tt
  sorted-shifted base v (d ∷ m) h = and _ _ (below-within d.0 base v m (fst _ _ h)) (sorted-shifted base v m (snd _ _ h))

  -- what comes before all parts after that of an entry
  below-crossed : (z e : ℕ) (x m : VectorEntries) → z < (e + 1) * c → T (below_all nat_cmp e x) → T (below_all nat_cmp z (crossed f c x m))
  below-crossed z e [] m h b = tt
  below-crossed z e (d ∷ x) m h b =
      let l = is_less e d.0 (fst _ _ b) in
      let up : (e + 1) * c ≤ d.0 * c = grind (arith, row_fits e c d.0 c l (omega arith)) in
      below-append nat_cmp z (shifted f (d.0 * c) d.1 m) (crossed f c x m) (below-shifted z (d.0 * c) d.1 m (omega (arith, h, up))) (below-crossed z e x m h (snd _ _ b))

  sorted-then : (e : ℕ) (n x m : VectorEntries) (v : Value) → T (is_sorted nat_cmp n) → AllByRecursion (λ d. d.0 < c) n → T (below_all nat_cmp e x) → T (is_sorted nat_cmp (crossed f c x m))
      → T (is_sorted nat_cmp (shifted f (e * c) v n ++ crossed f c x m))
  sorted-then e [] x m v s w b t = t
  sorted-then e (d ∷ n) x m v s w b t =
      let in_part : e * c + d.0 < (e + 1) * c = grind (arith, w.0) in
      and _ _ (below-append nat_cmp (e * c + d.0) (shifted f (e * c) v n) (crossed f c x m) (below-within d.0 (e * c) v n (fst _ _ s)) (below-crossed (e * c + d.0) e x m in_part b))
      (sorted-then e n x m v (snd _ _ s) w.1 b t)

  pub sorted-crossed : (x m : VectorEntries) → T (is_sorted nat_cmp x) → T (is_sorted nat_cmp m) → AllByRecursion (λ d. d.0 < c) m → T (is_sorted nat_cmp (crossed f c x m))
  sorted-crossed [] m s t w = tt
  sorted-crossed (e ∷ x) m s t w = sorted-then e.0 m x m e.1 t w (fst _ _ s) (sorted-crossed x m (snd _ _ s) t w)
