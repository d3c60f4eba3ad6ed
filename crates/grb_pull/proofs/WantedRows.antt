-- A value made of each row that is wanted.
use Rattle.std.proofs.Common.{◌≡◌, ℕ, ◌<◌, ◌≤◌, Bool, true, false, cond, List, [], ◌++◌, length, drop, refl, sym, ap, subst, ◌∙◌}
use Rattle.std.specs.Prelude.{◌≢◌, Option, None, IsTrue, slice_index}
use Rattle.std.specs.Ordering.{nat_cmp}
use Rattle.std.specs.Cmp.{nat_cmp_total}
use Rattle.std.specs.FinMap.{is_sorted, nat_cmp-IsAntisymmetric}
use Rattle.std.proofs.lemmas.List.{drop_all}
use lib.Dec.{T}
use Rattle.grb_core.specs.declared.value.Value.{Value}
use Rattle.grb_core.specs.Entries.{VectorEntries, MatrixEntries, map_on, restricted}
use Rattle.grb_core.specs.Results.{row_of, each_row}
use Rattle.grb_core.proofs.Edits.{find-restricted}
use Rattle.grb_core.proofs.Maps.{same_entries_at}
use Rattle.grb_kernels.proofs.Lists.{append_nil}
use Rattle.grb_ewise.specs.Ranks.{Rise}
use Rattle.grb_push.proofs.Bounded.{is_sorted-restricted}
use Rattle.grb_sums.proofs.RowByRow.{find-each_row, find-map_rising, is_sorted-each_row, is_sorted-map_rising}

passes : (b : Bool) → T b → IsTrue b
passes true h = refl
passes false h = absurd h

module _ (wanted : ℕ → Bool) (f : VectorEntries → Option Value) (a : MatrixEntries) where
  -- what is made of a row
  abbrev pub made_at : ℕ → Option Value
  made_at i = cond (wanted i) (f (row_of i a)) None

  nothing_at : f [] ≡ None → (q : ℕ) → row_of q a ≡ [] → made_at q ≡ None
  nothing_at none q e = ap (λ (x : VectorEntries). cond (wanted q) (f x) None) e ∙ ap (λ w. cond (wanted q) w None) none ∙ elim (wanted q) as (λ b. cond {A = Option Value} b None None ≡ None) [ true ↦ refl | false ↦ refl ]

  each_wanted : f [] ≡ None → (rows : List ℕ) → Rise rows → ((i : ℕ) → ((k : ℕ) → k < length rows → slice_index rows k ≢ i) → row_of i a ≡ []) → map_on rows made_at ≡ restricted wanted (each_row f a)
  each_wanted none rows rise all =
      same_entries_at nat_cmp nat_cmp_total nat_cmp-IsAntisymmetric _ _ (is_sorted-map_rising made_at rows rise) (is_sorted-restricted wanted (each_row f a) (is_sorted-each_row f a))
      (λ q. find-map_rising made_at q rows rise (λ apart. nothing_at none q (all q apart))
      ∙ sym (find-restricted nat_cmp nat_cmp_total nat_cmp-IsAntisymmetric wanted q (each_row f a) ∙ ap (λ w. cond (wanted q) w None) (find-each_row f none a q)))

  -- after the last row
  pub wanted_rows : f [] ≡ None → (rows named : List ℕ) (place : ℕ) (so_far : VectorEntries) → rows ≡ named → Rise named
      → ((i : ℕ) → ((k : ℕ) → k < length named → slice_index named k ≢ i) → row_of i a ≡ []) → length rows ≤ place
      → so_far ++ map_on (drop place rows) made_at ≡ map_on rows made_at → so_far ≡ restricted wanted (each_row f a)
  wanted_rows none rows named place so_far same rise all past was =
      sym (append_nil so_far)
      ∙ ap (λ (ks : List ℕ). so_far ++ map_on ks made_at) (sym (drop_all place rows past))
      ∙ was
      ∙ ap (λ (ks : List ℕ). map_on ks made_at) same
      ∙ each_wanted none named rise all

  pub wanted_rising : (m : VectorEntries) → m ≡ restricted wanted (each_row f a) → IsTrue (is_sorted nat_cmp m)
  wanted_rising m e = subst (λ (k : VectorEntries). IsTrue (is_sorted nat_cmp k)) (sym e) (passes _ (is_sorted-restricted wanted (each_row f a) (is_sorted-each_row f a)))
