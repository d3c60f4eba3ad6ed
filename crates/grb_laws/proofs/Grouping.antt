-- A product of three matrices, whichever two are multiplied first.
use Rattle.std.proofs.Common.{◌≡◌, ℕ, sym, ap, ◌∙◌}
use Rattle.std.specs.Prelude.{Option, map}
use Rattle.std.specs.FinMap.{find}
use Rattle.std.proofs.lemmas.List.Elements.{recursion_from_All}
use Rattle.grb_core.specs.declared.value.Value.{Value}
use Rattle.grb_core.specs.Value.{IsValueOf}
use Rattle.grb_core.specs.Operator.{op_domain}
use Rattle.grb_core.specs.Semiring.{SemiringParts}
use Rattle.grb_core.specs.Entries.{Cell, cell_cmp, MatrixEntries}
use Rattle.grb_core.specs.Results.{columns_of, mxm_of}
use Rattle.grb_core.proofs.Maps.{same_entries_at, cell_cmp_total, cell_cmp-IsAntisymmetric}
use Rattle.grb_core.proofs.Made.{of-find}
use Rattle.grb_sums.proofs.RowByRow.{in_its_row}
use Rattle.grb_mxm.proofs.ProductRows.{sorted-mxm}
use Rattle.grb_laws.specs.Laws.{Distributes, DistributiveProductsGroup}
use Rattle.grb_laws.proofs.Sums.{Is, times, total, total-same, times_is, exchanged, times_assoc, times-total, total-times}
use Rattle.grb_laws.proofs.Lookups.{find-product, find-columns, product_is, unstored_product}

module _ (s : SemiringParts) (h : Distributes s) (a b c : MatrixEntries) (of_a : (q : Cell) → Is s (find cell_cmp q a)) (of_b : (q : Cell) → Is s (find cell_cmp q b)) (of_c : (q : Cell) → Is s (find cell_cmp q c)) where
  abbrev first_two : MatrixEntries
  first_two = mxm_of s a b

  abbrev last_two : MatrixEntries
  last_two = mxm_of s b c

  -- what each of the three matrices stores on the way from i to l by j and k
  abbrev at_a : ℕ → ℕ → Option Value
  at_a i j = find cell_cmp (i, j) a

  abbrev at_b : ℕ → ℕ → Option Value
  at_b j k = find cell_cmp (j, k) b

  abbrev at_c : ℕ → ℕ → Option Value
  at_c k l = find cell_cmp (k, l) c

  of_first_two : (q : Cell) → Is s (find cell_cmp q first_two)
  of_first_two = product_is s h.0 a b of_a of_b

  of_last_two : (q : Cell) → Is s (find cell_cmp q last_two)
  of_last_two = product_is s h.0 b c of_b of_c

  module _ (i l : ℕ) where
    abbrev way : ℕ → ℕ → Option Value
    way k j = times s (times s (at_a i j) (at_b j k)) (at_c k l)

    way_is : (k j : ℕ) → Is s (way k j)
    way_is k j = times_is s h.0 (times s (at_a i j) (at_b j k)) (at_c k l) (times_is s h.0 (at_a i j) (at_b j k) (of_a (i, j)) (of_b (j, k))) (of_c (k, l))

    -- through k, and then from i to k by any j
    through : (k : ℕ) → times s (find cell_cmp (i, k) first_two) (at_c k l) ≡ total s (way k) (columns_of a)
    through k =
        ap (λ w. times s w (at_c k l)) (find-columns s h.0 a b of_a of_b i k)
        ∙ total-times s h.0 h.1 (λ j. times s (at_a i j) (at_b j k)) (at_c k l) (λ j. times_is s h.0 (at_a i j) (at_b j k) (of_a (i, j)) (of_b (j, k))) (of_c (k, l)) (columns_of a)

    -- through j, and then from j to l by any k
    onwards : (j : ℕ) → total s (λ k. way k j) (columns_of b) ≡ times s (at_a i j) (find cell_cmp (j, l) last_two)
    onwards j =
        total-same s (λ k. way k j) (λ k. times s (at_a i j) (times s (at_b j k) (at_c k l)))
        (λ k. times_assoc s h.0 h.1 (at_a i j) (at_b j k) (at_c k l) (of_a (i, j)) (of_b (j, k)) (of_c (k, l))) (columns_of b)
        ∙ sym (times-total s h.0 h.1 (at_a i j) (λ k. times s (at_b j k) (at_c k l)) (of_a (i, j)) (λ k. times_is s h.0 (at_b j k) (at_c k l) (of_b (j, k)) (of_c (k, l))) (columns_of b))
        ∙ ap (times s (at_a i j)) (sym (find-columns s h.0 b c of_b of_c j l))

    same_cell : find cell_cmp (i, l) (mxm_of s first_two c) ≡ find cell_cmp (i, l) (mxm_of s a last_two)
    same_cell =
        find-product s h.0 first_two c of_first_two of_c i l (map in_its_row b) (λ k t. ap (λ w. times s w (at_c k l)) (unstored_product s h.0 a b of_a of_b i k t))
        ∙ total-same s _ (λ k. total s (way k) (columns_of a)) through (columns_of b)
        ∙ exchanged s h.0 way way_is (columns_of b) (columns_of a)
        ∙ total-same s (λ j. total s (λ k. way k j) (columns_of b)) _ onwards (columns_of a)
        ∙ sym (find-columns s h.0 a last_two of_a of_last_two i l)

pub distributive_products_group : DistributiveProductsGroup
distributive_products_group s h a b c of_a of_b of_c =
    same_entries_at cell_cmp cell_cmp_total cell_cmp-IsAntisymmetric (mxm_of s (mxm_of s a b) c) (mxm_of s a (mxm_of s b c)) (sorted-mxm s (mxm_of s a b) c) (sorted-mxm s a (mxm_of s b c))
    (λ q. same_cell s h a b c
    (λ p. of-find cell_cmp (IsValueOf (op_domain s.op)) p a (recursion_from_All _ a of_a))
    (λ p. of-find cell_cmp (IsValueOf (op_domain s.op)) p b (recursion_from_All _ b of_b))
    (λ p. of-find cell_cmp (IsValueOf (op_domain s.op)) p c (recursion_from_All _ c of_c)) q.0 q.1)
