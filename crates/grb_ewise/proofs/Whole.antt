-- Whole vectors, and what is written where there is no mask.
use Rattle.std.proofs.Common.{◌≡◌, ℕ, Bool, true, false, List, [], refl, sym, ap, subst, ◌∙◌}
use Rattle.std.specs.Prelude.{not, Option, Some, None}
use Rattle.std.specs.declared.cmp.Ordering.{Ordering}
use Rattle.std.specs.Cmp.{IsTotalOrder}
use Rattle.std.specs.FinMap.{is_sorted, IsAntisymmetric}
use lib.Dec.{T}
use Rattle.grb_core.specs.declared.domain.Domain.{Domain}
use Rattle.grb_core.specs.declared.operator.BinaryOp.{BinaryOp}
use Rattle.grb_core.specs.declared.value.Value.{Value}
use Rattle.grb_core.specs.Operator.{value_of_op}
use Rattle.grb_core.specs.Entries.{VectorEntries}
use Rattle.grb_core.specs.Contents.{Vector, IsVector}
use Rattle.grb_core.specs.Mask.{is_inside}
use Rattle.grb_core.specs.Written.{either_value, accumulated, masked}
use Rattle.grb_core.proofs.Maps.{same_entries_at}
use Rattle.grb_core.proofs.Written.{find-masked, is_sorted-masked, is_sorted-pointwise}

abbrev pub vector_of : Domain → ℕ → VectorEntries → Vector
vector_of d size m = record { domain = d; size = size; entries = m }

pub whole-same : (d : Domain) (size : ℕ) (m n : VectorEntries) → m ≡ n → IsVector (vector_of d size n) → IsVector (vector_of d size m)
whole-same d size m n e h = subst (λ (k : VectorEntries). IsVector (vector_of d size k)) (sym e) h

pub same_vector : (d e : Domain) (size more : ℕ) (m n : VectorEntries) → d ≡ e → size ≡ more → m ≡ n → vector_of d size m ≡ vector_of e more n
same_vector d e size more m n p s q = λ i. record { domain = p i; size = s i; entries = q i }

module _ {K : Type 0} (R : K → K → Ordering) (o : IsTotalOrder R) (same : IsAntisymmetric R) (structure : Bool) (c z : List (K × Value)) where
  -- without a mask the output is what was made
  pub unmasked : (comp replace : Bool) → comp ≡ false → T (is_sorted R z) → masked R (is_inside R structure comp None) replace c z ≡ z
  unmasked comp replace e s =
      ap (λ b. masked R (is_inside R structure b None) replace c z) e
      ∙ same_entries_at R o same _ _ (is_sorted-masked o same (is_inside R structure false None) replace c z) s (λ q. find-masked o same (is_inside R structure false None) replace q c z)

  -- with its complement nothing is inside: the output stays
  pub unchanged : (comp replace : Bool) → comp ≡ true → replace ≡ false → T (is_sorted R c) → masked R (is_inside R structure comp None) replace c z ≡ c
  unchanged comp replace e r s =
      ap (λ b. masked R (is_inside R structure b None) replace c z) e
      ∙ ap (λ b. masked R (is_inside R structure true None) b c z) r
      ∙ same_entries_at R o same _ _ (is_sorted-masked o same (is_inside R structure true None) false c z) s (λ q. find-masked o same (is_inside R structure true None) false q c z)

  -- or with replace it is emptied
  pub emptied : (comp replace : Bool) → comp ≡ true → replace ≡ true → masked R (is_inside R structure comp None) replace c z ≡ []
  emptied comp replace e r =
      ap (λ b. masked R (is_inside R structure b None) replace c z) e
      ∙ ap (λ b. masked R (is_inside R structure true None) b c z) r
      ∙ same_entries_at R o same _ _ (is_sorted-masked o same (is_inside R structure true None) true c z) tt (λ q. find-masked o same (is_inside R structure true None) true q c z)

-- what an accumulator makes is in order
pub accumulated_in_order : {K : Type 0} (R : K → K → Ordering) (o : IsTotalOrder R) (same : IsAntisymmetric R) (accum : Option BinaryOp) (c t : List (K × Value))
    → T (is_sorted R t) → T (is_sorted R (accumulated R accum c t))
accumulated_in_order R o same None c t h = h
accumulated_in_order R o same (Some op) c t h = is_sorted-pointwise o same (either_value (value_of_op op)) c t

pub is_false : (b : Bool) → not b ≡ true → b ≡ false
is_false false e = refl
is_false true e = cc

pub is_true : (b : Bool) → not b ≡ false → b ≡ true
is_true true e = refl
is_true false e = cc
