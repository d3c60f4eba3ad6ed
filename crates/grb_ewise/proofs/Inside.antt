-- What a mask lets in of a map that lies inside of it is all of it.
use Rattle.std.proofs.Common.{◌≡◌, Bool, true, false, cond, List, [], ◌∷◌, refl, sym, ap, ◌∙◌}
use Rattle.std.specs.Prelude.{Some, None, not}
use Rattle.std.specs.Bool.{beq}
use Rattle.std.specs.List.{AllByRecursion}
use Rattle.std.specs.declared.cmp.Ordering.{Ordering}
use Rattle.std.specs.Cmp.{IsTotalOrder}
use Rattle.std.specs.FinMap.{is_sorted, find, IsAntisymmetric}
use Rattle.std.proofs.lemmas.List.Elements.{recursion_from_All}
use lib.Dec.{T}
use Rattle.grb_core.specs.declared.value.Value.{Value}
use Rattle.grb_core.specs.Entries.{restricted}
use Rattle.grb_core.specs.Mask.{selects, is_inside}
use Rattle.grb_core.specs.Written.{pointwise}
use Rattle.grb_core.proofs.Maps.{same_entries_at}
use Rattle.grb_core.proofs.Edits.{find-restricted}
use Rattle.grb_core.proofs.Written.{find-pointwise, is_sorted-pointwise}
use Rattle.grb_core.specs.declared.descriptor.Descriptor.{Descriptor}
use Rattle.grb_kernels.specs.Masked.{by_mask, by_mask-none}
use Rattle.grb_ewise.specs.Premises.{LieInside}

-- a place is inside where what the mask selects is what is wanted
inside-wanted : (comp b : Bool) → beq b (not comp) ≡ cond comp (not b) b
inside-wanted true true = refl
inside-wanted true false = refl
inside-wanted false true = refl
inside-wanted false false = refl

module _ {K : Type 0} where
  pub all_pass : (test : K → Bool) (m : List (K × Value)) → AllByRecursion (λ e. test e.0 ≡ true) m → restricted test m ≡ m
  all_pass test [] h = refl
  all_pass test (e ∷ m) h = ap (λ b. cond b (e ∷ restricted test m) (restricted test m)) h.0 ∙ ap (λ (r : List (K × Value)). e ∷ r) (all_pass test m h.1)

  module _ (R : K → K → Ordering) (o : IsTotalOrder R) (same : IsAntisymmetric R) (d : Descriptor) (mask : List (K × Value)) where
    pub all_enters : (m : List (K × Value)) → T (is_sorted R m) → LieInside R (Some mask) d m → m ≡ pointwise R (by_mask d.structure (not d.comp)) m mask
    all_enters m s h =
        sym (same_entries_at R o same _ _ (is_sorted-pointwise o same (by_mask d.structure (not d.comp)) m mask) s
        (λ q.
        find-pointwise o same (by_mask d.structure (not d.comp)) (by_mask-none d.structure (not d.comp) None) q m mask
        ∙ ap (λ b. cond b (find R q m) None) (inside-wanted d.comp (selects d.structure (find R q mask)))
        ∙ sym (find-restricted R o same (is_inside R d.structure d.comp (Some mask)) q m)
        ∙ ap (find R q) (all_pass (is_inside R d.structure d.comp (Some mask)) m (recursion_from_All _ m h))))
