-- Values by a function: the same places, and what is stored there.
use Rattle.std.proofs.Common.{◌≡◌, ℕ, ◌/◌, ◌%◌, List, [], ◌∷◌, length, refl, sym, ap, subst, ◌∙◌}
use Rattle.std.specs.Prelude.{IsTrue, map, Some}
use Rattle.std.specs.declared.cmp.Ordering.{Ordering}
use Rattle.std.specs.FinMap.{is_sorted}
use Rattle.std.specs.List.{AllByRecursion}
use Rattle.grb_core.specs.declared.domain.Domain.{Domain}
use Rattle.grb_core.specs.declared.value.Value.{Value}
use Rattle.grb_core.specs.Value.{IsValueOf}
use Rattle.grb_core.specs.Entries.{VectorEntries, MatrixEntries, values_of}
use Rattle.std.proofs.lemmas.List.{length-map}
use Rattle.grb_kernels.specs.Typed.{entries_of}
use Rattle.grb_kernels.proofs.Lists.{values_of-entries}
use Rattle.grb_lists.specs.Cells.{decoded}
use Rattle.grb_lists.proofs.FlatLists.{keys-paired}
use Rattle.grb_ewise.proofs.Lent.{entries-paired, lent}
use Rattle.grb_core.proofs.Each.{holds, made_true, map-each, sorted-each}
use Rattle.grb_maps.specs.Changed.{with_values}

-- by two functions that agree on the values of a domain
pub same_on : {K : Type 0} (d : Domain) (g h : Value → Value) → ((v : Value) → IsValueOf d v → g v ≡ h v) → (m : List (K × Value)) → AllByRecursion (λ e. IsValueOf d e.1) m
    → with_values g m ≡ with_values h m
same_on d g h same [] v = refl
same_on {K} d g h same (e ∷ m) v =
    ap (λ (w : Value). (e.0, w) ∷ with_values g m) (same e.1 v.0) ∙ ap (λ (s : List (K × Value)). (e.0, h e.1) ∷ s) (same_on d g h same m v.1)

module _ (g : Value → Value) where
  pub keys_of-changed : (m : VectorEntries) → map (λ (e : ℕ × Value). e.0) (with_values g m) ≡ map (λ (e : ℕ × Value). e.0) m
  keys_of-changed [] = refl
  keys_of-changed (e ∷ m) = ap (λ (s : List ℕ). e.0 ∷ s) (keys_of-changed m)

  pub values_of-changed : (m : VectorEntries) → values_of (with_values g m) ≡ map g (values_of m)
  values_of-changed [] = refl
  values_of-changed (e ∷ m) = ap (λ (s : List Value). g e.1 ∷ s) (values_of-changed m)

  pub decoded-changed : (m : VectorEntries) → decoded (with_values g m) ≡ with_values g (decoded m)
  decoded-changed [] = refl
  decoded-changed (e ∷ m) = ap (λ (s : MatrixEntries). ((e.0 / 4294967296, e.0 % 4294967296), g e.1) ∷ s) (decoded-changed m)

-- it is in order where the map is
pub sorted-changed : {K : Type 0} (R : K → K → Ordering) (g : Value → Value) (m : List (K × Value)) → IsTrue (is_sorted R m) → IsTrue (is_sorted R (with_values g m))
sorted-changed {K} R g m h =
    subst (λ (s : List (K × Value)). IsTrue (is_sorted R s)) (sym (map-each g m)) (made_true _ (sorted-each R (λ k v. Some (g v)) m (holds _ h)))

-- of the same indices
pub entries-changed : {V : Type 0} (value : V → Value) (g : Value → Value) (ks : List ℕ) (vs ws : List V) → length ks ≡ length vs → map value ws ≡ map g (map value vs)
    → entries_of value ks ws ≡ with_values g (entries_of value ks vs)
entries-changed value g ks vs ws same is =
    let m = entries_of value ks vs in
    lent value ks ws (with_values g m) (sym (keys-paired ks (map value vs) (length-map vs value ∙ sym same)) ∙ sym (ap (map (λ (e : ℕ × Value). e.0)) (entries-paired value ks vs)) ∙ sym (keys_of-changed g m))
    (is ∙ ap (map g) (sym (values_of-entries value ks vs same)) ∙ sym (values_of-changed g m))
