-- A pointwise map of two maps, one of which stores nothing.
use Rattle.std.proofs.Common.{◌≡◌, List, [], refl, sym, ap, ◌∙◌}
use Rattle.std.specs.Prelude.{Option, Some, None}
use Rattle.std.specs.Option.{option_or}
use Rattle.std.specs.declared.cmp.Ordering.{Ordering}
use Rattle.std.specs.Cmp.{IsTotalOrder}
use Rattle.std.specs.FinMap.{is_sorted, find, IsAntisymmetric}
use lib.Dec.{T}
use Rattle.grb_core.specs.declared.value.Value.{Value}
use Rattle.grb_core.specs.Written.{either_value, pointwise}
use Rattle.grb_core.proofs.Maps.{same_entries_at}
use Rattle.grb_core.proofs.Written.{find-pointwise, is_sorted-pointwise}

-- a value alone stays
pub or_nothing : (x : Option Value) → option_or x None ≡ x
or_nothing None = refl
or_nothing (Some x) = refl

pub either_nothing : (f : Value → Value → Value) (x : Option Value) → either_value f x None ≡ x
either_nothing f None = refl
either_nothing f (Some x) = refl

module _ {K : Type 0} (R : K → K → Ordering) (o : IsTotalOrder R) (same : IsAntisymmetric R) (f : Option Value → Option Value → Option Value) (none : f None None ≡ None) where
  -- it is the first, where the second stores nothing
  pub first_alone : ((x : Option Value) → f x None ≡ x) → (m n : List (K × Value)) → n ≡ [] → T (is_sorted R m) → m ≡ pointwise R f m n
  first_alone stays m n e s =
      sym (ap (pointwise R f m) e
      ∙ same_entries_at R o same (pointwise R f m []) m (is_sorted-pointwise o same f m []) s (λ q. find-pointwise o same f none q m [] ∙ stays (find R q m)))

  -- it is the second, where the first stores nothing
  pub second_alone : ((y : Option Value) → f None y ≡ y) → (m n : List (K × Value)) → m ≡ [] → T (is_sorted R n) → n ≡ pointwise R f m n
  second_alone stays m n e s =
      sym (ap (λ x. pointwise R f x n) e
      ∙ same_entries_at R o same (pointwise R f [] n) n (is_sorted-pointwise o same f [] n) s (λ q. find-pointwise o same f none q [] n ∙ stays (find R q n)))

  -- it has nothing, where the first stores nothing and nothing is made of the second alone
  pub nothing_made : ((y : Option Value) → f None y ≡ None) → (m n : List (K × Value)) → m ≡ [] → [] ≡ pointwise R f m n
  nothing_made goes m n e =
      sym (ap (λ x. pointwise R f x n) e
      ∙ same_entries_at R o same (pointwise R f [] n) [] (is_sorted-pointwise o same f [] n) tt (λ q. find-pointwise o same f none q [] n ∙ goes (find R q n)))
