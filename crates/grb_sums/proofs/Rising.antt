-- The indices of a map in order rise.
use Rattle.std.proofs.Common.{◌≡◌, ℕ, List, [], ◌∷◌, sym, subst, arith}
use Rattle.std.specs.Prelude.{map, IsTrue}
use Rattle.std.specs.Ordering.{nat_cmp}
use Rattle.std.specs.FinMap.{is_sorted}
use Rattle.std.proofs.lemmas.List.{get_or-map, length-map}
use lib.Dec.{T}
use Rattle.grb_core.specs.declared.value.Value.{Value}
use Rattle.grb_core.specs.Entries.{VectorEntries}
use Rattle.grb_lists.proofs.FlatLists.{rises}
use Rattle.grb_ewise.specs.Ranks.{Rise}

indices_rise_of : (m : VectorEntries) (d : ℕ × Value) → T (is_sorted nat_cmp m) → Rise (map (λ e. e.0) m)
indices_rise_of m d h i j l n =
    let same = length-map m (λ (e : ℕ × Value). e.0) in
    let a = get_or-map (λ (e : ℕ × Value). e.0) m i d 0 (omega (arith, same, l, n)) in
    let b = get_or-map (λ (e : ℕ × Value). e.0) m j d 0 (omega (arith, same, n)) in
    let above = rises m d h i j l (omega (arith, same, n)) in
    omega (arith, a, b, above)

pub indices_rise : (m : VectorEntries) (places : List ℕ) → IsTrue (is_sorted nat_cmp m) → places ≡ map (λ e. e.0) m → Rise places
indices_rise [] places h same = subst Rise (sym same) (λ i j l n. absurd (omega arith))
indices_rise (e ∷ m) places h same = subst Rise (sym same) (indices_rise_of (e ∷ m) e (subst T (sym h) tt))
