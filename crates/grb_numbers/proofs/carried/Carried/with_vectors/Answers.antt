use Rattle.std.proofs.Common.{◌≡◌, ◌<◌, ℕ, length, ◌++◌, ◌∷◌, [], map, min, get_or, sym, ap, subst, ◌∙◌, arith, take_all}
use Rattle.grb_call.specs.declared.ids.VectorId.{VectorId}
use Rattle.grb_numbers.specs.Laws.{vector_numbers}
use Rattle.grb_numbers.specs.Numbers.{AreCarried, no_number, outer_number}
use Rattle.grb_numbers.proofs.Numbering.{chosen-small, count-numbers, made-small, next_are_carried, number-at, numbers-more}
use Rattle.grb_numbers.proofs.carried.Carried.with_vectors.Goals as goal

pub vectors-preserved : goal.vectors-preserved
vectors-preserved c =
    let n = c.args.self.now in let xs = c.args.vectors.now in let k = c.vectors.v-index in
    let none : VectorId = record { 0 = 0 } in
    let number : VectorId → ℕ = λ v. v.0 in
    let are : AreCarried n = subst AreCarried c.self.view_is c.self.invariant in
    let lt : k < length (vector_numbers xs) = omega (arith, count-numbers number (outer_number n) xs, c.vectors-test.true) in
    let at = number-at number (outer_number n) xs k none c.vectors-test.true in
    let small = chosen-small n are (vector_numbers xs) c.args.made c.requires.chosen c.requires.numbered k lt in
    let there : c.outer.result ≡ outer_number n (number (get_or xs k none)) =
    c.outer.ensures ∙ subst (λ (m : ℕ). min (outer_number n m) no_number ≡ outer_number n m) at small in
    c.in_ok-push.ensures.items ∙ (λ i. c.vectors.invariant i ++ there i ∷ []) ∙ sym (numbers-more number (outer_number n) xs k none c.vectors-test.true)

pub invariant_of-result : goal.invariant_of-result
invariant_of-result c =
    let n = c.args.self.now in let xs = c.args.vectors.now in
    let are : AreCarried n = subst AreCarried c.self.view_is c.self.invariant in
    let carried = c.vectors.invariant ∙ ap (λ ys. map (outer_number n) (vector_numbers ys)) (take_all c.vectors.v-index xs c.vectors-test.false) in
    let first = c.outer-first.ensures ∙ made-small n c.args.made c.requires.numbered in
    let same : record { carried = c.vectors.carried.items; first = c.outer-first.result } ≡ record { carried = map (outer_number n) (vector_numbers xs); first = outer_number n c.args.made } =
    λ i. record { carried = carried i; first = first i } in
    subst AreCarried (sym same) (next_are_carried n are (vector_numbers xs) c.args.made c.requires.chosen)
