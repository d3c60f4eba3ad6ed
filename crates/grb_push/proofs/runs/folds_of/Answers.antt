use Prim.{search}
use Rattle.std.proofs.Common.{rules, arith, ◌≡◌, sym, subst, ◌∙◌}
use Rattle.std.specs.Prelude.{IsTrue}
use Rattle.std.proofs.lemmas.Grind.{common_steps}
use Rattle.std.specs.Ordering.{nat_cmp}
use Rattle.std.specs.FinMap.{is_sorted}
use Rattle.std.proofs.lemmas.List.Sorted.{All-permutation}
use Rattle.grb_core.specs.Value.{IsValueOf}
use Rattle.grb_core.specs.Entries.{VectorEntries}
use Rattle.grb_kernels.specs.Typed.{entries_of, first_entries}
use Rattle.grb_push.proofs.RunFolds.{built-moved}
use Rattle.grb_push.proofs.runs.folds_of.Goals as goal

-- an order does not change what holds of each
pub fold_runs-made-requires-clause-of_domain : goal.fold_runs-made-requires-clause-of_domain
fold_runs-made-requires-clause-of_domain g c =
    All-permutation (λ p. IsValueOf g.T.Scalar.domain (g.T.Scalar.value p.1)) c.args.products.now c.put_in_order.new.products c.put_in_order.ensures.permutation c.requires.of_domain

pub invariant_of-result : goal.invariant_of-result
invariant_of-result g c =
    let tv = g.T.Scalar.value in
    let front = first_entries tv c.fold_runs-made.result c.fold_runs-made.new.indices c.fold_runs-made.new.values in
    let made : entries_of tv c.shrink_to_fit.new.self.items c.shrink_to_fit-2.new.self.items ≡ front = grind (arith, common_steps) in
    record {
      same = search rules;
      rising = subst (λ (m : VectorEntries). IsTrue (is_sorted nat_cmp m)) (sym made) c.fold_runs-made.ensures.rising;
    }

pub returns : goal.returns
returns g c =
    let tv = g.T.Scalar.value in
    let m = g.M.MonoidOver.monoid in
    let front = first_entries tv c.fold_runs-made.result c.fold_runs-made.new.indices c.fold_runs-made.new.values in
    let made : entries_of tv c.shrink_to_fit.new.self.items c.shrink_to_fit-2.new.self.items ≡ front = grind (arith, common_steps) in
    made
    ∙ c.fold_runs-made.ensures.entries
    ∙ built-moved tv m g.T.Scalar.domain g.met.M.MonoidOver.same_domain c.args.products.now c.requires.of_domain c.put_in_order.new.products c.put_in_order.ensures.permutation
