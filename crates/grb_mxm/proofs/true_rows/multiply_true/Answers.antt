use Rattle.std.proofs.Common.{◌≡◌, ◌<◌, List, refl, subst, sym, ◌∙◌, arith}
use Rattle.std.specs.Prelude.{All}
use Rattle.std.specs.List.{AllByRecursion}
use Rattle.std.proofs.lemmas.List.Elements.{All-from_recursion}
use Rattle.grb_core.specs.declared.value.Value.{Value}
use Rattle.grb_core.specs.Entries.{Cell, MatrixEntries}
use Rattle.grb_lists.specs.Cells.{decoded}
use Rattle.grb_semirings.proofs.Lent.{values-decoded}
use Rattle.grb_mxm.proofs.TrueRows.{true_entries, true_values, truth}
use Rattle.grb_mxm.proofs.true_rows.multiply_true.Goals as goal

pub invariant_of-rows : goal.invariant_of-rows
invariant_of-rows g c =
    let a = c.args.a.now.lists.now.entries in
    let b = c.args.b.now.lists.now.entries in
    record {
      a_true = All-from_recursion (λ (e : Cell × Value). e.1 ≡ truth) (decoded a)
          (true_entries (decoded a) (subst (λ (vs : List Value). AllByRecursion (λ v. v ≡ truth) vs) (c.of_lists.ensures ∙ sym (values-decoded a)) (true_values c.of_lists.result.now (c.if-not-are_true.ensures refl))));
      b_true = All-from_recursion (λ (e : Cell × Value). e.1 ≡ truth) (decoded b)
          (true_entries (decoded b) (subst (λ (vs : List Value). AllByRecursion (λ v. v ≡ truth) vs) (c.args.b.now.valued ∙ sym (values-decoded b)) (true_values c.args.b.now.values.now (c.if-not-are_true-2.ensures refl))));
      times = c.if-not-is_true_of_true.ensures.times refl;
      plus = c.if-not-is_true_of_true.ensures.plus refl;
    }

pub invariant_of-part : goal.invariant_of-part
invariant_of-part g c = record {
  rises = c.requires;
  lists = c.no_rows.ensures.lists c.args.from;
  below = subst (λ (m : MatrixEntries). All (λ e. e.0.0 < c.args.from) m) (sym c.no_rows.ensures.entries) (λ k d l. absurd (omega (arith, l)));
}
