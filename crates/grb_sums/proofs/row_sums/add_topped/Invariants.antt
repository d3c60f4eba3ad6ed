use Rattle.std.proofs.Common.{◌≡◌, ◌<◌, ℕ, true, false, length, get_or}
use Rattle.std.specs.Prelude.{Some, IsTrue}
use Rattle.std.specs.List.{AllByRecursion}
use Rattle.std.specs.Ordering.{nat_cmp}
use Rattle.std.specs.FinMap.{find, is_sorted}
use Rattle.grb_core.specs.Value.{IsValueOf}
use Rattle.grb_core.specs.Operator.{value_of_op}
use Rattle.grb_core.specs.Monoid.{monoid_op, identity_of}
use Rattle.grb_core.specs.Written.{either_value, both_values}
use Rattle.grb_kernels.specs.Typed.{entries_of, entries_from, first_entries}
use Rattle.grb_semirings.specs.Open.{marked_at}
use Rattle.grb_sums.specs.Marks.{marks_of, touched, AreMarks, HoldUnmarked, AreTops}
use Rattle.grb_sums.proofs.row_sums.add_topped.Given as goal

-- the sums so far with what is left of the row are all
abbrev pub invariant-row : goal.invariant-row
invariant-row g l =
    let tv = g.T.Scalar.value in
    let add = value_of_op (monoid_op g.M.MonoidOver.monoid) in
    let mul = value_of_op g.O.Operator.op in
    record {
      added : (p : ℕ) → either_value add (marked_at tv (marks_of (length l.sums) l.words) l.sums p) (both_values mul (Some (tv l.x)) (find nat_cmp p (entries_from tv l.i l.places l.values)))
          ≡ either_value add (marked_at tv (marks_of (length l.fn.sums) l.fn.words) l.fn.sums p) (both_values mul (Some (tv l.x)) (find nat_cmp p (entries_of tv l.places l.values)));
      bits : AreMarks (marks_of (length l.sums) l.words) l.words;
      clear : HoldUnmarked tv (identity_of g.M.MonoidOver.monoid) (marks_of (length l.sums) l.words) l.sums;
      tops : AreTops l.words l.tops;
      before : l.before < length l.words → get_or (touched l.words) l.before false ≡ true;
      ordered : IsTrue (is_sorted nat_cmp (entries_from tv l.i l.places l.values));
      of_domain : AllByRecursion (λ e. IsValueOf g.T.Scalar.domain (mul (tv l.x) e.1)) (first_entries tv l.i l.places l.values);
    }
