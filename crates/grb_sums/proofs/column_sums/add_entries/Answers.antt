use Rattle.std.proofs.Common.{◌≡◌, ◌+◌, ◌++◌, ◌∷◌, [], ℕ, length, get_or, set, List, arith, ap, sym, subst, ◌∙◌}
use Rattle.std.proofs.lemmas.List.{length-set}
use Rattle.grb_core.specs.Value.{IsValueOf}
use Rattle.grb_core.specs.Operator.{value_of_op}
use Rattle.grb_core.specs.Monoid.{monoid_op, monoid_domain}
use Rattle.grb_core.specs.Entries.{VectorEntries}
use Rattle.grb_kernels.specs.Typed.{first_entries}
use Rattle.grb_kernels.proofs.Lists.{first-read, first-all}
use Rattle.grb_sums.specs.Bits.{AreMarked}
use Rattle.grb_sums.specs.ColumnSums.{AreSums, with_values}
use Rattle.grb_sums.proofs.SumsByColumn.{added_more, marked_more, stands, sums_more, sums_passed}
use Rattle.grb_sums.proofs.column_sums.add_entries.Goals as goal
use Rattle.grb_sums.proofs.column_sums.add_entries.Goals.{in-Some, in_default}

pub entries-preserved : goal.entries-preserved
entries-preserved g c =
    let tv = g.T.Scalar.value in
    let m = g.M.MonoidOver.monoid in
    let f = g.R.Term.gives c.args.term.now in
    let names = g.C.Columns.names c.args.columns.now in
    let cs = c.args.indices.now in
    let vs = c.args.values.now in
    let i = c.entries.i in
    let j = get_or cs i 0 in
    let first = first_entries tv i cs vs in
    let next = first_entries tv (i + 1) cs vs in
    let was = c.entries.invariant in
    let ws = c.entries.words in
    let ss = c.entries.sums in
    elim c.match-place.branch [
      | in-Some w ↦
          let at = w.in-Some.at in
          let x = w.index-values-i.result in
          let old = w.index-sums-at.result in
          let new = w.add.result in
          let marked = w.mark.new.words in
          let inside = w.in-Some.ensures.found.0 in
          let one : next ≡ first ++ (j, tv x) ∷ [] = first-read tv cs vs i x c.entries-test.true c.requires.same w.index-values-i.is in
          let of : IsValueOf (monoid_domain m) (f (tv x)) =
          subst (λ d. IsValueOf d (f (tv x))) (sym g.met.M.MonoidOver.same_domain) (subst (IsValueOf g.T.Scalar.domain) w.of-made.ensures w.read-value.ensures.of_domain) in
          let made : tv new ≡ value_of_op (monoid_op m) (tv old) (f (tv x)) =
          w.add.ensures ∙ ap (value_of_op (monoid_op m) (tv old)) (ap tv w.read-value.ensures.same ∙ w.of-made.ensures) in
          record {
            marked = subst (λ (us : List ℕ). AreMarked (length names) us c.match-place.sums) (sym w.words-is)
                (subst (λ (ts : List g.row.T.Denot). AreMarked (length names) marked ts) (sym w.sums-is)
                (marked_more (length names) ws marked ss (set ss at new) at was.marked (omega arith) (length-set ss at new) inside w.mark.ensures.others));
            added = λ added are.
                subst (λ (us : List ℕ). AreSums tv m names (added ++ with_values f next) us c.match-place.sums) (sym w.words-is)
                (subst (λ (ts : List g.row.T.Denot). AreSums tv m names (added ++ with_values f next) marked ts) (sym w.sums-is)
                (subst (λ (all : VectorEntries). AreSums tv m names all marked (set ss at new)) (added_more f added first next j (tv x) one)
                (sums_more tv m names (added ++ with_values f first) ws ss j (f (tv x)) (was.added added are) (g.met.C.Columns.rising c.args.columns.now) marked at old new
                was.marked.long w.mark.ensures.here w.mark.ensures.others inside w.in-Some.ensures.found.1 w.index-sums-at.is of made)));
          }
      | in_default w ↦
          let here = stands vs i (omega (arith, c.entries-test.true, c.requires.same)) in
          let one : next ≡ first ++ (j, tv here.0) ∷ [] = first-read tv cs vs i here.0 c.entries-test.true c.requires.same here.1 in
          record {
            marked = subst (λ (us : List ℕ). AreMarked (length names) us c.match-place.sums) (sym w.words-is)
                (subst (λ (ts : List g.row.T.Denot). AreMarked (length names) ws ts) (sym w.sums-is) was.marked);
            added = λ added are.
                subst (λ (us : List ℕ). AreSums tv m names (added ++ with_values f next) us c.match-place.sums) (sym w.words-is)
                (subst (λ (ts : List g.row.T.Denot). AreSums tv m names (added ++ with_values f next) ws ts) (sym w.sums-is)
                (subst (λ (all : VectorEntries). AreSums tv m names all ws ss) (added_more f added first next j (tv here.0) one)
                (sums_passed tv m names (added ++ with_values f first) ws ss j (f (tv here.0)) (was.added added are) w.in_default.ensures.absent)));
          }
    ]

pub returns-clause-added : goal.returns-clause-added
returns-clause-added g c added are =
    let tv = g.T.Scalar.value in
    let cs = c.args.indices.now in
    let vs = c.args.values.now in
    subst (λ (m : VectorEntries). AreSums tv g.M.MonoidOver.monoid (g.C.Columns.names c.args.columns.now) (added ++ with_values (g.R.Term.gives c.args.term.now) m) c.entries.words c.entries.sums)
    (first-all tv cs vs c.entries.i c.entries-test.false c.requires.same) (c.entries.invariant.added added are)
