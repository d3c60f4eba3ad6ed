use Rattle.std.proofs.Common.{◌≡◌, ◌≤◌, ◌++◌, false, get_or}
use Rattle.grb_core.specs.Entries.{restricted}
use Rattle.grb_kernels.specs.Typed.{entries_of, first_entries, entries_from}
use Rattle.grb_ewise.proofs.marks.keep_marked.Given as goal

abbrev pub invariant-entries : goal.invariant-entries
invariant-entries g l = record {
  upto : l.k ≤ l.i;
  so_far : first_entries g.T.Scalar.value l.k l.columns l.values ++ restricted (λ j. get_or l.marks j false) (entries_from g.T.Scalar.value l.i l.x.indices.now l.x.values.now)
      ≡ restricted (λ j. get_or l.marks j false) (entries_of g.T.Scalar.value l.x.indices.now l.x.values.now);
}
