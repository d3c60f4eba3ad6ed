use Rattle.std.proofs.Common.{◌≡◌, ◌≤◌, ◌++◌}
use Rattle.grb_kernels.specs.Typed.{entries_of, first_entries, entries_from}
use Rattle.grb_core.specs.Each.{each_made}
use Rattle.grb_maps.proofs.each.make_row.Given as goal

abbrev pub invariant-entries : goal.invariant-entries
invariant-entries g l = record {
  k : l.k ≤ l.at;
  so_far : first_entries g.T.Scalar.value l.k l.columns l.values ++ each_made (g.E.Each.gives l.each) (entries_from g.T.Scalar.value l.at l.js l.vs)
      ≡ each_made (g.E.Each.gives l.each) (entries_of g.T.Scalar.value l.js l.vs);
}
