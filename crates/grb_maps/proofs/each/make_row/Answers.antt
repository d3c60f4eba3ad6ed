use Rattle.std.proofs.Common.{◌∙◌, arith, get_or, ap}
use Rattle.grb_kernels.specs.Typed.{kept, first_entries}
use Rattle.grb_kernels.proofs.Lists.{from-all, from-read}
use Rattle.grb_kernels.proofs.Merges.{nothing_more}
use Rattle.grb_core.specs.Each.{each_made}
use Rattle.grb_maps.proofs.Entry.{each_on}
use Rattle.grb_maps.proofs.each.make_row.Goals as goal

pub entries-preserved : goal.entries-preserved
entries-preserved g c =
    let tv = g.T.Scalar.value in
    record {
      k = omega (arith, c.emit-k.ensures.most);
      so_far = each_on (g.E.Each.gives c.args.each.now)
          (first_entries tv c.entries.k c.entries.columns c.entries.values) (first_entries tv c.emit-k.result c.emit-k.new.columns c.emit-k.new.values)
          (get_or c.args.js.now c.entries.at 0) (tv c.index-vs-at.result) (kept (tv c.make-value.result.0) c.make-value.result.1) _ _
          (from-read tv c.args.js.now c.args.vs.now c.entries.at c.index-vs-at.result c.entries-test.true c.requires.list c.index-vs-at.is)
          c.make-value.ensures c.emit-k.ensures.first
          ∙ c.entries.invariant.so_far;
    }

pub returns-clause-entries : goal.returns-clause-entries
returns-clause-entries g c =
    nothing_more (first_entries g.T.Scalar.value c.entries.k c.entries.columns c.entries.values) _
    (ap (each_made (g.E.Each.gives c.args.each.now)) (from-all g.T.Scalar.value c.args.js.now c.args.vs.now c.entries.at c.entries-test.false))
    ∙ c.entries.invariant.so_far
