use Rattle.std.proofs.Common.{◌∙◌}
use Rattle.std.specs.Prelude.{None}
use Rattle.grb_kernels.specs.Masked.{by_mask, by_mask-none}
use Rattle.grb_ewise.proofs.Alone.{nothing_made}
use Rattle.grb_ewise.proofs.writing.select.Goals as goal

pub returns-then-is_empty : goal.returns-then-is_empty
returns-then-is_empty g c =
    let k = g.O.SparseObject.contents in
    let rule = c.args.rule in
    let made = c.emptied.ensures in
    record {
      entries = made.entries
          ∙ nothing_made g.O.SparseObject.order g.met.O.SparseObject.total g.met.O.SparseObject.same (by_mask rule.structure rule.wanted) (by_mask-none rule.structure rule.wanted None) (by_mask-none rule.structure rule.wanted)
          (k c.args.a.now).entries (k c.args.mask.now).entries (c.is_empty.ensures.none c.if-is_empty.true);
      domain = made.domain;
      rows = made.rows;
      columns = made.columns;
      assembled = made.assembled;
    }
