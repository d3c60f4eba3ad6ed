use Rattle.std.proofs.Common.{◌∙◌, sym}
use Rattle.grb_core.specs.Written.{accumulated}
use Rattle.grb_ewise.proofs.RowEntries.{holds}
use Rattle.grb_ewise.proofs.Whole.{accumulated_in_order, is_false, is_true, unmasked, unchanged, emptied}
use Rattle.grb_ewise.proofs.writing.write_unmasked.Goals as goal

pub returns-then-not-descriptor : goal.returns-then-not-descriptor
returns-then-not-descriptor g c =
    let r = g.O.SparseObject.order in
    let w = (g.O.SparseObject.contents c.args.output.now.old.now).entries in
    let t = (g.O.SparseObject.contents c.args.computed).entries in
    let d = c.args.output.now.descriptor in
    let made = c.in_ok-made.ensures in
    record {
      entries = made.entries
          ∙ sym (unmasked r g.met.O.SparseObject.total g.met.O.SparseObject.same d.structure w (accumulated r c.args.output.now.accum w t) d.comp d.replace (is_false d.comp c.if-not-descriptor.true)
          (accumulated_in_order r g.met.O.SparseObject.total g.met.O.SparseObject.same c.args.output.now.accum w t (holds _ c.stores.ensures.ordered)));
      domain = made.domain;
      rows = made.rows;
      columns = made.columns;
      assembled = made.assembled;
    }

pub returns-then-descriptor : goal.returns-then-descriptor
returns-then-descriptor g c =
    let r = g.O.SparseObject.order in
    let w = (g.O.SparseObject.contents c.args.output.now.old.now).entries in
    let t = (g.O.SparseObject.contents c.args.computed).entries in
    let d = c.args.output.now.descriptor in
    let made = c.emptied.ensures in
    record {
      entries = made.entries
          ∙ sym (emptied r g.met.O.SparseObject.total g.met.O.SparseObject.same d.structure w (accumulated r c.args.output.now.accum w t) d.comp d.replace (is_true d.comp c.if-not-descriptor.false) c.if-descriptor.true);
      domain = made.domain;
      rows = made.rows;
      columns = made.columns;
      assembled = made.assembled;
    }

pub returns : goal.returns
returns g c =
    let r = g.O.SparseObject.order in
    let w = (g.O.SparseObject.contents c.args.output.now.old.now).entries in
    let t = (g.O.SparseObject.contents c.args.computed).entries in
    let d = c.args.output.now.descriptor in
    let made = c.in_ok-same.ensures.like in
    record {
      entries = made.entries
          ∙ sym (unchanged r g.met.O.SparseObject.total g.met.O.SparseObject.same d.structure w (accumulated r c.args.output.now.accum w t) d.comp d.replace (is_true d.comp c.if-not-descriptor.false) c.if-descriptor.false
          (holds _ c.copied.ensures.ordered));
      domain = made.domain;
      rows = made.rows;
      columns = made.columns;
      assembled = made.assembled;
    }
