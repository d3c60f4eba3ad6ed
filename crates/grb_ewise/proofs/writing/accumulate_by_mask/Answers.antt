use Rattle.std.proofs.Common.{◌∙◌, ap, sym}
use Rattle.grb_core.specs.Mask.{is_inside}
use Rattle.grb_core.specs.Operator.{value_of_op}
use Rattle.grb_core.specs.Written.{either_value, pointwise, masked}
use Rattle.std.specs.Prelude.{Some}
use Rattle.grb_kernels.proofs.Outputs.{replaced, accumulated_inside}
use Rattle.grb_ewise.proofs.writing.accumulate_by_mask.Goals as goal

pub returns-then-output : goal.returns-then-output
returns-then-output g c =
    let k = g.O.SparseObject.contents in
    let r = g.O.SparseObject.order in
    let d = c.args.output.now.descriptor in
    let w = (k c.args.output.now.old.now).entries in
    let m = (k c.args.mask.now).entries in
    let made = c.in_ok-made.ensures in
    let new = c.in_ok-replaced.ensures in
    record {
      entries = replaced r g.met.O.SparseObject.total g.met.O.SparseObject.same d.structure d.comp m
          d.replace w (k c.in_ok-made.made).entries (k c.in_ok-replaced.replaced).entries c.if-output.true new.entries
          ∙ ap (masked r (is_inside r d.structure d.comp (Some m)) d.replace w) made.entries;
      domain = new.domain ∙ made.domain;
      rows = new.rows ∙ made.rows;
      columns = new.columns ∙ made.columns;
      assembled = new.assembled;
    }

pub returns : goal.returns
returns g c =
    let k = g.O.SparseObject.contents in
    let r = g.O.SparseObject.order in
    let d = c.args.output.now.descriptor in
    let w = (k c.args.output.now.old.now).entries in
    let t = (k c.args.computed).entries in
    let m = (k c.args.mask.now).entries in
    let new = c.in_ok-new.ensures in
    record {
      entries = accumulated_inside r g.met.O.SparseObject.total g.met.O.SparseObject.same d.structure d.comp m
          (value_of_op c.args.op) w t (k c.in_ok-inside.inside).entries (k c.in_ok-new.new).entries
          c.in_ok-inside.ensures.entries new.entries
          ∙ ap (λ b. masked r (is_inside r d.structure d.comp (Some m)) b w (pointwise r (either_value (value_of_op c.args.op)) w t)) (sym c.if-output.false);
      domain = new.domain;
      rows = new.rows;
      columns = new.columns;
      assembled = new.assembled;
    }
