use Rattle.std.proofs.Common.{◌∙◌, List, [], ap, sym}
use Rattle.std.specs.Prelude.{Option, Some, if◌then◌else◌}
use Rattle.std.specs.Option.{option_or}
use Rattle.grb_core.specs.declared.operator.BinaryOp.{BinaryOp}
use Rattle.grb_core.specs.declared.value.Value.{Value}
use Rattle.grb_core.specs.Mask.{is_inside}
use Rattle.grb_core.specs.Written.{pointwise, written}
use Rattle.grb_kernels.specs.Masked.{by_mask}
use Rattle.grb_kernels.proofs.Outputs.{masked_parts}
use Rattle.grb_ewise.proofs.writing.write_by_mask.Goals as goal

pub returns-in_ok-new-in-None : goal.returns-in_ok-new-in-None
returns-in_ok-new-in-None g c =
    let k = g.O.SparseObject.contents in
    let r = g.O.SparseObject.order in
    let d = c.args.output.now.descriptor in
    let w = (k c.args.output.now.old.now).entries in
    let t = (k c.args.computed).entries in
    let m = (k c.args.mask.now).entries in
    let new = c.in_ok-new-in-None.ensures in
    record {
      entries = new.entries
          ∙ ap (λ (x : List (g.O.SparseObject.Place × Value)). pointwise r option_or x (if d.replace then [] else pointwise r (by_mask d.structure d.comp) w m)) c.in_ok-inside-in-None.ensures.entries
          ∙ sym (masked_parts r g.met.O.SparseObject.total g.met.O.SparseObject.same d.structure d.comp m d.replace w t)
          ∙ ap (λ (a : Option BinaryOp). written r (is_inside r d.structure d.comp (Some m)) d.replace a w t) (sym c.in-None.is);
      domain = new.domain;
      rows = new.rows;
      columns = new.columns;
      assembled = new.assembled;
    }
