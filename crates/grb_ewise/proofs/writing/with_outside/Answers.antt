use Rattle.std.proofs.Common.{[], refl, ap}
use Rattle.std.specs.Prelude.{if◌then◌else◌}
use Rattle.std.specs.Option.{option_or}
use Rattle.grb_core.specs.Written.{pointwise}
use Rattle.grb_kernels.specs.Masked.{by_mask}
use Rattle.grb_ewise.proofs.Alone.{first_alone, or_nothing}
use Rattle.grb_ewise.proofs.RowEntries.{holds}
use Rattle.grb_ewise.proofs.writing.with_outside.Goals as goal

-- with replace nothing is outside
pub returns-then-descriptor : goal.returns-then-descriptor
returns-then-descriptor g c =
    let k = g.O.SparseObject.contents in
    let r = g.O.SparseObject.order in
    let d = c.args.output.now.descriptor in
    let w = (k c.args.output.now.old.now).entries in
    let m = (k c.args.mask.now).entries in
    record {
      entries = first_alone r g.met.O.SparseObject.total g.met.O.SparseObject.same option_or refl or_nothing (k c.args.inside).entries
          (if d.replace then [] else pointwise r (by_mask d.structure d.comp) w m)
          (ap (λ b. if b then [] else pointwise r (by_mask d.structure d.comp) w m) c.if-descriptor.true) (holds _ c.stores.ensures.ordered);
      domain = c.requires.domain;
      rows = c.requires.inside.rows;
      columns = c.requires.inside.columns;
      assembled = c.requires.inside.second;
    }
