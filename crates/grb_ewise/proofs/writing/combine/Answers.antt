use Rattle.std.proofs.Common.{refl, ◌∙◌}
use Rattle.grb_core.specs.Operator.{value_of_op}
use Rattle.grb_core.specs.Written.{either_value}
use Rattle.grb_ewise.proofs.Alone.{first_alone, second_alone, either_nothing}
use Rattle.grb_ewise.proofs.RowEntries.{holds}
use Rattle.grb_ewise.proofs.writing.combine.Goals as goal

-- the old output stores nothing
pub returns-then-is_empty : goal.returns-then-is_empty
returns-then-is_empty g c =
    let k = g.O.SparseObject.contents in
    record {
      entries = second_alone g.O.SparseObject.order g.met.O.SparseObject.total g.met.O.SparseObject.same (either_value (value_of_op c.args.op)) refl (λ y. refl)
          (k c.args.output.now.old.now).entries (k c.args.computed).entries (c.is_empty.ensures.none c.if-is_empty.true) (holds _ c.stores-2.ensures.ordered);
      domain = c.requires.domain;
      rows = c.requires.computed.rows;
      columns = c.requires.computed.columns;
      assembled = c.requires.computed.second;
    }

-- nothing was computed
pub returns-then-is_empty-2 : goal.returns-then-is_empty-2
returns-then-is_empty-2 g c =
    let k = g.O.SparseObject.contents in
    let same = c.in_ok-same.ensures.like in
    record {
      entries = same.entries
          ∙ first_alone g.O.SparseObject.order g.met.O.SparseObject.total g.met.O.SparseObject.same (either_value (value_of_op c.args.op)) refl (either_nothing (value_of_op c.args.op))
          (k c.args.output.now.old.now).entries (k c.args.computed).entries (c.is_empty-2.ensures.none c.if-is_empty-2.true) (holds _ c.stores.ensures.ordered);
      domain = same.domain;
      rows = same.rows;
      columns = same.columns;
      assembled = same.assembled;
    }
