use Rattle.std.proofs.Common.{refl}
use Rattle.std.specs.Option.{option_or}
use Rattle.grb_ewise.proofs.Alone.{first_alone, second_alone, or_nothing}
use Rattle.grb_ewise.proofs.RowEntries.{holds}
use Rattle.grb_ewise.proofs.writing.over.Goals as goal

-- the second stores nothing
pub returns-then-is_empty : goal.returns-then-is_empty
returns-then-is_empty g c =
    let k = g.O.SparseObject.contents in
    record {
      entries = first_alone g.O.SparseObject.order g.met.O.SparseObject.total g.met.O.SparseObject.same option_or refl or_nothing (k c.args.a).entries (k c.args.b).entries
          (c.is_empty.ensures.none c.if-is_empty.true) (holds _ c.stores-domain.ensures.ordered);
      domain = refl;
      rows = refl;
      columns = refl;
      assembled = c.requires.alike.first;
    }

-- the first stores nothing
pub returns-then-is_empty-2 : goal.returns-then-is_empty-2
returns-then-is_empty-2 g c =
    let k = g.O.SparseObject.contents in
    record {
      entries = second_alone g.O.SparseObject.order g.met.O.SparseObject.total g.met.O.SparseObject.same option_or refl (λ y. refl) (k c.args.a).entries (k c.args.b).entries
          (c.is_empty-2.ensures.none c.if-is_empty-2.true) (holds _ c.stores.ensures.ordered);
      domain = c.requires.domain;
      rows = c.requires.alike.rows;
      columns = c.requires.alike.columns;
      assembled = c.requires.alike.second;
    }
