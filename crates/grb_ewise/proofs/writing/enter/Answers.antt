use Rattle.std.proofs.Common.{refl}
use Rattle.grb_ewise.proofs.Inside.{all_enters}
use Rattle.grb_ewise.proofs.RowEntries.{holds}
use Rattle.grb_ewise.proofs.writing.enter.Goals as goal

pub returns-then-output : goal.returns-then-output
returns-then-output g c =
    let k = g.O.SparseObject.contents in
    record {
      entries = all_enters g.O.SparseObject.order g.met.O.SparseObject.total g.met.O.SparseObject.same c.args.output.now.descriptor (k c.args.mask.now).entries (k c.args.computed).entries
          (holds _ c.stores.ensures.ordered) (c.requires.known c.if-output.true);
      domain = refl;
      rows = refl;
      columns = refl;
      assembled = c.requires.alike.first;
    }
