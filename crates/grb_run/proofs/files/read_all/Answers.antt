use Rattle.std.proofs.Common.{arith, sym}
use Rattle.grb_run.proofs.FileBytes.{whole_below_limit}
use Rattle.grb_run.proofs.files.read_all.Goals as goal

pub returns-clause-given : goal.returns-clause-given
returns-clause-given g c = record {
  within = omega arith;
  as_told = whole_below_limit c.read_to_end.result (g.F.Read.remaining c.args.reader) c.args.limit c.new-bytes.result.items c.read_to_end.new.buf.items
      (sym c.in_ok-map_err.ensures.variant) c.new-bytes.ensures.items
      (rw (c.take.ensures.limit, c.take.ensures.inner) at c.read_to_end.ensures.bytes) (omega arith);
}
