use Rattle.std.proofs.Common.{sym, ◌∙◌, arith}
use Rattle.grb_jobs.specs.Blocks.{made_by}
use Rattle.grb_mxm.proofs.Blocked.{no_rows}
use Rattle.grb_jobs.proofs.joined.nothing_of.Goals as goal

pub returns : goal.returns
returns g c = record {
  within = omega arith;
  lists = c.no_rows.ensures.lists 0;
  entries = c.no_rows.ensures.entries ∙ sym (no_rows (made_by c.args.inputs.now));
}
