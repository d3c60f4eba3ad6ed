use Rattle.std.proofs.Common.{◌<◌, ◌++◌, sym, ap, subst, ◌∙◌}
use Rattle.std.specs.Prelude.{All}
use Rattle.grb_core.specs.Entries.{MatrixEntries}
use Rattle.grb_core.proofs.ResultLaws.{passed}
use Rattle.grb_mxm.specs.Rows.{rows_between}
use Rattle.grb_mxm.proofs.Blocked.{rows_below, rows_joined}
use Rattle.grb_jobs.specs.Blocks.{made_by}
use Rattle.grb_jobs.proofs.joined.add_own.Goals as goal

pub append_own-requires-clause-below : goal.append_own-requires-clause-below
append_own-requires-clause-below g c =
    subst (λ (m : MatrixEntries). All (λ e. e.0.0 < c.args.from) m) (sym c.requires.so_far.entries) (rows_below 0 c.args.from (made_by c.args.inputs.now))

pub returns : goal.returns
returns g c =
    let f = c.args.from in
    let u = c.args.upto in
    let x = made_by c.args.inputs.now in
    record {
      within = c.requires.within;
      lists = c.in_ok-all.ensures.lists;
      entries = c.in_ok-all.ensures.entries ∙ ap (λ (m : MatrixEntries). m ++ rows_between f u x) c.requires.so_far.entries ∙ rows_joined f u x c.requires.rises (passed _ c.dims-nrows.ensures.whole.ordered);
    }
