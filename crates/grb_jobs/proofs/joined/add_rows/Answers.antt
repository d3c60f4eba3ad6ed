use Rattle.std.proofs.Common.{◌<◌, ◌++◌, sym, ap, subst, ◌∙◌}
use Rattle.std.specs.Prelude.{All}
use Rattle.grb_core.specs.Contents.{Matrix}
use Rattle.grb_core.specs.Entries.{MatrixEntries}
use Rattle.grb_core.proofs.ResultLaws.{passed}
use Rattle.grb_lists.specs.Cells.{decoded}
use Rattle.grb_mxm.specs.Rows.{rows_between}
use Rattle.grb_mxm.proofs.Blocked.{rows_below, rows_joined}
use Rattle.grb_jobs.specs.Blocks.{made_by}
use Rattle.grb_jobs.proofs.Blocked.{later_rows}
use Rattle.grb_jobs.proofs.joined.add_rows.Goals as goal

pub lend_matrix-lent-requires-clause-domain : goal.lend_matrix-lent-requires-clause-domain
lend_matrix-lent-requires-clause-domain g c = ap (λ (m : Matrix). m.domain) c.requires.block.matrix ∙ c.requires.domain

pub append_rows-requires-clause-below : goal.append_rows-requires-clause-below
append_rows-requires-clause-below g c =
    subst (λ (m : MatrixEntries). All (λ e. e.0.0 < c.args.from) m) (sym c.requires.so_far.entries) (rows_below 0 c.args.from (made_by c.args.inputs.now))

pub returns : goal.returns
returns g c =
    let f = c.args.from in
    let b = c.args.block.now in
    let x = made_by c.args.inputs.now in
    let so = c.requires.so_far in
    let lent = c.lend_matrix-lent in
    record {
      within = c.requires.block.within;
      lists = c.in_ok-append_rows.ensures.lists;
      entries = c.in_ok-append_rows.ensures.entries
          ∙ ap (λ (m : MatrixEntries). m ++ rows_between f b.upto (decoded lent.result.lists.now.entries)) so.entries
          ∙ ap (λ (m : MatrixEntries). rows_between 0 f x ++ rows_between f b.upto m) (lent.ensures.entries ∙ ap (λ (m : Matrix). m.entries) c.requires.block.matrix)
          ∙ ap (λ (m : MatrixEntries). rows_between 0 f x ++ m) (later_rows b.from f b.upto x c.requires.begins)
          ∙ rows_joined f b.upto x c.requires.ends (passed _ c.dims-nrows.ensures.whole.ordered);
    }
