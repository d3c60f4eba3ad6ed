use Rattle.std.proofs.Common.{◌<◌, ◌++◌, ℕ, sym, ap, subst, ◌∙◌, arith}
use Rattle.std.specs.Prelude.{All}
use Rattle.grb_core.specs.Entries.{MatrixEntries}
use Rattle.grb_ewise.proofs.WholeMatrix.{same_matrix, whole-same}
use Rattle.grb_mxm.specs.Rows.{rows_between}
use Rattle.grb_mxm.proofs.Blocked.{part_whole}
use Rattle.grb_jobs.specs.Blocks.{made_by, whole_of}
use Rattle.grb_jobs.proofs.joined.block_by.Goals as goal

pub append_own-requires-clause-lists : goal.append_own-requires-clause-lists
append_own-requires-clause-lists g c = c.no_rows-none.ensures.lists c.args.from

pub append_own-requires-clause-below : goal.append_own-requires-clause-below
append_own-requires-clause-below g c = subst (λ (m : MatrixEntries). All (λ e. e.0.0 < c.args.from) m) (sym c.no_rows-none.ensures.entries) (λ k d l. absurd (omega (arith, l)))

pub keep_rows-requires-clause-whole : goal.keep_rows-requires-clause-whole
keep_rows-requires-clause-whole g c =
    let p = c.args.inputs.now in
    let f = c.args.from in
    let u = c.args.upto in
    let dims = c.dims-nrows.ensures in
    whole-same _ _
    (same_matrix _ _ _ _ _ _ _ _ (sym c.requires.domain) (ap (λ (d : ℕ × ℕ). d.0) dims.dims) (ap (λ (d : ℕ × ℕ). d.1) dims.dims)
    (c.in_ok-made.ensures.entries ∙ ap (λ (m : MatrixEntries). m ++ rows_between f u (made_by p)) c.no_rows-none.ensures.entries))
    (part_whole f u (whole_of p) dims.whole)

pub returns : goal.returns
returns g c =
    let p = c.args.inputs.now in
    let f = c.args.from in
    let u = c.args.upto in
    let dims = c.dims-nrows.ensures in
    record {
      rises = c.requires.rises;
      within = c.requires.within;
      matrix = c.keep_rows.ensures.matrix
          ∙ same_matrix _ _ _ _ _ _ _ _ (sym c.requires.domain) (ap (λ (d : ℕ × ℕ). d.0) dims.dims) (ap (λ (d : ℕ × ℕ). d.1) dims.dims)
          (c.in_ok-made.ensures.entries ∙ ap (λ (m : MatrixEntries). m ++ rows_between f u (made_by p)) c.no_rows-none.ensures.entries);
      assembled = c.keep_rows.ensures.assembled;
    }
