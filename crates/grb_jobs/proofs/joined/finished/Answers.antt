use Rattle.std.proofs.Common.{◌≡◌, sym, ap, ◌∙◌, ℕ}
use Rattle.grb_core.specs.Contents.{IsMatrix}
use Rattle.grb_ewise.proofs.WholeMatrix.{same_matrix, whole-same}
use Rattle.grb_mxm.specs.Rows.{rows_between}
use Rattle.grb_mxm.proofs.Blocked.{rows_whole}
use Rattle.grb_jobs.specs.Blocks.{Product, made_by, whole_of}
use Rattle.grb_jobs.proofs.joined.finished.Goals as goal

all_rows : (p : Product) → IsMatrix (whole_of p) → rows_between 0 p.nrows (made_by p) ≡ made_by p
all_rows p h = rows_whole p.nrows (made_by p) (λ k d l. (h.within k d l).0)

pub keep_rows-requires-clause-whole : goal.keep_rows-requires-clause-whole
keep_rows-requires-clause-whole g c =
    let p = c.args.inputs.now in
    let dims = c.dims-nrows.ensures in
    whole-same _ _
    (same_matrix _ _ _ _ _ _ _ _ (sym c.requires.domain) (ap (λ (d : ℕ × ℕ). d.0) dims.dims) (ap (λ (d : ℕ × ℕ). d.1) dims.dims) (c.requires.all.entries ∙ all_rows p dims.whole)) dims.whole

pub returns-clause-matrix : goal.returns-clause-matrix
returns-clause-matrix g c =
    let p = c.args.inputs.now in
    let dims = c.dims-nrows.ensures in
    c.keep_rows.ensures.matrix
    ∙ same_matrix _ _ _ _ _ _ _ _ (sym c.requires.domain) (ap (λ (d : ℕ × ℕ). d.0) dims.dims) (ap (λ (d : ℕ × ℕ). d.1) dims.dims) (c.requires.all.entries ∙ all_rows p dims.whole)
