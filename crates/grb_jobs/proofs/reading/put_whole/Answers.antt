use Rattle.std.proofs.Common.{◌≡◌, ℕ, ap, sym, subst, ◌∙◌, arith}
use Rattle.grb_core.specs.Entries.{MatrixEntries}
use Rattle.grb_mxm.proofs.Blocked.{rows_whole}
use Rattle.grb_jobs.specs.Blocks.{Product, IsBlock, block_of, made_by}
use Rattle.grb_jobs.proofs.reading.put_whole.Goals as goal

pub put-requires : goal.put-requires
put-requires c =
    let p : Product = c.args.inputs.now in
    let dims = c.dims-nrows.ensures in
    let n : ℕ = c.dims-nrows.result.0 in
    let all : n ≡ p.nrows = ap (λ (d : ℕ × ℕ). d.0) dims.dims in
    subst (λ (q : Product). IsBlock q 0 n c.in-Ok.copy) (sym c.requires.tied)
    (record {
      rises = omega arith;
      within = omega (arith, all);
      matrix = c.in-Ok.ensures.matrix ∙ c.requires.matrix
          ∙ ap (λ (m : MatrixEntries). record { domain = p.domain; nrows = p.nrows; ncols = p.ncols; entries = m }) (sym (rows_whole p.nrows (made_by p) (λ k d l. (dims.whole.within k d l).0)))
          ∙ ap (λ (k : ℕ). block_of p 0 k) (sym all);
      assembled = c.in-Ok.ensures.assembled ∙ c.requires.assembled;
    })
