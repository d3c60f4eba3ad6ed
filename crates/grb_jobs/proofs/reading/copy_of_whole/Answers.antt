use Prim.{search}
use Rattle.std.proofs.Common.{rules, ◌≡◌, ℕ, ap, ◌∙◌}
use Rattle.grb_ewise.proofs.WholeMatrix.{same_matrix}
use Rattle.std.proofs.Common.{refl}
use Rattle.grb_mxm.proofs.Blocked.{rows_whole}
use Rattle.grb_jobs.specs.Blocks.{Product, IsBlock, block_of, made_by}
use Rattle.grb_jobs.proofs.reading.copy_of_whole.Goals as goal

pub returns-in-Ok-clause-matrix : goal.returns-in-Ok-clause-matrix
returns-in-Ok-clause-matrix c =
    let p : Product = c.args.inputs.now in
    let dims = c.dims-nrows.ensures in
    let block : IsBlock c.args.inputs.now c.in-Some.block.from c.in-Some.block.upto c.in-Some.block.made = search rules in
    let zero : c.in-Some.block.from ≡ 0 = search rules in
    let all : c.in-Some.block.upto ≡ c.args.inputs.now.nrows = search rules in
    c.in-Ok.ensures.matrix
    ∙ block.matrix
    ∙ ap (λ (n : ℕ). block_of p n c.in-Some.block.upto) zero
    ∙ ap (λ (n : ℕ). block_of p 0 n) all
    ∙ same_matrix _ _ _ _ _ _ _ _ refl refl refl (rows_whole p.nrows (made_by p) (λ k d l. (dims.whole.within k d l).0))
