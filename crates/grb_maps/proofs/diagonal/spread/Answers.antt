use Rattle.std.proofs.Common.{◌≡◌, ◌∙◌, ◌<◌, ℕ, ap, sym, true}
use Rattle.std.proofs.lemmas.List.Elements.{recursion_from_All}
use Rattle.grb_core.specs.declared.value.Value.{Value}
use Rattle.grb_core.specs.Contents.{IsDimension, is_dimension}
use Rattle.grb_kernels.specs.Typed.{entries_of}
use Rattle.grb_lists.specs.Cells.{decoded}
use Rattle.grb_ewise.proofs.WholeMatrix.{same_matrix}
use Rattle.grb_sparse.specs.Matrix.{SparseMatrixView}
use Rattle.grb_core.specs.declared.tests.Diagonal.{Diagonal}
use Rattle.grb_core.specs.Tests.{down, up}
use Rattle.grb_core.specs.Maps.{diagonal_of, diagonal_size}
use Rattle.grb_core.proofs.Each.{holds}
use Rattle.grb_maps.specs.Placed.{placed}
use Rattle.grb_maps.proofs.Placing.{diagonal_is, diagonal_whole}
use Rattle.grb_maps.proofs.diagonal.spread.Goals as goal

-- the size is that of the diagonal, since a matrix can have it
size_is : (d : Diagonal) (size read made : ℕ) → read ≡ size → is_dimension made ≡ is_dimension (diagonal_size d read) → (is_dimension made ≡ true → made ≡ diagonal_size d read)
    → IsDimension (diagonal_size d size) → made ≡ diagonal_size d size
size_is d size read made same fits is h =
    let there = ap (diagonal_size d) same in
    is (fits ∙ ap is_dimension there ∙ h) ∙ there

pub from_lists-requires : goal.from_lists-requires
from_lists-requires g c =
    let d = c.args.d in
    let u = c.args.v.now.vector in
    let es = entries_of g.T.Scalar.value c.lend.result.indices.now c.lend.result.values.now in
    record {
      whole = rw c.in_ok-lists.ensures.domain
          (diagonal_whole d g.T.Scalar.domain c.diagonal_size-size.result u (decoded c.in_ok-lists.lists.entries) c.lend.ensures.whole
          (size_is d u.size c.dims.result c.diagonal_size-size.result c.dims.ensures.size c.diagonal_size-size.ensures.dimension c.diagonal_size-size.ensures.size c.requires.fits) c.requires.fits
          (c.in_ok-lists.ensures.entries ∙ ap (λ n. placed n c.up.result es) c.down.ensures ∙ ap (λ n. placed (down d) n es) c.up.ensures ∙ ap (placed (down d) (up d)) c.lend.ensures.entries)
          c.in_ok-lists.ensures.of_domain);
    }

pub returns-clause-matrix : goal.returns-clause-matrix
returns-clause-matrix g c =
    let d = c.args.d in
    let u = c.args.v.now.vector in
    let es = entries_of g.T.Scalar.value c.lend.result.indices.now c.lend.result.values.now in
    let size = size_is d u.size c.dims.result c.diagonal_size-size.result c.dims.ensures.size c.diagonal_size-size.ensures.dimension c.diagonal_size-size.ensures.size c.requires.fits in
    ap (λ (w : SparseMatrixView). w.matrix) c.from_lists.ensures
    ∙ same_matrix c.in_ok-lists.lists.domain u.domain c.diagonal_size-size.result (diagonal_size d u.size) c.diagonal_size-size.result (diagonal_size d u.size)
    (decoded c.in_ok-lists.lists.entries) (diagonal_of (diagonal_size d u.size) d u.entries) (c.in_ok-lists.ensures.domain ∙ sym c.requires.domain) size size
    (c.in_ok-lists.ensures.entries ∙ ap (λ n. placed n c.up.result es) c.down.ensures ∙ ap (λ n. placed (down d) n es) c.up.ensures ∙ ap (placed (down d) (up d)) c.lend.ensures.entries
    ∙ sym (diagonal_is d u.size u.entries (holds _ c.lend.ensures.whole.ordered) (recursion_from_All (λ (e : ℕ × Value). e.0 < u.size) u.entries c.lend.ensures.whole.within)))
