use Rattle.std.proofs.Common.{ap, ◌∙◌}
use Rattle.grb_sparse.specs.Matrix.{SparseMatrixView}
use Rattle.grb_state.proofs.LentDiagonal.{diagonal_vector-there, diagonal_fits, diagonal-made}
use Rattle.grb_state.proofs.changing.make_diagonal.Goals as goal

pub lent-requires : goal.lent-requires
lent-requires c =
    let of = c.args.objects.now in
    diagonal_vector-there of.matrices.items of.vectors.items c.assemble.new.places.items c.in_ok-assemble.ensures.same c.args.v c.args.diagonal c.requires.accepted

pub diagonal_matrix-requires-clause-fits : goal.diagonal_matrix-requires-clause-fits
diagonal_matrix-requires-clause-fits c =
    let of = c.args.objects.now in
    diagonal_fits of.matrices.items of.vectors.items c.assemble.new.places.items c.in_ok-assemble.ensures.same c.args.v c.args.diagonal c.requires.accepted
    c.lent.result.now c.lent.ensures

pub returns-clause-ok : goal.returns-clause-ok
returns-clause-ok c =
    let of = c.args.objects.now in
    diagonal-made of.matrices.items of.vectors.items c.assemble.new.places.items c.in_ok-assemble.ensures.same c.args.v c.args.diagonal c.requires.accepted
    c.lent.result.now c.lent.ensures c.in_ok-shared.shared
    (ap (λ (m : SparseMatrixView). m.matrix) (c.in_ok-shared.ensures ∙ c.make_shareable.ensures) ∙ c.in_ok-matrix.ensures.matrix)
    c.push_reserved.new.self.items c.push_reserved.ensures.items
