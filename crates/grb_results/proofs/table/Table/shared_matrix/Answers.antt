use Rattle.std.proofs.Common.{true, Option, sym, ap, ◌∙◌}
use Rattle.grb_results.proofs.Prelude.{option_map, option_map_or, SparseMatrixView, stored_matrix}
use Rattle.grb_results.proofs.Making.{if_ok}
use Rattle.grb_results.proofs.Rebuilt.{matrix_kept, matrix_ready}
use Rattle.grb_results.proofs.table.Table.shared_matrix.Goals as goal

pub returns-in-Some-clause-stored : goal.returns-in-Some-clause-stored
returns-in-Some-clause-stored c cs is =
    if_ok _ _ c.share_matrix.result
    (λ found same. ap (λ (q : Option SparseMatrixView). option_map stored_matrix q) same ∙ matrix_kept cs c.args.self.now is c.args.a.0 c.in-Some.content.now c.in-Some.ensures.kept)
    c.share_matrix.ensures

pub returns-in-Some-clause-assembled : goal.returns-in-Some-clause-assembled
returns-in-Some-clause-assembled c =
    if_ok _ _ c.share_matrix.result
    (λ found same. ap (λ (q : Option SparseMatrixView). option_map_or (λ (m : SparseMatrixView). m.assembled) q true) same
    ∙ matrix_ready c.args.self.now c.args.a.0 c.in-Some.content.now c.requires (sym c.contains.ensures ∙ c.if-not-contains.false) c.in-Some.ensures.kept)
    c.share_matrix.ensures
