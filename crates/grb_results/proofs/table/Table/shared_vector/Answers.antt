use Rattle.std.proofs.Common.{true, Option, sym, ap, ◌∙◌}
use Rattle.grb_results.proofs.Prelude.{option_map, option_map_or, SparseVectorView, stored_vector}
use Rattle.grb_results.proofs.Making.{if_ok}
use Rattle.grb_results.proofs.Rebuilt.{vector_kept, vector_ready}
use Rattle.grb_results.proofs.table.Table.shared_vector.Goals as goal

pub returns-in-Some-clause-stored : goal.returns-in-Some-clause-stored
returns-in-Some-clause-stored c cs is =
    if_ok _ _ c.share_vector.result
    (λ found same. ap (λ (q : Option SparseVectorView). option_map stored_vector q) same ∙ vector_kept cs c.args.self.now is c.args.v.0 c.in-Some.content.now c.in-Some.ensures.kept)
    c.share_vector.ensures

pub returns-in-Some-clause-assembled : goal.returns-in-Some-clause-assembled
returns-in-Some-clause-assembled c =
    if_ok _ _ c.share_vector.result
    (λ found same. ap (λ (q : Option SparseVectorView). option_map_or (λ (x : SparseVectorView). x.assembled) q true) same
    ∙ vector_ready c.args.self.now c.args.v.0 c.in-Some.content.now c.requires (sym c.contains.ensures ∙ c.if-not-contains.false) c.in-Some.ensures.kept)
    c.share_vector.ensures
