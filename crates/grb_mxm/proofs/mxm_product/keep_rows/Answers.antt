use Rattle.std.proofs.Common.{ap, ◌∙◌, refl}
use Rattle.grb_ewise.proofs.WholeMatrix.{same_matrix, whole-same}
use Rattle.grb_mxm.proofs.mxm_product.keep_rows.Goals as goal

pub keep-lists-requires-clause-ordered : goal.keep-lists-requires-clause-ordered
keep-lists-requires-clause-ordered g c = c.requires.whole.ordered

pub from_lists-requires : goal.from_lists-requires
from_lists-requires g c = record {
  whole = whole-same _ _ (same_matrix _ _ _ _ _ _ _ _ c.keep-lists.ensures.domain refl refl c.keep-lists.ensures.entries) c.requires.whole;
}

pub returns-clause-matrix : goal.returns-clause-matrix
returns-clause-matrix g c = ap (λ v. v.matrix) c.from_lists.ensures ∙ same_matrix _ _ _ _ _ _ _ _ c.keep-lists.ensures.domain refl refl c.keep-lists.ensures.entries
