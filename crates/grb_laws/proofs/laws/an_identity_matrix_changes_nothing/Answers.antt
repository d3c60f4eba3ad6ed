use Rattle.grb_laws.proofs.Identity.{identity_changes_nothing, identity_is_whole, ones}
use Rattle.grb_laws.proofs.laws.an_identity_matrix_changes_nothing.Goals as goal

pub returns-clause-products : goal.returns-clause-products
returns-clause-products c = identity_changes_nothing

pub returns-clause-ones : goal.returns-clause-ones
returns-clause-ones c = ones

pub returns-clause-whole : goal.returns-clause-whole
returns-clause-whole c = identity_is_whole
