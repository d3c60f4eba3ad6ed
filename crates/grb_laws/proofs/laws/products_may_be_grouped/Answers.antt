use Rattle.grb_laws.proofs.Grouping.{distributive_products_group}
use Rattle.grb_laws.proofs.Distributing.{predefined_products_group, min_plus_does_not_group}
use Rattle.grb_laws.proofs.laws.products_may_be_grouped.Goals as goal

pub returns-clause-distributive : goal.returns-clause-distributive
returns-clause-distributive c = distributive_products_group

pub returns-clause-predefined : goal.returns-clause-predefined
returns-clause-predefined c = predefined_products_group

pub returns-clause-min_plus : goal.returns-clause-min_plus
returns-clause-min_plus c = min_plus_does_not_group
