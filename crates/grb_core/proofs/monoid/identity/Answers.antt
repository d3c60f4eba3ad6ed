use Rattle.grb_core.proofs.MonoidLaws.{monoid_laws}
use Rattle.grb_core.proofs.monoid.identity.Goals as goal

pub returns-in-Times-clause-laws : goal.returns-in-Times-clause-laws
returns-in-Times-clause-laws c = monoid_laws c.args.m
