use Rattle.std.proofs.Common.{None, refl, arith}
use Rattle.grb_results.proofs.Prelude.{Object}
use Rattle.grb_results.proofs.LastKept.{no_some}
use Rattle.grb_results.proofs.table.Table.is_last_ready.Goals as goal

pub returns-in-None-clause-ready : goal.returns-in-None-clause-ready
returns-in-None-clause-ready c always cs was o live last = absurd (no_some {X = Object} None o (c.in-None.ensures.all cs o was live (omega (arith, last))) refl)
