use Rattle.std.proofs.Common.{rules}
use Rattle.grb_generations.proofs.member.Member.snapshot_vector.Goals as goal

pub returns-clause-snapshot : goal.returns-clause-snapshot
returns-clause-snapshot c = record { answer = c.call.result; calls = c.call.ensures.calls; hands = search rules }
