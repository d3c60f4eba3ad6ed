use Rattle.grb_generations.specs.Seated.{Stays}
use Rattle.grb_generations.proofs.member.Member.make_objects.Given as goal

abbrev pub invariant-matrices : goal.invariant-matrices
invariant-matrices l = Stays l.fn.self l.self

abbrev pub invariant-vectors : goal.invariant-vectors
invariant-vectors l = Stays l.fn.self l.self
