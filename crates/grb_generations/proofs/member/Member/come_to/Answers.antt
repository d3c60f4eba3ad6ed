use Rattle.std.proofs.Common.{sym, subst, ◌∙◌}
use Rattle.grb_generations.specs.Seated.{Comes, stayed}
use Rattle.grb_generations.proofs.Moving.{comes_chain, stays_same}
use Rattle.grb_generations.proofs.member.Member.come_to.Goals.{then-self-other, else-self-other}
use Rattle.grb_generations.proofs.member.Member.come_to.Goals as goal

came : (c : goal.Joined-self-other) → Comes c.args.self.now c.if-self-other.self
came c = elim c.if-self-other.branch as (λ _. Comes c.args.self.now c.if-self-other.self) [
  | then-self-other w ↦ subst (Comes c.args.self.now) (sym w.self-is) w.follow.ensures.comes
  | else-self-other w ↦ stayed (stays_same c.args.self.now c.if-self-other.self w.self-is)
]

pub beside-requires : goal.beside-requires
beside-requires c = record { chain = comes_chain c.args.self.now c.if-self-other.self (came c) ∙ c.requires.chain }

came_then : (c : goal.After-beside) → Comes c.args.self.now c.if-self-other.self
came_then c = elim c.if-self-other.branch as (λ _. Comes c.args.self.now c.if-self-other.self) [
  | then-self-other w ↦ subst (Comes c.args.self.now) (sym w.self-is) w.follow.ensures.comes
  | else-self-other w ↦ stayed (stays_same c.args.self.now c.if-self-other.self w.self-is)
]

pub returns-clause-comes : goal.returns-clause-comes
returns-clause-comes c = came_then c

pub returns-clause-chain : goal.returns-clause-chain
returns-clause-chain c = comes_chain c.args.self.now c.if-self-other.self (came_then c)
