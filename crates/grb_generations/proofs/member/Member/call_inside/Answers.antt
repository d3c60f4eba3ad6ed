use Rattle.std.proofs.Common.{subst}
use Rattle.grb_context.specs.Answered.{Answered}
use Rattle.grb_context.specs.Known.{IsPassOf, Shared}
use Rattle.grb_generations.specs.Seated.{Seated}
use Rattle.grb_generations.proofs.AtEnd.{member_called, reason_called}
use Rattle.grb_generations.proofs.member.Member.call_inside.Goals as goal

pub invariant_of-self : goal.invariant_of-self
invariant_of-self c =
    let i = c.self.inside in let q = c.call-answer.new.pass in
    let old : Seated = record { chain = i.generations.value; page = i.page; context = i.context.value; numbers = i.numbers.value; pass = i.pass; generation = i.generation; reason = i.reason } in
    let made : Answered old.context old.pass q c.args.call c.call-answer.result = subst (λ (x : Shared). Answered x old.pass q c.args.call c.call-answer.result) c.deref.ensures c.call-answer.ensures.answered in
    let pass : IsPassOf old.context q = subst (λ (x : Shared). IsPassOf x q) c.deref.ensures c.call-answer.ensures.pass in
    (member_called old q _ c.args.call c.call-answer.result c.self.invariant.0 pass made (record {}), c.self.invariant.1)

pub invariant_of-self-else-is_none : goal.invariant_of-self-else-is_none
invariant_of-self-else-is_none c =
    let i = c.self.inside in let q = c.call-answer.new.pass in
    let old : Seated = record { chain = i.generations.value; page = i.page; context = i.context.value; numbers = i.numbers.value; pass = i.pass; generation = i.generation; reason = i.reason } in
    let made : Answered old.context old.pass q c.args.call c.call-answer.result = subst (λ (x : Shared). Answered x old.pass q c.args.call c.call-answer.result) c.deref.ensures c.call-answer.ensures.answered in
    let pass : IsPassOf old.context q = subst (λ (x : Shared). IsPassOf x q) c.deref.ensures c.call-answer.ensures.pass in
    (member_called old q old.reason c.args.call c.call-answer.result c.self.invariant.0 pass made (reason_called old q c.args.call c.call-answer.result c.self.invariant.0 pass made), c.self.invariant.1)

pub invariant_of-self-else-eq : goal.invariant_of-self-else-eq
invariant_of-self-else-eq c =
    let i = c.self.inside in let q = c.call-answer.new.pass in
    let old : Seated = record { chain = i.generations.value; page = i.page; context = i.context.value; numbers = i.numbers.value; pass = i.pass; generation = i.generation; reason = i.reason } in
    let made : Answered old.context old.pass q c.args.call c.call-answer.result = subst (λ (x : Shared). Answered x old.pass q c.args.call c.call-answer.result) c.deref.ensures c.call-answer.ensures.answered in
    let pass : IsPassOf old.context q = subst (λ (x : Shared). IsPassOf x q) c.deref.ensures c.call-answer.ensures.pass in
    (member_called old q old.reason c.args.call c.call-answer.result c.self.invariant.0 pass made (reason_called old q c.args.call c.call-answer.result c.self.invariant.0 pass made), c.self.invariant.1)
