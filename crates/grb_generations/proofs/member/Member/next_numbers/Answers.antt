use Rattle.std.proofs.Common.{ℕ, ap, sym, subst, ◌∙◌}
use Rattle.grb_call.specs.History.{store_of}
use Rattle.grb_context.specs.Known.{known}
use Rattle.grb_numbers.specs.Laws.{matrix_numbers, vector_numbers}
use Rattle.grb_numbers.specs.Numbers.{AreChosen, AreNumbered, NumbersSeen}
use Rattle.grb_numbers.specs.Seen.{AreNumbersOf}
use Rattle.grb_generations.specs.Reasons.{IsMember}
use Rattle.grb_generations.specs.Seated.{Seated}
use Rattle.grb_generations.proofs.Keeping.{numbers_at_end}
use Rattle.grb_generations.proofs.Living.{matrices_chosen, vectors_chosen}
use Rattle.grb_generations.proofs.member.Member.next_numbers.Goals as goal

pub next-requires-clause-matrices : goal.next-requires-clause-matrices
next-requires-clause-matrices c =
    subst (λ (n : ℕ). AreChosen (matrix_numbers c.deref-4.result.now) n) (sym c.requires.live.matrix_count)
    (matrices_chosen (store_of (known c.args.self.now.pass)) c.deref-4.result.now (c.deref-4.ensures.value ∙ c.requires.live.matrices))

pub next-requires-clause-vectors : goal.next-requires-clause-vectors
next-requires-clause-vectors c =
    subst (λ (n : ℕ). AreChosen (vector_numbers c.deref-5.result.now) n) (sym c.requires.live.vector_count)
    (vectors_chosen (store_of (known c.args.self.now.pass)) c.deref-5.result.now (c.deref-5.ensures.value ∙ c.requires.live.vectors))

pub next-requires-clause-numbered_matrices : goal.next-requires-clause-numbered_matrices
next-requires-clause-numbered_matrices c =
    let m : Seated = c.args.self.now in
    let member : IsMember m = subst IsMember c.self.view_is c.self.invariant.0 in
    let all : AreNumbersOf m.numbers (store_of (known m.pass)) = numbers_at_end m.numbers m.pass member.numbers c.requires.end in
    subst (λ (x : NumbersSeen). AreNumbered x.matrices c.args.live.now.matrix_count) (sym (c.deref-2.ensures ∙ ap (λ (x : Seated). x.numbers) c.self.view_is))
    (subst (λ (k : ℕ). AreNumbered m.numbers.matrices k) (sym c.requires.live.matrix_count) all.matrices)

pub next-requires-clause-numbered_vectors : goal.next-requires-clause-numbered_vectors
next-requires-clause-numbered_vectors c =
    let m : Seated = c.args.self.now in
    let member : IsMember m = subst IsMember c.self.view_is c.self.invariant.0 in
    let all : AreNumbersOf m.numbers (store_of (known m.pass)) = numbers_at_end m.numbers m.pass member.numbers c.requires.end in
    subst (λ (x : NumbersSeen). AreNumbered x.vectors c.args.live.now.vector_count) (sym (c.deref-2.ensures ∙ ap (λ (x : Seated). x.numbers) c.self.view_is))
    (subst (λ (k : ℕ). AreNumbered m.numbers.vectors k) (sym c.requires.live.vector_count) all.vectors)
