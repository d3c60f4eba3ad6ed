use Rattle.std.proofs.Common.{◌≤◌, length, sym, ap, subst, ◌∙◌, arith}
use Rattle.grb_reader.proofs.Prelude.{room_of, Knowing, known}
use Rattle.grb_reader.proofs.Spelling.{length_spelled}
use Rattle.grb_reader.proofs.reader.Reader.known.Goals as goal

pub returns-clause-known : goal.returns-clause-known
returns-clause-known c =
    let k = c.self.invariant in let inside = c.self.inside in
    c.len.ensures ∙ inside.tokens.ok.0 ∙ sym (length_spelled inside.seat.view.words inside.tokens.items k.few) ∙ ap (λ (p : Knowing). length (known p)) c.self.view_is

pub returns-clause-few : goal.returns-clause-few
returns-clause-few c =
    let k = c.self.invariant in let inside = c.self.inside in let n = length_spelled inside.seat.view.words inside.tokens.items k.few in
    subst (λ (p : Knowing). length (known p) ≤ room_of p.order) c.self.view_is (omega (arith, n, k.few, k.sound.few))
