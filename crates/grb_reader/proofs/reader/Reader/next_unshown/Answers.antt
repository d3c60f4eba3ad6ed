use Rattle.std.proofs.Common.{◌≡◌, ℕ, ◌<◌, length, get_or, sym, ap, subst, ◌∙◌, arith}
use Rattle.grb_reader.proofs.Prelude.{Knowing, IsNextUnshown}
use Rattle.grb_reader.proofs.Readers.{next_is}
use Rattle.grb_reader.proofs.reader.Reader.next_unshown.Goals as goal

pub returns-then-shown-words-clause-next : goal.returns-then-shown-words-clause-next
returns-then-shown-words-clause-next c =
    let inside = c.self.inside in let words = c.words-words.ensures.words in
    let n : c.len-shown.result ≡ length inside.tokens.items = c.len-shown.ensures ∙ inside.tokens.ok.0 in
    let same : length c.words-words.result.now ≡ length inside.seat.view.words = ap length words in
    let lt : length inside.tokens.items < length inside.seat.view.words = omega (arith, c.if-shown-words.true) in
    subst (λ (y : Knowing × ℕ). IsNextUnshown y.0 y.1) (λ i. (c.self.view_is i, get_or (sym words i) (sym n i) 0)) (next_is _ _ _ _ _ _ c.self.invariant _ _ _ _ lt)
