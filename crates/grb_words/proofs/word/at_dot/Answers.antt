use Rattle.std.proofs.Common.{◌+◌, ◌-◌, ◌∙◌, Some, length, take, drop, ap, sym, arith}
use Rattle.std.proofs.lemmas.List.{take_all, length-drop}
use Rattle.grb_words.proofs.SemiringLemmas.{at_dot-found, at_dot-absent}
use Rattle.grb_words.proofs.word.at_dot.Goals as goal

pub returns-in_err-dot : goal.returns-in_err-dot
returns-in_err-dot c = rw c.from_residual.ensures (sym (at_dot-absent c.args.word.now c.in_err-dot.ensures))

pub returns : goal.returns
returns c =
    let word = c.args.word.now in
    let dot = c.in_ok-dot.dot in
    ap (λ behind. Some (take dot word, behind)) (take_all (length word - (dot + 1)) (drop (dot + 1) word) (omega (arith, length-drop (dot + 1) word)))
    ∙ sym (at_dot-found word dot c.in_ok-dot.ensures)
