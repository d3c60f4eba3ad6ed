use Rattle.std.proofs.Common.{◌≡◌, ◌+◌, ◌-◌, get_or, drop, arith, ap, sym, ◌∙◌}
use Rattle.std.proofs.lemmas.List.{get_or-drop, get_or-take}
use Rattle.grb_sums.proofs.marks.has_untouched.Goals as goal

pub returns-clause-none : goal.returns-clause-none
returns-clause-none c t u f l =
    let at = c.args.at in
    let words = c.args.words.now in
    let is : at + (u - at) ≡ u = omega (arith, f) in
    ap (λ k. get_or words k 0) (sym is)
    ∙ sym (get_or-drop at words (u - at) 0)
    ∙ sym (get_or-take (at + 16 - at) (drop at words) (u - at) 0 (omega (arith, f, l)))
    ∙ c.are_untouched.ensures t (u - at) (omega (arith, f, l, c.if-upto-at-lt-LOOKED_AT.false, c.requires.up, c.requires.within))
