use Rattle.std.proofs.Common.{◌≡◌, ◌+◌, ◌-◌, arith, ap, sym, ◌∙◌, take, drop}
use Rattle.std.proofs.lemmas.List.{drop-take}
use Rattle.grb_sums.proofs.spans.part.Goals as goal

pub returns : goal.returns
returns g c =
    let start = c.args.start in
    let end = c.args.end in
    let list = c.args.list.now in
    sym (drop-take start (end - start) list) ∙ ap (λ e. drop start (take e list)) (let e : start + (end - start) ≡ end = omega (arith, c.requires.up) in e)
