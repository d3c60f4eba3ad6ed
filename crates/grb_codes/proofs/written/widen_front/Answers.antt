use Rattle.std.proofs.Common.{◌<◌, ◌∙◌, ◌++◌, ℕ, List, length, take, drop, get_or, ap, sym, arith}
use Rattle.std.specs.Prelude.{slice_set}
use Rattle.std.proofs.lemmas.List.{take_more, take_all, length-take-le, map-id}
use Rattle.grb_codes.specs.Arrays.{written}
use Rattle.grb_codes.proofs.Arrays.{write-next}
use Rattle.grb_codes.proofs.written.widen_front.Goals as goal

pub numbers-preserved : goal.numbers-preserved
numbers-preserved c =
    let ns = c.args.numbers.now in
    let at = c.numbers.at in
    let inside : at < length ns = c.numbers-test.true in
    let short = length-take-le at ns (omega (arith, inside)) in
    ap (λ (a : List ℕ). slice_set a at (get_or ns at 0)) c.numbers.invariant
    ∙ ap (λ n. slice_set (written (λ (n : ℕ). n) (take at ns) c.args.array.now) n (get_or ns at 0)) (sym short)
    ∙ write-next (λ (n : ℕ). n) (take at ns) (get_or ns at 0) c.args.array.now (omega (arith, short, inside, c.requires))
    ∙ ap (λ (s : List ℕ). written (λ (n : ℕ). n) s c.args.array.now) (sym (take_more ns at 0 inside))

pub returns : goal.returns
returns c =
    let ns = c.args.numbers.now in
    c.numbers.invariant
    ∙ ap (λ (s : List ℕ). written (λ (n : ℕ). n) s c.args.array.now) (take_all c.numbers.at ns (omega (arith, c.numbers-test.false)))
    ∙ ap (λ (s : List ℕ). s ++ drop (length ns) c.args.array.now) (map-id ns)
