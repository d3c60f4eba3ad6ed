use Rattle.std.proofs.Common.{◌+◌, ◌<◌, length, get_or, count_ones, arith, ap, sym, ◌∙◌}
use Rattle.std.proofs.lemmas.List.Sums.{sum_by_more}
use Rattle.std.proofs.lemmas.Nat.{ones-le}
use Rattle.grb_sums.proofs.bits.count_marks.Goals as goal

pub words-preserved : goal.words-preserved
words-preserved c =
    let words = c.args.words.now in
    let w = c.words.w in
    let inside : w < length words = omega arith in
    let few = ones-le 64 (get_or words w 0) (c.type_inv.words w).fits in
    record {
      count = ap (λ n. n + count_ones (get_or words w 0)) c.words.invariant.count ∙ sym (sum_by_more (λ x. count_ones x) words w 0 inside);
      most = omega (arith, c.words.invariant.most, few);
    }
