use Rattle.std.proofs.Common.{◌≡◌, ◌<◌, ℕ, get_or, length, subst, ◌∙◌, arith}
use Rattle.grb_sums.specs.ColumnSums.{numbers_below}
use Rattle.grb_sums.specs.Numbers.{numbers_below-at, numbers_below-length}
use Rattle.grb_push.specs.Wanted.{is_wanted}
use Rattle.grb_push.proofs.KeptMarks.{kept_values}
use Rattle.grb_push.proofs.kept.close_wanted.Goals as goal

pub returns : goal.returns
returns g c m added are =
    let n = c.args.all.now.ncols in
    let w = c.args.wanted.now in
    let long = numbers_below-length n in
    c.in_ok-entries-2.ensures.values
    ∙ kept_values g.T.Scalar.value (numbers_below n) c.args.words.now c.keep_wanted.new.words c.args.sums.now (is_wanted w.among w.names.now) c.in_ok-keep_wanted.ensures m added
    (λ p l. numbers_below-at n p (omega (arith, l, long))) are
