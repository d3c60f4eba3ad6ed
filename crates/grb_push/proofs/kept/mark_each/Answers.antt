use Rattle.std.proofs.Common.{◌≡◌, ◌*◌, ◌<◌, ℕ, true, cond, length, get_or, arith, ap, subst, sym}
use Rattle.grb_sums.specs.Bits.{is_marked}
use Rattle.grb_push.specs.Wanted.{is_among}
use Rattle.grb_push.proofs.KeptMarks.{listed_all, listed_more}
use Rattle.grb_push.proofs.kept.mark_each.Goals as goal

pub places-init : goal.places-init
places-init c p inside = ap (λ b. cond b true (is_among p c.args.places.now)) (c.requires.none p)

pub places-preserved : goal.places-preserved
places-preserved c p inside =
    listed_more c.places.words c.mark_there.new.words c.args.places.now c.places.i p c.places-test.true
    (λ e. subst (λ q. is_marked c.mark_there.new.words q ≡ true) e (c.mark_there.ensures.here (omega (arith, e, inside, c.places.auto.words))))
    (λ n. c.mark_there.ensures.others p (λ e. n (sym e)))
    (c.places.invariant p inside)

pub returns : goal.returns
returns c p inside = listed_all c.places.words c.args.places.now c.places.i p c.places-test.false (c.places.invariant p inside)
