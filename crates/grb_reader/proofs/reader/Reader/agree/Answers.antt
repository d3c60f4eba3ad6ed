use Rattle.std.proofs.Common.{◌≡◌, ◌<◌, ◌≤◌, length, arith, sym, subst}
use Rattle.grb_reader.proofs.Prelude.{Knowing, known, IsSameRecordAt}
use Rattle.grb_reader.proofs.Spelling.{length_spelled}
use Rattle.grb_reader.proofs.Meeting.{begins_known, fewer_shown, one_record}
use Rattle.grb_reader.proofs.reader.Reader.agree.Goals as goal

pub agree_at-requires-clause-mine : goal.agree_at-requires-clause-mine
agree_at-requires-clause-mine c =
    let p = c.args.self.now in let q = c.args.other.now in let r = c.requires in
    let fewer : length q.shown ≤ length p.shown = fewer_shown p q r.steady r.steady_other r.words r.all in
    let all : length (known q) ≡ length q.shown = length_spelled q.view.words q.shown r.steady_other.few in
    let lt : c.loop-at.at < c.known-at-end.result = c.loop-at-test.true in
    let within : c.loop-at.at < length p.shown = omega (arith, fewer, all, lt, c.known-at-end.ensures.known) in
    subst (λ (k : Knowing). c.loop-at.at < length k.shown) (sym c.loop-at.invariant.self) within

pub agree_at-requires-clause-theirs : goal.agree_at-requires-clause-theirs
agree_at-requires-clause-theirs c =
    let q = c.args.other.now in let r = c.requires in
    let all : length (known q) ≡ length q.shown = length_spelled q.view.words q.shown r.steady_other.few in
    let lt : c.loop-at.at < c.known-at-end.result = c.loop-at-test.true in
    let within : c.loop-at.at < length q.shown = omega (arith, all, lt, c.known-at-end.ensures.known) in
    subst (λ (k : Knowing). c.loop-at.at < length k.shown) (sym c.loop-at.invariant.other) within

pub agree_at-requires-clause-record : goal.agree_at-requires-clause-record
agree_at-requires-clause-record c =
    let p = c.args.self.now in let q = c.args.other.now in let r = c.requires in
    let same : IsSameRecordAt p.shown q.shown c.loop-at.at = one_record p q r.steady r.steady_other r.words r.all c.loop-at.at in
    subst (λ (k : Knowing). IsSameRecordAt k.shown c.loop-at.other.shown c.loop-at.at) (sym c.loop-at.invariant.self)
    (subst (λ (k : Knowing). IsSameRecordAt p.shown k.shown c.loop-at.at) (sym c.loop-at.invariant.other) same)

pub returns-clause-begins : goal.returns-clause-begins
returns-clause-begins c =
    let p = c.args.self.now in let q = c.args.other.now in let r = c.requires in
    let all : length (known q) ≡ length q.shown = length_spelled q.view.words q.shown r.steady_other.few in
    let over : c.known-at-end.result ≤ c.loop-at.at = c.loop-at-test.false in
    begins_known p q r.steady r.steady_other r.words r.all (λ at lt. c.loop-at.invariant.share at (omega (arith, all, lt, over, c.known-at-end.ensures.known)))
