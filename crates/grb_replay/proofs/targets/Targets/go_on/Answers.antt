use Rattle.std.proofs.Common.{◌≡◌, ◌+◌, ◌-◌, ◌<◌, List, length, map, get_or, arith, ap, ◌∙◌, sym}
use Rattle.grb_replay.proofs.Prelude.{length-drop, length-map, length_push, Call}
use Rattle.grb_replay.proofs.Lists.{lent_call}
use Rattle.grb_replay.proofs.NextTarget.{walked_further}
use Rattle.grb_replay.proofs.targets.Targets.go_on.Goals as goal

pub calls-preserved : goal.calls-preserved
calls-preserved c =
    let bs : List Call = map (λ a. a.now) c.args.calls.now in let at = c.calls.at in
    let few = length-map c.args.calls.now (λ a. a.now) in
    let within : at < length bs = omega (arith, c.calls-test.true, few) in
    let lent : get_or bs at c.index-calls-at.result.now ≡ c.index-calls-at.result.now = lent_call (λ a. a.now) c.args.calls.now at c.index-calls-at.result c.index-calls-at.is in
    let count : length c.go_over.new.self.targets ≡ length c.calls.self.targets + 1 = ap length c.go_over.ensures.targets ∙ length_push c.calls.self.targets _ in
    record {
      walked = λ s known begun is. walked_further s c.args.self.now c.calls.self c.go_over.new.self known bs at c.index-calls-at.result.now begun is (c.calls.invariant.walked s known begun is) c.calls.invariant.count within lent c.go_over.ensures.targets c.go_over.ensures.shapes;
      count = omega (arith, count, c.calls.invariant.count);
      room = omega (arith, c.calls.invariant.room, c.go_over.ensures.room, count);
    }

pub returns-clause-walked : goal.returns-clause-walked
returns-clause-walked c s known begun is =
    let few = length-map c.args.calls.now (λ a. a.now) in
    let n : length c.args.calls.now ≡ length known - length c.args.self.now.targets = sym few ∙ (ap length is ∙ length-drop (length c.args.self.now.targets) known) in
    (c.calls.invariant.walked s known begun is, omega (arith, n, begun.within, c.calls.invariant.count, c.calls-test.false, c.calls.auto.at-end))
