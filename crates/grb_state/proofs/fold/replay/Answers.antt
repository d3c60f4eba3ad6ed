use Rattle.std.proofs.Common.{arith, map, sym, ap, ◌∙◌}
use lib.ListN.{length-map, get_or-map}
use Rattle.grb_state.proofs.Folded.{next_call}
use Rattle.grb_state.proofs.fold.replay.Goals as goal

pub calls-preserved : goal.calls-preserved
calls-preserved c =
    let calls = c.args.calls.now in let at = c.calls.at in let here = c.index-calls-at.result in
    record {
      room = omega (arith, c.calls.invariant.room, c.in_ok-apply.ensures.room);
      store = next_call c.args.state.now.store c.calls.replayed.store c.apply.new.state.store (map (λ a. a.now) calls) at here.now (omega (arith, c.calls-test.true, length-map calls (λ a. a.now)))
          (get_or-map (λ a. a.now) calls at here ∙ ap (λ a. a.now) (sym c.index-calls-at.is)) c.calls.invariant.store c.in_ok-apply.ensures.store;
    }
