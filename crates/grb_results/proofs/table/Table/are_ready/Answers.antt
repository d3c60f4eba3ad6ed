use Rattle.std.proofs.Common.{length, refl, ap, arith}
use Rattle.grb_results.proofs.Prelude.{Learnt}
use Rattle.grb_results.proofs.LastKept.{table_beside}
use Rattle.grb_results.proofs.Settled.{all_ready, table_next}
use Rattle.grb_results.proofs.table.Table.are_ready.Goals as goal

pub returns-then-not-is_last_ready-clause-table : goal.returns-then-not-is_last_ready-clause-table
returns-then-not-is_last_ready-clause-table c cs was = table_beside cs c.calls.self _ refl refl refl (c.calls.invariant.table cs was)

pub calls-preserved : goal.calls-preserved
calls-preserved c = record {
  table = λ cs was.
      let t = c.calls.self in let is = c.calls.invariant.table cs was in
      let count = ap (λ (l : Learnt). length l.nodes.items) c.calls.invariant.same.learnt in let end = c.count-at-end.ensures in let below = c.calls-test.true in
      table_next cs t _ c.calls.at is c.calls.invariant.here (c.is_last_ready.ensures.ready c.if-not-is_last_ready.false cs (table_beside cs t _ refl refl refl is))
      (omega (arith, below, end, count)) refl refl refl;
  results = c.calls.invariant.results;
  same = record { learnt = c.calls.invariant.same.learnt; made = c.calls.invariant.same.made };
  here = refl;
}

pub returns-clause-ready : goal.returns-clause-ready
returns-clause-ready c cs was always =
    let count = ap (λ (l : Learnt). length l.nodes.items) c.calls.invariant.same.learnt in let end = c.count-at-end.ensures in
    let past = c.calls-test.false in let here = c.calls.invariant.here in
    all_ready cs c.calls.self (c.calls.invariant.table cs was) (omega (arith, past, end, count, here))
