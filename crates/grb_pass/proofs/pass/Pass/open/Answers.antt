use Rattle.std.proofs.Common.{◌≡◌, ap, sym, subst, ◌∙◌}
use Rattle.grb_pass.proofs.Prelude.{IfSome, Table, OwnBelow, LiesReady, Knowing, new_pass}
use Rattle.grb_order.specs.declared.view.View.{View}
use Rattle.grb_pass.proofs.Evaluating.{evaluated_opened}
use Rattle.grb_pass.proofs.pass.Pass.open.Goals as goal

pub invariant_of-result : goal.invariant_of-result
invariant_of-result g c =
    let r : Knowing = c.in_ok-reader.reader in let t : Table = c.open-2.result in let next = c.open-3.result.next in
    let e : r ≡ new_pass c.args.seat.table_id c.args.seat.view = c.in_ok-reader.ensures in
    record {
      step = record {
        evaluated = evaluated_opened r t c.open-2.ensures.table (ap (λ (k : Knowing). k.settled) e);
        made = ap (λ (k : Knowing). k.made.count) e ∙ sym c.open-2.ensures.made;
        ready = subst (λ (k : Knowing). IfSome k.made.ready (LiesReady t)) (sym e) tt;
      };
      own = subst (λ (k : Knowing). OwnBelow next k.view) (sym e) (subst (λ (v : View). OwnBelow next v) (sym c.requires.fresh) tt);
    }
