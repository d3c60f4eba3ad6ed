use Rattle.std.proofs.Common.{◌≡◌, ap, sym, subst, ◌∙◌}
use Rattle.grb_pass.proofs.Prelude.{IfSome, calls_of, IsTable, Table, OwnBelow, LiesReady, Knowing, Making, known, none_made}
use Rattle.grb_pass.proofs.Evaluating.{evaluated_released, table_begun}
use Rattle.grb_pass.proofs.pass.Pass.release.Goals as goal

pub invariant_of-self : goal.invariant_of-self
invariant_of-self g c =
    let p : Knowing = c.self.inside.reader in let t : Table = c.self.inside.evaluated in let q : Knowing = c.unsettle.new.self in let b : Table = c.begin.new.self in let u : Table = c.release.new.self in
    let is = c.self.invariant.step.evaluated in
    let e : q ≡ record p { settled = 0; made = none_made } = c.unsettle.ensures ∙ ap (λ (k : Knowing). record k { settled = 0 }) c.note_made.ensures in
    let same : q ≡ record p { settled = 0; made = q.made } = e ∙ ap (λ (m : Making). record p { settled = 0; made = m }) (sym (ap (λ (k : Knowing). k.made) e)) in
    let begun : IsTable (calls_of (known p)) b = subst (λ (x : Table). IsTable (calls_of (known p)) x) (sym c.begin.ensures.begun) (table_begun (calls_of (known p)) t is.table) in
    record {
      step = record {
        evaluated = evaluated_released p q u same (c.release.ensures.table (calls_of (known p)) begun);
        made = ap (λ (k : Knowing). k.made.count) e ∙ sym (c.release.ensures.same.made ∙ ap (λ (x : Table). x.made) c.begin.ensures.begun);
        ready = subst (λ (k : Knowing). IfSome k.made.ready (LiesReady u)) (sym e) tt;
      };
      own = subst (λ (k : Knowing). OwnBelow c.self.inside.row.next k.view) (sym e) c.self.invariant.own;
    }
