use Rattle.std.proofs.Common.{◌≡◌, length, sym, subst, arith}
use Rattle.grb_pass.proofs.Prelude.{room_of, Knowing, OwnBelow, own_tried}
use Rattle.grb_pass.proofs.Evaluating.{in_step_tried}
use Rattle.grb_pass.proofs.pass.Pass.enter.Goals as goal

pub invariant_of-self : goal.invariant_of-self
invariant_of-self g c =
    let all = subst (λ (p : Knowing). length p.shown ≡ length p.view.words) (sym c.self.view_is) c.requires.shown in
    let room = room_of c.args.order.now in let p = c.self.inside in
    let new = c.enter-back.new.self in let is = c.enter-back.ensures in let token = c.args.token in
    let fresh : OwnBelow token.index p.reader.view = subst (λ (p : Knowing). OwnBelow token.index p.view) (sym c.self.view_is) c.requires.fresh in
    record {
      step = in_step_tried room p.reader new token p.evaluated c.enter-back.result is.settled is.made is.enters all c.self.invariant.step;
      own = own_tried room p.reader new token c.enter-back.result c.spend.new.self.next is.enters c.requires.index (omega (arith, c.index-index.ensures, c.spend.ensures.later)) fresh;
    }
