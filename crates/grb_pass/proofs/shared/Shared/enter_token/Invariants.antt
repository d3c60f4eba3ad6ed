use Rattle.std.proofs.Common.{◌≡◌, ◌<◌, ◌≤◌, ◌-◌, ◌^◌, false, length}
use Rattle.grb_order.specs.declared.limits.TheConstants.{MOST_WORDS}
use Rattle.grb_pass.proofs.Prelude.{room_of, IsOf, is_build, IsPassOf, Counts, Learns, OwnBelow, AreLost}
use Rattle.grb_reader.specs.Learning.{IsReady}
use Rattle.grb_pass.proofs.shared.Shared.enter_token.Given as goal

abbrev pub invariant-tries : goal.invariant-tries
invariant-tries g l = record {
  pass : IsPassOf l.self l.pass;
  learns : Learns l.fn.pass l.pass;
  of : IsOf l.self.records l.token;
  own : l.token.pass ≡ l.pass.view.number;
  index : l.token.index < 2 ^ 48;
  fresh : OwnBelow l.token.index l.pass.view;
  call : l.token.call ≡ l.fn.token.call;
  ready : IsReady (room_of l.self.order) l.pass l.fn.token.call;
  small : room_of l.self.order ≤ MOST_WORDS;
  counts : Counts l.fn.pass l.pass;
  made : is_build l.fn.token.call ≡ false → l.pass.made ≡ l.fn.pass.made;
  lost : AreLost l.fn.pass l.pass;
}

abbrev pub decreases-tries : goal.decreases-tries
decreases-tries g l = room_of l.self.order - length l.pass.view.words
