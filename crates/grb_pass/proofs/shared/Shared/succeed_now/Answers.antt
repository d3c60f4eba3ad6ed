use Rattle.std.proofs.Common.{◌≡◌, IfErr, IfOk, OnOk, Result, Ok, Err, sym, ap, subst}
use Rattle.grb_call.specs.History.{store_of}
use Rattle.grb_records.specs.Token.{HasRows}
use Rattle.grb_pass.specs.Chosen.{IsNoSuccessor, NamesLive, room_beside}
use Rattle.grb_pass.proofs.Prelude.{AreBegun, Knowing, known, pass_same, room_of}
use Rattle.grb_pass.proofs.Looking.{looks_alike, now_alike}
use Rattle.grb_pass.proofs.shared.Shared.succeed_now.Goals as goal

if_ok : {A E : Type 0} {P : Type 0} (r : Result A E) → P → OnOk r P
if_ok (Ok x) p = p
if_ok (Err e) p = tt

pub returns-clause-pass : goal.returns-clause-pass
returns-clause-pass g c = pass_same c.args.self.now c.look.new.pass c.succeed.new.pass (ap (λ (p : Knowing). p.order) c.succeed.ensures.same) (ap (λ (p : Knowing). p.shown) c.succeed.ensures.same) c.look.ensures.pass

pub returns-clause-looks : goal.returns-clause-looks
returns-clause-looks g c = looks_alike (room_of c.args.self.now.order) c.args.pass.now c.look.new.pass c.succeed.new.pass c.succeed.ensures.same c.look.ensures.looks

pub returns-clause-now : goal.returns-clause-now
returns-clause-now g c = if_ok c.succeed.result (now_alike (room_of c.args.self.now.order) c.args.pass.now c.look.new.pass c.succeed.new.pass c.succeed.ensures.same c.in-Ok.ensures.now)

pub returns-clause-room : goal.returns-clause-room
returns-clause-room g c = subst (λ (p : Knowing). IfOk c.succeed.result (λ opened. room_of opened.0.order ≡ room_beside (store_of (known p)) c.args.room)) (sym c.succeed.ensures.same) c.succeed.ensures.room

pub returns-clause-records : goal.returns-clause-records
returns-clause-records g c = subst (λ (p : Knowing). IfOk c.succeed.result (λ opened. HasRows c.args.passes (room_beside (store_of (known p)) c.args.room) opened.0.records)) (sym c.succeed.ensures.same) c.succeed.ensures.records

pub returns-clause-begun : goal.returns-clause-begun
returns-clause-begun g c = subst (λ (p : Knowing). IfOk c.succeed.result (λ opened. AreBegun opened.0 (store_of (known p)) c.args.passes opened.1.items)) (sym c.succeed.ensures.same) c.succeed.ensures.begun

pub returns-clause-refused : goal.returns-clause-refused
returns-clause-refused g c = subst (λ (p : Knowing). IfErr c.succeed.result (IsNoSuccessor c.args.room c.args.passes (store_of (known p)))) (sym c.succeed.ensures.same) c.succeed.ensures.refused

pub returns-clause-named : goal.returns-clause-named
returns-clause-named g c = subst (λ (p : Knowing). IfErr c.succeed.result (NamesLive (store_of (known p)))) (sym c.succeed.ensures.same) c.succeed.ensures.named
