use Rattle.std.proofs.Common.{◌<◌, ◌+◌, ◌≡◌, ℕ, suc, arith, length, List, subst}
use Rattle.std.proofs.lemmas.List.Elements.{All-push, All-same}
use Rattle.grb_results.proofs.Prelude.{Call, IsToMake, LinksTo}
use Rattle.grb_results.proofs.Frame.{link_leads}
use Rattle.grb_results.proofs.table.Table.go_back.Goals as goal

pub back-smaller : goal.back-smaller
back-smaller g c =
    let cs : List Call = g.C.CallList.calls c.args.source.now c.args.calls.now in let t = c.args.self.now in
    let near : c.back.first < length t.results.items = omega (arith, c.back.invariant.first.near, c.requires.all) in
    let next : c.in-Some.before + 1 ≡ suc c.in-Some.before = omega arith in
    (link_leads cs t c.requires.table c.back.first near c.in-Some.before (subst (λ (m : ℕ). LinksTo t c.back.first m) next c.in-Some.ensures)).0

pub back-preserved : goal.back-preserved
back-preserved g c =
    let cs : List Call = g.C.CallList.calls c.args.source.now c.args.calls.now in let t = c.args.self.now in let n : ℕ = length cs in
    let near : c.back.first < length t.results.items = omega (arith, c.back.invariant.first.near, c.requires.all) in
    let next : c.in-Some.before + 1 ≡ suc c.in-Some.before = omega arith in
    let l = link_leads cs t c.requires.table c.back.first near c.in-Some.before (subst (λ (m : ℕ). LinksTo t c.back.first m) next c.in-Some.ensures) in
    record {
      stack = All-same (IsToMake cs n) c.push.new.self.items _ c.in_ok-push.ensures.items (All-push (IsToMake cs n) c.back.stack.items c.back.first c.back.invariant.stack c.back.invariant.first);
      first = record { near = omega (arith, l.0, c.back.invariant.first.near); accepted = l.1 };
    }
