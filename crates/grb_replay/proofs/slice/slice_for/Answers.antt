use Prim.{search}
use Rattle.std.proofs.Common.{◌≡◌, ◌+◌, ◌-◌, ℕ, suc, length, get_or, map, List, Option, sym, subst, ◌∙◌, arith, rules, ◌<◌, ◌≤◌, set}
use Rattle.grb_replay.proofs.Prelude.{length-map, Call, Object, entries, is_wanted}
use lib.ListN.{length-set}
use Rattle.grb_replay.proofs.Lists.{lent_call}
use Rattle.grb_replay.proofs.Walked.{IsWalked, walk_begins, walk_goes, walk_count}
use Rattle.grb_replay.proofs.slice.slice_for.Goals as goal

pub back-init : goal.back-init
back-init c =
    let cs : List Call = map (λ a. a.now) c.args.calls.now in let ts : List (Option Object) = c.args.targets.now in
    let count : length cs ≡ length c.args.calls.now = length-map c.args.calls.now (λ a. a.now) in
    let size : length c.in_ok-chosen.chosen.items ≡ length c.args.calls.now = search rules in
    record {
      within = omega arith;
      size = size;
      few = omega arith;
      walked = walk_begins (is_wanted c.args.wanted) ts cs c.in_ok-chosen.chosen.items (length c.args.calls.now) (sym count) (c.requires.targets ∙ sym count) size;
    }

pub back-preserved : goal.back-preserved
back-preserved c =
    let cs : List Call = map (λ a. a.now) c.args.calls.now in let ts : List (Option Object) = c.args.targets.now in
    let at : ℕ = c.back.at - 1 in let b = c.in_ok-is_chosen.is_chosen in
    let count : length cs ≡ length c.args.calls.now = length-map c.args.calls.now (λ a. a.now) in
    let near : at < length cs = omega (arith, count, c.back.invariant.within, c.back-test.true) in
    let room : c.back.count + suc at ≤ length c.args.calls.now = omega (arith, c.back.invariant.few, c.back-test.true) in
    let call : Call = c.index-calls-at.result.now in
    let lent : get_or cs at call ≡ call = lent_call (λ a. a.now) c.args.calls.now at c.index-calls-at.result c.index-calls-at.is in
    record {
      within = omega (arith, c.back.invariant.within);
      size = length-set c.back.chosen.items at b ∙ c.back.invariant.size;
      few = subst (λ n. n + at ≤ length c.args.calls.now) (sym c.counted-count.ensures) (walk_count at (length c.args.calls.now) c.back.count b room);
      walked = subst (λ n. IsWalked (is_wanted c.args.wanted) (entries ts cs) at (set c.back.chosen.items at b) n (is_wanted c.go_back.new.self)) (sym c.counted-count.ensures)
          (walk_goes (is_wanted c.args.wanted) (is_wanted c.back.wanted) (is_wanted c.go_back.new.self) ts cs at call c.back.chosen.items c.back.count b
          (c.requires.targets ∙ sym count) near (c.back.invariant.size ∙ sym count) lent
          (subst (λ n. IsWalked (is_wanted c.args.wanted) (entries ts cs) n c.back.chosen.items c.back.count (is_wanted c.back.wanted)) (omega (arith, c.back-test.true)) c.back.invariant.walked)
          c.in_ok-is_chosen.ensures.chosen c.in_ok-is_chosen.ensures.wanted);
    }
