use Rattle.std.proofs.Common.{◌≡◌, ◌-◌, ℕ, suc, List, drop, sym, subst, ◌∙◌, arith}
use Rattle.grb_call.specs.declared.ids.Object.{Object}
use Rattle.grb_states.specs.Objects.{AreAllIn, IsAssembledIn}
use Rattle.grb_operations.proofs.Assembled.{one_further}
use Rattle.grb_operations.proofs.operations.assemble_each.Goals as goal

pub each-preserved : goal.each-preserved
each-preserved c =
    let os : List Object = c.args.read.now in let at : ℕ = c.each.at - 1 in
    let next : suc at ≡ c.each.at = omega (arith, c.each-test.true) in
    let made = c.in_ok-assemble.ensures in
    record {
      within = omega (arith, c.each.invariant.within);
      same = made.same ∙ c.each.invariant.same;
      assembled = one_further (IsAssembledIn c.each.objects) (IsAssembledIn c.assemble.new.self) made.kept os at c.object_at.result c.object_at.ensures made.assembled
          (subst (λ (n : ℕ). AreAllIn c.each.objects (drop n os)) (sym next) c.each.invariant.assembled);
      places = made.places ∙ c.each.invariant.places;
    }
