use Rattle.std.proofs.Common.{◌≡◌, ◌-◌, ◌||◌, ℕ, suc, List, drop, sym, subst, arith}
use Rattle.grb_replay.proofs.Prelude.{Object, is_among, is_wanted}
use Rattle.grb_replay.proofs.Places.{keeps_further, marks_next}
use Rattle.grb_replay.proofs.wanted.Wanted.mark_all.Goals as goal

pub marks-preserved : goal.marks-preserved
marks-preserved c =
    let os : List Object = c.args.objects.now in let at : ℕ = c.marks.at - 1 in
    let next : suc at ≡ c.marks.at = omega (arith, c.marks-test.true) in
    record {
      within = omega (arith, c.marks.invariant.within);
      marks = marks_next c.args.self.now c.marks.self c.put.new.self os at c.object_at.result c.object_at.ensures
          (subst (λ (n : ℕ). (p : Object) → is_wanted c.marks.self p ≡ (is_among (drop n os) p || is_wanted c.args.self.now p)) (sym next) c.marks.invariant.marks) c.put.ensures.marks;
      kept = keeps_further c.args.self.now c.marks.self c.put.new.self c.marks.invariant.kept c.put.ensures.kept;
    }
