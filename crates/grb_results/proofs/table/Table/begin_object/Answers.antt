use Rattle.std.proofs.Common.{◌-◌, Option, subst, arith}
use Rattle.grb_results.proofs.Prelude.{IsThere, SharedContent}
use Rattle.grb_results.proofs.Rebuilt.{begun}
use Rattle.grb_results.proofs.table.Table.begin_object.Goals as goal

pub returns-in-Ok-Some : goal.returns-in-Ok-Some
returns-in-Ok-Some c =
    let s = c.args.state.now.store in let o = c.args.object in let count = c.last_of-count.result in
    begun s c.args.self.now c.fill.new.self o count (count - 1) c.in-Ok-Some.content c.last_of-count.ensures (omega (arith, c.if-count-eq0.false))
    (subst (λ (q : Option SharedContent). IsThere s o q) c.in-Ok-Some.field-0-is c.in-Ok-Some.ensures.there) c.fill.ensures.table c.fill.ensures.same c.fill.ensures.stays
