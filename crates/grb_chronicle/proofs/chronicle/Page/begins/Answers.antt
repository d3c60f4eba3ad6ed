use Rattle.std.proofs.Common.{◌≤◌, ◌<◌, MatchBool, ap, subst, arith, List}
use Rattle.std.proofs.lemmas.Bool.Decides.{nat_tests}
use mathlib.Core.List.{IsPrefix}
use lib.Dec.{leb}
use Rattle.grb_chronicle.specs.Linked.{IsLonger, Reached}
use Rattle.grb_chronicle.proofs.Beginnings.{either_begins}
use Rattle.grb_chronicle.proofs.chronicle.Page.begins.Goals as goal

pub returns : goal.returns
returns g c =
    let mine = c.self.inside.seen.log in let others = c.other.inside.seen.log in let both = c.learn.new.self.log in
    let b = leb c.self.inside.number c.other.inside.number in
    let this : IsPrefix mine both = subst (λ (l : List g.row.E.Denot). IsPrefix l both) (ap (λ s. s.log) c.again-both.ensures) c.learn.ensures.2 in
    let inside : MatchBool b (IsPrefix mine others) (IsLonger others mine) = either_begins mine others both b
    (λ e. let le : c.self.inside.number ≤ c.other.inside.number = grind (arith, nat_tests) in omega (arith, c.self.invariant.0, c.other.invariant.0, le))
    (λ e. let lt : c.other.inside.number < c.self.inside.number = grind (arith, nat_tests) in omega (arith, c.self.invariant.0, c.other.invariant.0, lt))
    this c.learn.ensures.3 in
    subst (λ (p : Reached g.row.E.Denot). MatchBool b (IsPrefix p.told c.args.other.now.told) (IsLonger c.args.other.now.told p.told)) c.self.view_is
    (subst (λ (p : Reached g.row.E.Denot). MatchBool b (IsPrefix mine p.told) (IsLonger p.told mine)) c.other.view_is inside)
