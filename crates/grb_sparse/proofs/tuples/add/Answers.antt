use Rattle.std.proofs.Common.{◌<◌, ◌≡◌, ◌-◌, ◌∙◌, ℕ, length, ap, sym, set, get_or, subst, arith}
use Rattle.std.specs.Cmp.{nat_cmp_total}
use Rattle.grb_core.specs.declared.value.Value.{Value}
use Rattle.grb_core.specs.Value.{value_domain, IsValueOf}
use Rattle.grb_core.specs.Operator.{value_of_op}
use Rattle.grb_core.specs.Monoid.{monoid_domain, monoid_op}
use Rattle.grb_core.proofs.MonoidLaws.{monoid_laws}
use Rattle.grb_lists.proofs.Places.{holds}
use Rattle.grb_sparse.proofs.Building.{added_at_last}
use Rattle.grb_sparse.proofs.InOrder.{added_new, all_below, ties, domain_is}
use Rattle.grb_sparse.proofs.tuples.add.Goals as goal

-- what is combined is of the domain
pub write-requires-clause-domain : goal.write-requires-clause-domain
write-requires-clause-domain c =
    let items = c.args.built.now.entries in
    let dup = c.args.dup in
    let last = c.ends_at.ensures.yes c.if-ends_at.true in
    let end = c.len-end.result - 1 in
    let d : ℕ × Value = (0, c.args.value) in
    let inside : end < length items = let a = c.len-end.ensures.len in let b = last.0 in omega (arith, a, b) in
    let old : IsValueOf (monoid_domain dup) c.value_at.result = subst (IsValueOf (monoid_domain dup)) (sym (c.value_at.ensures.value d)) (c.requires.of_domain end d inside) in
    let new : IsValueOf (monoid_domain dup) c.args.value = subst (λ e. IsValueOf e c.args.value) c.requires.same_domain c.read.ensures in
    let both = (monoid_laws dup).closed c.value_at.result c.args.value old new in
    ap value_domain (c.apply-combined.ensures ∙ ap (λ o. value_of_op o c.value_at.result c.args.value) c.op.ensures)
    ∙ domain_is (monoid_domain dup) (value_of_op (monoid_op dup) c.value_at.result c.args.value) both
    ∙ sym c.requires.domain

-- the last place is the tuple's
pub returns-then-ends_at-clause-entries : goal.returns-then-ends_at-clause-entries
returns-then-ends_at-clause-entries c =
    let items = c.args.built.now.entries in
    let last = c.ends_at.ensures.yes c.if-ends_at.true in
    let end = c.len-end.result - 1 in
    let d : ℕ × Value = (0, c.args.value) in
    let at : end ≡ length items - 1 = let a = c.len-end.ensures.len in omega (arith, a) in
    let inside : end < length items = let b = last.0 in omega (arith, at, b) in
    let place : (get_or items end d).0 ≡ c.args.place = ap (λ k. (get_or items k d).0) at ∙ last.1 d in
    c.write.ensures.entries d
    ∙ ap (λ w. set items end ((get_or items end d).0, w)) (c.apply-combined.ensures ∙ ap (λ o. value_of_op o c.value_at.result c.args.value) c.op.ensures ∙ ap (λ w. value_of_op (monoid_op c.args.dup) w c.args.value) (c.value_at.ensures.value d))
    ∙ added_at_last nat_cmp_total c.args.dup c.args.place c.args.value items end d (holds c.requires.sorted) inside (ties _ _ place)

pub push_reserved-requires-clause-above : goal.push_reserved-requires-clause-above
push_reserved-requires-clause-above c =
    all_below c.args.place c.args.built.now.entries (holds c.requires.sorted) c.requires.rising (c.ends_at.ensures.no c.if-ends_at.false)

-- the tuple's place is higher than the last
pub returns-clause-entries : goal.returns-clause-entries
returns-clause-entries c =
    c.push_reserved.ensures.entries
    ∙ added_new c.args.dup c.args.place c.args.value c.args.built.now.entries (holds c.requires.sorted) c.requires.rising (c.ends_at.ensures.no c.if-ends_at.false)
