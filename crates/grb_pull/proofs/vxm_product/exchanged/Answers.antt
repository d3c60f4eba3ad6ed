use Rattle.std.proofs.Common.{◌≡◌, ◌∙◌, ap, subst, sym}
use Rattle.std.specs.Prelude.{IfSome, Option}
use Rattle.grb_core.specs.Semiring.{SemiringParts}
use Rattle.grb_pull.specs.Exchanged.{IsExchanged, exchanged_op}
use Rattle.grb_pull.proofs.Exchanges.{semiring_exchanged}
use Rattle.grb_pull.proofs.vxm_product.exchanged.Goals as goal

pub returns-in-Some : goal.returns-in-Some
returns-in-Some c =
    let s = c.args.semiring in
    subst (λ (r : Option SemiringParts). IfSome r (λ k. (k.monoid ≡ s.monoid) × IsExchanged k.op s.op)) (sym c.ok.ensures.value)
    (semiring_exchanged s c.monoid.result c.in-Some.other c.new.result c.monoid.ensures (sym (ap exchanged_op c.op.ensures) ∙ sym c.exchanged_op.ensures ∙ c.in-Some.is) c.new.ensures.made)
