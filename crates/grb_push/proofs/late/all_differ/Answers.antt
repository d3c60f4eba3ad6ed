use Rattle.std.proofs.Common.{◌≡◌, Some, inl, inr, arith, ap, sym, ◌∙◌}
use Rattle.std.proofs.lemmas.Bool.{cases_eq}
use Rattle.grb_core.specs.declared.value.Value.{Value}
use Rattle.grb_core.specs.Monoid.{identity_of}
use Rattle.grb_sums.specs.Bits.{value_at}
use Rattle.grb_sums.proofs.SumsByColumn.{value-read}
use Rattle.grb_push.proofs.late.all_differ.Goals as goal

same_some : (v w : Value) → Some v ≡ Some w → v ≡ w
same_some v w e = cc

pub sums-preserved : goal.sums-preserved
sums-preserved g c t q l e =
    let tv = g.T.Scalar.value in
    let x = c.index-sums-p.result in
    let there : Some (tv x) ≡ value_at tv c.args.sums.now c.sums.p = value-read tv c.args.sums.now c.sums.p x c.sums-test.true c.index-sums-p.is in
    elim (cases_eq q c.sums.p) [
      | inl s ↦ c.differs_too-differ.ensures.here t (same_some (tv x) (identity_of g.M.MonoidOver.monoid) (there ∙ ap (value_at tv c.args.sums.now) (sym s) ∙ e))
      | inr n ↦ c.sums.invariant (c.differs_too-differ.ensures.before t) q (omega (arith, l, n)) e
    ]
