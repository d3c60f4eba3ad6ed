use Rattle.std.proofs.Common.{◌≡◌, ◌∙◌, length, sym, ap, refl, true, false}
use Rattle.grb_rows.specs.Held.{HeldView}
use Rattle.grb_rows.proofs.Holding.{stored-settled, view-fresh, held-fresh}
use Rattle.grb_rows.proofs.held.Held.assemble.Goals as goal

pub invariant_of-self : goal.invariant_of-self
invariant_of-self c =
    let i = c.self.inside in
    let all = stored-settled i.base i.pending.changes (c.is_empty.ensures.0 c.if-is_empty.true) in
    held-fresh i.base c.new.result c.new.ensures c.self.invariant.laid.ordered i.nvals (c.self.invariant.counted ∙ ap length all) true

pub returns-then-is_empty-clause-ok : goal.returns-then-is_empty-clause-ok
returns-then-is_empty-clause-ok c =
    let i = c.self.inside in
    let all = stored-settled i.base i.pending.changes (c.is_empty.ensures.0 c.if-is_empty.true) in
    let same = ap (λ (v : HeldView). v.domain) c.self.view_is in
    let is = sym all ∙ ap (λ (v : HeldView). v.entries) c.self.view_is in
    view-fresh i.base c.new.result c.new.ensures true
    ∙ (λ t. record { entries = is t; domain = same t; assembled = true; reserved = 0; pending = 0 })

pub returns-then-is_empty-clause-done : goal.returns-then-is_empty-clause-done
returns-then-is_empty-clause-done c = λ _. refl

-- where it is assembled, nothing waits
pub returns-in_err-rows-clause-done : goal.returns-in_err-rows-clause-done
returns-in_err-rows-clause-done c assembled =
    let i = c.self.inside in
    let is = ap (λ (v : HeldView). v.assembled) c.self.view_is ∙ assembled in
    let settled : c.is_empty.result ≡ true = c.is_empty.ensures.1 (c.self.invariant.settled is) in
    let waits : c.is_empty.result ≡ false = c.if-is_empty.false in
    absurd (differs (sym waits ∙ settled))
  where
    differs : ◌≡◌ false true → ⊥
    differs e = cc
