use Rattle.std.proofs.Common.{sym, ap, refl, ◌≡◌, ◌∙◌, ◌+◌, ◌-◌, length, get_or, false, rules}
use Rattle.grb_market.proofs.Prelude.{◌&&◌, comes_before}
use Rattle.grb_core.specs.declared.value.Value.TheVariants as value
use Rattle.grb_market.proofs.ApartLemmas.{place_of, rising_pushed}
use Rattle.grb_market.proofs.gathered.is_rising_with.Goals as goal

pub returns-then-rising : goal.returns-then-rising
returns-then-rising c = λ v.
    let ts = c.args.tuples.now in
    let long : length ts ≡ (length ts - 1) + 1 = search rules in
    let b = c.comes_before.result in
    sym (rising_pushed ts (length ts - 1) _ c.args.cell v b long (sym c.comes_before.ensures) ∙ ap (λ r. r && b) (sym c.requires ∙ c.if-rising.true))

pub returns-else-rising : goal.returns-else-rising
returns-else-rising c = λ v.
    let ts = c.args.tuples.now in
    let long : length ts ≡ (length ts - 1) + 1 = search rules in
    c.if-rising.false
    ∙ sym (rising_pushed ts (length ts - 1) (0, 0, value.Bool false) c.args.cell v _ long refl ∙ ap (λ r. r && comes_before (place_of (get_or ts (length ts - 1) (0, 0, value.Bool false))) c.args.cell) (sym c.requires ∙ c.if-rising.false))
