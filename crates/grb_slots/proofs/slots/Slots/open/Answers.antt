use Rattle.std.proofs.Common.{ℕ, ◌≡◌, ◌∙◌, List, Option, Some, length, map, replicate, ap, subst, sym}
use Rattle.atomic_table.specs.Table.{opening}
use Rattle.grb_slots.specs.Row.{AllFit}
use Rattle.grb_slots.specs.Rule.{IsKept, no_visit}
use Rattle.grb_slots.proofs.Keeping.{begins}
use Rattle.grb_slots.proofs.slots.Slots.open.Goals as goal

pub new-requires : goal.new-requires
new-requires g c =
    let X = g.row.X.Denot in let tag = c.of.result.value in let values : List X = c.args.values.items in let key = c.of-2.result.value.items in
    let first : key ≡ values = ap (λ v. v.items) c.of-2.ensures in
    let count : length values ≡ length key = ap length (sym first) in
    let words : c.deref.result.now ≡ replicate (length key) 0 = c.deref.ensures.value ∙ c.in_ok-words.ensures.items_if_clones_equal (λ y e. e) ∙ ap (λ (n : ℕ). replicate n 0) (c.len.ensures ∙ c.args.values.ok.0 ∙ count) in
    let places : c.in_ok-filled.field-0.items ≡ map Some key = c.in_ok-filled.ensures ∙ ap (map Some) (sym first) in
    let fit : AllFit (g.X.FitsAt.fits tag) key = subst (λ t. AllFit (g.X.FitsAt.fits t) key) (sym c.of.ensures) (subst (AllFit (g.X.FitsAt.fits c.args.tag.now)) (sym first) c.requires.fit) in
    subst (λ (l : List (Option X)). IsKept (g.X.FitsAt.fits tag) key (opening c.deref.result.now l (no_visit tag))) (sym places) (begins (g.X.FitsAt.fits tag) key _ tag words fit)
