use Rattle.std.proofs.Common.{◌<◌, ◌≤◌, ◌/◌, ℕ, arith, ap, sym, subst, ◌∙◌, length, get_or, inl, inr}
use Rattle.std.specs.Ordering.{nat_cmp}
use Rattle.std.specs.FinMap.{find}
use Rattle.std.proofs.lemmas.Bool.{cases_eq}
use Rattle.std.proofs.lemmas.List.Elements.{recursion_from_All}
use Rattle.grb_core.specs.Results.{row_of}
use Rattle.grb_lists.specs.Cells.{decoded}
use Rattle.grb_sums.specs.Naming.{name_in}
use Rattle.grb_sums.specs.Reach.{IsOutside}
use Rattle.grb_mxm.proofs.Names.{places-rise}
use Rattle.grb_sums.proofs.Reach.{find-none}
use Rattle.grb_sums.proofs.Renamed.{find-renamed}
use Rattle.grb_mxm.proofs.whole_rows.reached.Goals as goal

-- outside of more is outside of less
fewer : (from upto from2 upto2 h : ℕ) → from2 ≤ from → upto ≤ upto2 → IsOutside from2 upto2 h → IsOutside from upto h
fewer from upto from2 upto2 h f u (inl before) = inl (omega (arith, f, before))
fewer from upto from2 upto2 h f u (inr past) = inr (omega (arith, u, past))

not_inside : (from upto h : ℕ) → from ≤ h → h < upto → IsOutside from upto h → ⊥
not_inside from upto h f u (inl before) = omega (arith, f, before)
not_inside from upto h f u (inr past) = omega (arith, u, past)

pub widened-wider-requires : goal.widened-wider-requires
widened-wider-requires g c =
    let row = c.row-row.result in
    record { rising = places-rise g.T.Scalar.value row.indices.now row.values.now row.same row.rising }

pub entries-preserved : goal.entries-preserved
entries-preserved g c =
    let tv = g.T.Scalar.value in
    let b = c.args.b.now in
    let names = b.names.now in
    let row = c.row-row.result in
    let places = row.indices.now in
    let held = c.entries.invariant in
    let wider = c.widened-wider.ensures in
    let from = c.widened-wider.result.0 in
    let upto = c.widened-wider.result.1 in
    let below = recursion_from_All (λ r. r < length names) places c.row-row.ensures.in_range in
    record {
      within = wider.within c.args.tops held.within (λ k d l. let r = c.row-row.ensures.in_range k d l in omega (arith, r, c.requires.enough));
      none = λ k p l inside outside. elim (cases_eq k c.entries.i) [
        | inr n ↦ held.none k p (omega (arith, l, n)) inside (fewer c.entries.from c.entries.upto from upto (p / 4096) wider.from wider.upto outside)
        | inl e ↦
            ap (λ j. find nat_cmp (name_in names p) (row_of (get_or c.args.columns.now j 0) (decoded b.lists.now.entries))) e
            ∙ ap (find nat_cmp (name_in names p)) (sym c.row-row.ensures.entries)
            ∙ sym (find-renamed (length names) (name_in names) b.rising tv p places row.values.now inside below)
            ∙ find-none tv p places row.values.now (λ j m is.
            not_inside from upto (p / 4096) (subst (λ r. from ≤ r / 4096) is (wider.after j m)) (subst (λ r. r / 4096 < upto) is (wider.before j m)) outside)
      ];
    }

pub returns-then-tops-le-LOOKED_AT-clause-none : goal.returns-then-tops-le-LOOKED_AT-clause-none
returns-then-tops-le-LOOKED_AT-clause-none g c k p l inside outside = absurd (not_inside 0 c.args.tops (p / 4096) (omega arith) (omega (arith, inside, c.requires.enough)) outside)

pub returns-then-b-eq0-clause-none : goal.returns-then-b-eq0-clause-none
returns-then-b-eq0-clause-none g c k p l inside outside = absurd (not_inside 0 c.args.tops (p / 4096) (omega arith) (omega (arith, inside, c.requires.enough)) outside)

pub returns-clause-none : goal.returns-clause-none
returns-clause-none g c k p l inside outside = c.entries.invariant.none k p (omega (arith, l)) inside (fewer c.entries.from c.entries.upto c.min.result c.entries.upto (p / 4096) (omega arith) (omega arith) outside)
