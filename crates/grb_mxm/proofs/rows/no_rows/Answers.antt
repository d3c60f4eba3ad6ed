use Rattle.std.proofs.Common.{◌≡◌, ℕ, List, [], sym, subst, ap, refl, arith, ◌∙◌}
use Rattle.grb_lists.specs.Cells.{IsFlat}
use Rattle.grb_ewise.specs.Rows.{flat_entries}
use Rattle.grb_core.specs.declared.value.Value.{Value}
use Rattle.grb_mxm.specs.Rows.{AreBelow}
use Rattle.grb_mxm.proofs.rows.no_rows.Goals as goal

flat_nothing : IsFlat [] [] []
flat_nothing = record {
  same = refl;
  some = λ h. absurd (omega (arith, h));
  first = refl;
  rise = λ i j l h. absurd (omega (arith, h));
  rows_rise = λ i j l h. absurd (omega (arith, h));
  inside = λ i l. absurd (omega (arith, l));
  fit = λ i l. absurd (omega (arith, l));
}

nothing : {V : Type 0} (upto : ℕ) (rows starts columns : List ℕ) (values : List V) → rows ≡ [] → starts ≡ [] → columns ≡ [] → values ≡ [] → AreBelow upto rows starts columns values
nothing upto rows starts columns values r s c v =
    subst (λ (x : List ℕ). AreBelow upto x starts columns values) (sym r)
    (subst (λ (x : List ℕ). AreBelow upto [] x columns values) (sym s)
    (subst (λ (x : List ℕ). AreBelow upto [] [] x values) (sym c)
    (subst (λ (x : List _). AreBelow upto [] [] [] x) (sym v)
    (record { flat = flat_nothing; same = refl; below = λ n l. absurd (omega (arith, l)) }))))

none : {V : Type 0} (tv : V → Value) (rows starts columns : List ℕ) (values : List V) → rows ≡ [] → starts ≡ [] → columns ≡ [] → values ≡ [] → flat_entries tv rows starts columns values ≡ []
none tv rows starts columns values r s c v =
    ap (λ (x : List ℕ). flat_entries tv x starts columns values) r ∙ ap (λ (x : List ℕ). flat_entries tv [] x columns values) s ∙ ap (λ (x : List ℕ). flat_entries tv [] [] x values) c ∙ ap (flat_entries tv [] [] []) v

pub returns-clause-lists : goal.returns-clause-lists
returns-clause-lists g c = λ upto. nothing upto _ _ _ _ c.new.ensures.items c.new-2.ensures.items c.new-3.ensures.items c.new-4.ensures.items

pub returns-clause-entries : goal.returns-clause-entries
returns-clause-entries g c = none g.T.Scalar.value _ _ _ _ c.new.ensures.items c.new-2.ensures.items c.new-3.ensures.items c.new-4.ensures.items
