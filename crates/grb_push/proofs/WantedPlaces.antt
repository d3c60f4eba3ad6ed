-- Which places are wanted, and that those which are not change nothing that is written.
use Rattle.std.proofs.Common.{◌≡◌, ℕ, zero, suc, ◌<◌, ◌≤◌, Bool, true, false, cond, List, [], ◌∷◌, length, get_or, refl, sym, ap, subst, ◌∙◌, arith, inl, inr}
use Rattle.std.specs.Prelude.{◌&&◌, not, map, Option, Some, None, is_some}
use Rattle.std.specs.Ordering.{nat_cmp, eq_by_cmp}
use Rattle.std.specs.FinMap.{find}
use Rattle.std.proofs.lemmas.List.Elements.{All-weaker, filter_passes}
use Rattle.grb_core.specs.declared.value.Value.{Value}
use Rattle.grb_core.specs.declared.operator.BinaryOp.{BinaryOp}
use Rattle.grb_core.specs.Entries.{VectorEntries, restricted}
use Rattle.grb_core.specs.Mask.{selects, is_inside}
use Rattle.grb_core.specs.Written.{written}
use Rattle.grb_core.specs.declared.descriptor.Descriptor.{Descriptor}
use Rattle.grb_ewise.specs.Premises.{LieInside}
use Rattle.grb_ewise.specs.Ranks.{Rise}
use Rattle.grb_push.specs.Wanted.{is_among, is_wanted, IsMade}
use Rattle.grb_push.proofs.Bounded.{among_places, inside_among, written-restricted}
use Rattle.grb_push.proofs.Pushing.{stands_nowhere}
use Rattle.grb_push.proofs.Searching.{same_index, other_index}

among_there : (names : List ℕ) (i q : ℕ) → i < length names → get_or names i 0 ≡ q → is_among q names ≡ true
among_there [] i q l e = absurd (omega arith)
among_there (k ∷ names) zero q l e = ap (λ b. cond b true (is_among q names)) (same_index q k e)
among_there (k ∷ names) (suc i) q l e =
    ap (cond (eq_by_cmp nat_cmp q k) true) (among_there names i q (omega arith) e) ∙ elim (eq_by_cmp nat_cmp q k) as (λ b. cond b true true ≡ true) [ true ↦ refl | false ↦ refl ]

among_nowhere : (names : List ℕ) (q : ℕ) → ((i : ℕ) → i < length names → get_or names i 0 ≡ q → ⊥) → is_among q names ≡ false
among_nowhere [] q apart = refl
among_nowhere (k ∷ names) q apart =
    ap (λ b. cond b true (is_among q names)) (other_index q k (apart 0 (omega arith))) ∙ among_nowhere names q (λ i l e. apart (suc i) (omega arith) e)

-- a number stands among others, or not, by what stands where those that are not below it begin
pub stands : (names : List ℕ) (at q : ℕ) (b : Bool) → Rise names → ((i : ℕ) → i < at → get_or names i 0 < q) → ((i : ℕ) → at ≤ i → i < length names → q ≤ get_or names i 0)
    → (b ≡ true → (at < length names) × (get_or names at 0 ≡ q)) → (b ≡ false → at < length names → get_or names at 0 ≡ q → ⊥) → b ≡ is_among q names
stands names at q true rise below above here apart = sym (among_there names at q (here refl).0 (here refl).1)
stands names at q false rise below above here apart = sym (among_nowhere names q (stands_nowhere names names at q refl rise below above (apart refl)))

-- after the last number
pub past_all : (among : Bool) (names : List ℕ) (from q : ℕ) → length names ≤ from → ((i : ℕ) → i < from → get_or names i 0 < q) → not among ≡ is_wanted among names q
past_all among names from q past below =
    elim among as (λ b. not b ≡ cond b (is_among q names) (not (is_among q names))) [ true ↦ sym none | false ↦ ap not (sym none) ]
  where
    none : is_among q names ≡ false
    none = among_nowhere names q (λ i l e. let b = below i (omega (arith, l, past)) in omega (arith, b, e))

structure_selects : (w : Option Value) → selects true w ≡ is_some w
structure_selects None = refl
structure_selects (Some v) = refl

-- where something is written a place is wanted
pub wanted_covers : (structure comp : Bool) (m : VectorEntries) (names : List ℕ) → names ≡ map (λ e. e.0) m → (comp && not structure) ≡ false
    → (q : ℕ) → is_inside nat_cmp structure comp (Some m) q ≡ true → is_wanted (not comp) names q ≡ true
wanted_covers structure false m names same plain q e = inside_among structure m names same q e
wanted_covers true true m names same plain q e =
    ap not (ap (is_among q) same ∙ sym (among_places q m) ∙ sym (structure_selects (find nat_cmp q m))) ∙ e
wanted_covers false true m names same plain q e = absurd (never plain)
  where
    never : true ≡ false → ⊥
    never n = cc

-- by a structural mask a place is wanted only there
pub wanted_inside : (structure comp : Bool) (m : VectorEntries) (names : List ℕ) → names ≡ map (λ e. e.0) m → structure ≡ true
    → (q : ℕ) → is_wanted (not comp) names q ≡ true → is_inside nat_cmp structure comp (Some m) q ≡ true
wanted_inside true false m names same plain q e = structure_selects (find nat_cmp q m) ∙ among_places q m ∙ ap (is_among q) (sym same) ∙ e
wanted_inside true true m names same plain q e = ap not (structure_selects (find nat_cmp q m) ∙ among_places q m ∙ ap (is_among q) (sym same)) ∙ e
wanted_inside false comp m names same plain q e = cc

-- beside no number stands every place, and among none no place
pub wanted_none : (among : Bool) (q : ℕ) → is_wanted among [] q ≡ not among
wanted_none true q = refl
wanted_none false q = refl

module _ (whole : Bool) (wanted : ℕ → Bool) (total made : VectorEntries) where
  pub whole_made : whole ≡ true → made ≡ total → IsMade whole wanted total made
  whole_made t e = subst (λ b. IsMade b wanted total made) (sym t) (inl e)

  pub wanted_made : whole ≡ false → made ≡ restricted wanted total → IsMade whole wanted total made
  wanted_made t e = subst (λ b. IsMade b wanted total made) (sym t) e

-- what is made is written as the whole result
pub written-made : (inside : ℕ → Bool) (replace : Bool) (accum : Option BinaryOp) (c total made : VectorEntries) (whole : Bool) (wanted : ℕ → Bool) → ((q : ℕ) → inside q ≡ true → wanted q ≡ true)
    → IsMade whole wanted total made → written nat_cmp inside replace accum c made ≡ written nat_cmp inside replace accum c total
written-made inside replace accum c total made true wanted covers (inl e) = ap (written nat_cmp inside replace accum c) e
written-made inside replace accum c total made true wanted covers (inr e) = ap (written nat_cmp inside replace accum c) e ∙ written-restricted inside replace accum c total wanted covers
written-made inside replace accum c total made false wanted covers e = ap (written nat_cmp inside replace accum c) e ∙ written-restricted inside replace accum c total wanted covers

-- and nothing of it lies outside, where only what is inside is wanted
pub made-inside : (d : Descriptor) (mask : Option VectorEntries) (whole : Bool) (total made : VectorEntries) (wanted : ℕ → Bool)
    → ((q : ℕ) → wanted q ≡ true → is_inside nat_cmp d.structure d.comp mask q ≡ true) → IsMade whole wanted total made → whole ≡ false → LieInside nat_cmp mask d made
made-inside d mask whole total made wanted inside h t =
    subst (λ (m : VectorEntries). LieInside nat_cmp mask d m) (sym (subst (λ b. IsMade b wanted total made) t h))
    (All-weaker (λ e. wanted e.0 ≡ true) (λ e. is_inside nat_cmp d.structure d.comp mask e.0 ≡ true) (λ e. inside e.0) (restricted wanted total) (filter_passes (λ e. wanted e.0) total))
