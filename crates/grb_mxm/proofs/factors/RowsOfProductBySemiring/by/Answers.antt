use Rattle.std.proofs.Common.{◌≡◌, ◌<◌, ℕ, List, refl, ap, sym, subst, ◌∙◌}
use Rattle.std.specs.Prelude.{map, Option, Some, None, IfSome}
use Rattle.std.specs.List.{Contains}
use Rattle.std.proofs.lemmas.List.Elements.{recursion_from_All}
use Rattle.grb_sums.specs.Naming.{name_in}
use Rattle.grb_mxm.proofs.Names.{own-named}
use Rattle.grb_mxm.proofs.factors.RowsOfProductBySemiring.by.Goals as goal

if_some : {X : Type 0} (P : X → Type 0) (o : Option X) → ((m : X) → o ≡ Some m → P m) → IfSome o P
if_some P None h = tt
if_some P (Some m) h = h m refl

pub multiply_ranked-requires-clause-named : goal.multiply_ranked-requires-clause-named
multiply_ranked-requires-clause-named g c =
    let n = c.args.self.factors.b.ncols in
    own-named c.own-own.result n _ c.own-own.ensures.each (recursion_from_All (λ j. j < n) _ (c.columns-columns.ensures.below n c.args.self.factors.b.in_range)) ∙ c.columns-columns.ensures.columns

pub multiply_ranked-requires-clause-mask_named : goal.multiply_ranked-requires-clause-mask_named
multiply_ranked-requires-clause-mask_named g c =
    let n = c.args.self.factors.b.ncols in
    own-named c.own-own.result n _ c.own-own.ensures.each (recursion_from_All (λ j. j < n) _ (c.columns_of-mask_columns.ensures.below n (if_some _ c.args.self.factors.mask c.args.self.factors.mask_in_range))) ∙ c.columns_of-mask_columns.ensures.columns

pub ranks_of-requires-clause-all : goal.ranks_of-requires-clause-all
ranks_of-requires-clause-all g c j h = subst (λ (s : List ℕ). Contains s j) (sym c.as_slice-listed.ensures.value) (c.in_ok-stored.ensures.all j h)

pub ranks_of-requires-2-clause-all : goal.ranks_of-requires-2-clause-all
ranks_of-requires-2-clause-all g c j h = subst (λ (s : List ℕ). Contains s j) (sym c.as_slice-listed.ensures.value) (c.in_ok-stored.ensures.others j h)

pub multiply_ranked-requires-2-clause-mask_named : goal.multiply_ranked-requires-2-clause-mask_named
multiply_ranked-requires-2-clause-mask_named g c =
    ap (λ (ns : List ℕ). map (name_in ns) c.as_slice-2.result.now) c.listed-names.ensures
    ∙ ap (map (name_in c.as_slice-listed.result.now)) c.as_slice-2.ensures.value
    ∙ c.in_ok-mask_ranks.ensures.named
    ∙ c.columns_of-mask_columns.ensures.columns
