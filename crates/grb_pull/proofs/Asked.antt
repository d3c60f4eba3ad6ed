-- Whether a row has products, asked after its sum is known.
use Rattle.std.proofs.Common.{◌≡◌, ℕ, Bool, true, false, List, [], ◌∷◌, ◌++◌, length, refl, sym, ap, subst, ◌∙◌, arith}
use Rattle.std.specs.Prelude.{Option, Some, None, is_some, ◌||◌}
use Rattle.grb_core.specs.declared.value.Value.{Value}
use Rattle.grb_core.specs.declared.operator.BinaryOp.{BinaryOp}
use Rattle.grb_core.specs.declared.monoid.Monoid.{Monoid}
use Rattle.grb_core.specs.Operator.{value_of_op}
use Rattle.grb_core.specs.Monoid.{identity_of}
use Rattle.grb_core.specs.Fold.{fold_of, fold_of_some}
use Rattle.grb_core.specs.Written.{both_values}
use Rattle.grb_kernels.specs.Typed.{kept, entries_of}
use Rattle.grb_semirings.specs.Products.{list_of, products, is_any}
use Rattle.grb_semirings.proofs.Folds.{IsFolding}
use Rattle.grb_semirings.proofs.Sums.{IsSumming}

-- a row without products has the identity as its sum
nothing_asked : (m : Monoid) (vs : List Value) (sum : Value) → IsSumming m vs sum false → sum ≡ identity_of m
nothing_asked m [] sum h = h.folding.is_sum
nothing_asked m (v ∷ vs) sum h = absurd (never h.is_some)
  where
    never : None ≡ Some (fold_of m (v ∷ vs)) → ⊥
    never n = cc

abbrev pub is_filled : List Value → Bool
is_filled [] = false
is_filled (v ∷ vs) = true

filled : (m : Monoid) (vs : List Value) (sum : Value) (any : Bool) → IsSumming m vs sum any → any ≡ is_filled vs
filled m [] sum true h = absurd (never h.is_some)
  where
    never : Some sum ≡ None → ⊥
    never n = cc
filled m [] sum false h = refl
filled m (v ∷ vs) sum true h = refl
filled m (v ∷ vs) sum false h = absurd (never h.is_some)
  where
    never : None ≡ Some (fold_of m (v ∷ vs)) → ⊥
    never n = cc

filled_one : (f : Value → Value → Value) (v : Value) (w : Option Value) (vs : List Value) → is_filled (list_of (both_values f (Some v) w) ++ vs) ≡ (is_some w || is_filled vs)
filled_one f v None vs = refl
filled_one f v (Some x) vs = refl

any_products : {V : Type 0} (value : V → Value) (op : BinaryOp) (y : ℕ → Option Value) (cs : List ℕ) (vs : List V) → length cs ≡ length vs
    → is_filled (products op y (entries_of value cs vs)) ≡ is_any y cs
any_products value op y [] vs e = refl
any_products value op y (c ∷ cs) [] e = absurd (omega arith)
any_products value op y (c ∷ cs) (v ∷ vs) e =
    filled_one (value_of_op op) (value v) (y c) (products op y (entries_of value cs vs))
    ∙ ap (λ b. is_some (y c) || b) (any_products value op y cs vs (omega arith))

-- asked late, it is the same
pub asked : (m : Monoid) {V : Type 0} (value : V → Value) (op : BinaryOp) (y : ℕ → Option Value) (cs : List ℕ) (vs : List V) (sum : Value) (any made : Bool) → length cs ≡ length vs
    → IsSumming m (products op y (entries_of value cs vs)) sum any → (made ≡ false → is_any y cs ≡ false) → (sum ≡ identity_of m → made ≡ is_any y cs)
    → kept sum made ≡ fold_of_some m (products op y (entries_of value cs vs))
asked m value op y cs vs sum any made e h other same =
    ap (kept sum) (by_case any made refl refl) ∙ h.is_some
  where
    there : any ≡ is_any y cs
    there = filled m (products op y (entries_of value cs vs)) sum any h ∙ any_products value op y cs vs e

    by_case : (a b : Bool) → any ≡ a → made ≡ b → made ≡ any
    by_case true true s t = t ∙ sym s
    by_case true false s t = t ∙ sym (other t) ∙ sym there
    by_case false b s t = same (nothing_asked m (products op y (entries_of value cs vs)) sum (subst (IsSumming m (products op y (entries_of value cs vs)) sum) s h)) ∙ sym there

-- a fold of products is the sum of a row, if there are any
pub summing : (m : Monoid) (vs : List Value) (sum : Value) → IsFolding m vs sum → IsSumming m vs sum (is_filled vs)
summing m [] sum h = record { folding = h; is_some = refl }
summing m (v ∷ vs) sum h = record { folding = h; is_some = ap Some h.is_sum }

-- where none is there, nothing is made
pub none_met : (m : Monoid) {V : Type 0} (value : V → Value) (op : BinaryOp) (y : ℕ → Option Value) (cs : List ℕ) (vs : List V) (v : Value) → length cs ≡ length vs
    → is_any y cs ≡ false → kept v false ≡ fold_of_some m (products op y (entries_of value cs vs))
none_met m value op y cs vs v e none = empty (products op y (entries_of value cs vs)) (any_products value op y cs vs e ∙ none)
  where
    empty : (ps : List Value) → is_filled ps ≡ false → None ≡ fold_of_some m ps
    empty [] h = refl
    empty (p ∷ ps) h = cc

-- a row that meets an entry has a value: its sum, and so has what is made of it
module _ (m : Monoid) {V : Type 0} (value : V → Value) (op : BinaryOp) (y : ℕ → Option Value) (cs : List ℕ) (vs : List V) (same : length cs ≡ length vs) (met : is_any y cs ≡ true) where
  pub met_sum : (sum : Value) → IsFolding m (products op y (entries_of value cs vs)) sum → Some sum ≡ fold_of_some m (products op y (entries_of value cs vs))
  met_sum sum h =
      asked m value op y cs vs sum (is_filled (products op y (entries_of value cs vs))) true same (summing m (products op y (entries_of value cs vs)) sum h)
      (λ e. absurd (never e)) (λ e. sym met)
    where
      never : true ≡ false → ⊥
      never e = cc

  pub met_value : (v : Value) (b : Bool) → kept v b ≡ fold_of_some m (products op y (entries_of value cs vs)) → Some v ≡ fold_of_some m (products op y (entries_of value cs vs))
  met_value v true h = h
  met_value v false h = absurd (nowhere (products op y (entries_of value cs vs)) h (any_products value op y cs vs same ∙ met))
    where
      nowhere : (ps : List Value) → None ≡ fold_of_some m ps → is_filled ps ≡ true → ⊥
      nowhere [] n f = cc
      nowhere (p ∷ ps) n f = cc
