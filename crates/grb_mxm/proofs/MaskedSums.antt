-- Sums at the places that are allowed, one after another.
use Rattle.std.proofs.Common.{◌≡◌, ℕ, suc, ◌+◌, ◌<◌, ◌≤◌, Bool, true, false, cond, List, [], ◌∷◌, ◌++◌, refl, sym, ap, ◌∙◌, arith, length, get_or, set, drop, inl, inr, append_assoc}
use Rattle.std.specs.Prelude.{Option, Some, ◌||◌}
use Rattle.std.specs.declared.cmp.Ordering.TheVariants.{Less, Equal, Greater}
use Rattle.std.specs.Ordering.{nat_cmp, is_eq}
use Rattle.std.specs.FinMap.{find, nat_cmp-IsAntisymmetric}
use Rattle.std.proofs.lemmas.Bool.{cases_eq}
use Rattle.std.proofs.lemmas.List.{get_or-set_same, get_or-set_other, drop_more, drop_all}
use Rattle.grb_core.specs.declared.value.Value.{Value}
use Rattle.grb_core.specs.Entries.{VectorEntries, before_entries}
use Rattle.grb_core.specs.Mask.{selects, is_true_value}
use Rattle.grb_kernels.specs.Typed.{entries_of}
use Rattle.grb_kernels.proofs.Lists.{append_nil, before-append}
use Rattle.grb_mxm.specs.RowProducts.{picked}
use Rattle.grb_mxm.specs.AllowedSums.{AreAmong, StandsIn}
use Rattle.grb_sums.specs.Marks.{HoldUnmarked}
use Rattle.grb_sums.proofs.Cleared.{set_cleared, stays_cleared}
use Rattle.grb_sums.proofs.Adding.{apart}

pub differ : true ≡ false → ⊥
differ e = cc

-- a place that goes
module _ (ms al : List Bool) (q : ℕ) (inside : q < length al) (in_marks : q < length ms) where
  pub left_gone : (places : List ℕ) (i : ℕ) → get_or places i 0 ≡ q → ((p : ℕ) → get_or al p false ≡ true → (k : ℕ) × (i ≤ k) × (k < length places) × (get_or places k 0 ≡ p))
      → (p : ℕ) → get_or (set al q false) p false ≡ true → (k : ℕ) × (i + 1 ≤ k) × (k < length places) × (get_or places k 0 ≡ p)
  left_gone places i here was p h =
      elim (cases_eq p q) [
        | inl e ↦ absurd (differ (sym h ∙ ap (λ k. get_or (set al q false) k false) e ∙ get_or-set_same al q false false inside))
        | inr n ↦
            let at = was p (sym (get_or-set_other al q p false false n) ∙ h) in
            elim (cases_eq at.0 i) [
              | inl e ↦ absurd (n (sym at.3 ∙ ap (λ k. get_or places k 0) e ∙ here))
              | inr m ↦ (at.0, (let l = at.1 in omega (arith, l, m)), at.2, at.3)
            ]
      ]

pub none_left : (al : List Bool) (places : List ℕ) (i p : ℕ) → length places ≤ i → ((p : ℕ) → get_or al p false ≡ true → (k : ℕ) × (i ≤ k) × (k < length places) × (get_or places k 0 ≡ p)) → get_or al p false ≡ false
none_left al places i p past was =
    elim (get_or al p false) as (λ b. get_or al p false ≡ b → b ≡ false) [
      | false ↦ λ t. refl
      | true ↦ λ t. let at = was p t in let l = at.1 in let u = at.2 in absurd (omega (arith, l, u, past))
    ] refl

pub none_among : (ms al : List Bool) (p : ℕ) → AreAmong ms al → get_or al p false ≡ false → get_or ms p false ≡ false
none_among ms al p among none =
    elim (get_or ms p false) as (λ b. get_or ms p false ≡ b → b ≡ false) [
      | false ↦ λ t. refl
      | true ↦ λ t. absurd (differ (sym (among p t) ∙ none))
    ] refl

-- a mark goes, and its sum is the identity
pub hold_gone : {V : Type 0} (value : V → Value) (v : Value) (ms : List Bool) (ss : List V) (q : ℕ) (x : V) → q < length ss → length (set ss q x) ≡ length ss → value x ≡ v → HoldUnmarked value v ms ss → HoldUnmarked value v (set ms q false) (set ss q x)
hold_gone value v ms ss q x inside same is held p l gone =
    elim (cases_eq p q) [
      | inl e ↦ set_cleared value v ss q p x inside is e
      | inr n ↦ stays_cleared value v ss q p x inside is (held p (omega (arith, l, same)) (sym (get_or-set_other ms q p false false n) ∙ gone))
    ]

-- what an entry of the mask allows
pub allowed_by : (structure : Bool) (al : List Bool) (q : ℕ) (v : Value) (b : Bool) (rest : VectorEntries) → q < length al → b ≡ (structure || is_true_value v)
    → ((p : ℕ) → get_or al p false ≡ selects structure (find nat_cmp p rest)) → (p : ℕ) → get_or (set al q b) p false ≡ selects structure (find nat_cmp p ((q, v) ∷ rest))
allowed_by structure al q v b rest inside is was p =
    elim (nat_cmp p q) as (λ r. nat_cmp p q ≡ r → get_or (set al q b) p false ≡ selects structure (cond (is_eq r) (Some v) (find nat_cmp p rest))) [
      | Less ↦ λ t. get_or-set_other al q p b false (λ e. apart p q e Less t (λ (n : Less ≡ Equal). cc)) ∙ was p
      | Equal ↦ λ t. ap (λ k. get_or (set al q b) k false) (nat_cmp-IsAntisymmetric p q t) ∙ get_or-set_same al q b false inside ∙ is
      | Greater ↦ λ t. get_or-set_other al q p b false (λ e. apart p q e Greater t (λ (n : Greater ≡ Equal). cc)) ∙ was p
    ] refl

-- what is found stands among the places
pub stands : {V : Type 0} (value : V → Value) (structure : Bool) (p : ℕ) (cs : List ℕ) (vs : List V) → selects structure (find nat_cmp p (entries_of value cs vs)) ≡ true → StandsIn cs p
stands value structure p [] vs h = absurd (differ (sym h))
stands value structure p (c ∷ cs) [] h = absurd (differ (sym h))
stands value structure p (c ∷ cs) (v ∷ vs) h =
    elim (nat_cmp p c) as (λ r. nat_cmp p c ≡ r → selects structure (cond (is_eq r) (Some (value v)) (find nat_cmp p (entries_of value cs vs))) ≡ true → StandsIn (c ∷ cs) p) [
      | Less ↦ λ t g. further (stands value structure p cs vs g)
      | Equal ↦ λ t g. (0, omega arith, sym (nat_cmp-IsAntisymmetric p c t))
      | Greater ↦ λ t g. further (stands value structure p cs vs g)
    ] refl h
  where
    further : StandsIn cs p → StandsIn (c ∷ cs) p
    further at = (suc at.0, (let l = at.1 in omega (arith, l)), at.2)

-- one more place is picked
pub picked_step : (name : ℕ → ℕ) (at : ℕ → Option Value) (ps : List ℕ) (i : ℕ) (w : Option Value) (so_far next total : VectorEntries) → i < length ps
    → so_far ++ picked name at (drop i ps) ≡ total → w ≡ at (get_or ps i 0) → next ≡ so_far ++ before_entries (name (get_or ps i 0)) w [] → next ++ picked name at (drop (i + 1) ps) ≡ total
picked_step name at ps i w so_far next total l was is made =
    let q = get_or ps i 0 in
    let rest = picked name at (drop (i + 1) ps) in
    ap (λ (m : VectorEntries). m ++ rest) made
    ∙ append_assoc so_far (before_entries (name q) w []) rest
    ∙ ap (λ (m : VectorEntries). so_far ++ m) (before-append (name q) w rest ∙ ap (λ v. before_entries (name q) v rest) is)
    ∙ ap (λ (m : VectorEntries). so_far ++ m) (sym (ap (picked name at) (drop_more ps i 0 l)))
    ∙ was

pub picked_all : (name : ℕ → ℕ) (at : ℕ → Option Value) (ps : List ℕ) (i : ℕ) (so_far total : VectorEntries) → length ps ≤ i → so_far ++ picked name at (drop i ps) ≡ total → so_far ≡ total
picked_all name at ps i so_far total past was =
    sym (append_nil so_far) ∙ ap (λ (m : VectorEntries). so_far ++ m) (sym (ap (picked name at) (drop_all i ps past))) ∙ was
