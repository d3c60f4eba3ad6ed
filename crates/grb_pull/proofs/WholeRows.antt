-- A value at each row that has entries: the numbers of these rows, as they lie, with their values.
use Rattle.std.proofs.Common.{◌≡◌, ℕ, ◌+◌, ◌<◌, Bool, true, cond, List, [], ◌∷◌, ◌++◌, length, take, set, get_or, refl, sym, ap, ◌∙◌}
use Rattle.std.proofs.lemmas.List.{set-get_or}
use Rattle.grb_core.specs.declared.value.Value.{Value}
use Rattle.grb_core.specs.Entries.{VectorEntries, restricted}
use Rattle.grb_kernels.specs.Typed.{entries_of, first_entries}
use Rattle.grb_kernels.proofs.Lists.{entries-same, first-set_more}

-- one more value
pub value_written : {V : Type 0} (value : V → Value) (cs : List ℕ) (vs : List V) (k : ℕ) (v : V) → k < length cs → length cs ≡ length vs
    → first_entries value (k + 1) cs (set vs k v) ≡ first_entries value k cs vs ++ (get_or cs k 0, value v) ∷ []
value_written value cs vs k v h e =
    ap (λ (ks : List ℕ). entries_of value (take (k + 1) ks) (take (k + 1) (set vs k v))) (sym (set-get_or cs k 0))
    ∙ first-set_more value cs vs k (get_or cs k 0) v h e

-- where all are wanted none is left out
pub restricted_all : (wanted : ℕ → Bool) → ((q : ℕ) → wanted q ≡ true) → (x : VectorEntries) → restricted wanted x ≡ x
restricted_all wanted h [] = refl
restricted_all wanted h (e ∷ x) =
    ap (λ b. cond b (e ∷ restricted wanted x) (restricted wanted x)) (h e.0)
    ∙ ap (λ (t : VectorEntries). e ∷ t) (restricted_all wanted h x)

-- entries whose indices were copied and whose values were made
pub rows_copied : {V : Type 0} (value : V → Value) (wanted : ℕ → Bool) (indices rows named : List ℕ) (kept made : List V) (x : VectorEntries) → indices ≡ rows → rows ≡ named → kept ≡ made
    → entries_of value named made ≡ x → ((q : ℕ) → wanted q ≡ true) → entries_of value indices kept ≡ restricted wanted x
rows_copied value wanted indices rows named kept made x p q r is all = entries-same value indices named kept made (p ∙ q) r ∙ is ∙ sym (restricted_all wanted all x)
