-- One more entry of a row, and an entry that is kept or not.
use Rattle.std.proofs.Common.{◌≡◌, ℕ, ◌+◌, ◌<◌, Bool, true, false, List, [], ◌∷◌, ◌++◌, length, get_or, set, take, refl, sym, ap, ◌∙◌, append_assoc}
use Rattle.std.specs.Prelude.{Option, map}
use Rattle.std.proofs.lemmas.List.{map-append, take_more, take_more_set}
use Rattle.grb_core.specs.declared.value.Value.{Value}
use Rattle.grb_core.specs.Entries.{VectorEntries, before_entries}
use Rattle.grb_kernels.specs.Typed.{kept}
use Rattle.grb_kernels.proofs.Lists.{before-append}
use Rattle.grb_core.specs.Each.{each_made}
use Rattle.grb_core.specs.Maps.{value_if}

-- what is made of the next entry stands after what was made before
pub each_on : (g : ℕ → Value → Option Value) (out out' : VectorEntries) (p : ℕ) (x : Value) (w : Option Value) (rest m : VectorEntries)
    → rest ≡ (p, x) ∷ m → w ≡ g p x → out' ≡ out ++ before_entries p w [] → out' ++ each_made g m ≡ out ++ each_made g rest
each_on g out out' p x w rest m r is e =
    ap (λ o. o ++ each_made g m) e ∙ append_assoc out (before_entries p w []) (each_made g m)
    ∙ ap (λ t. out ++ t) (before-append p w (each_made g m) ∙ ap (λ v. before_entries p v (each_made g m)) is ∙ sym (ap (each_made g) r))

pub kept-if : (v : Value) (b : Bool) → kept v b ≡ value_if b v
kept-if v true = refl
kept-if v false = refl

-- the next value by a function, after those before it
pub changed_on : {V : Type 0} (value : V → Value) (g : Value → Value) (vs made : List V) (at : ℕ) (x y : V) → at < length vs → at < length made → x ≡ get_or vs at x → value y ≡ g (value x)
    → map value (take at made) ≡ map g (map value (take at vs)) → map value (take (at + 1) (set made at y)) ≡ map g (map value (take (at + 1) vs))
changed_on {V} value g vs made at x y h l is e before =
    ap (map value) (take_more_set made at y l) ∙ map-append value (take at made) (y ∷ [])
    ∙ ap (λ (s : List Value). s ++ value y ∷ []) before ∙ ap (λ (w : Value). map g (map value (take at vs)) ++ w ∷ []) e
    ∙ sym (ap (λ (s : List V). map g (map value s)) (take_more vs at x h ∙ ap (λ (w : V). take at vs ++ w ∷ []) (sym is))
    ∙ ap (map g) (map-append value (take at vs) (x ∷ [])) ∙ map-append g (map value (take at vs)) (value x ∷ []))
