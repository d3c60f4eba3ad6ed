-- The rows of a matrix as parts of the lists of all its columns and values.
use Rattle.std.proofs.Common.{◌≡◌, ℕ, zero, suc, ◌%◌, List, [], ◌∷◌, length, take, drop, refl, sym, ap, ◌∙◌}
use Rattle.std.specs.Prelude.{map}
use Rattle.std.proofs.lemmas.List.{length-map}
use Rattle.grb_core.specs.declared.value.Value.{Value}
use Rattle.grb_core.specs.Entries.{VectorEntries, values_of}
use Rattle.grb_kernels.specs.Typed.{entries_of}
use Rattle.grb_lists.specs.Cells.{decoded, in_row}
use Rattle.grb_ewise.proofs.Lent.{lent, lent-same}

map_nil : {A B : Type 0} (f : A → B) (s : ℕ) → map f (drop s []) ≡ drop s []
map_nil f zero = refl
map_nil f (suc s) = refl

map-part : {A B : Type 0} (f : A → B) (s e : ℕ) (xs : List A) → map f (drop s (take e xs)) ≡ drop s (take e (map f xs))
map-part f s zero [] = map_nil f s
map-part f s (suc e) [] = map_nil f s
map-part f s zero (x ∷ xs) = map_nil f s
map-part f zero (suc e) (x ∷ xs) = ap (λ (t : List _). f x ∷ t) (map-part f zero e xs)
map-part f (suc s) (suc e) (x ∷ xs) = map-part f s e xs

columns-in_row : (m : VectorEntries) → map (λ e. e.0.1) (decoded m) ≡ map (λ e. e.0) (in_row m)
columns-in_row [] = refl
columns-in_row (e ∷ m) = ap (λ (t : List ℕ). e.0 % 4294967296 ∷ t) (columns-in_row m)

-- there are as many columns as entries
pub columns_long : (columns : List ℕ) (m : VectorEntries) → columns ≡ map (λ e. e.0.1) (decoded m) → length columns ≡ length m
columns_long columns m cs = ap length (cs ∙ columns-in_row m) ∙ length-map (in_row m) (λ (e : ℕ × Value). e.0) ∙ length-map m (λ (e : ℕ × Value). (e.0 % 4294967296, e.1))

decoded-part : (s e : ℕ) (m : VectorEntries) → decoded (drop s (take e m)) ≡ drop s (take e (decoded m))
decoded-part s e m = map-part _ s e m

values-in_row : (m : VectorEntries) → values_of m ≡ values_of (in_row m)
values-in_row [] = refl
values-in_row (e ∷ m) = ap (λ (t : List Value). e.1 ∷ t) (values-in_row m)

module _ {V : Type 0} (value : V → Value) (columns : List ℕ) (values : List V) (m : VectorEntries) (cs : columns ≡ map (λ e. e.0.1) (decoded m)) (vs : map value values ≡ values_of m) where
  -- there are as many columns as values
  pub lists_same : length columns ≡ length values
  lists_same = lent-same value columns values (in_row m) (cs ∙ columns-in_row m) (vs ∙ values-in_row m)

  -- a part of both lists is that part of the entries
  pub row_lists : (s e : ℕ) → entries_of value (drop s (take e columns)) (drop s (take e values)) ≡ in_row (drop s (take e m))
  row_lists s e =
      let part : VectorEntries = drop s (take e m) in
      lent value (drop s (take e columns)) (drop s (take e values)) (in_row part)
      (ap (λ (t : List ℕ). drop s (take e t)) cs ∙ sym (map-part (λ e. e.0.1) s e (decoded m)) ∙ ap (map (λ e. e.0.1)) (sym (decoded-part s e m)) ∙ columns-in_row part)
      (map-part value s e values ∙ ap (λ (t : List Value). drop s (take e t)) vs ∙ sym (map-part (λ e. e.1) s e m) ∙ values-in_row part)
