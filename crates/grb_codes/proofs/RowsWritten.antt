-- The rows of entries, written one after another: in which row the entry at each place stands.
use Rattle.std.proofs.Common.{◌≡◌, ℕ, Bool, suc, ◌+◌, ◌/◌, ◌<◌, ◌≤◌, List, [], ◌∷◌, ◌++◌, length, drop, get_or, refl, sym, ap, subst, ◌∙◌, arith}
use Rattle.std.specs.Prelude.{map}
use Rattle.grb_core.specs.declared.value.Value.{Value}
use Rattle.grb_core.specs.declared.value.Value.TheVariants as value
use Rattle.std.proofs.lemmas.List.{length-map}
use Rattle.grb_core.specs.Entries.{VectorEntries, values_of}
use Rattle.grb_lists.specs.Cells.{decoded}
use Rattle.grb_lists.specs.Stored.{RowView, IsInRow}
use Rattle.grb_codes.specs.Arrays.{bool_in, number_in, written}

-- the entries from a place up to the end of its row stand in the row, and the one behind them in the next
pub record Stands (lists : RowView) (at k end : ℕ) : Type 0 where
  pub among : k < length lists.rows
  pub within : end ≤ length lists.entries
  pub upto : at < end
  pub here : (p : ℕ) → at ≤ p → p < end → IsInRow lists k p
  pub next : end < length lists.entries → IsInRow lists (k + 1) end

module _ (lists : RowView) (at k end : ℕ) where
  -- where a row has ended, the next one begins
  pub stands-next : (last : ℕ) → at ≡ last → at < length lists.entries → (last < length lists.entries → IsInRow lists (k + 1) last) → end ≤ length lists.entries
      → ((p : ℕ) → p < length lists.entries → IsInRow lists (k + 1) p → p < end)
      → ((a p : ℕ) → a < length lists.entries → IsInRow lists (k + 1) a → a ≤ p → p < end → IsInRow lists (k + 1) p)
      → (end < length lists.entries → IsInRow lists (k + 1 + 1) end) → Stands lists at (k + 1) end
  stands-next last is inside begins within after row next =
      let first : IsInRow lists (k + 1) at = subst (IsInRow lists (k + 1)) (sym is) (begins (omega (arith, is, inside))) in
      record {
        among = first.0;
        within = within;
        upto = after at inside first;
        here = λ p l m. row at p inside first l m;
        next = next;
      }

-- what stands in the entries is the row
pub row_of_place : (lists : RowView) (at k end : ℕ) (d : ℕ × Value) → Stands lists at k end → (get_or lists.entries at d).0 / 4294967296 ≡ get_or lists.rows k 0
row_of_place lists at k end d stands = (stands.here at (omega arith) stands.upto).1 d

-- the rows of cells are those of their numbers
pub rows_of_cells : (es : VectorEntries) (old : List ℕ) → written (λ (e : ℕ × Value). e.0 / 4294967296) es old ≡ written (λ (e : (ℕ × ℕ) × Value). e.0.0) (decoded es) old
rows_of_cells es old = λ i. firsts es i ++ drop (same es i) old
  where
    firsts : (es : VectorEntries) → map {B = ℕ} (λ (e : ℕ × Value). e.0 / 4294967296) es ≡ map {B = ℕ} (λ (e : (ℕ × ℕ) × Value). e.0.0) (decoded es)
    firsts [] = refl
    firsts (e ∷ es) = ap (λ (s : List ℕ). (e.0 / 4294967296) ∷ s) (firsts es)

    same : (es : VectorEntries) → length es ≡ length (decoded es)
    same [] = refl
    same (e ∷ es) = ap (λ n. suc n) (same es)

-- what was copied to the front is what is written there
pub copied_front : {E X : Type 0} (f : E → X) (es : List E) (items old array : List X) → items ≡ map f es → array ≡ items ++ drop (length items) old → array ≡ written f es old
copied_front f es items old array is are = are ∙ ap (λ s. s ++ drop (length s) old) is ∙ ap (λ n. map f es ++ drop n old) (length-map es f)

-- the items of entries, and of the same entries at their cells
pub items_of : {K X : Type 0} (f : Value → X) (es : List (K × Value)) → map f (values_of es) ≡ map (λ (e : K × Value). f e.1) es
items_of f [] = refl
items_of {X = X} f (e ∷ es) = ap (λ (s : List X). f e.1 ∷ s) (items_of f es)

pub items_of_cells : {X : Type 0} (f : Value → X) (es : VectorEntries) → map f (values_of es) ≡ map (λ (e : (ℕ × ℕ) × Value). f e.1) (decoded es)
items_of_cells f [] = refl
items_of_cells {X = X} f (e ∷ es) = ap (λ (s : List X). f e.1 ∷ s) (items_of_cells f es)

-- what C has of the values of numbers, and of truth values, is these
pub numbers_back : (ns : List ℕ) → map number_in (map (λ n. value.Uint64 n) ns) ≡ ns
numbers_back [] = refl
numbers_back (n ∷ ns) = ap (λ (s : List ℕ). n ∷ s) (numbers_back ns)

pub bools_back : (bs : List Bool) → map bool_in (map (λ b. value.Bool b) bs) ≡ bs
bools_back [] = refl
bools_back (b ∷ bs) = ap (λ (s : List Bool). b ∷ s) (bools_back bs)
