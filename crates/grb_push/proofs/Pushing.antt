-- What the entries of a vector make of the rows that they pick, entry by entry.
use Rattle.std.proofs.Common.{◌≡◌, ℕ, true, false, cond, ◌+◌, ◌<◌, ◌≤◌, List, [], ◌∷◌, ◌++◌, refl, sym, ap, subst, ◌∙◌, append_assoc, length, get_or, take, drop, arith}
use Rattle.std.specs.Prelude.{map, filter}
use Rattle.std.specs.List.{AllByRecursion}
use Rattle.grb_core.specs.declared.value.Value.{Value}
use Rattle.grb_core.specs.Entries.{VectorEntries, MatrixEntries}
use Rattle.grb_core.specs.Results.{row_of}
use Rattle.grb_core.proofs.Made.{all-append}
use Rattle.std.proofs.lemmas.List.{drop_more, take_all}
use Rattle.grb_kernels.specs.Typed.{first_entries}
use Rattle.grb_kernels.proofs.Lists.{append_nil, first-read}
use Rattle.grb_ewise.specs.Ranks.{Rise}
use Rattle.grb_sums.specs.ColumnSums.{as_entries, with_values}
use Rattle.grb_push.specs.Pushes.{pushed, at_numbers, columns_at}
use Rattle.grb_sums.proofs.RowByRow.{in_its_row, is_in}
use Rattle.grb_push.proofs.RunFolds.{as_entries-append, as_entries-more}

module _ (f : Value → Value → Value) where
  pub pushed-append : (x y : VectorEntries) (a : MatrixEntries) → pushed f (x ++ y) a ≡ pushed f x a ++ pushed f y a
  pushed-append [] y a = refl
  pushed-append (e ∷ x) y a =
      ap (λ (m : VectorEntries). with_values (f e.1) (row_of e.0 a) ++ m) (pushed-append x y a) ∙ sym (append_assoc (with_values (f e.1) (row_of e.0 a)) (pushed f x a) (pushed f y a))

  -- one more entry
  pub pushed-more : (x : VectorEntries) (k : ℕ) (v : Value) (a : MatrixEntries) → pushed f (x ++ (k, v) ∷ []) a ≡ pushed f x a ++ with_values (f v) (row_of k a)
  pushed-more x k v a = pushed-append x ((k, v) ∷ []) a ∙ ap (λ (m : VectorEntries). pushed f x a ++ m) (append_nil (with_values (f v) (row_of k a)))

  -- one more entry at a row that stores nothing
  pub pushed-nothing : (x : VectorEntries) (k : ℕ) (v : Value) (a : MatrixEntries) → row_of k a ≡ [] → pushed f (x ++ (k, v) ∷ []) a ≡ pushed f x a
  pushed-nothing x k v a none =
      pushed-more x k v a ∙ ap (λ (m : VectorEntries). pushed f x a ++ with_values (f v) m) none ∙ append_nil (pushed f x a)

pub at_numbers-append : (numbers : List ℕ) (x y : VectorEntries) → at_numbers numbers (x ++ y) ≡ at_numbers numbers x ++ at_numbers numbers y
at_numbers-append numbers [] y = refl
at_numbers-append numbers (e ∷ x) y = ap (λ (m : VectorEntries). (get_or numbers e.0 0, e.1) ∷ m) (at_numbers-append numbers x y)

module _ {V : Type 0} (tv : V → Value) (a : MatrixEntries) (numbers indices : List ℕ) (us : List V) (picks : List (ℕ × V)) (i : ℕ) (x : V) where
  -- one more entry of the vector, at a row that is picked
  pub picked_here : (f : Value → Value → Value) (place : ℕ) → i < length indices → length indices ≡ length us → x ≡ get_or us i x → get_or numbers place 0 ≡ get_or indices i 0
      → pushed f (at_numbers numbers (as_entries tv picks)) a ≡ pushed f (first_entries tv i indices us) a
      → pushed f (at_numbers numbers (as_entries tv (picks ++ (place, x) ∷ []))) a ≡ pushed f (first_entries tv (i + 1) indices us) a
  picked_here f place within rows is here was =
      ap (λ (m : VectorEntries). pushed f (at_numbers numbers m) a) (as_entries-append tv picks ((place, x) ∷ []))
      ∙ ap (λ (m : VectorEntries). pushed f m a) (at_numbers-append numbers (as_entries tv picks) ((place, tv x) ∷ []))
      ∙ pushed-more f (at_numbers numbers (as_entries tv picks)) (get_or numbers place 0) (tv x) a
      ∙ ap (λ (m : VectorEntries). m ++ with_values (f (tv x)) (row_of (get_or numbers place 0) a)) was
      ∙ ap (λ j. pushed f (first_entries tv i indices us) a ++ with_values (f (tv x)) (row_of j a)) here
      ∙ sym (pushed-more f (first_entries tv i indices us) (get_or indices i 0) (tv x) a)
      ∙ ap (λ (m : VectorEntries). pushed f m a) (sym (first-read tv indices us i x within rows is))

  -- and at a row that stores nothing
  pub picked_nowhere : (f : Value → Value → Value) → i < length indices → length indices ≡ length us → x ≡ get_or us i x → row_of (get_or indices i 0) a ≡ []
      → pushed f (at_numbers numbers (as_entries tv picks)) a ≡ pushed f (first_entries tv i indices us) a
      → pushed f (at_numbers numbers (as_entries tv picks)) a ≡ pushed f (first_entries tv (i + 1) indices us) a
  picked_nowhere f within rows is none was =
      was
      ∙ sym (pushed-nothing f (first_entries tv i indices us) (get_or indices i 0) (tv x) a none)
      ∙ ap (λ (m : VectorEntries). pushed f m a) (sym (first-read tv indices us i x within rows is))

-- a number that does not stand where those that are not below it begin stands nowhere
stands_nowhere_of : (rows : List ℕ) (place number : ℕ) → Rise rows → ((q : ℕ) → q < place → get_or rows q 0 < number)
    → ((q : ℕ) → place ≤ q → q < length rows → number ≤ get_or rows q 0) → (place < length rows → get_or rows place 0 ≡ number → ⊥)
    → (k : ℕ) → k < length rows → get_or rows k 0 ≡ number → ⊥
stands_nowhere_of rows place number rise below above apart k inside is =
    let after : place ≤ k = grind (arith, below k, is) in
    let before : k ≤ place = grind (arith, rise place k, above place, is, inside) in
    let same : k ≡ place = omega arith in
    apart (omega arith) (ap (λ q. get_or rows q 0) (sym same) ∙ is)

pub stands_nowhere : (rows named : List ℕ) (place number : ℕ) → rows ≡ named → Rise named → ((q : ℕ) → q < place → get_or rows q 0 < number)
    → ((q : ℕ) → place ≤ q → q < length rows → number ≤ get_or rows q 0) → (place < length rows → get_or rows place 0 ≡ number → ⊥)
    → (k : ℕ) → k < length named → get_or named k 0 ≡ number → ⊥
stands_nowhere rows named place number same rise below above apart =
    subst (λ (ks : List ℕ). (k : ℕ) → k < length ks → get_or ks k 0 ≡ number → ⊥) same
    (stands_nowhere_of rows place number (subst Rise (sym same) rise) below above apart)

module _ {V : Type 0} (tv : V → Value) (f : Value → Value → Value) (numbers : List ℕ) (picks : List (ℕ × V)) (a : MatrixEntries) where
  -- one more pick is read
  pub pushed-read : (i : ℕ) (p : ℕ × V) → i < length picks → p ≡ get_or picks i p
      → pushed f (at_numbers numbers (as_entries tv (take (i + 1) picks))) a
      ≡ pushed f (at_numbers numbers (as_entries tv (take i picks))) a ++ with_values (f (tv p.1)) (row_of (get_or numbers p.0 0) a)
  pushed-read i p inside is =
      let before = as_entries tv (take i picks) in
      ap (λ (m : VectorEntries). pushed f (at_numbers numbers m) a) (as_entries-more tv picks i p inside is)
      ∙ ap (λ (m : VectorEntries). pushed f m a) (at_numbers-append numbers before ((p.0, tv p.1) ∷ []))
      ∙ pushed-more f (at_numbers numbers before) (get_or numbers p.0 0) (tv p.1) a

  -- after the last one
  pub pushed-all : (i : ℕ) → length picks ≤ i → pushed f (at_numbers numbers (as_entries tv (take i picks))) a ≡ pushed f (at_numbers numbers (as_entries tv picks)) a
  pushed-all i past = ap (λ (ps : List (ℕ × V)). pushed f (at_numbers numbers (as_entries tv ps)) a) (take_all i picks past)

-- one more pick is counted
pub columns_at-more : {V : Type 0} (numbers : List ℕ) (picks : List (ℕ × V)) (a : MatrixEntries) (i : ℕ) (p : ℕ × V) → i < length picks → p ≡ get_or picks i p
    → length (columns_at numbers (drop i picks) a) ≡ length (map (λ e. e.0) (row_of (get_or numbers p.0 0) a)) + length (columns_at numbers (drop (i + 1) picks) a)
columns_at-more {V = V} numbers picks a i p inside is =
    ap (λ (ps : List (ℕ × V)). length (columns_at numbers ps a)) (drop_more picks i p inside ∙ ap (λ (x : ℕ × V). x ∷ drop (i + 1) picks) (sym is))
    ∙ length-append (map (λ (e : ℕ × Value). e.0) (row_of (get_or numbers p.0 0) a)) (columns_at numbers (drop (i + 1) picks) a)
  where
    length-append : (xs ys : List ℕ) → length (xs ++ ys) ≡ length xs + length ys
    length-append [] ys = omega arith
    length-append (x ∷ xs) ys = let rest = length-append xs ys in omega (arith, rest)

module _ (P : ℕ → Type 0) where
  within-row : (i : ℕ) (a : MatrixEntries) → AllByRecursion (λ e. P e.0.1) a → AllByRecursion (λ e. P e.0) (row_of i a)
  within-row i [] h = tt
  within-row i (e ∷ a) h =
      let rest = within-row i a h.1 in
      elim (is_in i e) as (λ b. AllByRecursion (λ (x : ℕ × Value). P x.0) (map in_its_row (cond b (e ∷ filter (is_in i) a) (filter (is_in i) a)))) [ true ↦ (h.0, rest) | false ↦ rest ]

  within-values : (g : Value → Value) (m : VectorEntries) → AllByRecursion (λ e. P e.0) m → AllByRecursion (λ e. P e.0) (with_values g m)
  within-values g [] h = tt
  within-values g (e ∷ m) h = (h.0, within-values g m h.1)

  -- what holds of a matrix's columns holds of those to which its rows are added
  pub within-pushed : (f : Value → Value → Value) (u : VectorEntries) (a : MatrixEntries) → AllByRecursion (λ e. P e.0.1) a → AllByRecursion (λ e. P e.0) (pushed f u a)
  within-pushed f [] a h = tt
  within-pushed f (e ∷ u) a h =
      all-append (λ (x : ℕ × Value). P x.0) (with_values (f e.1) (row_of e.0 a)) (pushed f u a) (within-values (f e.1) (row_of e.0 a) (within-row e.0 a h)) (within-pushed f u a h)
