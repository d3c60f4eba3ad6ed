-- One turn of the loop over the rows of a Kronecker product.
use Rattle.std.proofs.Common.{◌≡◌, ℕ, ◌+◌, ◌*◌, ◌%◌, ◌<◌, ◌≤◌, Bool, true, false, cond, List, [], ◌∷◌, length, get_or, take, drop, refl, sym, subst, arith, inl, inr}
use Rattle.std.specs.Prelude.{map, filter, nat_eq, All}
use Rattle.std.specs.List.{AllByRecursion}
use Rattle.std.proofs.lemmas.Bool.{cases_lt}
use Rattle.std.proofs.lemmas.List.{length-map, length-take, length-drop, get_or_default, get_or_past}
use Rattle.std.proofs.lemmas.List.Elements.{All-from_recursion}
use Rattle.std.proofs.lemmas.Nat.{row_fits}
use Rattle.grb_core.specs.declared.value.Value.{Value}
use Rattle.grb_core.specs.Entries.{Cell, VectorEntries, MatrixEntries}
use Rattle.grb_core.specs.Results.{row_of}
use Rattle.grb_kernels.specs.Typed.{entries_of}
use Rattle.grb_lists.specs.Cells.{in_row}
use Rattle.grb_lists.specs.Stored.{started_at}

by_test : (i nrows ncols : ℕ) (e : Cell × Value) (a : MatrixEntries) → e.0.0 < nrows → (0 < length (row_of i a) → i < nrows) → (b : Bool) → nat_eq e.0.0 i ≡ b
    → 0 < length {A = ℕ × Value} (map (λ (d : Cell × Value). (d.0.1, d.1)) (cond b (e ∷ filter (λ (d : Cell × Value). nat_eq d.0.0 i) a) (filter (λ (d : Cell × Value). nat_eq d.0.0 i) a))) → i < nrows
by_test i nrows ncols e a l rest true t k = grind (arith, t, l)
by_test i nrows ncols e a l rest false t k = rest k

-- a row that stores something is one of the matrix's
pub row-bound : (i nrows ncols : ℕ) (a : MatrixEntries) → AllByRecursion (λ e. (e.0.0 < nrows) × (e.0.1 < ncols)) a → 0 < length (row_of i a) → i < nrows
row-bound i nrows ncols [] w h = absurd (omega (arith, h))
row-bound i nrows ncols (e ∷ a) w h =
    by_test i nrows ncols e a w.0.0 (λ k. row-bound i nrows ncols a w.1 k) (nat_eq e.0.0 i) refl h

-- each row between two starts has entries
pub started-some : (m : VectorEntries) (starts : List ℕ) (k : ℕ) → ((i j : ℕ) → i < j → j < length starts → get_or starts i 0 < get_or starts j 0)
    → ((i : ℕ) → i < length starts → get_or starts i 0 < length m) → k < length starts → 0 < length (in_row (started_at starts k m))
started-some m starts k rise within h =
    let start = get_or starts k 0 in
    let end = get_or starts (k + 1) (length m) in
    let inside = within k h in
    let into : ℕ × Value → ℕ × Value = λ e. (e.0 % 4294967296, e.1) in
    let mapped = length-map (drop start (take end m)) into in
    let dropped = length-drop start (take end m) in
    let taken = length-take end m in
    let after = end_after (k + 1) h in
    omega (arith, mapped, dropped, taken, inside, after)
  where
    end_after : (n : ℕ) → k < length starts → get_or starts k 0 < get_or starts (k + 1) (length m)
    end_after n l = elim (cases_lt (k + 1) (length starts)) [
      | inl u ↦ let up = rise k (k + 1) (omega arith) u in let d = get_or_default starts (k + 1) (length m) 0 u in omega (arith, up, d)
      | inr u ↦ let past = get_or_past starts (k + 1) (length m) u in let inside = within k l in omega (arith, past, inside)
    ]

-- the indices of entries are what all their places are
indices : {V : Type 0} (value : V → Value) (P : ℕ → Type 0) (ks : List ℕ) (vs : List V) → length ks ≡ length vs → AllByRecursion (λ e. P e.0) (entries_of value ks vs) → AllByRecursion P ks
indices value P [] vs e h = tt
indices value P (k ∷ ks) [] e h = absurd (omega (arith, e))
indices value P (k ∷ ks) (v ∷ vs) e h = (h.0, indices value P ks vs (omega (arith, e)) h.1)

pub row-indices : {V : Type 0} (value : V → Value) (P : ℕ → Type 0) (ks : List ℕ) (vs : List V) (m : VectorEntries) → length ks ≡ length vs → entries_of value ks vs ≡ m
    → AllByRecursion (λ e. P e.0) m → All P ks
row-indices value P ks vs m same is h =
    All-from_recursion P ks (indices value P ks vs same (subst (λ (s : VectorEntries). AllByRecursion (λ e. P e.0) s) (sym is) h))

-- a column of the first has room for all of the second
weaker : {A : Type 0} (P Q : A → Type 0) → ((x : A) → P x → Q x) → (xs : List A) → AllByRecursion P xs → AllByRecursion Q xs
weaker P Q f [] h = tt
weaker P Q f (x ∷ xs) h = (f x h.0, weaker P Q f xs h.1)

pub columns-fit : (n c : ℕ) (m : VectorEntries) → n * c < 4294967296 → AllByRecursion (λ e. e.0 < n) m → AllByRecursion (λ e. e.0 * c + c ≤ 4294967296) m
columns-fit n c m few h = weaker (λ (e : ℕ × Value). e.0 < n) (λ (e : ℕ × Value). e.0 * c + c ≤ 4294967296) (λ e l. let up = row_fits e.0 c n c l (omega arith) in omega (arith, up, few)) m h
