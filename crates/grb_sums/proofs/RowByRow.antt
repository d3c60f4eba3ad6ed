-- A value made of each row of a matrix, over the rows that have entries.
use Rattle.std.proofs.Common.{◌≡◌, ℕ, zero, suc, ◌+◌, ◌<◌, Bool, true, false, cond, List, [], ◌∷◌, ◌++◌, refl, sym, ap, subst, ◌∙◌, append_assoc, arith, length, get_or, drop}
use Rattle.std.specs.Prelude.{◌&&◌, ◌≢◌, Option, Some, None, is_some, map, filter, nat_eq, slice_index}
use Rattle.std.specs.Ordering.{nat_cmp, is_lt, is_eq, eq_by_cmp}
use Rattle.std.specs.declared.cmp.Ordering.{Ordering}
use Rattle.std.specs.declared.cmp.Ordering.TheVariants.{Less, Equal, Greater}
use Rattle.std.specs.Cmp.{nat_cmp_total, unsigned_tied, eq_by_cmp_equiv, nat_cmp_is}
use Rattle.std.specs.FinMap.{is_sorted, nat_cmp-IsAntisymmetric, find}
use Rattle.std.specs.FinMap.Entries.{below_all}
use Rattle.std.proofs.lemmas.List.{drop_more}
use lib.Dec.{T}
use Rattle.grb_core.specs.declared.value.Value.{Value}
use Rattle.grb_core.specs.Entries.{VectorEntries, MatrixEntries, before_entries, map_on}
use Rattle.grb_core.proofs.Maps.{find-before, is_sorted-before, find-map_on_indices, is_sorted-map_on_indices}
use Rattle.grb_core.specs.Results.{row_of, each_row}
use Rattle.grb_kernels.proofs.Lists.{before-append}
use Rattle.grb_kernels.proofs.Merges.{less}
use Rattle.grb_ewise.specs.Ranks.{Rise}

abbrev pub by_its_row : (ℕ × ℕ) × Value → ℕ × Value
by_its_row e = (e.0.0, e.1)

abbrev pub in_its_row : (ℕ × ℕ) × Value → ℕ × Value
in_its_row e = (e.0.1, e.1)

abbrev pub is_in : ℕ → (ℕ × ℕ) × Value → Bool
is_in q e = nat_eq e.0.0 q

-- the entries of a matrix by their rows alone
abbrev pub by_row : MatrixEntries → VectorEntries
by_row a = map by_its_row a

pub same_test : (q k : ℕ) → nat_eq k q ≡ eq_by_cmp nat_cmp q k
same_test q k = sym (unsigned_tied k q) ∙ (eq_by_cmp_equiv nat_cmp_total).symm k q

-- a row that stores nothing
row_of-none : (q : ℕ) (a : MatrixEntries) → find nat_cmp q (by_row a) ≡ None → row_of q a ≡ []
row_of-none q [] h = refl
row_of-none q (e ∷ a) h =
    ap (λ b. map in_its_row (cond b (e ∷ filter (is_in q) a) (filter (is_in q) a))) (same_test q e.0.0)
    ∙ elim (eq_by_cmp nat_cmp q e.0.0) as (λ b. cond b (Some e.1) (find nat_cmp q (by_row a)) ≡ None
    → map in_its_row (cond b (e ∷ filter (is_in q) a) (filter (is_in q) a)) ≡ []) [
      | true ↦ λ (n : Some e.1 ≡ None). cc
      | false ↦ λ n. row_of-none q a n
    ] h

pub find-each_row : (f : VectorEntries → Option Value) → f [] ≡ None → (a : MatrixEntries) (q : ℕ) → find nat_cmp q (each_row f a) ≡ f (row_of q a)
find-each_row f none a q =
    find-map_on_indices nat_cmp nat_cmp_total nat_cmp-IsAntisymmetric (λ i. f (row_of i a)) q (by_row a)
    ∙ elim (find nat_cmp q (by_row a)) as (λ w. find nat_cmp q (by_row a) ≡ w → cond (is_some w) (f (row_of q a)) None ≡ f (row_of q a)) [
      | None ↦ λ t. sym (ap f (row_of-none q a t) ∙ none)
      | Some v ↦ λ t. refl
    ] refl

pub is_sorted-each_row : (f : VectorEntries → Option Value) (a : MatrixEntries) → T (is_sorted nat_cmp (each_row f a))
is_sorted-each_row f a = is_sorted-map_on_indices nat_cmp nat_cmp_total (λ i. f (row_of i a)) (by_row a)

pub rise_rest : (k : ℕ) (ks : List ℕ) → Rise (k ∷ ks) → Rise ks
rise_rest k ks h i j l m = h (suc i) (suc j) (omega arith) (omega arith)

less_is : (a b : ℕ) → a < b → T (is_lt (nat_cmp a b))
less_is a b h = subst (λ r. T (is_lt r)) (sym (less a b h)) tt

-- what is made at indices that are all above another
pub below-map_on : (x : ℕ) (g : ℕ → Option Value) (ks : List ℕ) → ((j : ℕ) → j < length ks → x < slice_index ks j) → T (below_all nat_cmp x (map_on ks g))
below-map_on x g [] h = tt
below-map_on x g (k ∷ ks) h =
    below_before (g k) (h zero (omega arith)) (below-map_on x g ks (λ j l. h (suc j) (omega arith)))
  where
    and : (a b : Bool) → T a → T b → T (a && b)
    and true b p q = q
    and false b p q = absurd p

    below_before : (w : Option Value) → x < k → T (below_all nat_cmp x (map_on ks g)) → T (below_all nat_cmp x (before_entries k w (map_on ks g)))
    below_before None l r = r
    below_before (Some v) l r = and _ _ (less_is x k l) r

pub is_sorted-map_rising : (g : ℕ → Option Value) (ks : List ℕ) → Rise ks → T (is_sorted nat_cmp (map_on ks g))
is_sorted-map_rising g [] h = tt
is_sorted-map_rising g (k ∷ ks) h =
    is_sorted-before nat_cmp k (g k) (map_on ks g) (below-map_on k g ks (λ j l. h zero (suc j) (omega arith) (omega arith))) (is_sorted-map_rising g ks (rise_rest k ks h))

all_apart : (q k : ℕ) (ks : List ℕ) → (nat_cmp q k ≡ Equal → ⊥) → ((j : ℕ) → j < length ks → slice_index ks j ≢ q) → (j : ℕ) → j < length (k ∷ ks) → slice_index (k ∷ ks) j ≢ q
all_apart q k ks n apart zero l e = n (sym (nat_cmp_is q k Equal (sym e)))
all_apart q k ks n apart (suc j) l e = apart j (omega arith) e

pub find-map_rising : (g : ℕ → Option Value) (q : ℕ) (ks : List ℕ) → Rise ks → (((j : ℕ) → j < length ks → slice_index ks j ≢ q) → g q ≡ None) → find nat_cmp q (map_on ks g) ≡ g q
find-map_rising g q [] h out = sym (out (λ j l. absurd (omega arith)))
find-map_rising g q (k ∷ ks) h out =
    find-before nat_cmp nat_cmp_total k q (g k) (map_on ks g) (below-map_on k g ks (λ j l. h zero (suc j) (omega arith) (omega arith)))
    ∙ elim (nat_cmp q k) as (λ r. nat_cmp q k ≡ r → cond (is_eq r) (g k) (find nat_cmp q (map_on ks g)) ≡ g q) [
      | Less ↦ λ t. find-map_rising g q ks (rise_rest k ks h) (λ apart. out (all_apart q k ks (apart_by Less t (λ (n : Less ≡ Equal). cc)) apart))
      | Equal ↦ λ t. ap g (sym (nat_cmp-IsAntisymmetric q k t))
      | Greater ↦ λ t. find-map_rising g q ks (rise_rest k ks h) (λ apart. out (all_apart q k ks (apart_by Greater t (λ (n : Greater ≡ Equal). cc)) apart))
    ] refl
  where
    apart_by : (r : Ordering) → nat_cmp q k ≡ r → (r ≡ Equal → ⊥) → nat_cmp q k ≡ Equal → ⊥
    apart_by r t n e = n (sym t ∙ e)

-- one row more
pub row_step : (g : ℕ → Option Value) (rows : List ℕ) (place : ℕ) (w : Option Value) (so_far next total : VectorEntries) → place < length rows
    → so_far ++ map_on (drop place rows) g ≡ total → w ≡ g (get_or rows place 0) → next ≡ so_far ++ before_entries (get_or rows place 0) w []
    → next ++ map_on (drop (place + 1) rows) g ≡ total
row_step g rows place w so_far next total h was is made =
    ap (λ (m : VectorEntries). m ++ rest) made
    ∙ append_assoc so_far (before_entries k w []) rest
    ∙ ap (λ (m : VectorEntries). so_far ++ m) (before-append k w rest ∙ ap (λ v. before_entries k v rest) is ∙ sym first)
    ∙ was
  where
    k : ℕ
    k = get_or rows place 0

    rest : VectorEntries
    rest = map_on (drop (place + 1) rows) g

    first : map_on (drop place rows) g ≡ before_entries k (g k) rest
    first = ap (λ (ks : List ℕ). map_on ks g) (drop_more rows place 0 h)
