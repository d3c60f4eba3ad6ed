-- What results and written outputs are made of: their places are those of the inputs, and their values of the inputs' domain.
use Rattle.std.proofs.Common.{ℕ, ◌+◌, ◌-◌, ◌*◌, ◌<◌, ◌^◌, Bool, true, false, cond, List, [], ◌∷◌, ◌++◌, arith, lit<}
use Rattle.grb_core.proofs.Prelude.{⊤, ◌==◌, map, filter, Option, Some, None, AllByRecursion, Ordering, Less, Equal, Greater, nat_cmp, eq_by_cmp, find, put, by_order, BinaryOp, Monoid, Value, IsValueOf, op_domain, on_numbers, value_of_op, monoid_domain, fold_of_some, MatrixEntries, before_entries, map_on, map_from, places_of, values_of, either_value, both_values, written_value, pointwise, masked, row_of, column_of, rows_of, columns_of, cells_between}
use Rattle.std.proofs.lemmas.Nat.{mod_below}
use Rattle.grb_core.specs.declared.domain.Domain.TheVariants as domain
use Rattle.grb_core.specs.declared.operator.BinaryOp.TheVariants as op
use Rattle.grb_core.specs.declared.value.Value.TheVariants as value
use Rattle.grb_core.proofs.Folds.{fold_of-is}

-- the value, if there is one, has the property
abbrev pub Holds : (Value → Type 0) → Option Value → Type 0
Holds Q None = ⊤
Holds Q (Some v) = Q v

holds_cond : (Q : Value → Type 0) (b : Bool) (x y : Option Value) → Holds Q x → Holds Q y → Holds Q (cond b x y)
holds_cond Q true x y p q = p
holds_cond Q false x y p q = q

pub holds_either : (Q : Value → Type 0) (g : Value → Value → Value) → ((a b : Value) → Q a → Q b → Q (g a b)) → (x y : Option Value) → Holds Q x → Holds Q y → Holds Q (either_value g x y)
holds_either Q g closed None y p q = q
holds_either Q g closed (Some x) None p q = p
holds_either Q g closed (Some x) (Some y) p q = closed x y p q

pub holds_both : (Q : Value → Type 0) (g : Value → Value → Value) → ((a b : Value) → Q a → Q b → Q (g a b)) → (x y : Option Value) → Holds Q x → Holds Q y → Holds Q (both_values g x y)
holds_both Q g closed None y p q = tt
holds_both Q g closed (Some x) None p q = tt
holds_both Q g closed (Some x) (Some y) p q = closed x y p q

pub holds_written : (Q : Value → Type 0) (inside replace : Bool) (x y : Option Value) → Holds Q x → Holds Q y → Holds Q (written_value inside replace x y)
holds_written Q true replace x y p q = q
holds_written Q false true x y p q = tt
holds_written Q false false x y p q = p

pub holds_fold : (m : Monoid) (vs : List Value) → AllByRecursion (IsValueOf (monoid_domain m)) vs → Holds (IsValueOf (monoid_domain m)) (fold_of_some m vs)
holds_fold m [] h = tt
holds_fold m (v ∷ vs) h = fold_of-is m (v ∷ vs) h

module _ {A : Type 0} (P : A → Type 0) where
  pub all-append : (xs ys : List A) → AllByRecursion P xs → AllByRecursion P ys → AllByRecursion P (xs ++ ys)
  all-append [] ys g h = h
  all-append (x ∷ xs) ys g h = (g.0, all-append xs ys g.1 h)

  all-filter : (test : A → Bool) (xs : List A) → AllByRecursion P xs → AllByRecursion P (filter test xs)
  all-filter test [] h = tt
  all-filter test (x ∷ xs) h =
      let rest = all-filter test xs h.1 in
      elim (test x) as (λ b. AllByRecursion P (cond b (x ∷ filter test xs) (filter test xs))) [ true ↦ (h.0, rest) | false ↦ rest ]

  pub all-map : {B : Type 0} (f : B → A) (xs : List B) → AllByRecursion (λ x. P (f x)) xs → AllByRecursion P (map f xs)
  all-map f [] h = tt
  all-map f (x ∷ xs) h = (h.0, all-map f xs h.1)

  pub all-weaker : (Q : A → Type 0) → ((x : A) → Q x → P x) → (xs : List A) → AllByRecursion Q xs → AllByRecursion P xs
  all-weaker Q f [] h = tt
  all-weaker Q f (x ∷ xs) h = (f x h.0, all-weaker Q f xs h.1)

module _ {K : Type 0} where
  -- the places of a map that is made at some places are among these
  pub within-map_on : (P : K → Type 0) (f : K → Option Value) (ks : List K) → AllByRecursion P ks → AllByRecursion (λ e. P e.0) (map_on ks f)
  within-map_on P f [] h = tt
  within-map_on P f (k ∷ ks) h =
      let rest = within-map_on P f ks h.1 in
      elim (f k) as (λ w. AllByRecursion (λ e. P e.0) (before_entries k w (map_on ks f))) [ None ↦ rest | Some v ↦ (h.0, rest) ]

  -- and its values are those that are made
  pub of-map_on : (Q : Value → Type 0) (f : K → Option Value) → ((k : K) → Holds Q (f k)) → (ks : List K) → AllByRecursion (λ e. Q e.1) (map_on ks f)
  of-map_on Q f made [] = tt
  of-map_on Q f made (k ∷ ks) =
      let rest = of-map_on Q f made ks in
      elim (f k) as (λ w. Holds Q w → AllByRecursion (λ e. Q e.1) (before_entries k w (map_on ks f))) [ None ↦ λ h. rest | Some v ↦ λ h. (h, rest) ] (made k)

  module _ (R : K → K → Ordering) where
    within-put : (P : K → Type 0) (k : K) (v : Value) (m : List (K × Value)) → P k → AllByRecursion (λ e. P e.0) m → AllByRecursion (λ e. P e.0) (put R k v m)
    within-put P k v [] p h = (p, tt)
    within-put P k v (e ∷ es) p h =
        elim (R k e.0) as (λ r. AllByRecursion (λ e. P e.0) (by_order r ((k, v) ∷ e ∷ es) ((e.0, v) ∷ es) (e ∷ put R k v es))) [
          | Less ↦ (p, h)
          | Equal ↦ (h.0, h.1)
          | Greater ↦ (h.0, within-put P k v es p h.1)
        ]

    within-map_from : (P : K → Type 0) (es : List (K × Value)) → AllByRecursion (λ e. P e.0) es → AllByRecursion (λ e. P e.0) (map_from R es)
    within-map_from P [] h = tt
    within-map_from P (e ∷ es) h = within-put P e.0 e.1 (map_from R es) h.0 (within-map_from P es h.1)

    pub within-places : (P : K → Type 0) (es : List (K × Value)) → AllByRecursion (λ e. P e.0) es → AllByRecursion P (places_of R es)
    within-places P es h = all-map P (λ e. e.0) (map_from R es) (within-map_from P es h)

    pub of-find : (Q : Value → Type 0) (k : K) (m : List (K × Value)) → AllByRecursion (λ e. Q e.1) m → Holds Q (find R k m)
    of-find Q k [] h = tt
    of-find Q k (e ∷ es) h = holds_cond Q (eq_by_cmp R k e.0) (Some e.1) (find R k es) h.0 (of-find Q k es h.1)

    pub within-pointwise : (P : K → Type 0) (f : Option Value → Option Value → Option Value) (a b : List (K × Value)) → AllByRecursion (λ e. P e.0) a → AllByRecursion (λ e. P e.0) b
        → AllByRecursion (λ e. P e.0) (pointwise R f a b)
    within-pointwise P f a b g h =
        within-map_on P (λ k. f (find R k a) (find R k b)) (places_of R (a ++ b)) (within-places P (a ++ b) (all-append (λ e. P e.0) a b g h))

    pub of-pointwise : (Q : Value → Type 0) (f : Option Value → Option Value → Option Value) → ((x y : Option Value) → Holds Q x → Holds Q y → Holds Q (f x y))
        → (a b : List (K × Value)) → AllByRecursion (λ e. Q e.1) a → AllByRecursion (λ e. Q e.1) b → AllByRecursion (λ e. Q e.1) (pointwise R f a b)
    of-pointwise Q f made a b g h =
        of-map_on Q (λ k. f (find R k a) (find R k b)) (λ k. made (find R k a) (find R k b) (of-find Q k a g) (of-find Q k b h)) (places_of R (a ++ b))

    pub within-masked : (P : K → Type 0) (inside : K → Bool) (replace : Bool) (c z : List (K × Value)) → AllByRecursion (λ e. P e.0) c → AllByRecursion (λ e. P e.0) z
        → AllByRecursion (λ e. P e.0) (masked R inside replace c z)
    within-masked P inside replace c z g h =
        within-map_on P (λ k. written_value (inside k) replace (find R k c) (find R k z)) (places_of R (c ++ z)) (within-places P (c ++ z) (all-append (λ e. P e.0) c z g h))

    pub of-masked : (Q : Value → Type 0) (inside : K → Bool) (replace : Bool) (c z : List (K × Value)) → AllByRecursion (λ e. Q e.1) c → AllByRecursion (λ e. Q e.1) z
        → AllByRecursion (λ e. Q e.1) (masked R inside replace c z)
    of-masked Q inside replace c z g h =
        of-map_on Q (λ k. written_value (inside k) replace (find R k c) (find R k z))
        (λ k. holds_written Q (inside k) replace (find R k c) (find R k z) (of-find Q k c g) (of-find Q k z h)) (places_of R (c ++ z))

  pub of-values : (Q : Value → Type 0) (m : List (K × Value)) → AllByRecursion (λ e. Q e.1) m → AllByRecursion Q (values_of m)
  of-values Q m h = all-map Q (λ e. e.1) m h

-- a row and a column have values of the matrix
pub of-row : (Q : Value → Type 0) (i : ℕ) (a : MatrixEntries) → AllByRecursion (λ e. Q e.1) a → AllByRecursion (λ e. Q e.1) (row_of i a)
of-row Q i a h = all-map (λ e. Q e.1) (λ e. (e.0.1, e.1)) (filter (λ e. e.0.0 == i) a) (all-filter (λ e. Q e.1) (λ e. e.0.0 == i) a h)

pub of-column : (Q : Value → Type 0) (j : ℕ) (a : MatrixEntries) → AllByRecursion (λ e. Q e.1) a → AllByRecursion (λ e. Q e.1) (column_of j a)
of-column Q j a h = all-map (λ e. Q e.1) (λ e. (e.0.0, e.1)) (filter (λ e. e.0.1 == j) a) (all-filter (λ e. Q e.1) (λ e. e.0.1 == j) a h)

pub within-rows : (P : ℕ → Type 0) (a : MatrixEntries) → AllByRecursion (λ e. P e.0.0) a → AllByRecursion P (rows_of a)
within-rows P a h = within-places nat_cmp P (map (λ e. (e.0.0, e.1)) a) (all-map (λ e. P e.0) (λ e. (e.0.0, e.1)) a h)

pub within-columns : (P : ℕ → Type 0) (a : MatrixEntries) → AllByRecursion (λ e. P e.0.1) a → AllByRecursion P (columns_of a)
within-columns P a h = within-places nat_cmp P (map (λ e. (e.0.1, e.1)) a) (all-map (λ e. P e.0) (λ e. (e.0.1, e.1)) a h)

pub within-cells : (P Q : ℕ → Type 0) (is js : List ℕ) → AllByRecursion P is → AllByRecursion Q js → AllByRecursion (λ cell. P cell.0 × Q cell.1) (cells_between is js)
within-cells P Q [] js g h = tt
within-cells P Q (i ∷ is) js g h =
    all-append (λ cell. P cell.0 × Q cell.1) (map (λ j. (i, j)) js) (cells_between is js)
    (all-map (λ cell. P cell.0 × Q cell.1) (λ j. (i, j)) js (all-weaker (λ j. P i × Q j) Q (λ j q. (g.0, q)) js h))
    (within-cells P Q is js g.1 h)

-- an operator keeps the values of its domain
number_closed : (o : BinaryOp) (a b : ℕ) → a < 2 ^ 64 → b < 2 ^ 64 → on_numbers o a b < 2 ^ 64
number_closed op.Plus a b g h = mod_below (a + b) (2 ^ 64) (lit< tt)
number_closed op.Times a b g h = mod_below (a * b) (2 ^ 64) (lit< tt)
number_closed op.Minus a b g h = mod_below (a + 2 ^ 64 - b) (2 ^ 64) (lit< tt)
number_closed op.Min a b g h = omega arith
number_closed op.Max a b g h = omega arith
number_closed op.Second a b g h = h
number_closed _ a b g h = g

pub op_closed : (o : BinaryOp) (a b : Value) → IsValueOf (op_domain o) a → IsValueOf (op_domain o) b → IsValueOf (op_domain o) (value_of_op o a b)
op_closed o (value.Bool a) (value.Bool b) g h =
    elim (op_domain o) as (λ d. IsValueOf d (value.Bool a) → IsValueOf d (value_of_op o (value.Bool a) (value.Bool b))) [ domain.Bool ↦ λ k. tt | domain.Uint64 ↦ λ k. absurd k ] g
op_closed o (value.Uint64 a) (value.Uint64 b) g h =
    elim (op_domain o) as (λ d. IsValueOf d (value.Uint64 a) → IsValueOf d (value.Uint64 b) → IsValueOf d (value_of_op o (value.Uint64 a) (value.Uint64 b))) [
      | domain.Bool ↦ λ k l. absurd k
      | domain.Uint64 ↦ λ k l. number_closed o a b k l
    ] g h
op_closed o (value.Bool a) (value.Uint64 b) g h = g
op_closed o (value.Uint64 a) (value.Bool b) g h = g
