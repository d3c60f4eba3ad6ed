-- The tuples of a build that are the entries of an object.
use Rattle.std.proofs.Common.{◌≡◌, ℕ, ◌<◌, ◌≤◌, Bool, true, false, ◌&&◌, [], ◌∷◌, map, length, T, refl, sym, ap, subst, ◌∙◌, arith, nat_eq, nat_lt}
use Rattle.std.specs.Prelude.{All, IsTrue}
use Rattle.std.specs.List.{AllByRecursion, list_all}
use Rattle.std.proofs.lemmas.List.Elements.{All-from_recursion, recursion_from_All}
use Rattle.std.proofs.lemmas.Bool.Decides.{nat_tests}
use Rattle.std.specs.Cmp.{nat_cmp_total}
use Rattle.grb_core.specs.declared.domain.Domain.{Domain}
use Rattle.grb_core.specs.declared.domain.Domain.TheVariants as domain
use Rattle.grb_core.specs.declared.value.Value.{Value}
use Rattle.grb_core.specs.declared.value.Value.TheVariants as value
use Rattle.grb_core.specs.contracts.domain.DomainPartialEq.TheImpl.{ghosts as domain_ghosts}
use Rattle.grb_core.specs.contracts.value.ValuePartialEq.TheImpl.{ghosts as value_ghosts}
use Rattle.grb_core.specs.Value.{value_domain, IsValueOf}
use Rattle.std.specs.Ordering.{nat_cmp}
use Rattle.std.specs.FinMap.{nat_cmp-IsAntisymmetric}
use Rattle.grb_core.specs.declared.monoid.Monoid.{Monoid}
use Rattle.grb_core.specs.Monoid.{monoid_domain}
use Rattle.grb_core.specs.Contents.{Matrix, Vector, IsMatrix, IsVector}
use Rattle.grb_core.specs.Entries.{MatrixEntries, VectorEntries, built_from, cell_cmp, cells_of}
use Rattle.grb_core.proofs.Maps.{cell_cmp_total, cell_cmp-IsAntisymmetric}
use Rattle.grb_tuples.proofs.SortedBuilds.{built_from-sorted}
use Rattle.grb_tuples.specs.SameDomain.{same_domain}
use Rattle.grb_tuples.specs.Tuples.{tuples_of}

abbrev pub eq_index : (x y : ℕ × Value) → Bool
eq_index x y = nat_eq x.0 y.0 && value_ghosts.eq x.1 y.1

abbrev pub eq_cell : (x y : ℕ × ℕ × Value) → Bool
eq_cell x y = (nat_eq x.0 y.0 && nat_eq x.1 y.1) && value_ghosts.eq x.2 y.2

pub domains_same : (d k : Domain) → domain_ghosts.eq d k ≡ same_domain k d
domains_same domain.Bool domain.Bool = refl
domains_same domain.Bool domain.Uint64 = refl
domains_same domain.Uint64 domain.Bool = refl
domains_same domain.Uint64 domain.Uint64 = refl

is_of : (d : Domain) (v : Value) → IsValueOf d v → value_domain v ≡ d
is_of domain.Bool (value.Bool b) h = refl
is_of domain.Uint64 (value.Uint64 n) h = refl
is_of domain.Bool (value.Uint64 n) h = absurd h
is_of domain.Uint64 (value.Bool b) h = absurd h

and_true : (b : Bool) → (b && true) ≡ b
and_true true = refl
and_true false = refl

and_itself : (b : Bool) → (b && b) ≡ b
and_itself true = refl
and_itself false = refl

cells_of_one : (k d : Domain) (e : (ℕ × ℕ) × Value) (es : MatrixEntries) → AllByRecursion (λ e. IsValueOf d e.1) (e ∷ es) → list_all (same_domain k) (map (λ e. value_domain e.2) (tuples_of (e ∷ es))) ≡ same_domain k d
cells_of_one k d e [] h = ap (λ t. same_domain k t && true) (is_of d e.1 h.0) ∙ and_true (same_domain k d)
cells_of_one k d e (f ∷ es) h = (λ i. same_domain k (is_of d e.1 h.0 i) && cells_of_one k d f es h.1 i) ∙ and_itself (same_domain k d)

pub cells_domain : (k d : Domain) (es : MatrixEntries) → All (λ e. IsValueOf d e.1) es → (length es ≡ 0 → ⊥) → list_all (same_domain k) (map (λ e. value_domain e.2) (tuples_of es)) ≡ same_domain k d
cells_domain k d [] h some = absurd (some refl)
cells_domain k d (e ∷ es) h some = cells_of_one k d e es (recursion_from_All (λ e. IsValueOf d e.1) (e ∷ es) h)

pairs_of_one : (k d : Domain) (e : ℕ × Value) (es : VectorEntries) → AllByRecursion (λ e. IsValueOf d e.1) (e ∷ es) → list_all (same_domain k) (map (λ e. value_domain e.1) (e ∷ es)) ≡ same_domain k d
pairs_of_one k d e [] h = ap (λ t. same_domain k t && true) (is_of d e.1 h.0) ∙ and_true (same_domain k d)
pairs_of_one k d e (f ∷ es) h = (λ i. same_domain k (is_of d e.1 h.0 i) && pairs_of_one k d f es h.1 i) ∙ and_itself (same_domain k d)

pub pairs_domain : (k d : Domain) (es : VectorEntries) → All (λ e. IsValueOf d e.1) es → (length es ≡ 0 → ⊥) → list_all (same_domain k) (map (λ e. value_domain e.1) es) ≡ same_domain k d
pairs_domain k d [] h some = absurd (some refl)
pairs_domain k d (e ∷ es) h some = pairs_of_one k d e es (recursion_from_All (λ e. IsValueOf d e.1) (e ∷ es) h)

nat_lt-true : (i n : ℕ) → i < n → nat_lt i n ≡ true
nat_lt-true i n h = grind (arith, nat_tests)

cells_inside : (r c : ℕ) (es : MatrixEntries) → AllByRecursion (λ e. (e.0.0 < r) × (e.0.1 < c)) es → list_all (λ e. nat_lt e.0 r && nat_lt e.1 c) (tuples_of es) ≡ true
cells_inside r c [] h = refl
cells_inside r c (e ∷ es) h =
    ap (λ b. (b && nat_lt e.0.1 c) && list_all (λ e. nat_lt e.0 r && nat_lt e.1 c) (tuples_of es)) (nat_lt-true e.0.0 r h.0.0)
    ∙ ap (λ b. b && list_all (λ e. nat_lt e.0 r && nat_lt e.1 c) (tuples_of es)) (nat_lt-true e.0.1 c h.0.1)
    ∙ cells_inside r c es h.1

-- entries within a matrix are within a larger one
pub cells_within : (r c m n : ℕ) (es : MatrixEntries) → All (λ e. (e.0.0 < r) × (e.0.1 < c)) es → r ≤ m → c ≤ n → list_all (λ e. nat_lt e.0 m && nat_lt e.1 n) (tuples_of es) ≡ true
cells_within r c m n es h rm cn = cells_inside m n es (recursion_from_All (λ e. (e.0.0 < m) × (e.0.1 < n)) es (λ k d l. let t = h k d l in (omega (arith, t.0, rm), omega (arith, t.1, cn))))

pairs_inside : (n : ℕ) (es : VectorEntries) → AllByRecursion (λ e. e.0 < n) es → list_all (λ e. nat_lt e.0 n) es ≡ true
pairs_inside n [] h = refl
pairs_inside n (e ∷ es) h = ap (λ b. b && list_all (λ e. nat_lt e.0 n) es) (nat_lt-true e.0 n h.0) ∙ pairs_inside n es h.1

pub pairs_within : (s n : ℕ) (es : VectorEntries) → All (λ e. e.0 < s) es → s ≤ n → list_all (λ e. nat_lt e.0 n) es ≡ true
pairs_within s n es h sn = pairs_inside n es (recursion_from_All (λ e. e.0 < n) es (λ k d l. let t = h k d l in omega (arith, t, sn)))

pub cells_of-tuples : (es : MatrixEntries) → cells_of (tuples_of es) ≡ es
cells_of-tuples [] = refl
cells_of-tuples (e ∷ es) = ap (λ t. e ∷ t) (cells_of-tuples es)

-- the domain of the first entry's value is that of the object
pub cells_of_domain : (d k : Domain) (es : MatrixEntries) → All (λ e. IsValueOf d e.1) es → (length es ≡ 0 → ⊥) → All (λ e. value_domain e.2 ≡ k) (tuples_of es) → d ≡ k
cells_of_domain d k [] h some all = absurd (some refl)
cells_of_domain d k (e ∷ es) h some all =
    sym (is_of d e.1 (recursion_from_All (λ e. IsValueOf d e.1) (e ∷ es) h).0) ∙ (recursion_from_All (λ e. value_domain e.2 ≡ k) (tuples_of (e ∷ es)) all).0

pub pairs_of_domain : (d k : Domain) (es : VectorEntries) → All (λ e. IsValueOf d e.1) es → (length es ≡ 0 → ⊥) → All (λ e. value_domain e.1 ≡ k) es → d ≡ k
pairs_of_domain d k [] h some all = absurd (some refl)
pairs_of_domain d k (e ∷ es) h some all =
    sym (is_of d e.1 (recursion_from_All (λ e. IsValueOf d e.1) (e ∷ es) h).0) ∙ (recursion_from_All (λ e. value_domain e.1 ≡ k) (e ∷ es) all).0

rows_below : (n : ℕ) (es : MatrixEntries) → AllByRecursion (λ e. e.0 < n) (tuples_of es) → AllByRecursion (λ e. e.0.0 < n) es
rows_below n [] h = tt
rows_below n (e ∷ es) h = (h.0, rows_below n es h.1)

pub rows_all : (n : ℕ) (es : MatrixEntries) → All (λ e. e.0 < n) (tuples_of es) → All (λ e. e.0.0 < n) es
rows_all n es h = All-from_recursion (λ e. e.0.0 < n) es (rows_below n es (recursion_from_All (λ e. e.0 < n) (tuples_of es) h))

columns_below : (n : ℕ) (es : MatrixEntries) → AllByRecursion (λ e. e.1 < n) (tuples_of es) → AllByRecursion (λ e. e.0.1 < n) es
columns_below n [] h = tt
columns_below n (e ∷ es) h = (h.0, columns_below n es h.1)

pub columns_all : (n : ℕ) (es : MatrixEntries) → All (λ e. e.1 < n) (tuples_of es) → All (λ e. e.0.1 < n) es
columns_all n es h = All-from_recursion (λ e. e.0.1 < n) es (columns_below n es (recursion_from_All (λ e. e.1 < n) (tuples_of es) h))

is_true : (b : Bool) → IsTrue b → T b
is_true b h = subst T (sym h) tt

-- a build of a whole object's entries stores just these
pub cells_built : (dup : Monoid) (m : Matrix) → IsMatrix m → m.domain ≡ monoid_domain dup → built_from cell_cmp dup (cells_of (tuples_of m.entries)) ≡ m.entries
cells_built dup m h d =
    ap (built_from cell_cmp dup) (cells_of-tuples m.entries)
    ∙ built_from-sorted cell_cmp cell_cmp_total cell_cmp-IsAntisymmetric dup m.entries (is_true _ h.ordered)
    (subst (λ k. AllByRecursion (λ e. IsValueOf k e.1) m.entries) d (recursion_from_All (λ e. IsValueOf m.domain e.1) m.entries h.of_domain))

pub pairs_built : (dup : Monoid) (v : Vector) → IsVector v → v.domain ≡ monoid_domain dup → built_from nat_cmp dup v.entries ≡ v.entries
pairs_built dup v h d =
    built_from-sorted nat_cmp nat_cmp_total nat_cmp-IsAntisymmetric dup v.entries (is_true _ h.ordered)
    (subst (λ k. AllByRecursion (λ e. IsValueOf k e.1) v.entries) d (recursion_from_All (λ e. IsValueOf v.domain e.1) v.entries h.of_domain))
