-- What apply, select, diag and kronecker make is in order, within, and of its domain.
use Rattle.std.proofs.Common.{◌≡◌, ℕ, ◌+◌, ◌<◌, ◌/◌, ◌%◌, Bool, List, [], ◌∷◌, refl, sym, ap, subst, arith, Option, Some, None}
use Rattle.std.specs.Prelude.{◌-◌, ◌^◌, IsTrue, All, map, filter, not, option_and_then}
use Rattle.std.specs.List.{AllByRecursion}
use Rattle.std.specs.declared.cmp.Ordering.{Ordering}
use Rattle.std.specs.Ordering.{nat_cmp}
use Rattle.std.specs.Cmp.{nat_cmp_total}
use Rattle.std.specs.FinMap.{find, is_sorted, nat_cmp-IsAntisymmetric}
use Rattle.std.proofs.lemmas.List.Elements.{All-filter, All-from_recursion, recursion_from_All}
use Rattle.grb_core.specs.declared.domain.Domain.{Domain}
use Rattle.grb_core.specs.declared.domain.Domain.TheVariants as domain
use Rattle.grb_core.specs.declared.operator.BinaryOp.{BinaryOp}
use Rattle.grb_core.specs.declared.value.Value.{Value}
use Rattle.grb_core.specs.declared.value.Value.TheVariants as value
use Rattle.grb_core.specs.Value.{IsValueOf, value_domain}
use Rattle.grb_core.specs.Operator.{op_domain, value_of_op}
use Rattle.grb_core.specs.Entries.{Cell, cell_cmp, VectorEntries, MatrixEntries, map_on}
use Rattle.grb_core.specs.ResultLaws.{AreEntries, AreMatrixEntries, AreVectorEntries, IsCellBelow}
use Rattle.grb_core.proofs.Made.{Holds, of-find, of-map_on, op_closed}
use Rattle.grb_core.proofs.Maps.{cell_cmp_total, cell_cmp-IsAntisymmetric}
use Rattle.grb_core.proofs.ResultLaws.{ewise_makes_entries}
use Rattle.grb_core.specs.declared.functions.Function.{Function}
use Rattle.grb_core.specs.declared.functions.Function.TheVariants as function
use Rattle.grb_core.specs.declared.functions.UnaryOp.{UnaryOp}
use Rattle.grb_core.specs.declared.functions.UnaryOp.TheVariants as unary
use Rattle.grb_core.specs.declared.tests.Diagonal.{Diagonal}
use Rattle.grb_core.specs.declared.tests.Test.{Test}
use Rattle.grb_core.specs.Functions.{BringsItsValue, IsFunctionOf, unary_domain, value_of_function, value_of_unary}
use Rattle.grb_core.specs.Maps.{applied, diagonal_of, kronecker_of, on_diagonal, selected_cells, selected_indices}
use Rattle.grb_core.specs.MapLaws.{AppliedMakesEntries, DiagonalMakesEntries, KroneckerMakesEntries, SelectedMakesEntries}
use Rattle.grb_core.specs.Pulled.{all_cells, pulled_matrix}
use Rattle.grb_core.specs.Tests.{passes}
use Rattle.grb_core.proofs.Each.{filter-each, holds, made_true, map-each, sorted-each}
use Rattle.grb_core.proofs.Pulls.{sorted_cells_made, within-cells_made}

-- what a function makes of a value of its domain is one
unary_closed : (op : UnaryOp) (a : Value) → IsValueOf (unary_domain op) a → IsValueOf (unary_domain op) (value_of_unary op a)
unary_closed unary.Identity (value.Uint64 n) h = h
unary_closed unary.Identity (value.Bool b) h = absurd h
unary_closed unary.IdentityBool (value.Bool b) h = h
unary_closed unary.IdentityBool (value.Uint64 n) h = absurd h
unary_closed unary.Ainv (value.Uint64 n) h = grind (arith)
unary_closed unary.Ainv (value.Bool b) h = absurd h
unary_closed unary.Bnot (value.Uint64 n) h = omega (arith)
unary_closed unary.Bnot (value.Bool b) h = absurd h
unary_closed unary.Lnot (value.Bool b) h = h
unary_closed unary.Lnot (value.Uint64 n) h = absurd h

function_closed : (d : Domain) (f : Function) (a : Value) → IsFunctionOf d f → BringsItsValue f → IsValueOf d a → IsValueOf d (value_of_function f a)
function_closed d (function.Unary op) a is brings h =
    subst (λ e. IsValueOf e (value_of_unary op a)) is (unary_closed op a (subst (λ e. IsValueOf e a) (sym is) h))
function_closed d (function.First x op) a is brings h =
    let of_x : IsValueOf (op_domain op) x = subst (λ e. IsValueOf e x) (sym is.1) (subst (λ e. IsValueOf e x) is.0 brings) in
    subst (λ e. IsValueOf e (value_of_op op x a)) is.1 (op_closed op x a of_x (subst (λ e. IsValueOf e a) (sym is.1) h))
function_closed d (function.Second op x) a is brings h =
    let of_x : IsValueOf (op_domain op) x = subst (λ e. IsValueOf e x) (sym is.0) (subst (λ e. IsValueOf e x) is.1 brings) in
    subst (λ e. IsValueOf e (value_of_op op a x)) is.0 (op_closed op a x (subst (λ e. IsValueOf e a) (sym is.0) h) of_x)

module _ {K : Type 0} where
  values_applied : (d : Domain) (f : Function) → IsFunctionOf d f → BringsItsValue f → (m : List (K × Value)) → AllByRecursion (λ e. IsValueOf d e.1) m → AllByRecursion (λ e. IsValueOf d e.1) (applied f m)
  values_applied d f is brings [] h = tt
  values_applied d f is brings (e ∷ m) h = (function_closed d f e.1 is brings h.0, values_applied d f is brings m h.1)

  within_applied : (Within : K → Type 0) (f : Function) (m : List (K × Value)) → AllByRecursion (λ e. Within e.0) m → AllByRecursion (λ e. Within e.0) (applied f m)
  within_applied Within f [] h = tt
  within_applied Within f (e ∷ m) h = (h.0, within_applied Within f m h.1)

pub applied_makes_entries : {K : Type 0} (R : K → K → Ordering) (Within : K → Type 0) → AppliedMakesEntries R Within
applied_makes_entries {K} R Within d f m is brings are = record {
  ordered = subst (λ (s : List (K × Value)). IsTrue (is_sorted R s)) (sym (map-each (value_of_function f) m))
      (made_true _ (sorted-each R (λ k v. Some (value_of_function f v)) m (holds _ are.ordered)));
  within = All-from_recursion (λ (e : K × Value). Within e.0) (applied f m) (within_applied Within f m (recursion_from_All (λ (e : K × Value). Within e.0) m are.within));
  of_domain = All-from_recursion (λ (e : K × Value). IsValueOf d e.1) (applied f m)
      (values_applied d f is brings m (recursion_from_All (λ (e : K × Value). IsValueOf d e.1) m are.of_domain));
}

module _ {K : Type 0} (R : K → K → Ordering) (Within : K → Type 0) (d : Domain) (p : K → Value → Bool) (m : List (K × Value)) where
  filtered_makes_entries : AreEntries R Within d m → AreEntries R Within d (filter (λ e. p e.0 e.1) m)
  filtered_makes_entries are = record {
    ordered = subst (λ (s : List (K × Value)). IsTrue (is_sorted R s)) (sym (filter-each p m)) (made_true _ (sorted-each R _ m (holds _ are.ordered)));
    within = All-filter (λ (e : K × Value). p e.0 e.1) (λ (e : K × Value). Within e.0) m are.within;
    of_domain = All-filter (λ (e : K × Value). p e.0 e.1) (λ (e : K × Value). IsValueOf d e.1) m are.of_domain;
  }

pub selected_makes_entries : SelectedMakesEntries
selected_makes_entries d t = (
  λ nrows ncols a are. filtered_makes_entries cell_cmp (IsCellBelow nrows ncols) d (λ (k : Cell) v. passes t k.0 k.1 v) a are,
  λ size u are. filtered_makes_entries nat_cmp (λ i. i < size) d (λ k v. passes t k 0 v) u are,
)

-- what is read through a function on places
read_holds : {J : Type 0} (R : J → J → Ordering) (P : Value → Type 0) (m : List (J × Value)) → AllByRecursion (λ e. P e.1) m → (w : Option J) → Holds P (option_and_then (λ j. find R j m) w)
read_holds R P m h None = tt
read_holds R P m h (Some j) = of-find R P j m h

module _ (nrows ncols : ℕ) (d : Domain) (f : Cell → Option Value) (of : (k : Cell) → Holds (IsValueOf d) (f k)) where
  cells_make_entries : AreMatrixEntries nrows ncols d (map_on (all_cells nrows ncols) f)
  cells_make_entries = record {
    ordered = made_true _ (sorted_cells_made f nrows ncols);
    within = All-from_recursion _ _ (within-cells_made f nrows ncols);
    of_domain = All-from_recursion _ _ (of-map_on (IsValueOf d) f of (all_cells nrows ncols));
  }

pub diagonal_makes_entries : DiagonalMakesEntries
diagonal_makes_entries d diagonal size n u are =
    cells_make_entries n n d (λ k. option_and_then (λ l. find nat_cmp l u) (on_diagonal diagonal k))
    (λ k. read_holds nat_cmp (IsValueOf d) u (recursion_from_All (λ (e : ℕ × Value). IsValueOf d e.1) u are.of_domain) (on_diagonal diagonal k))

pulled_makes_entries : (nrows ncols : ℕ) (d : Domain) (g : Cell → Option Cell) (a : MatrixEntries) → All (λ e. IsValueOf d e.1) a → AreMatrixEntries nrows ncols d (pulled_matrix nrows ncols g a)
pulled_makes_entries nrows ncols d g a of =
    cells_make_entries nrows ncols d (λ k. option_and_then (λ l. find cell_cmp l a) (g k))
    (λ k. read_holds cell_cmp (IsValueOf d) a (recursion_from_All (λ (e : Cell × Value). IsValueOf d e.1) a of) (g k))

pub kronecker_makes_entries : KroneckerMakesEntries
kronecker_makes_entries op m n p q r c nrows ncols a b of_a of_b =
    (ewise_makes_entries cell_cmp cell_cmp_total cell_cmp-IsAntisymmetric (IsCellBelow nrows ncols) op _ _
    (pulled_makes_entries nrows ncols (op_domain op) (λ (k : Cell). Some (k.0 / r, k.1 / c)) a of_a.of_domain)
    (pulled_makes_entries nrows ncols (op_domain op) (λ (k : Cell). Some (k.0 % r, k.1 % c)) b of_b.of_domain)).1
