-- Worked examples, computed from the definitions, and that the premises of the laws can be met.
use Rattle.std.proofs.Common.{◌≡◌, ◌<◌, ℕ, true, false, [], ◌∷◌, refl, subst, ◌∙◌, arith, lit<}
use Rattle.std.specs.Prelude.{Option, Some, IfSome, option_and_then}
use Rattle.grb_core.proofs.Prelude.{◌≢◌, IsPermutation, nat_cmp, All-nil, All-cons, All-from_recursion, Value, IsValueOf, VectorEntries, cell_cmp, without_entry, built_from, cells_of, resized_vector, fold_of, AreOf, BringValuesOf, Cell, HavePlacesApart, MatrixEntries, set_all, transposed}
use Rattle.std.proofs.lemmas.List.Kept.{AllPairs-cons}
use Rattle.grb_core.specs.Pulled.{pulled_matrix, matrix_from_vector, exchanged}
use Rattle.grb_core.specs.MapLaws.{IsInto}
use Rattle.grb_core.proofs.Pulls.{pulled_twice, placed_twice}
use Rattle.grb_core.specs.declared.domain.Domain.TheVariants as domain
use Rattle.grb_core.specs.declared.value.Value.TheVariants as value
use Rattle.grb_core.specs.declared.monoid.Monoid.TheVariants as monoid

abbrev u64 : ℕ → Value
u64 n = value.Uint64 n

-- three tuples, two of one place
abbrev tuples : VectorEntries
tuples = (3, u64 5) ∷ (1, u64 6) ∷ (3, u64 9) ∷ []

abbrev two : VectorEntries
two = (3, u64 5) ∷ (1, u64 6) ∷ []

-- entries are kept by place, in whatever order they are set
sets : set_all nat_cmp [] tuples ≡ (1, u64 6) ∷ (3, u64 9) ∷ []
sets = refl

-- a build combines the values of a place
builds_with_plus : built_from nat_cmp monoid.Plus tuples ≡ (1, u64 6) ∷ (3, u64 14) ∷ []
builds_with_plus = refl

builds_with_min : built_from nat_cmp monoid.Min tuples ≡ (1, u64 6) ∷ (3, u64 5) ∷ []
builds_with_min = refl

-- cells stand by row, and in a row by column
builds_cells :
    built_from cell_cmp monoid.Max (cells_of ((1, 0, u64 4) ∷ (0, 2, u64 7) ∷ (0, 1, u64 0) ∷ (1, 0, u64 3) ∷ []))
    ≡ ((0, 1), u64 0) ∷ ((0, 2), u64 7) ∷ ((1, 0), u64 4) ∷ []
builds_cells = refl

-- a removed entry is gone, and the removal of one that is not there changes nothing
removes : without_entry nat_cmp 3 (set_all nat_cmp [] tuples) ≡ (1, u64 6) ∷ []
removes = refl

removes_nothing : without_entry nat_cmp 2 (set_all nat_cmp [] tuples) ≡ (1, u64 6) ∷ (3, u64 9) ∷ []
removes_nothing = refl

-- the entry at 3 does not come back
resizes :
    resized_vector 5 (resized_vector 3 (record { domain = domain.Uint64; size = 5; entries = (1, u64 6) ∷ (3, u64 9) ∷ [] }))
    ≡ record { domain = domain.Uint64; size = 5; entries = (1, u64 6) ∷ [] }
resizes = refl

-- an even number of the values are false, and an odd number
lxnor_of_two : fold_of monoid.Lxnor (value.Bool false ∷ value.Bool true ∷ value.Bool false ∷ []) ≡ value.Bool true
lxnor_of_two = refl

lxnor_of_one : fold_of monoid.Lxnor (value.Bool true ∷ value.Bool true ∷ value.Bool false ∷ []) ≡ value.Bool false
lxnor_of_one = refl

abbrev HasAnotherPlace : ℕ × Value → ℕ × Value → Type 0
HasAnotherPlace d e = d.0 ≢ e.0

-- the premises of `build_is_sets`, at two tuples, and what it then says of them
apart : HavePlacesApart two
apart =
    let first : ℕ × Value = (3, u64 5) in
    let other : ℕ × Value = (1, u64 6) in
    let after_first = All-cons (λ e. first.0 ≢ e.0) other [] (λ e. absurd (omega arith)) (All-nil (λ e. first.0 ≢ e.0)) in
    AllPairs-cons HasAnotherPlace first (other ∷ []) after_first (AllPairs-cons HasAnotherPlace other [] (All-nil (HasAnotherPlace other)) (λ i j d low high. absurd (omega arith)))

bring_numbers : BringValuesOf monoid.Plus two
bring_numbers = All-from_recursion (λ e. IsValueOf domain.Uint64 e.1) two (lit< tt, (lit< tt, tt))

builds_as_sets : built_from nat_cmp monoid.Plus two ≡ set_all nat_cmp [] two
builds_as_sets = refl

-- the premises of `folds_in_any_order` and `builds_in_any_order`
are_numbers : AreOf monoid.Plus (u64 5 ∷ u64 6 ∷ [])
are_numbers = All-from_recursion (IsValueOf domain.Uint64) (u64 5 ∷ u64 6 ∷ []) (lit< tt, (lit< tt, tt))

in_another_order : IsPermutation two ((1, u64 6) ∷ (3, u64 5) ∷ [])
in_another_order = record { moves = (0, 1) ∷ []; below = (lit< tt, lit< tt, tt); is = refl }

abbrev three_by_two : MatrixEntries
three_by_two = ((0, 1), u64 6) ∷ ((2, 0), u64 5) ∷ []

-- the premise of the clauses `twice` and `placed` of `moved_entries_stand_where_they_are_read`: of 3 by 2 cells that are transposed
exchanged_is_into : IsInto 2 3 3 2 exchanged
exchanged_is_into k l row column e = subst (λ (o : Option Cell). IfSome o (λ m. (m.0 < 3) × (m.1 < 2))) e (column, row)

-- and what they then say: of a matrix that is transposed twice, and of one whose rows are a vector's values
read_as_before : pulled_matrix 2 3 exchanged (pulled_matrix 3 2 exchanged (transposed three_by_two)) ≡ transposed three_by_two
read_as_before = pulled_twice 3 2 2 3 exchanged exchanged (transposed three_by_two) exchanged_is_into ∙ refl

abbrev spread : Cell → Option ℕ
spread k = Some k.0

spread_and_turned : pulled_matrix 2 3 exchanged (matrix_from_vector 3 2 spread two) ≡ matrix_from_vector 2 3 (λ k. option_and_then spread (exchanged k)) two
spread_and_turned = placed_twice 3 2 2 3 spread exchanged two exchanged_is_into
