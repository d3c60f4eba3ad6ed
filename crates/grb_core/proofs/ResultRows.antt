-- Worked examples of masks, written outputs and results, computed from the definitions.
use Rattle.std.proofs.Common.{◌≡◌, ℕ, Bool, true, false, List, [], ◌∷◌, refl}
use Rattle.grb_core.proofs.Prelude.{Option, Some, None, map, nat_cmp, BinaryOp, Monoid, Value, VectorEntries, MatrixEntries, cell_cmp, SemiringParts, written, ewise_add, ewise_mult, mxv_of, mxm_of, reduce_rows_of, reduce_of}
use Rattle.grb_core.specs.declared.operator.BinaryOp.TheVariants as op
use Rattle.grb_core.specs.declared.monoid.Monoid.TheVariants as monoid
use Rattle.grb_core.specs.declared.value.Value.TheVariants as value
use Rattle.grb_core.specs.Mask.{is_inside}

abbrev u64 : ℕ → Value
u64 n = value.Uint64 n

abbrev bool : Bool → Value
bool b = value.Bool b

-- the places 0 to 4
abbrev five : List ℕ
five = 0 ∷ 1 ∷ 2 ∷ 3 ∷ 4 ∷ []

-- a mask with a stored 0, a number and nothing else; and one of truth values
abbrev numbers : Option VectorEntries
numbers = Some ((1, u64 0) ∷ (3, u64 9) ∷ [])

abbrev truths : Option VectorEntries
truths = Some ((0, bool false) ∷ (4, bool true) ∷ [])

-- by value a stored 0 and a stored false select nothing
mask_by_value : map (is_inside nat_cmp false false numbers) five ≡ false ∷ false ∷ false ∷ true ∷ false ∷ []
mask_by_value = refl

mask_of_truths : map (is_inside nat_cmp false false truths) five ≡ false ∷ false ∷ false ∷ false ∷ true ∷ []
mask_of_truths = refl

-- by structure each stored value selects
mask_by_structure : map (is_inside nat_cmp true false numbers) five ≡ false ∷ true ∷ false ∷ true ∷ false ∷ []
mask_by_structure = refl

complement_by_value : map (is_inside nat_cmp false true numbers) five ≡ true ∷ true ∷ true ∷ false ∷ true ∷ []
complement_by_value = refl

-- without a mask each place is inside, and none with the complement
no_mask : map (is_inside nat_cmp false false None) five ≡ true ∷ true ∷ true ∷ true ∷ true ∷ []
no_mask = refl

complement_of_no_mask : map (is_inside nat_cmp true true None) five ≡ false ∷ false ∷ false ∷ false ∷ false ∷ []
complement_of_no_mask = refl

-- an old output and a result, of which one place is in both
abbrev old : VectorEntries
old = (0, u64 10) ∷ (1, u64 20) ∷ (3, u64 30) ∷ []

abbrev computed : VectorEntries
computed = (1, u64 1) ∷ (2, u64 2) ∷ []

-- a place inside that was not computed is emptied, and with an accumulator it stays
writes : written nat_cmp (is_inside nat_cmp false false numbers) false None old computed ≡ (0, u64 10) ∷ (1, u64 20) ∷ []
writes = refl

accumulates : written nat_cmp (is_inside nat_cmp true false numbers) false (Some op.Minus) old computed ≡ (0, u64 10) ∷ (1, u64 19) ∷ (3, u64 30) ∷ []
accumulates = refl

-- with replace what is outside is gone
replaces : written nat_cmp (is_inside nat_cmp true false numbers) true (Some op.Plus) old computed ≡ (1, u64 21) ∷ (3, u64 30) ∷ []
replaces = refl

writes_without_mask : written nat_cmp (is_inside nat_cmp false false None) true None old computed ≡ computed
writes_without_mask = refl

writes_nowhere : written nat_cmp (is_inside nat_cmp false true None) false (Some op.Plus) old computed ≡ old
writes_nowhere = refl

clears_everywhere : written nat_cmp (is_inside nat_cmp false true None) true (Some op.Plus) old computed ≡ []
clears_everywhere = refl

-- over the union the single values stay, and over the intersection they are gone
adds : ewise_add nat_cmp op.Minus old computed ≡ (0, u64 10) ∷ (1, u64 19) ∷ (2, u64 2) ∷ (3, u64 30) ∷ []
adds = refl

multiplies : ewise_mult nat_cmp op.Minus old computed ≡ (1, u64 19) ∷ []
multiplies = refl

-- two matrices of two rows and three columns
abbrev a : MatrixEntries
a = ((0, 0), u64 2) ∷ ((0, 2), u64 5) ∷ ((1, 1), u64 3) ∷ []

abbrev b : MatrixEntries
b = ((0, 2), u64 7) ∷ ((1, 0), u64 1) ∷ []

adds_cells : ewise_add cell_cmp op.Plus a b ≡ ((0, 0), u64 2) ∷ ((0, 2), u64 12) ∷ ((1, 0), u64 1) ∷ ((1, 1), u64 3) ∷ []
adds_cells = refl

multiplies_cells : ewise_mult cell_cmp op.First a b ≡ ((0, 2), u64 5) ∷ []
multiplies_cells = refl

abbrev ring : Monoid → BinaryOp → SemiringParts
ring m o = record { monoid = m; op = o }

abbrev u : VectorEntries
u = (0, u64 10) ∷ (2, u64 1) ∷ []

-- row 1 has no product, since nothing is stored at 1 in the vector
products : mxv_of (ring monoid.Plus op.Times) a u ≡ (0, u64 25) ∷ []
products = refl

shortest : mxv_of (ring monoid.Min op.Plus) a u ≡ (0, u64 6) ∷ []
shortest = refl

-- the matrix's value comes first
differences : mxv_of (ring monoid.Max op.Second) a u ≡ (0, u64 10) ∷ []
differences = refl

-- a matrix of three rows and two columns
abbrev c : MatrixEntries
c = ((0, 1), u64 4) ∷ ((1, 0), u64 6) ∷ ((2, 1), u64 1) ∷ []

products_of_cells : mxm_of (ring monoid.Plus op.Times) a c ≡ ((0, 1), u64 13) ∷ ((1, 0), u64 18) ∷ []
products_of_cells = refl

reduces_rows : reduce_rows_of monoid.Plus (((0, 0), u64 2) ∷ ((0, 2), u64 5) ∷ ((2, 1), u64 0) ∷ []) ≡ (0, u64 7) ∷ (2, u64 0) ∷ []
reduces_rows = refl

totals : reduce_of monoid.Max a ≡ u64 5
totals = refl

abbrev nothing : VectorEntries
nothing = []

-- nothing is stored, and the total is the identity
total_of_nothing : reduce_of monoid.Land nothing ≡ bool true
total_of_nothing = refl
