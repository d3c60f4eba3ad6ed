-- believed: Lists of C arrays: what a build takes, and what stands in them after all entries of an object were written (own).
use Rattle.std.specs.Prelude.{◌≡◌, ℕ, ℤ, nat_le, min, Bool, false, ◌&&◌, ◌==◌, if◌then◌else◌, List, [], ◌∷◌, ◌++◌, map, length, drop, Result, Ok, Err}
use Rattle.grb_core.specs.declared.domain.Domain.{Domain}
use Rattle.grb_core.specs.declared.refusal.Refusal.{Refusal}
use Rattle.grb_core.specs.declared.value.Value.{Value}
use Rattle.grb_core.specs.declared.value.Value.TheVariants as value
use Rattle.grb_sparse.specs.Matrix.{SparseMatrixView}
use Rattle.grb_sparse.specs.Vector.{SparseVectorView}
use Rattle.grb_call.specs.declared.call.Call.{Call}
use Rattle.grb_call.specs.declared.call.Call.TheVariants as call
use Rattle.grb_codes.specs.Codes.{is_one_domain, monoid_at, with_code, refusal_code, success, invalid_value, domain_mismatch, insufficient_space}

-- the cells of three arrays of one length, in turn
abbrev pub cells_of_arrays : {X : Type 0} → (X → Value) → List ℕ → List ℕ → List X → List (ℕ × ℕ × Value)
cells_of_arrays f (i ∷ is) (j ∷ js) (x ∷ xs) = (i, j, f x) ∷ cells_of_arrays f is js xs
cells_of_arrays f [] js xs = []
cells_of_arrays f (i ∷ is) [] xs = []
cells_of_arrays f (i ∷ is) (j ∷ js) [] = []

abbrev pub indices_of_arrays : {X : Type 0} → (X → Value) → List ℕ → List X → List (ℕ × Value)
indices_of_arrays f (i ∷ is) (x ∷ xs) = (i, f x) ∷ indices_of_arrays f is xs
indices_of_arrays f [] xs = []
indices_of_arrays f (i ∷ is) [] = []

-- the build of a matrix from three arrays, which are of one length
abbrev pub build_matrix : {X : Type 0} → (X → Value) → ℕ → List ℕ → List ℕ → List X → ℕ → Result Call ℤ
build_matrix f a rows columns xs dup = with_code (monoid_at dup) (λ m.
    if (length rows == length xs) && (length columns == length xs) then Ok (call.BuildMatrix (record { 0 = a }) (cells_of_arrays f rows columns xs) m) else Err invalid_value)

abbrev pub build_vector : {X : Type 0} → (X → Value) → ℕ → List ℕ → List X → ℕ → Result Call ℤ
build_vector f v indices xs dup = with_code (monoid_at dup) (λ m.
    if length indices == length xs then Ok (call.BuildVector (record { 0 = v }) (indices_of_arrays f indices xs) m) else Err invalid_value)

-- what C has of a value of its domain
abbrev pub number_in : Value → ℕ
number_in (value.Uint64 x) = x
number_in (value.Bool b) = 0

abbrev pub bool_in : Value → Bool
bool_in (value.Bool b) = b
bool_in (value.Uint64 x) = false

-- an array after the first of it were written
abbrev pub written : {E X : Type 0} → (E → X) → List E → List X → List X
written f es xs = map f es ++ drop (length es) xs

-- the status of a read of all entries into arrays with so much room
abbrev pub tuples_code : Domain → Domain → ℕ → ℕ → ℤ
tuples_code wanted has room count = if is_one_domain wanted has then (if nat_le count room then success else insufficient_space) else domain_mismatch

-- where the arrays have room for the entries of this domain, they are written; and else they stay
abbrev pub tuples_out : {E X : Type 0} → Domain → Domain → ℕ → (E → X) → List E → List X → List X
tuples_out wanted has room f es xs = if is_one_domain wanted has && nat_le (length es) room then written f es xs else xs

-- the number of entries is told wherever they are of the domain
abbrev pub count_out : Domain → Domain → ℕ → ℕ → ℕ
count_out wanted has count before = if is_one_domain wanted has then count else before

-- what a read of all entries of this matrix leaves in three arrays: the room is that of the shortest
abbrev pub PutsMatrix : {X : Type 0} → Domain → (Value → X) → SparseMatrixView → ℤ → List ℕ → List ℕ → List X → ℕ → List ℕ → List ℕ → List X → ℕ → Type 0
PutsMatrix wanted f m code rows columns values count rows' columns' values' count' =
    (code ≡ tuples_code wanted m.matrix.domain (min (length rows) (min (length columns) (length values))) (length m.matrix.entries))
    × (rows' ≡ tuples_out wanted m.matrix.domain (min (length rows) (min (length columns) (length values))) (λ e. e.0.0) m.matrix.entries rows)
    × (columns' ≡ tuples_out wanted m.matrix.domain (min (length rows) (min (length columns) (length values))) (λ e. e.0.1) m.matrix.entries columns)
    × (values' ≡ tuples_out wanted m.matrix.domain (min (length rows) (min (length columns) (length values))) (λ e. f e.1) m.matrix.entries values)
    × (count' ≡ count_out wanted m.matrix.domain (length m.matrix.entries) count)

-- what a read of all entries leaves of the matrix that was handed out; where it was not, nothing is written
abbrev pub PutsHanded : {X : Type 0} → Domain → (Value → X) → Result SparseMatrixView Refusal → ℤ → List ℕ → List ℕ → List X → ℕ → List ℕ → List ℕ → List X → ℕ → Type 0
PutsHanded wanted f (Ok m) code rows columns values count rows' columns' values' count' = PutsMatrix wanted f m code rows columns values count rows' columns' values' count'
PutsHanded wanted f (Err r) code rows columns values count rows' columns' values' count' = (code ≡ refusal_code r) × (rows' ≡ rows) × (columns' ≡ columns) × (values' ≡ values) × (count' ≡ count)

-- the same of a vector, in two arrays
abbrev pub PutsVector : {X : Type 0} → Domain → (Value → X) → SparseVectorView → ℤ → List ℕ → List X → ℕ → List ℕ → List X → ℕ → Type 0
PutsVector wanted f x code indices values count indices' values' count' =
    (code ≡ tuples_code wanted x.vector.domain (min (length indices) (length values)) (length x.vector.entries))
    × (indices' ≡ tuples_out wanted x.vector.domain (min (length indices) (length values)) (λ e. e.0) x.vector.entries indices)
    × (values' ≡ tuples_out wanted x.vector.domain (min (length indices) (length values)) (λ e. f e.1) x.vector.entries values)
    × (count' ≡ count_out wanted x.vector.domain (length x.vector.entries) count)

abbrev pub PutsHandedVector : {X : Type 0} → Domain → (Value → X) → Result SparseVectorView Refusal → ℤ → List ℕ → List X → ℕ → List ℕ → List X → ℕ → Type 0
PutsHandedVector wanted f (Ok x) code indices values count indices' values' count' = PutsVector wanted f x code indices values count indices' values' count'
PutsHandedVector wanted f (Err r) code indices values count indices' values' count' = (code ≡ refusal_code r) × (indices' ≡ indices) × (values' ≡ values) × (count' ≡ count)
