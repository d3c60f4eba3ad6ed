-- What short scripts print, by computation.
use Rattle.std.proofs.Common.{◌≡◌, refl, ℕ, List, [], ◌∷◌, ◌++◌, map}
use Rattle.std.specs.Prelude.{Bool, codes, true, false, Option, Some, None}
use Rattle.std.specs.Fmt.{digits}
use Rattle.grb_core.specs.declared.domain.Domain.TheVariants as domain
use Rattle.grb_core.specs.declared.value.Value.TheVariants as value
use Rattle.grb_core.specs.declared.monoid.Monoid.TheVariants as monoid
use Rattle.grb_core.specs.declared.operator.BinaryOp.{BinaryOp}
use Rattle.grb_core.specs.declared.operator.BinaryOp.TheVariants as op
use Rattle.grb_core.specs.declared.descriptor.Descriptor.{Descriptor}
use Rattle.grb_core.specs.declared.functions.Function.{Function}
use Rattle.grb_core.specs.declared.functions.Function.TheVariants as function
use Rattle.grb_core.specs.declared.functions.UnaryOp.TheVariants as unary
use Rattle.grb_core.specs.declared.tests.Diagonal.TheVariants as diagonal
use Rattle.grb_core.specs.declared.tests.Test.{Test}
use Rattle.grb_core.specs.declared.tests.Test.TheVariants as test
use Rattle.grb_script.specs.declared.ewise.Elementwise.{Elementwise}
use Rattle.grb_script.specs.declared.names.Sort.TheVariants as sort
use Rattle.grb_run.proofs.Prelude.{Statement, Loaded, printed}
use Rattle.grb_script.specs.declared.statement.Statement.TheVariants.{Matrix, Vector, Dup, Free, Nvals, Size, Clear, SetMatrix, SetVector, RemoveVector, GetMatrix, GetVector, ResizeMatrix, BuildMatrix, BuildVector, EwiseAdd, EwiseMult, Transpose, Apply, Select, Kronecker, Diag, Tuples}
use Rattle.grb_run.specs.declared.loads.Step.TheVariants as step

abbrev lines : ℕ → List Statement → List ℕ
lines room statements = printed room (map step.Statement statements)

a_vector : lines 4096
    (Vector domain.Uint64 5 ∷ SetVector 0 2 (value.Uint64 7) ∷ GetVector 0 2 ∷ GetVector 0 3 ∷ Nvals 0 sort.Vector ∷ [])
    ≡ codes "ok\nok\nvalue 7\nnone\ncount 1\n"
unfolding digits
a_vector = refl

-- a refusal by shapes comes before a full order, and reading goes on
a_full_order : lines 2
    (Vector domain.Uint64 3 ∷ SetVector 0 0 (value.Uint64 7) ∷ SetVector 0 1 (value.Uint64 8) ∷ GetVector 0 0 ∷ SetVector 0 3 (value.Uint64 1) ∷ [])
    ≡ codes "ok\nok\nOrderFull\nvalue 7\nGrB_INVALID_INDEX\n"
unfolding digits
a_full_order = refl

-- a name whose vector was refused stands for none, and the next name for the next vector
a_refused_name : lines 4096
    (Vector domain.Bool 0 ∷ SetVector 0 0 (value.Bool true) ∷ Nvals 0 sort.Vector ∷ Vector domain.Bool 2 ∷ SetVector 1 1 (value.Bool false) ∷ GetVector 1 1 ∷ GetVector 0 1 ∷ [])
    ≡ codes "GrB_INVALID_VALUE\nGrB_UNINITIALIZED_OBJECT\nGrB_UNINITIALIZED_OBJECT\nok\nok\nvalue false\nGrB_UNINITIALIZED_OBJECT\n"
unfolding digits
a_refused_name = refl

-- the largest value, and a value of another domain
a_domain : lines 4096
    (Vector domain.Uint64 4294967295 ∷ SetVector 0 4294967294 (value.Uint64 18446744073709551615) ∷ GetVector 0 4294967294 ∷ SetVector 0 0 (value.Bool true) ∷ [])
    ≡ codes "ok\nok\nvalue 18446744073709551615\nGrB_DOMAIN_MISMATCH\n"
unfolding digits
a_domain = refl

-- entries outside the new dimensions are gone for good
a_matrix : lines 4096
    (Matrix domain.Uint64 3 3 ∷ SetMatrix 0 2 2 (value.Uint64 8) ∷ ResizeMatrix 0 2 2 ∷ ResizeMatrix 0 3 3 ∷ GetMatrix 0 2 2 ∷ Size 0 sort.Matrix ∷ ResizeMatrix 0 0 3 ∷ [])
    ≡ codes "ok\nok\nok\nok\nnone\nsize 3 3\nGrB_INVALID_VALUE\n"
unfolding digits
a_matrix = refl

-- a build combines what stands twice, and is refused where entries are
a_build : lines 4096
    (Vector domain.Uint64 4 ∷ SetVector 0 1 (value.Uint64 3) ∷ RemoveVector 0 1
    ∷ BuildVector 0 ((2, value.Uint64 5) ∷ (2, value.Uint64 6) ∷ (0, value.Uint64 1) ∷ []) monoid.Plus ∷ GetVector 0 2
    ∷ BuildVector 0 ((3, value.Uint64 1) ∷ []) monoid.Plus ∷ [])
    ≡ codes "ok\nok\nok\nok\nvalue 11\nGrB_OUTPUT_NOT_EMPTY\n"
unfolding digits
a_build = refl

-- or where an index is not below the size
a_build_out_of_bounds : lines 4096
    (Vector domain.Uint64 5 ∷ BuildVector 0 ((0, value.Uint64 1) ∷ (5, value.Uint64 2) ∷ (1, value.Uint64 3) ∷ []) monoid.Plus ∷ Nvals 0 sort.Vector ∷ [])
    ≡ codes "ok\nGrB_INDEX_OUT_OF_BOUNDS\ncount 0\n"
unfolding digits
a_build_out_of_bounds = refl

-- what is freed stays freed
a_free : lines 4096
    (Vector domain.Uint64 2 ∷ Free 0 sort.Vector ∷ GetVector 0 0 ∷ Free 0 sort.Vector ∷ [])
    ≡ codes "ok\nok\nGrB_UNINITIALIZED_OBJECT\nGrB_UNINITIALIZED_OBJECT\n"
unfolding digits
a_free = refl

-- a copy keeps what its source had
a_copy : lines 4096
    (Vector domain.Bool 3 ∷ SetVector 0 0 (value.Bool false) ∷ Nvals 0 sort.Vector ∷ Dup 0 sort.Vector ∷ Clear 0 sort.Vector ∷ Nvals 0 sort.Vector ∷ GetVector 1 0
    ∷ RemoveVector 1 2 ∷ Size 1 sort.Vector ∷ [])
    ≡ codes "ok\nok\ncount 1\nok\nok\ncount 0\nvalue false\nok\nsize 3\n"
unfolding digits
a_copy = refl

-- an element-wise statement on vectors: output, mask, accumulator, operator, inputs, and how mask and output are read
abbrev on_vectors : ℕ → Option ℕ → Option BinaryOp → BinaryOp → ℕ → ℕ → Descriptor → Elementwise
on_vectors output mask accum op left right d =
    record { sort = sort.Vector; output = output; mask = mask; accum = accum; op = op; left = left; right = right; descriptor = d }

abbrev plain : Descriptor
plain = record { structure = false; comp = false; replace = false; tran = false; tran1 = false }

-- a sum is modulo 2^64
a_sum : lines 4096
    (Vector domain.Uint64 1 ∷ Vector domain.Uint64 1 ∷ Vector domain.Uint64 1 ∷ SetVector 0 0 (value.Uint64 18446744073709551615) ∷ SetVector 1 0 (value.Uint64 1)
    ∷ EwiseAdd (on_vectors 2 None None op.Plus 0 1 plain) ∷ GetVector 2 0 ∷ Nvals 2 sort.Vector ∷ [])
    ≡ codes "ok\nok\nok\nok\nok\nok\nvalue 0\ncount 1\n"
unfolding digits
a_sum = refl

-- a mask that stores 0 lets nothing through by value, and its place by structure
a_mask : lines 4096
    (Vector domain.Uint64 2 ∷ Vector domain.Uint64 2 ∷ Vector domain.Uint64 2 ∷ SetVector 1 0 (value.Uint64 0) ∷ SetVector 2 0 (value.Uint64 9)
    ∷ EwiseAdd (on_vectors 0 (Some 1) None op.First 2 2 plain) ∷ Nvals 0 sort.Vector
    ∷ EwiseAdd (on_vectors 0 (Some 1) None op.First 2 2 (record plain { structure = true })) ∷ GetVector 0 0 ∷ [])
    ≡ codes "ok\nok\nok\nok\nok\nok\ncount 0\nok\nvalue 9\n"
unfolding digits
a_mask = refl

-- nothing lies inside the complement of no mask: the old entries stay, and go with replace
a_complement : lines 4096
    (Vector domain.Uint64 2 ∷ SetVector 0 1 (value.Uint64 4) ∷ Vector domain.Uint64 2 ∷ SetVector 1 0 (value.Uint64 9)
    ∷ EwiseAdd (on_vectors 0 None None op.First 1 1 (record plain { comp = true })) ∷ Nvals 0 sort.Vector
    ∷ EwiseAdd (on_vectors 0 None None op.First 1 1 (record plain { comp = true; replace = true })) ∷ Nvals 0 sort.Vector ∷ [])
    ≡ codes "ok\nok\nok\nok\nok\ncount 1\nok\ncount 0\n"
unfolding digits
a_complement = refl

-- the intersection, accumulated: where one of both stores a value it is that one
an_accumulator : lines 4096
    (Vector domain.Uint64 3 ∷ Vector domain.Uint64 3 ∷ Vector domain.Uint64 3 ∷ BuildVector 0 ((0, value.Uint64 100) ∷ (2, value.Uint64 7) ∷ []) monoid.Plus
    ∷ BuildVector 1 ((0, value.Uint64 2) ∷ (1, value.Uint64 3) ∷ []) monoid.Plus ∷ BuildVector 2 ((1, value.Uint64 4) ∷ (2, value.Uint64 5) ∷ []) monoid.Plus
    ∷ EwiseMult (on_vectors 0 None (Some op.Minus) op.Times 1 2 plain) ∷ GetVector 0 0 ∷ GetVector 0 1 ∷ GetVector 0 2 ∷ Nvals 0 sort.Vector ∷ [])
    ≡ codes "ok\nok\nok\nok\nok\nok\nok\nvalue 100\nvalue 12\nvalue 7\ncount 3\n"
unfolding digits
an_accumulator = refl

-- output and inputs are one matrix
an_alias : lines 4096
    (Matrix domain.Uint64 1 1 ∷ SetMatrix 0 0 0 (value.Uint64 3)
    ∷ EwiseAdd (record { sort = sort.Matrix; output = 0; mask = None; accum = None; op = op.Plus; left = 0; right = 0; descriptor = plain })
    ∷ Dup 0 sort.Matrix ∷ SetMatrix 0 0 0 (value.Uint64 1) ∷ GetMatrix 1 0 0 ∷ GetMatrix 0 0 0 ∷ [])
    ≡ codes "ok\nok\nok\nok\nok\nvalue 6\nvalue 1\n"
unfolding digits
an_alias = refl

-- of several refusals the first is printed, and a mask may be of either domain
refusals : lines 1
    (Vector domain.Uint64 2 ∷ EwiseAdd (on_vectors 0 None None op.Lor 0 0 plain) ∷ EwiseAdd (on_vectors 0 (Some 1) None op.Lor 0 0 plain)
    ∷ EwiseMult (on_vectors 0 None (Some op.Land) op.Plus 0 0 plain) ∷ EwiseMult (on_vectors 0 None None op.Plus 0 0 plain) ∷ [])
    ≡ codes "ok\nGrB_DOMAIN_MISMATCH\nGrB_UNINITIALIZED_OBJECT\nGrB_DOMAIN_MISMATCH\nOrderFull\n"
unfolding digits
refusals = refl

-- a load makes one line; where its matrix is made and the build finds no room, the name stands for the empty matrix, and where it is not
-- made for none
abbrev a_file : Loaded
a_file = record { domain = domain.Bool; nrows = 2; ncols = 3; tuples = (0, 1, value.Bool true) ∷ (1, 2, value.Bool true) ∷ [] }

a_load : printed 4096 (step.Load a_file ∷ step.Statement (Nvals 0 sort.Matrix) ∷ step.Statement (GetMatrix 0 1 2) ∷ []) ≡ codes "ok\ncount 2\nvalue true\n"
unfolding digits
a_load = refl

a_refused_build : printed 1 (step.Load a_file ∷ step.Statement (Nvals 0 sort.Matrix) ∷ step.Statement (Size 0 sort.Matrix) ∷ []) ≡ codes "OrderFull\ncount 0\nsize 2 3\n"
unfolding digits
a_refused_build = refl

a_refused_load : printed 1 (step.Statement (Vector domain.Bool 1) ∷ step.Load a_file ∷ step.Statement (Nvals 1 sort.Matrix) ∷ []) ≡ codes "ok\nOrderFull\nGrB_UNINITIALIZED_OBJECT\n"
unfolding digits
a_refused_load = refl

-- all entries, in rising order of place, of an object of either sort, of one without entries, and of one that is freed
all_entries : lines 4096
    (Vector domain.Uint64 5 ∷ BuildVector 0 ((0, value.Uint64 10) ∷ (1, value.Uint64 11) ∷ (3, value.Uint64 13) ∷ []) monoid.Plus ∷ Tuples 0 sort.Vector
    ∷ Matrix domain.Bool 2 2 ∷ Tuples 1 sort.Matrix ∷ BuildMatrix 1 ((1, 0, value.Bool false) ∷ (0, 1, value.Bool true) ∷ []) monoid.Lor ∷ Tuples 1 sort.Matrix
    ∷ Free 1 sort.Matrix ∷ Tuples 1 sort.Matrix ∷ [])
    ≡ codes "ok\nok\ntuples 0 10 1 11 3 13\nok\ntuples\nok\ntuples 0 1 true 1 0 false\nok\nGrB_UNINITIALIZED_OBJECT\n"
unfolding digits
all_entries = refl

-- they are asked for in a full order too
entries_of_a_full_order : lines 2 (Vector domain.Bool 2 ∷ SetVector 0 1 (value.Bool true) ∷ SetVector 0 0 (value.Bool true) ∷ Tuples 0 sort.Vector ∷ []) ≡ codes "ok\nok\nOrderFull\ntuples 1 true\n"
unfolding digits
entries_of_a_full_order = refl

-- a matrix of two rows and three columns
abbrev wide : List Statement
wide = Matrix domain.Uint64 2 3 ∷ BuildMatrix 0 ((0, 1, value.Uint64 2) ∷ (0, 2, value.Uint64 5) ∷ (1, 1, value.Uint64 7) ∷ []) monoid.Plus ∷ []

-- an object that stands second is turned by `tran1`
abbrev applies : Function → Bool → Bool → Statement
applies f tran tran1 =
    Apply (record { sort = sort.Matrix; output = 1; mask = None; input = 0; accum = None; function = f; descriptor = record { structure = false; comp = false; replace = false; tran = tran; tran1 = tran1 } })

an_apply : lines 4096
    (wide ++ Matrix domain.Uint64 3 2 ∷ applies (function.Unary unary.Ainv) true false ∷ Tuples 1 sort.Matrix ∷ applies (function.Second op.Minus (value.Uint64 1)) true false ∷ Tuples 1 sort.Matrix
    ∷ applies (function.First (value.Uint64 9) op.Minus) false true ∷ Tuples 1 sort.Matrix ∷ applies (function.First (value.Uint64 9) op.Minus) false false ∷ [])
    ≡ codes "ok\nok\nok\nok\ntuples 1 0 18446744073709551614 1 1 18446744073709551609 2 0 18446744073709551611\nok\ntuples 1 0 1 1 1 6 2 0 4\nok\ntuples 1 0 7 1 1 2 2 0 4\nGrB_DIMENSION_MISMATCH\n"
unfolding digits
an_apply = refl

-- the index of a vector is a row, and its column is 0
abbrev selects : Test → List Statement
selects t = Select (record { sort = sort.Vector; output = 1; mask = None; input = 0; accum = None; test = t; descriptor = plain }) ∷ Tuples 1 sort.Vector ∷ []

a_select : lines 4096
    ((Vector domain.Uint64 5 ∷ BuildVector 0 ((0, value.Uint64 10) ∷ (1, value.Uint64 11) ∷ (3, value.Uint64 13) ∷ []) monoid.Plus ∷ Vector domain.Uint64 5 ∷ [])
    ++ selects (test.RowLe 1) ++ selects (test.RowGt 1) ++ selects (test.ColLe 0) ++ selects (test.ColGt 0) ++ selects (test.Tril (diagonal.Below 1)) ++ selects (test.Triu (diagonal.Below 1))
    ++ selects (test.Diag (diagonal.Below 3)) ++ selects (test.Offdiag (diagonal.Above 0)))
    ≡ codes "ok\nok\nok\nok\ntuples 0 10 1 11\nok\ntuples 3 13\nok\ntuples 0 10 1 11 3 13\nok\ntuples\nok\ntuples 1 11 3 13\nok\ntuples 0 10 1 11\nok\ntuples 3 13\nok\ntuples 1 11 3 13\n"
unfolding digits
a_select = refl

-- the second factor stands in the places of the first, not the other way round
abbrev multiplies : ℕ → ℕ → BinaryOp → List Statement
multiplies left right op = Kronecker (record { output = 2; mask = None; left = left; right = right; accum = None; op = op; descriptor = plain }) ∷ Tuples 2 sort.Matrix ∷ []

a_kronecker_product : lines 4096
    ((Matrix domain.Uint64 2 2 ∷ BuildMatrix 0 ((0, 0, value.Uint64 2) ∷ (1, 1, value.Uint64 3) ∷ []) monoid.Plus ∷ Matrix domain.Uint64 2 2
    ∷ BuildMatrix 1 ((0, 1, value.Uint64 10) ∷ (1, 0, value.Uint64 20) ∷ []) monoid.Plus ∷ Matrix domain.Uint64 4 4 ∷ [])
    ++ multiplies 0 1 op.Times ++ multiplies 1 0 op.Minus)
    ≡ codes "ok\nok\nok\nok\nok\nok\ntuples 0 1 20 1 0 40 2 3 30 3 2 60\nok\ntuples 0 2 8 1 3 7 2 0 18 3 1 17\n"
unfolding digits
a_kronecker_product = refl

-- a matrix is turned, and with `tran` turned twice
abbrev turns : Bool → Statement
turns tran = Transpose (record { output = 1; mask = None; input = 0; accum = None; descriptor = record { structure = false; comp = false; replace = false; tran = tran; tran1 = false } })

a_transposition : lines 4096
    (wide ++ Matrix domain.Uint64 3 2 ∷ turns false ∷ Tuples 1 sort.Matrix ∷ ResizeMatrix 1 2 3 ∷ turns true ∷ Tuples 1 sort.Matrix ∷ [])
    ≡ codes "ok\nok\nok\nok\ntuples 1 0 2 1 1 7 2 0 5\nok\nok\ntuples 0 1 2 0 2 5 1 1 7\n"
unfolding digits
a_transposition = refl

-- a diagonal below the main one, one that is too far off, and one of a vector that is freed: its name stands for no matrix
a_diagonal : lines 4096
    (Vector domain.Uint64 2 ∷ BuildVector 0 ((0, value.Uint64 3) ∷ (1, value.Uint64 4) ∷ []) monoid.Plus ∷ Diag 0 (diagonal.Below 1) ∷ Tuples 1 sort.Matrix ∷ Size 1 sort.Matrix
    ∷ Diag 0 (diagonal.Above 4294967295) ∷ Size 2 sort.Matrix ∷ Free 0 sort.Vector ∷ Diag 0 (diagonal.Above 0) ∷ [])
    ≡ codes "ok\nok\nok\ntuples 1 0 3 2 1 4\nsize 3 3\nGrB_INVALID_VALUE\nGrB_UNINITIALIZED_OBJECT\nok\nGrB_UNINITIALIZED_OBJECT\n"
unfolding digits
a_diagonal = refl
