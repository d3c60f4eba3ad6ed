-- Worked examples of products, reductions and waits, computed from the definitions: the answers of one thread to each list of calls.
use Rattle.std.specs.Prelude.{◌≡◌, refl, true, false, [], ◌∷◌, Some, None, Err}
use Rattle.grb_core.specs.declared.domain.Domain.TheVariants as domain
use Rattle.grb_core.specs.declared.value.Value.TheVariants as value
use Rattle.grb_core.specs.declared.refusal.Refusal.TheVariants.{UninitializedObject, DomainMismatch, DimensionMismatch}
use Rattle.grb_core.specs.declared.monoid.Monoid.{Monoid}
use Rattle.grb_core.specs.declared.monoid.Monoid.TheVariants as monoid
use Rattle.grb_core.specs.declared.operator.BinaryOp.{BinaryOp}
use Rattle.grb_core.specs.declared.operator.BinaryOp.TheVariants as op
use Rattle.grb_core.specs.Semiring.{SemiringParts}
use Rattle.grb_call.specs.declared.call.Call.TheVariants as call
use Rattle.grb_call.specs.declared.wait_mode.WaitMode.TheVariants as mode
use Rattle.grb_call.specs.Store.{empty_store}
use Rattle.grb_call.specs.History.{answers}
use Rattle.grb_call.proofs.Rows.{m, v, u64, done, made_vector, made_matrix, number, truth, count, none, plain, descriptor, tran}

abbrev semiring : Monoid → BinaryOp → SemiringParts
semiring add multiply = record { monoid = add; op = multiply }

-- what is not stored is no 0: a row without entries gives no value, and min of sums is over the places that are there
mxv_by_min_and_plus :
    answers empty_store
    (call.NewMatrix domain.Uint64 2 3
    ∷ call.NewVector domain.Uint64 3
    ∷ call.NewVector domain.Uint64 2
    ∷ call.SetMatrix (m 0) 0 1 (u64 2)
    ∷ call.SetMatrix (m 0) 0 2 (u64 5)
    ∷ call.SetVector (v 0) 1 (u64 10)
    ∷ call.SetVector (v 0) 2 (u64 1)
    ∷ call.Mxv (v 1) None None (semiring monoid.Min op.Plus) (m 0) (v 0) plain
    ∷ call.GetVector (v 1) 0
    ∷ call.GetVector (v 1) 1
    ∷ call.NvalsVector (v 1)
    ∷ [])
    ≡ made_matrix 0 ∷ made_vector 0 ∷ made_vector 1 ∷ done ∷ done ∷ done ∷ done ∷ done ∷ number 6 ∷ none ∷ count 1 ∷ []
mxv_by_min_and_plus = refl

-- the matrix is read before the vector, and one vector is output, input and mask; what is not true stays outside
mxv_by_minus_into_its_vector :
    answers empty_store
    (call.NewMatrix domain.Uint64 2 2
    ∷ call.NewVector domain.Uint64 2
    ∷ call.BuildMatrix (m 0) ((0, 0, u64 9) ∷ (0, 1, u64 7) ∷ (1, 0, u64 8) ∷ []) monoid.Plus
    ∷ call.BuildVector (v 0) ((0, u64 2) ∷ (1, u64 0) ∷ []) monoid.Plus
    ∷ call.Mxv (v 0) (Some (v 0)) None (semiring monoid.Plus op.Minus) (m 0) (v 0) plain
    ∷ call.GetVector (v 0) 0
    ∷ call.GetVector (v 0) 1
    ∷ [])
    ≡ made_matrix 0 ∷ made_vector 0 ∷ done ∷ done ∷ done ∷ number 14 ∷ number 0 ∷ []
mxv_by_minus_into_its_vector = refl

-- a product of matrices, and the sums of the rows of a factor
mxm_and_sums_of_rows :
    answers empty_store
    (call.NewMatrix domain.Uint64 2 2
    ∷ call.NewMatrix domain.Uint64 2 2
    ∷ call.NewMatrix domain.Uint64 2 2
    ∷ call.BuildMatrix (m 0) ((0, 0, u64 1) ∷ (0, 1, u64 2) ∷ (1, 1, u64 3) ∷ []) monoid.Plus
    ∷ call.BuildMatrix (m 1) ((0, 0, u64 4) ∷ (1, 0, u64 5) ∷ []) monoid.Plus
    ∷ call.SetMatrix (m 2) 1 1 (u64 9)
    ∷ call.Mxm (m 2) None None (semiring monoid.Plus op.Times) (m 0) (m 1) plain
    ∷ call.GetMatrix (m 2) 0 0
    ∷ call.GetMatrix (m 2) 1 0
    ∷ call.NvalsMatrix (m 2)
    ∷ call.NewVector domain.Uint64 2
    ∷ call.ReduceRows (v 0) None None monoid.Plus (m 0) plain
    ∷ call.GetVector (v 0) 0
    ∷ [])
    ≡ made_matrix 0 ∷ made_matrix 1 ∷ made_matrix 2 ∷ done ∷ done ∷ done ∷ done ∷ number 14 ∷ number 15 ∷ count 2 ∷ made_vector 0 ∷ done ∷ number 3 ∷ []
mxm_and_sums_of_rows = refl

-- the first factor has its rows in the product, and the accumulator comes after: 9 - 8, and 8 where nothing stood
mxm_by_first_with_an_accumulator :
    answers empty_store
    (call.NewMatrix domain.Uint64 2 1
    ∷ call.NewMatrix domain.Uint64 1 2
    ∷ call.NewMatrix domain.Uint64 2 2
    ∷ call.SetMatrix (m 0) 1 0 (u64 8)
    ∷ call.BuildMatrix (m 1) ((0, 0, u64 3) ∷ (0, 1, u64 4) ∷ []) monoid.Plus
    ∷ call.SetMatrix (m 2) 1 0 (u64 9)
    ∷ call.Mxm (m 2) None (Some op.Minus) (semiring monoid.Max op.First) (m 0) (m 1) plain
    ∷ call.GetMatrix (m 2) 1 0
    ∷ call.GetMatrix (m 2) 1 1
    ∷ call.NvalsMatrix (m 2)
    ∷ call.Mxm (m 2) None None (semiring monoid.Max op.First) (m 1) (m 0) plain
    ∷ [])
    ≡ made_matrix 0 ∷ made_matrix 1 ∷ made_matrix 2 ∷ done ∷ done ∷ done ∷ done ∷ number 1 ∷ number 8 ∷ count 2 ∷ Err DimensionMismatch ∷ []
mxm_by_first_with_an_accumulator = refl

-- a row without entries has no fold; outside the mask the old value stays, and with replace it goes
folds_of_rows_under_a_mask :
    answers empty_store
    (call.NewMatrix domain.Bool 3 2
    ∷ call.NewVector domain.Bool 3
    ∷ call.NewVector domain.Uint64 3
    ∷ call.BuildMatrix (m 0) ((0, 0, value.Bool true) ∷ (0, 1, value.Bool true) ∷ (1, 0, value.Bool true) ∷ []) monoid.Lor
    ∷ call.SetVector (v 0) 1 (value.Bool true)
    ∷ call.SetVector (v 0) 2 (value.Bool true)
    ∷ call.SetVector (v 1) 0 (u64 5)
    ∷ call.SetVector (v 1) 2 (u64 6)
    ∷ call.ReduceRows (v 0) (Some (v 1)) None monoid.Lxor (m 0) plain
    ∷ call.GetVector (v 0) 0
    ∷ call.GetVector (v 0) 1
    ∷ call.GetVector (v 0) 2
    ∷ call.ReduceRows (v 0) (Some (v 1)) None monoid.Lxor (m 0) (descriptor false false true)
    ∷ call.NvalsVector (v 0)
    ∷ [])
    ≡ made_matrix 0 ∷ made_vector 0 ∷ made_vector 1 ∷ done ∷ done ∷ done ∷ done ∷ done ∷ done ∷ truth false ∷ truth true ∷ none ∷ done ∷ count 1 ∷ []
folds_of_rows_under_a_mask = refl

-- a total of nothing is the identity; a total and a wait change nothing, and are refused for an object that is not there
totals_and_waits :
    answers empty_store
    (call.NewMatrix domain.Uint64 2 2
    ∷ call.ReduceMatrix (m 0) monoid.Min
    ∷ call.NewVector domain.Bool 2
    ∷ call.ReduceVector (v 0) monoid.Land
    ∷ call.SetMatrix (m 0) 0 1 (u64 18446744073709551615)
    ∷ call.SetMatrix (m 0) 1 0 (u64 3)
    ∷ call.WaitMatrix (m 0) mode.Complete
    ∷ call.ReduceMatrix (m 0) monoid.Plus
    ∷ call.ReduceMatrix (m 0) monoid.Lor
    ∷ call.WaitVector (v 0) mode.Materialize
    ∷ call.WaitVector (v 1) mode.Complete
    ∷ call.ReduceMatrix (m 1) monoid.Lor
    ∷ [])
    ≡ made_matrix 0 ∷ number 18446744073709551615 ∷ made_vector 0 ∷ truth true ∷ done ∷ done ∷ done ∷ number 2 ∷ Err DomainMismatch ∷ done ∷ Err UninitializedObject ∷ Err UninitializedObject ∷ []
totals_and_waits = refl

-- a vector with each column of a matrix, and the same by the transposed matrix; where multiply does not commute the two differ
vxm_and_transposed_mxv :
    answers empty_store
    (call.NewMatrix domain.Uint64 2 3
    ∷ call.NewVector domain.Uint64 2
    ∷ call.NewVector domain.Uint64 3
    ∷ call.BuildMatrix (m 0) ((0, 1, u64 2) ∷ (0, 2, u64 5) ∷ (1, 1, u64 7) ∷ []) monoid.Plus
    ∷ call.BuildVector (v 0) ((0, u64 10) ∷ (1, u64 1) ∷ []) monoid.Plus
    ∷ call.Vxm (v 1) None None (semiring monoid.Plus op.Times) (v 0) (m 0) plain
    ∷ call.GetVector (v 1) 0
    ∷ call.GetVector (v 1) 1
    ∷ call.GetVector (v 1) 2
    ∷ call.Mxv (v 1) None None (semiring monoid.Plus op.Times) (m 0) (v 0) plain
    ∷ call.Mxv (v 1) None None (semiring monoid.Plus op.Times) (m 0) (v 0) tran
    ∷ call.GetVector (v 1) 1
    ∷ call.Vxm (v 1) None None (semiring monoid.Min op.Minus) (v 0) (m 0) tran
    ∷ call.GetVector (v 1) 1
    ∷ call.Mxv (v 1) None None (semiring monoid.Min op.Minus) (m 0) (v 0) tran
    ∷ call.GetVector (v 1) 1
    ∷ call.Vxm (v 0) None None (semiring monoid.Plus op.Times) (v 0) (m 0) plain
    ∷ [])
    ≡ made_matrix 0 ∷ made_vector 0 ∷ made_vector 1 ∷ done ∷ done ∷ done ∷ none ∷ number 27 ∷ number 50 ∷ Err DimensionMismatch ∷ done ∷ number 27 ∷ done ∷ number 8 ∷ done ∷ number 6
    ∷ Err DimensionMismatch ∷ []
vxm_and_transposed_mxv = refl

-- sums of columns, the product of the transposed matrix with itself, and a matrix with its own transposed
transposed_first_inputs :
    answers empty_store
    (call.NewMatrix domain.Uint64 2 3
    ∷ call.BuildMatrix (m 0) ((0, 1, u64 2) ∷ (0, 2, u64 5) ∷ (1, 1, u64 7) ∷ []) monoid.Plus
    ∷ call.NewVector domain.Uint64 3
    ∷ call.ReduceRows (v 0) None None monoid.Plus (m 0) tran
    ∷ call.GetVector (v 0) 1
    ∷ call.NewMatrix domain.Uint64 3 3
    ∷ call.Mxm (m 1) None None (semiring monoid.Plus op.Times) (m 0) (m 0) tran
    ∷ call.GetMatrix (m 1) 1 1
    ∷ call.GetMatrix (m 1) 1 2
    ∷ call.NvalsMatrix (m 1)
    ∷ call.NewMatrix domain.Uint64 2 2
    ∷ call.SetMatrix (m 2) 0 1 (u64 5)
    ∷ call.EwiseAddMatrix (m 2) None None op.First (m 2) (m 2) tran
    ∷ call.GetMatrix (m 2) 1 0
    ∷ call.NvalsMatrix (m 2)
    ∷ call.EwiseAddMatrix (m 0) None None op.First (m 0) (m 0) tran
    ∷ [])
    ≡ made_matrix 0 ∷ done ∷ made_vector 0 ∷ done ∷ number 9 ∷ made_matrix 1 ∷ done ∷ number 53 ∷ number 10 ∷ count 4 ∷ made_matrix 2 ∷ done ∷ done ∷ number 5 ∷ count 2
    ∷ Err DimensionMismatch ∷ []
transposed_first_inputs = refl
