-- believed: The calls that the exports make, from the numbers that they are given (own).
use Rattle.std.specs.Prelude.{ℕ, ℤ, Option, Result, Ok, Err}
use Rattle.grb_core.specs.declared.value.Value.{Value}
use Rattle.grb_core.specs.Semiring.{SemiringParts}
use Rattle.grb_core.specs.declared.functions.Function.TheVariants as function
use Rattle.grb_call.specs.declared.call.Call.{Call}
use Rattle.grb_call.specs.declared.call.Call.TheVariants as call
use Rattle.grb_core.specs.declared.descriptor.Descriptor.{Descriptor}
use Rattle.grb_call.specs.declared.term.MatrixTerm.{MatrixTerm}
use Rattle.grb_call.specs.declared.term.MatrixTerm.TheVariants as matrix_term
use Rattle.grb_call.specs.declared.term.VectorTerm.{VectorTerm}
use Rattle.grb_call.specs.declared.term.VectorTerm.TheVariants as vector_term
use Rattle.grb_codes.specs.Codes.{with_code, domain_at, op_at, accum_at, monoid_at, unary_at, diagonal_at, place_test_at, value_test_at, semiring_of, matrix_mask_at, vector_mask_at, descriptor_at, upright_descriptor_at, first_descriptor_at, second_descriptor_at, mode_at}

abbrev pub new_matrix : ℕ → ℕ → ℕ → Result Call ℤ
new_matrix domain nrows ncols = with_code (domain_at domain) (λ d. Ok (call.NewMatrix d nrows ncols))

abbrev pub new_vector : ℕ → ℕ → Result Call ℤ
new_vector domain size = with_code (domain_at domain) (λ d. Ok (call.NewVector d size))

abbrev pub size_matrix : ℕ → Result Call ℤ
size_matrix a = Ok (call.SizeMatrix (record { 0 = a }))

abbrev pub size_vector : ℕ → Result Call ℤ
size_vector v = Ok (call.SizeVector (record { 0 = v }))

-- the matrix with a vector on a diagonal
abbrev pub diag : ℕ → ℤ → Result Call ℤ
diag v k = with_code (diagonal_at k) (λ d. Ok (call.Diag (record { 0 = v }) d))

abbrev pub wait_matrix : ℕ → ℕ → Result Call ℤ
wait_matrix a mode = with_code (mode_at mode) (λ m. Ok (call.WaitMatrix (record { 0 = a }) m))

abbrev pub wait_vector : ℕ → ℕ → Result Call ℤ
wait_vector v mode = with_code (mode_at mode) (λ m. Ok (call.WaitVector (record { 0 = v }) m))

abbrev pub reduce_matrix : ℕ → ℕ → Result Call ℤ
reduce_matrix a monoid = with_code (monoid_at monoid) (λ m. Ok (call.ReduceMatrix (record { 0 = a }) m))

abbrev pub reduce_vector : ℕ → ℕ → Result Call ℤ
reduce_vector v monoid = with_code (monoid_at monoid) (λ m. Ok (call.ReduceVector (record { 0 = v }) m))

abbrev pub if_ok : {X Y : Type 0} → Result X ℤ → (X → Result Y ℤ) → Result Y ℤ
if_ok (Ok x) f = f x
if_ok (Err e) f = Err e

-- an operation asks for what it has of these in turn: semiring, monoid, operator or test, accumulator, descriptor. The descriptor of one
-- whose first input is no matrix says nothing of a transposed first input, and that of one without a second input, or with one that is no
-- matrix, nothing of a transposed second
abbrev pub with_semiring : ℕ → ℕ → (SemiringParts → Result Call ℤ) → Result Call ℤ
with_semiring monoid op f = with_code (monoid_at monoid) (λ m. with_code (op_at op) (λ o. if_ok (semiring_of m o) f))

abbrev pub mxm : (c mask accum monoid op a b desc : ℕ) → Result Call ℤ
mxm c mask accum monoid op a b desc = with_semiring monoid op (λ s. with_code (accum_at accum) (λ z. with_code (descriptor_at desc) (λ d.
    Ok (call.Mxm (record { 0 = c }) (matrix_mask_at mask) z s (record { 0 = a }) (record { 0 = b }) d))))

abbrev pub mxv : (w mask accum monoid op a u desc : ℕ) → Result Call ℤ
mxv w mask accum monoid op a u desc = with_semiring monoid op (λ s. with_code (accum_at accum) (λ z. with_code (first_descriptor_at desc) (λ d.
    Ok (call.Mxv (record { 0 = w }) (vector_mask_at mask) z s (record { 0 = a }) (record { 0 = u }) d))))

abbrev pub vxm : (w mask accum monoid op u a desc : ℕ) → Result Call ℤ
vxm w mask accum monoid op u a desc = with_semiring monoid op (λ s. with_code (accum_at accum) (λ z. with_code (second_descriptor_at desc) (λ d.
    Ok (call.Vxm (record { 0 = w }) (vector_mask_at mask) z s (record { 0 = u }) (record { 0 = a }) d))))

abbrev pub add_matrices : (c mask accum op a b desc : ℕ) → Result Call ℤ
add_matrices c mask accum op a b desc = with_code (op_at op) (λ o. with_code (accum_at accum) (λ z. with_code (descriptor_at desc) (λ d.
    Ok (call.EwiseAddMatrix (record { 0 = c }) (matrix_mask_at mask) z o (record { 0 = a }) (record { 0 = b }) d))))

abbrev pub add_vectors : (w mask accum op u v desc : ℕ) → Result Call ℤ
add_vectors w mask accum op u v desc = with_code (op_at op) (λ o. with_code (accum_at accum) (λ z. with_code (upright_descriptor_at desc) (λ d.
    Ok (call.EwiseAddVector (record { 0 = w }) (vector_mask_at mask) z o (record { 0 = u }) (record { 0 = v }) d))))

abbrev pub mult_matrices : (c mask accum op a b desc : ℕ) → Result Call ℤ
mult_matrices c mask accum op a b desc = with_code (op_at op) (λ o. with_code (accum_at accum) (λ z. with_code (descriptor_at desc) (λ d.
    Ok (call.EwiseMultMatrix (record { 0 = c }) (matrix_mask_at mask) z o (record { 0 = a }) (record { 0 = b }) d))))

abbrev pub mult_vectors : (w mask accum op u v desc : ℕ) → Result Call ℤ
mult_vectors w mask accum op u v desc = with_code (op_at op) (λ o. with_code (accum_at accum) (λ z. with_code (upright_descriptor_at desc) (λ d.
    Ok (call.EwiseMultVector (record { 0 = w }) (vector_mask_at mask) z o (record { 0 = u }) (record { 0 = v }) d))))

abbrev pub reduce_rows : (w mask accum monoid a desc : ℕ) → Result Call ℤ
reduce_rows w mask accum monoid a desc = with_code (monoid_at monoid) (λ m. with_code (accum_at accum) (λ z. with_code (first_descriptor_at desc) (λ d.
    Ok (call.ReduceRows (record { 0 = w }) (vector_mask_at mask) z m (record { 0 = a }) d))))

-- what a term computes, written into a matrix or a vector
abbrev pub write_matrix : (c mask accum : ℕ) → MatrixTerm → Option Descriptor → Result Call ℤ
write_matrix c mask accum term read = with_code (accum_at accum) (λ z. with_code read (λ d.
    Ok (call.WriteMatrix (record { 0 = c }) (matrix_mask_at mask) z term d)))

abbrev pub write_vector : (w mask accum : ℕ) → VectorTerm → Option Descriptor → Result Call ℤ
write_vector w mask accum term read = with_code (accum_at accum) (λ z. with_code read (λ d.
    Ok (call.WriteVector (record { 0 = w }) (vector_mask_at mask) z term d)))

abbrev pub transpose : (c mask accum a desc : ℕ) → Result Call ℤ
transpose c mask accum a desc = write_matrix c mask accum (matrix_term.Transposed (record { 0 = a })) (first_descriptor_at desc)

abbrev pub kronecker : (c mask accum op a b desc : ℕ) → Result Call ℤ
kronecker c mask accum op a b desc =
    with_code (op_at op) (λ o. write_matrix c mask accum (matrix_term.Kronecker o (record { 0 = a }) (record { 0 = b })) (descriptor_at desc))

-- apply: by a unary operator, by an operator whose first argument is x, and by one whose second argument is y. An input whose operator has
-- its first argument stands second
abbrev pub apply_matrix : (c mask accum op a desc : ℕ) → Result Call ℤ
apply_matrix c mask accum op a desc =
    with_code (unary_at op) (λ o. write_matrix c mask accum (matrix_term.Applied (function.Unary o) (record { 0 = a })) (first_descriptor_at desc))

abbrev pub apply_first_matrix : (c mask accum op : ℕ) → Value → (a desc : ℕ) → Result Call ℤ
apply_first_matrix c mask accum op x a desc =
    with_code (op_at op) (λ o. write_matrix c mask accum (matrix_term.Applied (function.First x o) (record { 0 = a })) (second_descriptor_at desc))

abbrev pub apply_second_matrix : (c mask accum op a : ℕ) → Value → (desc : ℕ) → Result Call ℤ
apply_second_matrix c mask accum op a y desc =
    with_code (op_at op) (λ o. write_matrix c mask accum (matrix_term.Applied (function.Second o y) (record { 0 = a })) (first_descriptor_at desc))

abbrev pub apply_vector : (w mask accum op u desc : ℕ) → Result Call ℤ
apply_vector w mask accum op u desc =
    with_code (unary_at op) (λ o. write_vector w mask accum (vector_term.Applied (function.Unary o) (record { 0 = u })) (upright_descriptor_at desc))

abbrev pub apply_first_vector : (w mask accum op : ℕ) → Value → (u desc : ℕ) → Result Call ℤ
apply_first_vector w mask accum op x u desc =
    with_code (op_at op) (λ o. write_vector w mask accum (vector_term.Applied (function.First x o) (record { 0 = u })) (upright_descriptor_at desc))

abbrev pub apply_second_vector : (w mask accum op u : ℕ) → Value → (desc : ℕ) → Result Call ℤ
apply_second_vector w mask accum op u y desc =
    with_code (op_at op) (λ o. write_vector w mask accum (vector_term.Applied (function.Second o y) (record { 0 = u })) (upright_descriptor_at desc))

-- select: by a test of places, with the number that it compares with, and by a test of values, with the value
abbrev pub select_matrix : (c mask accum test a : ℕ) → ℤ → (desc : ℕ) → Result Call ℤ
select_matrix c mask accum test a k desc =
    with_code (place_test_at test k) (λ t. write_matrix c mask accum (matrix_term.Selected t (record { 0 = a })) (first_descriptor_at desc))

abbrev pub select_values_matrix : (c mask accum test a : ℕ) → Value → (desc : ℕ) → Result Call ℤ
select_values_matrix c mask accum test a x desc =
    with_code (value_test_at test x) (λ t. write_matrix c mask accum (matrix_term.Selected t (record { 0 = a })) (first_descriptor_at desc))

abbrev pub select_vector : (w mask accum test u : ℕ) → ℤ → (desc : ℕ) → Result Call ℤ
select_vector w mask accum test u k desc =
    with_code (place_test_at test k) (λ t. write_vector w mask accum (vector_term.Selected t (record { 0 = u })) (upright_descriptor_at desc))

abbrev pub select_values_vector : (w mask accum test u : ℕ) → Value → (desc : ℕ) → Result Call ℤ
select_values_vector w mask accum test u x desc =
    with_code (value_test_at test x) (λ t. write_vector w mask accum (vector_term.Selected t (record { 0 = u })) (upright_descriptor_at desc))
