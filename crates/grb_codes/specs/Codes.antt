-- believed: What the numbers of the C interface stand for: GraphBLAS C API 2.0, "Error model", for the statuses, of which OrderFull is
-- own, and its header for domains, modes and three of the descriptor's bits; the bits of the two transposed inputs and the numbers of
-- operators, monoids and tests are own.
use Rattle.std.specs.Prelude.{◌≡◌, ℕ, ◌+◌, ◌/◌, ◌%◌, nat_lt, ℤ, pos, negsuc, Bool, true, false, ◌==◌, if◌then◌else◌, Option, Some, None, Result, Ok, Err}
use Rattle.std.specs.Option.{option_map}
use Rattle.grb_core.specs.declared.domain.Domain.{Domain}
use Rattle.grb_core.specs.declared.domain.Domain.TheVariants as domain
use Rattle.grb_core.specs.declared.operator.BinaryOp.{BinaryOp}
use Rattle.grb_core.specs.declared.operator.BinaryOp.TheVariants as op
use Rattle.grb_core.specs.declared.monoid.Monoid.{Monoid}
use Rattle.grb_core.specs.declared.monoid.Monoid.TheVariants as monoid
use Rattle.grb_core.specs.declared.refusal.Refusal.{Refusal}
use Rattle.grb_core.specs.declared.refusal.Refusal.TheVariants as refusal
use Rattle.grb_core.specs.declared.refusal.Info.{Info}
use Rattle.grb_core.specs.declared.refusal.Info.TheVariants as info
use Rattle.grb_core.specs.declared.value.Value.{Value}
use Rattle.grb_core.specs.declared.value.Value.TheVariants as value
use Rattle.grb_core.specs.Semiring.{SemiringParts}
use Rattle.grb_core.specs.Operator.{op_domain}
use Rattle.grb_core.specs.Monoid.{monoid_domain}
use Rattle.grb_core.specs.declared.functions.UnaryOp.{UnaryOp}
use Rattle.grb_core.specs.declared.functions.UnaryOp.TheVariants as unary
use Rattle.grb_core.specs.declared.tests.Diagonal.{Diagonal}
use Rattle.grb_core.specs.declared.tests.Diagonal.TheVariants as diagonal
use Rattle.grb_core.specs.declared.tests.Test.{Test}
use Rattle.grb_core.specs.declared.tests.Test.TheVariants as test
use Rattle.grb_core.specs.declared.descriptor.Descriptor.{Descriptor}
use Rattle.grb_call.specs.declared.wait_mode.WaitMode.{WaitMode}
use Rattle.grb_call.specs.declared.wait_mode.WaitMode.TheVariants as mode
use Rattle.grb_call.specs.declared.ids.MatrixId.{MatrixId}
use Rattle.grb_call.specs.declared.ids.VectorId.{VectorId}
use Rattle.grb_call.specs.declared.reply.Reply.{Reply}
use Rattle.grb_call.specs.declared.reply.Reply.TheVariants as reply

-- what a call is answered: its reply, or why it is refused
abbrev pub Answer : Type 0
Answer = Result Reply Refusal

abbrev pub success : ℤ
success = pos 0

abbrev pub no_value : ℤ
no_value = pos 1

abbrev pub uninitialized_object : ℤ
uninitialized_object = negsuc 0

abbrev pub invalid_value : ℤ
invalid_value = negsuc 2

abbrev pub domain_mismatch : ℤ
domain_mismatch = negsuc 4

abbrev pub panic : ℤ
panic = negsuc 100

abbrev pub out_of_memory : ℤ
out_of_memory = negsuc 101

abbrev pub insufficient_space : ℤ
insufficient_space = negsuc 102

abbrev pub order_full : ℤ
order_full = negsuc 1000

-- the status of a refusal
abbrev pub refusal_code : Refusal → ℤ
refusal_code refusal.UninitializedObject = negsuc 0
refusal_code refusal.InvalidValue = negsuc 2
refusal_code refusal.InvalidIndex = negsuc 3
refusal_code refusal.DomainMismatch = negsuc 4
refusal_code refusal.DimensionMismatch = negsuc 5
refusal_code refusal.OutputNotEmpty = negsuc 6
refusal_code refusal.IndexOutOfBounds = negsuc 104
refusal_code refusal.OrderFull = negsuc 1000
refusal_code refusal.OutOfMemory = negsuc 101
refusal_code refusal.Panic = negsuc 100

-- the status of an answer that puts nothing out
abbrev pub done_code : Answer → ℤ
done_code (Ok reply) = success
done_code (Err r) = refusal_code r

-- the status of an answer with a number, and the number that it puts out
abbrev pub number_code : Answer → ℤ
number_code (Ok (reply.Value (value.Uint64 x))) = success
number_code (Ok (reply.Value (value.Bool x))) = domain_mismatch
number_code (Ok (reply.Count n)) = success
number_code (Ok (reply.Size n)) = success
number_code (Ok reply.NoValue) = no_value
number_code (Ok reply.Done) = panic
number_code (Ok (reply.MadeMatrix a)) = panic
number_code (Ok (reply.MadeVector v)) = panic
number_code (Ok (reply.Dims nrows ncols)) = panic
number_code (Err r) = refusal_code r

abbrev pub number_out : Answer → ℕ → ℕ
number_out (Ok (reply.Value (value.Uint64 x))) before = x
number_out (Ok (reply.Count n)) before = n
number_out (Ok (reply.Size n)) before = n
number_out _ before = before

-- of an answer with a truth value
abbrev pub bool_code : Answer → ℤ
bool_code (Ok (reply.Value (value.Bool x))) = success
bool_code (Ok (reply.Value (value.Uint64 x))) = domain_mismatch
bool_code (Ok reply.NoValue) = no_value
bool_code (Ok (reply.Count n)) = panic
bool_code (Ok (reply.Size n)) = panic
bool_code (Ok reply.Done) = panic
bool_code (Ok (reply.MadeMatrix a)) = panic
bool_code (Ok (reply.MadeVector v)) = panic
bool_code (Ok (reply.Dims nrows ncols)) = panic
bool_code (Err r) = refusal_code r

abbrev pub bool_out : Answer → Bool → Bool
bool_out (Ok (reply.Value (value.Bool x))) before = x
bool_out _ before = before

-- of an answer with the number of an object
abbrev pub object_code : Answer → ℤ
object_code (Ok (reply.MadeMatrix a)) = success
object_code (Ok (reply.MadeVector v)) = success
object_code (Ok reply.Done) = panic
object_code (Ok (reply.Value x)) = panic
object_code (Ok reply.NoValue) = panic
object_code (Ok (reply.Count n)) = panic
object_code (Ok (reply.Size n)) = panic
object_code (Ok (reply.Dims nrows ncols)) = panic
object_code (Err r) = refusal_code r

abbrev pub object_out : Answer → ℕ → ℕ
object_out (Ok (reply.MadeMatrix a)) before = a.0
object_out (Ok (reply.MadeVector v)) before = v.0
object_out _ before = before

-- of an answer with dimensions
abbrev pub dims_code : Answer → ℤ
dims_code (Ok (reply.Dims nrows ncols)) = success
dims_code (Ok (reply.MadeMatrix a)) = panic
dims_code (Ok (reply.MadeVector v)) = panic
dims_code (Ok reply.Done) = panic
dims_code (Ok (reply.Value x)) = panic
dims_code (Ok reply.NoValue) = panic
dims_code (Ok (reply.Count n)) = panic
dims_code (Ok (reply.Size n)) = panic
dims_code (Err r) = refusal_code r

abbrev pub dims_out : Answer → ℕ × ℕ → ℕ × ℕ
dims_out (Ok (reply.Dims nrows ncols)) before = (nrows, ncols)
dims_out _ before = before

-- what is done with a decoded number, or the status where it stands for nothing
abbrev pub with_code : {X Y : Type 0} → Option X → (X → Result Y ℤ) → Result Y ℤ
with_code (Some x) f = f x
with_code None f = Err invalid_value

abbrev pub domain_at : ℕ → Option Domain
domain_at n =
    if n == 1 then Some domain.Bool
    else (if n == 9 then Some domain.Uint64 else None)

abbrev pub op_at : ℕ → Option BinaryOp
op_at n =
    if n == 1 then Some op.Lor
    else (if n == 2 then Some op.Land
    else (if n == 3 then Some op.Lxor
    else (if n == 4 then Some op.Lxnor
    else (if n == 5 then Some op.FirstBool
    else (if n == 6 then Some op.SecondBool
    else (if n == 7 then Some op.Plus
    else (if n == 8 then Some op.Times
    else (if n == 9 then Some op.Min
    else (if n == 10 then Some op.Max
    else (if n == 11 then Some op.Minus
    else (if n == 12 then Some op.First
    else (if n == 13 then Some op.Second else None))))))))))))

-- an accumulator, of which 0 is none
abbrev pub accum_at : ℕ → Option (Option BinaryOp)
accum_at n = if n == 0 then Some None else option_map (λ (o : BinaryOp). Some o) (op_at n)

abbrev pub monoid_at : ℕ → Option Monoid
monoid_at n =
    if n == 1 then Some monoid.Lor
    else (if n == 2 then Some monoid.Land
    else (if n == 3 then Some monoid.Lxor
    else (if n == 4 then Some monoid.Lxnor
    else (if n == 7 then Some monoid.Plus
    else (if n == 8 then Some monoid.Times
    else (if n == 9 then Some monoid.Min
    else (if n == 10 then Some monoid.Max else None)))))))

abbrev pub unary_at : ℕ → Option UnaryOp
unary_at n =
    if n == 1 then Some unary.IdentityBool
    else (if n == 2 then Some unary.Lnot
    else (if n == 3 then Some unary.Identity
    else (if n == 4 then Some unary.Ainv
    else (if n == 5 then Some unary.Bnot else None))))

-- the diagonal of a number with a sign: so far above the main one, or with a minus so far below it
abbrev pub diagonal_at : ℤ → Option Diagonal
diagonal_at (pos n) = if nat_lt n 4294967296 then Some (diagonal.Above n) else None
diagonal_at (negsuc n) = if nat_lt n 4294967295 then Some (diagonal.Below (n + 1)) else None

-- the number of a row or a column, if it is none below 0
abbrev pub index_at : ℤ → Option ℕ
index_at (pos n) = Some n
index_at (negsuc n) = None

-- a test by places, with the number that it compares with
abbrev pub place_test_at : ℕ → ℤ → Option Test
place_test_at n k =
    if n == 1 then option_map (λ (d : Diagonal). test.Tril d) (diagonal_at k)
    else (if n == 2 then option_map (λ (d : Diagonal). test.Triu d) (diagonal_at k)
    else (if n == 3 then option_map (λ (d : Diagonal). test.Diag d) (diagonal_at k)
    else (if n == 4 then option_map (λ (d : Diagonal). test.Offdiag d) (diagonal_at k)
    else (if n == 5 then option_map (λ (i : ℕ). test.RowLe i) (index_at k)
    else (if n == 6 then option_map (λ (i : ℕ). test.RowGt i) (index_at k)
    else (if n == 7 then option_map (λ (j : ℕ). test.ColLe j) (index_at k)
    else (if n == 8 then option_map (λ (j : ℕ). test.ColGt j) (index_at k) else None)))))))

-- a test by values, with the value that it compares with
abbrev pub value_test_at : ℕ → Value → Option Test
value_test_at n x =
    if n == 9 then Some (test.ValueEq x)
    else (if n == 10 then Some (test.ValueNe x)
    else (if n == 11 then Some (test.ValueLt x)
    else (if n == 12 then Some (test.ValueLe x)
    else (if n == 13 then Some (test.ValueGt x)
    else (if n == 14 then Some (test.ValueGe x) else None)))))

-- both domains are the same
abbrev pub is_one_domain : Domain → Domain → Bool
is_one_domain domain.Bool domain.Bool = true
is_one_domain domain.Uint64 domain.Uint64 = true
is_one_domain domain.Bool domain.Uint64 = false
is_one_domain domain.Uint64 domain.Bool = false

abbrev pub semiring_of : Monoid → BinaryOp → Result SemiringParts ℤ
semiring_of m o = if is_one_domain (monoid_domain m) (op_domain o) then Ok (record { monoid = m; op = o }) else Err domain_mismatch

-- the mask of a number, of which the largest is none
abbrev pub matrix_mask_at : ℕ → Option MatrixId
matrix_mask_at n = if n == 4294967295 then None else Some (record { 0 = n })

abbrev pub vector_mask_at : ℕ → Option VectorId
vector_mask_at n = if n == 4294967295 then None else Some (record { 0 = n })

-- the bits from the lowest: replace, complement, structure, first input transposed, second input transposed
abbrev pub descriptor_at : ℕ → Option Descriptor
descriptor_at n =
    if nat_lt n 32 then Some (record { structure = (n / 4) % 2 == 1; comp = (n / 2) % 2 == 1; replace = n % 2 == 1; tran = (n / 8) % 2 == 1; tran1 = (n / 16) % 2 == 1 }) else None

-- the same of an operation that reads nothing transposed: its last two bits stand for nothing
abbrev pub upright_descriptor_at : ℕ → Option Descriptor
upright_descriptor_at n = if nat_lt n 8 then descriptor_at n else None

-- of one that reads no second input transposed, and of one that reads no first input so
abbrev pub first_descriptor_at : ℕ → Option Descriptor
first_descriptor_at n = if nat_lt n 16 then descriptor_at n else None

abbrev pub second_descriptor_at : ℕ → Option Descriptor
second_descriptor_at n = if (n / 8) % 2 == 1 then None else descriptor_at n

abbrev pub mode_at : ℕ → Option WaitMode
mode_at n =
    if n == 0 then Some mode.Complete
    else (if n == 1 then Some mode.Materialize else None)

-- the status of a meeting
abbrev pub met_code : Result (Unit {0}) Refusal → ℤ
met_code (Ok done) = success
met_code (Err r) = refusal_code r

-- the status of an object
abbrev pub info_code : Info → ℤ
info_code info.Success = success
info_code info.NoValue = no_value
info_code (info.Refused r) = refusal_code r

-- what is told of the status of an object: it, or that there is none
abbrev pub TellsInfo : Option Info → ℤ → ℤ → ℤ → Type 0
TellsInfo (Some i) code before after = (code ≡ success) × (after ≡ info_code i)
TellsInfo None code before after = (code ≡ no_value) × (after ≡ before)
