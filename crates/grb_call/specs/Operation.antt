-- believed: An operation in one shape, whichever objects it is on: GraphBLAS C API 2.0, "Operations". What must hold of all
-- operations alike is stated of this shape.
use Rattle.std.specs.Prelude.{Bool, not, List, [], ◌∷◌, ◌++◌, Option, Some, None}
use Rattle.std.specs.Option.{option_map, option_map_or}
use Rattle.grb_core.specs.declared.domain.Domain.{Domain}
use Rattle.grb_core.specs.declared.operator.BinaryOp.{BinaryOp}
use Rattle.grb_core.specs.Operator.{op_domain}
use Rattle.grb_core.specs.Value.{value_domain}
use Rattle.grb_core.specs.Monoid.{monoid_domain}
use Rattle.grb_core.specs.declared.functions.Function.{Function}
use Rattle.grb_core.specs.declared.functions.Function.TheVariants as function
use Rattle.grb_core.specs.declared.tests.Test.{Test}
use Rattle.grb_core.specs.declared.tests.Test.TheVariants as test
use Rattle.grb_core.specs.Functions.{turns_input, unary_domain}
use Rattle.grb_call.specs.declared.call.Call.{Call}
use Rattle.grb_call.specs.declared.call.Call.TheVariants as call
use Rattle.grb_core.specs.declared.descriptor.Descriptor.{Descriptor}
use Rattle.grb_call.specs.declared.ids.Object.{Object}
use Rattle.grb_call.specs.declared.ids.Object.TheVariants.{Matrix, Vector}
use Rattle.grb_call.specs.declared.operation.Input.{Input}
use Rattle.grb_call.specs.declared.operation.Input.TheVariants.{First, Second}
use Rattle.grb_call.specs.declared.operation.Operation.{Operation}
use Rattle.grb_call.specs.declared.operation.OperationKind.{OperationKind}
use Rattle.grb_call.specs.declared.operation.OperationKind.TheVariants.{EwiseAdd, EwiseMult, Product, Rows, Transpose, Apply, Select, Kronecker}
use Rattle.grb_call.specs.declared.term.MatrixTerm.{MatrixTerm}
use Rattle.grb_call.specs.declared.term.MatrixTerm.TheVariants as matrix_term
use Rattle.grb_call.specs.declared.term.VectorTerm.{VectorTerm}
use Rattle.grb_call.specs.declared.term.VectorTerm.TheVariants as vector_term

-- what a term computes, and of which inputs: the first, or the only one, and the second, which a Kronecker product alone has
abbrev pub matrix_term_kind : MatrixTerm → OperationKind
matrix_term_kind (matrix_term.Transposed a) = Transpose
matrix_term_kind (matrix_term.Applied f a) = Apply f
matrix_term_kind (matrix_term.Selected t a) = Select t
matrix_term_kind (matrix_term.Kronecker op a b) = Kronecker op

abbrev pub matrix_term_first : MatrixTerm → Object
matrix_term_first (matrix_term.Transposed a) = Matrix a
matrix_term_first (matrix_term.Applied f a) = Matrix a
matrix_term_first (matrix_term.Selected t a) = Matrix a
matrix_term_first (matrix_term.Kronecker op a b) = Matrix a

abbrev pub matrix_term_second : MatrixTerm → Option Object
matrix_term_second (matrix_term.Kronecker op a b) = Some (Matrix b)
matrix_term_second _ = None

abbrev pub vector_term_kind : VectorTerm → OperationKind
vector_term_kind (vector_term.Applied f u) = Apply f
vector_term_kind (vector_term.Selected t u) = Select t

abbrev pub vector_term_first : VectorTerm → Object
vector_term_first (vector_term.Applied f u) = Vector u
vector_term_first (vector_term.Selected t u) = Vector u

-- the operation that a call is, if it writes a result into an output
abbrev pub operation_of : Call → Option Operation
operation_of (call.EwiseAddMatrix c mask accum op a b d) =
    Some (record { output = Matrix c; mask = option_map Matrix mask; accum = accum; first = Some (Matrix a); second = Some (Matrix b); kind = EwiseAdd op; d = d })
operation_of (call.EwiseAddVector w mask accum op u v d) =
    Some (record { output = Vector w; mask = option_map Vector mask; accum = accum; first = Some (Vector u); second = Some (Vector v); kind = EwiseAdd op; d = d })
operation_of (call.EwiseMultMatrix c mask accum op a b d) =
    Some (record { output = Matrix c; mask = option_map Matrix mask; accum = accum; first = Some (Matrix a); second = Some (Matrix b); kind = EwiseMult op; d = d })
operation_of (call.EwiseMultVector w mask accum op u v d) =
    Some (record { output = Vector w; mask = option_map Vector mask; accum = accum; first = Some (Vector u); second = Some (Vector v); kind = EwiseMult op; d = d })
operation_of (call.Mxv w mask accum semiring a u d) =
    Some (record { output = Vector w; mask = option_map Vector mask; accum = accum; first = Some (Matrix a); second = Some (Vector u); kind = Product semiring; d = d })
operation_of (call.Vxm w mask accum semiring u a d) =
    Some (record { output = Vector w; mask = option_map Vector mask; accum = accum; first = Some (Vector u); second = Some (Matrix a); kind = Product semiring; d = d })
operation_of (call.Mxm c mask accum semiring a b d) =
    Some (record { output = Matrix c; mask = option_map Matrix mask; accum = accum; first = Some (Matrix a); second = Some (Matrix b); kind = Product semiring; d = d })
operation_of (call.ReduceRows w mask accum monoid a d) =
    Some (record { output = Vector w; mask = option_map Vector mask; accum = accum; first = Some (Matrix a); second = None; kind = Rows monoid; d = d })
operation_of (call.WriteMatrix c mask accum term d) =
    Some (record { output = Matrix c; mask = option_map Matrix mask; accum = accum; first = Some (matrix_term_first term); second = matrix_term_second term; kind = matrix_term_kind term; d = d })
operation_of (call.WriteVector w mask accum term d) =
    Some (record { output = Vector w; mask = option_map Vector mask; accum = accum; first = Some (vector_term_first term); second = None; kind = vector_term_kind term; d = d })
operation_of _ = None

-- an object that may be there, as a list
abbrev pub if_any : Option Object → List Object
if_any o = option_map_or (λ x. x ∷ []) o []

-- the inputs that are there
abbrev pub operation_inputs : Operation → List Object
operation_inputs o = if_any o.first ++ if_any o.second

-- the output and the inputs
abbrev pub operation_objects : Operation → List Object
operation_objects o = o.output ∷ operation_inputs o

-- whether an input is read transposed where it is a matrix, as the descriptor says: the first by GrB_TRAN of GrB_INP0, the second by that of
-- GrB_INP1. What transpose reads is turned once more, and the only input of a function whose first argument is bound stands second
abbrev pub turns : OperationKind → Descriptor → Input → Bool
turns Transpose d First = not d.tran
turns (Apply f) d First = turns_input f d.tran d.tran1
turns _ d First = d.tran
turns _ d Second = d.tran1

-- the domains of what a function brings, and of what a test brings: a test of places brings none
abbrev pub function_domains : Function → List Domain
function_domains (function.Unary op) = unary_domain op ∷ []
function_domains (function.First x op) = value_domain x ∷ op_domain op ∷ []
function_domains (function.Second op x) = op_domain op ∷ value_domain x ∷ []

abbrev pub test_domains : Test → List Domain
test_domains (test.ValueEq x) = value_domain x ∷ []
test_domains (test.ValueNe x) = value_domain x ∷ []
test_domains (test.ValueLt x) = value_domain x ∷ []
test_domains (test.ValueLe x) = value_domain x ∷ []
test_domains (test.ValueGt x) = value_domain x ∷ []
test_domains (test.ValueGe x) = value_domain x ∷ []
test_domains _ = []

-- the domains of what an operation computes with; of a semiring those of both its parts
abbrev pub kind_domains : OperationKind → List Domain
kind_domains (EwiseAdd op) = op_domain op ∷ []
kind_domains (EwiseMult op) = op_domain op ∷ []
kind_domains (Product semiring) = monoid_domain semiring.monoid ∷ op_domain semiring.op ∷ []
kind_domains (Rows monoid) = monoid_domain monoid ∷ []
kind_domains Transpose = []
kind_domains (Apply f) = function_domains f
kind_domains (Select t) = test_domains t
kind_domains (Kronecker op) = op_domain op ∷ []

-- the domain of the accumulator, where there is one
abbrev pub accum_domains : Option BinaryOp → List Domain
accum_domains accum = option_map_or (λ op. op_domain op ∷ []) accum []

-- the domains of what an operation computes with, and of its accumulator
abbrev pub operation_domains : Operation → List Domain
operation_domains o = kind_domains o.kind ++ accum_domains o.accum
