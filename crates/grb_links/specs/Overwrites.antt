-- believed: Which calls leave nothing of what their output stored (own): GraphBLAS C API 2.0, "Masks" and "Descriptors".
use Rattle.std.specs.Prelude.{◌≡◌, ℕ, zero, suc, Bool, true, false, ◌&&◌, ◌||◌, not, if◌then◌else◌, List, [], slice_get, Option, Some, None}
use Rattle.std.specs.Option.{option_map, option_map_or}
use Rattle.grb_core.specs.declared.operator.BinaryOp.{BinaryOp}
use Rattle.grb_call.specs.declared.call.Call.{Call}
use Rattle.grb_call.specs.declared.call.Call.TheVariants as call
use Rattle.grb_call.specs.declared.ids.Object.{Object}
use Rattle.grb_call.specs.declared.operation.Operation.{Operation}
use Rattle.grb_call.specs.Operands.{objects_read}
use Rattle.grb_call.specs.Shapes.{ObjectShapes, matrix_shape_at, vector_shape_at}
use Rattle.grb_call.specs.declared.ids.Object.TheVariants as object
use Rattle.grb_call.specs.Operation.{operation_inputs, operation_of}
use Rattle.grb_call.specs.Output.{output_of}
use Rattle.grb_slices.specs.Content.{Content, MatrixContent, VectorContent, Contents, outcome}
use Rattle.grb_slices.specs.Slice.{is_among}
use Rattle.grb_slices.specs.Steps.{AgreeOn}
use Rattle.grb_links.specs.declared.shape.Shape.{Shape}
use Rattle.grb_links.specs.declared.shape.Shape.TheVariants as shape

-- no mask selects places, no accumulator combines, and all places are inside
abbrev pub is_plain : {X : Type 0} → Option X → Option BinaryOp → Bool → Bool
is_plain None None false = true
is_plain _ _ _ = false

-- whether the call leaves nothing of what its output stored
abbrev pub overwrites : Call → Bool
overwrites (call.ClearMatrix a) = true
overwrites (call.ClearVector v) = true
overwrites c = option_map_or (λ o. is_plain o.mask o.accum o.d.comp) (operation_of c) false

-- the inputs of an operation
abbrev pub inputs_of : Call → List Object
inputs_of c = option_map_or operation_inputs (operation_of c) []

-- both are there with one domain and one size, or none is
abbrev pub HaveOneShape : Object → Option Content → Option Content → Type 0
HaveOneShape (object.Matrix a) (Some (MatrixContent m)) (Some (MatrixContent n)) = (m.domain ≡ n.domain) × (m.nrows ≡ n.nrows) × (m.ncols ≡ n.ncols)
HaveOneShape (object.Vector v) (Some (VectorContent x)) (Some (VectorContent y)) = (x.domain ≡ y.domain) × (x.size ≡ y.size)
HaveOneShape o None None = Unit {0}
HaveOneShape o _ _ = ⊥

abbrev pub OverwrittenIsNotRead : Type 0
OverwrittenIsNotRead = (r t : Contents) (c : Call) → overwrites c ≡ true → AgreeOn (is_among (inputs_of c)) r t → ((o : Object) → output_of c ≡ Some o → HaveOneShape o (r o) (t o)) →
    outcome r c ≡ outcome t c

abbrev pub is_clear : Call → Bool
is_clear (call.ClearMatrix a) = true
is_clear (call.ClearVector v) = true
is_clear _ = false

-- the operation leaves nothing of what its output stored, which is none of its inputs
abbrev pub is_anew : Operation → Bool
is_anew o = is_plain o.mask o.accum o.d.comp && not (is_among (operation_inputs o) o.output)

-- the call needs nothing of what its output stored
abbrev pub forgets : Call → Bool
forgets c = is_clear c || option_map_or is_anew (operation_of c) false

-- the objects of which the call needs what they store
abbrev pub objects_needed : Call → List Object
objects_needed c = if forgets c then inputs_of c else objects_read c

-- the shape of an object, where it is there
abbrev pub shape_at : ObjectShapes → Object → Option Shape
shape_at u (object.Matrix a) = option_map (λ s. shape.Matrix s.0 s.1 s.2) (matrix_shape_at u a)
shape_at u (object.Vector v) = option_map (λ s. shape.Vector s.0 s.1) (vector_shape_at u v)

abbrev pub shape_of_any : ObjectShapes → Option Object → Option Shape
shape_of_any u (Some o) = shape_at u o
shape_of_any u None = None

-- the shape of the output, where the call needs nothing else of it
abbrev pub shape_needed : ObjectShapes → Call → Option Shape
shape_needed u c = if forgets c then shape_of_any u (output_of c) else None

-- the last of so many shapes of a list; none of 0
abbrev pub shape_noted : List Shape → ℕ → Option Shape
shape_noted shapes zero = None
shape_noted shapes (suc n) = slice_get shapes n

-- an object of this shape that stores nothing
abbrev pub blank_of : Shape → Content
blank_of (shape.Matrix d n k) = MatrixContent (record { domain = d; nrows = n; ncols = k; entries = [] })
blank_of (shape.Vector d n) = VectorContent (record { domain = d; size = n; entries = [] })
