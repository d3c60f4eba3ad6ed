-- believed: What one object holds, and what a call makes of its target, from what the objects hold that it names: GraphBLAS C API
-- 2.0, "Execution modes": a sequence of methods is ordered by which of them writes what another reads.
use Rattle.std.specs.Prelude.{Bool, true, ◌&&◌, ◌==◌, nat_lt, if◌then◌else◌, [], length, Option, Some, None}
use Rattle.std.specs.List.{list_all}
use Rattle.std.specs.Option.{option_map, option_map_or}
use Rattle.grb_core.specs.Contents.{Matrix, Vector}
use Rattle.grb_core.specs.Entries.{nvals_of}
use Rattle.grb_core.specs.declared.tests.Diagonal.{Diagonal}
use Rattle.grb_core.specs.Maps.{diagonal_matrix}
use Rattle.grb_call.specs.declared.call.Call.{Call}
use Rattle.grb_call.specs.declared.call.Call.TheVariants as call
use Rattle.grb_call.specs.declared.ids.Object.{Object}
use Rattle.grb_call.specs.declared.ids.Object.TheVariants as object
use Rattle.grb_call.specs.Output.{StoredObjects, output_of, matrix_made, vector_made}
use Rattle.grb_call.specs.Refused.{refused_by_shapes}
use Rattle.grb_call.specs.Shapes.{ObjectShapes}
use Rattle.grb_call.specs.Store.{Store, matrix_at, vector_at}

-- what one object holds
pub data Content : Type 0 where
  MatrixContent : Matrix → Content
  VectorContent : Vector → Content

-- what each object holds, None where it was freed or never made
abbrev pub Contents : Type 0
Contents = Object → Option Content

abbrev pub content_at : Store → Contents
content_at s (object.Matrix a) = option_map MatrixContent (matrix_at s a)
content_at s (object.Vector v) = option_map VectorContent (vector_at s v)

-- the object that the call changes or makes, where it is not refused; none for a call that only reads
abbrev pub target_of : ObjectShapes → Call → Option Object
target_of s (call.NewMatrix domain nrows ncols) = Some (object.Matrix (record { 0 = length s.matrices }))
target_of s (call.NewVector domain size) = Some (object.Vector (record { 0 = length s.vectors }))
target_of s (call.DupMatrix a) = Some (object.Matrix (record { 0 = length s.matrices }))
target_of s (call.DupVector v) = Some (object.Vector (record { 0 = length s.vectors }))
target_of s (call.Diag v diagonal) = Some (object.Matrix (record { 0 = length s.matrices }))
target_of s c = output_of c

-- the target of a call at its place: none where shapes refuse it
abbrev pub effective_target : ObjectShapes → Call → Option Object
effective_target s c = option_map_or (λ _. None) (refused_by_shapes s c) (target_of s c)

-- the matrix, and the vector, that an object holds; None of one that is not there
abbrev pub matrix_held : Option Content → Option Matrix
matrix_held (Some (MatrixContent m)) = Some m
matrix_held _ = None

abbrev pub vector_held : Option Content → Option Vector
vector_held (Some (VectorContent x)) = Some x
vector_held _ = None

-- all objects, as calls read them
abbrev pub objects_held : Contents → StoredObjects
objects_held r = record { matrix = λ a. matrix_held (r (object.Matrix a)); vector = λ v. vector_held (r (object.Vector v)) }

-- whether a call may fill what it finds: a build no entry, and all places of its list within the object; any other call what there is
abbrev pub can_fill_matrix : Call → Matrix → Bool
can_fill_matrix (call.BuildMatrix a tuples dup) m = (nvals_of m.entries == 0) && list_all (λ e. nat_lt e.0 m.nrows && nat_lt e.1 m.ncols) tuples
can_fill_matrix _ m = true

abbrev pub can_fill_vector : Call → Vector → Bool
can_fill_vector (call.BuildVector v tuples dup) x = (nvals_of x.entries == 0) && list_all (λ e. nat_lt e.0 x.size) tuples
can_fill_vector _ x = true

-- what a call which shapes do not refuse leaves of its output, where it does not end it
abbrev pub filled_matrix : Contents → Call → Matrix → Matrix
filled_matrix r c m = if can_fill_matrix c m then matrix_made (objects_held r) c m else m

abbrev pub filled_vector : Contents → Call → Vector → Vector
filled_vector r c x = if can_fill_vector c x then vector_made (objects_held r) c x else x

abbrev pub content_made : Contents → Call → Content → Content
content_made r c (MatrixContent m) = MatrixContent (filled_matrix r c m)
content_made r c (VectorContent x) = VectorContent (filled_vector r c x)

-- what a call leaves of its output, where it has one
abbrev pub output_made : Contents → Call → Option Object → Option Content
output_made r c (Some o) = option_map (content_made r c) (r o)
output_made r c None = None

-- what a matrix holds that is made of a vector, where that is there
abbrev pub diagonal_content : Diagonal → Option Content → Option Content
diagonal_content d c = option_map (λ x. MatrixContent (diagonal_matrix d x)) (vector_held c)

-- what the target of a call that shapes do not refuse holds after it, by what the objects hold before it
abbrev pub outcome : Contents → Call → Option Content
outcome r (call.NewMatrix domain nrows ncols) = Some (MatrixContent (record { domain = domain; nrows = nrows; ncols = ncols; entries = [] }))
outcome r (call.NewVector domain size) = Some (VectorContent (record { domain = domain; size = size; entries = [] }))
outcome r (call.DupMatrix a) = r (object.Matrix a)
outcome r (call.DupVector v) = r (object.Vector v)
outcome r (call.Diag v diagonal) = diagonal_content diagonal (r (object.Vector v))
outcome r (call.FreeMatrix a) = None
outcome r (call.FreeVector v) = None
outcome r c = output_made r c (output_of c)
