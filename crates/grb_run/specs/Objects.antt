-- believed: The objects that the names of a script stand for (own). The n-th name that a script makes stands for the object that
-- its statement made.
use Rattle.std.specs.Prelude.{ℕ, List, [], ◌∷◌, ◌++◌, slice_get, Option, Some, None, Ok}
use Rattle.std.specs.Option.{option_map_or}
use Rattle.grb_call.specs.declared.ids.MatrixId.{MatrixId}
use Rattle.grb_call.specs.declared.ids.Object.{Object}
use Rattle.grb_call.specs.declared.ids.Object.TheVariants as object
use Rattle.grb_call.specs.declared.ids.VectorId.{VectorId}
use Rattle.grb_call.specs.declared.reply.Reply.TheVariants as reply
use Rattle.grb_replies.specs.ReplyLine.{Answer}
use Rattle.grb_script.specs.declared.names.Sort.{Sort}
use Rattle.grb_script.specs.declared.names.Sort.TheVariants as sort
use Rattle.grb_script.specs.declared.statement.Statement.{Statement}
use Rattle.grb_script.specs.declared.statement.Statement.TheVariants as statement

-- what a name stands for whose object was not made: this number is never given, so a call of it is refused
abbrev pub no_matrix : MatrixId
no_matrix = record { 0 = 4294967295 }

abbrev pub no_vector : VectorId
no_vector = record { 0 = 4294967295 }

abbrev pub no_object : Sort → Object
no_object sort.Matrix = object.Matrix no_matrix
no_object sort.Vector = object.Vector no_vector

-- the matrix that this object is, if there is one and it is one
abbrev pub as_matrix : Option Object → MatrixId
as_matrix (Some (object.Matrix a)) = a
as_matrix _ = no_matrix

abbrev pub as_vector : Option Object → VectorId
as_vector (Some (object.Vector v)) = v
as_vector _ = no_vector

-- the object that a name stands for, where the names so far stand for these
abbrev pub matrix_named : List Object → ℕ → MatrixId
matrix_named objects name = as_matrix (slice_get objects name)

abbrev pub vector_named : List Object → ℕ → VectorId
vector_named objects name = as_vector (slice_get objects name)

-- the sort of the object that a statement makes, if it makes one
abbrev pub made_sort : Statement → Option Sort
made_sort (statement.Matrix domain nrows ncols) = Some sort.Matrix
made_sort (statement.Vector domain size) = Some sort.Vector
made_sort (statement.Dup name sort) = Some sort
made_sort (statement.Diag name diagonal) = Some sort.Matrix
made_sort _ = None

-- what a new name stands for whose statement makes an object of this sort and was answered this
abbrev pub new_object : Sort → Answer → Object
new_object sort (Ok (reply.MadeMatrix a)) = object.Matrix a
new_object sort (Ok (reply.MadeVector v)) = object.Vector v
new_object sort _ = no_object sort

-- what the names stand for behind a statement that makes an object of this sort, if any, and was answered this
abbrev pub objects_after : List Object → Option Sort → Answer → List Object
objects_after objects made a = option_map_or (λ sort. objects ++ new_object sort a ∷ []) made objects
