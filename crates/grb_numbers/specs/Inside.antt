-- believed: A call with other numbers, and a reply (own): what a member of a generation hands on inside, and what it hands back.
use Rattle.std.specs.Prelude.{min, Result, Ok, Err}
use Rattle.std.specs.Option.{option_map}
use Rattle.grb_core.specs.declared.refusal.Refusal.{Refusal}
use Rattle.grb_call.specs.declared.call.Call.{Call}
use Rattle.grb_call.specs.declared.call.Call.TheVariants as call
use Rattle.grb_call.specs.declared.ids.MatrixId.{MatrixId}
use Rattle.grb_call.specs.declared.ids.VectorId.{VectorId}
use Rattle.grb_call.specs.declared.ids.Object.{Object}
use Rattle.grb_call.specs.declared.ids.Object.TheVariants as object
use Rattle.grb_call.specs.declared.reply.Reply.{Reply}
use Rattle.grb_call.specs.declared.reply.Reply.TheVariants as reply
use Rattle.grb_call.specs.declared.term.MatrixTerm.{MatrixTerm}
use Rattle.grb_call.specs.declared.term.MatrixTerm.TheVariants as matrix_term
use Rattle.grb_call.specs.declared.term.VectorTerm.{VectorTerm}
use Rattle.grb_call.specs.declared.term.VectorTerm.TheVariants as vector_term
use Rattle.grb_numbers.specs.Numbers.{NumbersSeen, no_number, inner_number, outer_number}

-- other numbers for those of matrices and of vectors
pub record Renaming : Type 0 where
  pub matrix : MatrixId → MatrixId
  pub vector : VectorId → VectorId

abbrev pub renamed_object : Renaming → Object → Object
renamed_object r (object.Matrix a) = object.Matrix (r.matrix a)
renamed_object r (object.Vector v) = object.Vector (r.vector v)

-- a term with other numbers
abbrev pub renamed_matrix_term : Renaming → MatrixTerm → MatrixTerm
renamed_matrix_term r (matrix_term.Transposed a) = matrix_term.Transposed (r.matrix a)
renamed_matrix_term r (matrix_term.Applied f a) = matrix_term.Applied f (r.matrix a)
renamed_matrix_term r (matrix_term.Selected t a) = matrix_term.Selected t (r.matrix a)
renamed_matrix_term r (matrix_term.Kronecker op a b) = matrix_term.Kronecker op (r.matrix a) (r.matrix b)

abbrev pub renamed_vector_term : Renaming → VectorTerm → VectorTerm
renamed_vector_term r (vector_term.Applied f u) = vector_term.Applied f (r.vector u)
renamed_vector_term r (vector_term.Selected t u) = vector_term.Selected t (r.vector u)

-- the call with other numbers, and all else as it was
abbrev pub renamed : Renaming → Call → Call
renamed r (call.NewMatrix domain nrows ncols) = call.NewMatrix domain nrows ncols
renamed r (call.NewVector domain size) = call.NewVector domain size
renamed r (call.FreeMatrix a) = call.FreeMatrix (r.matrix a)
renamed r (call.FreeVector v) = call.FreeVector (r.vector v)
renamed r (call.SetMatrix a i j value) = call.SetMatrix (r.matrix a) i j value
renamed r (call.SetVector v i value) = call.SetVector (r.vector v) i value
renamed r (call.RemoveMatrix a i j) = call.RemoveMatrix (r.matrix a) i j
renamed r (call.RemoveVector v i) = call.RemoveVector (r.vector v) i
renamed r (call.GetMatrix a i j) = call.GetMatrix (r.matrix a) i j
renamed r (call.GetVector v i) = call.GetVector (r.vector v) i
renamed r (call.NvalsMatrix a) = call.NvalsMatrix (r.matrix a)
renamed r (call.NvalsVector v) = call.NvalsVector (r.vector v)
renamed r (call.SizeMatrix a) = call.SizeMatrix (r.matrix a)
renamed r (call.SizeVector v) = call.SizeVector (r.vector v)
renamed r (call.ClearMatrix a) = call.ClearMatrix (r.matrix a)
renamed r (call.ClearVector v) = call.ClearVector (r.vector v)
renamed r (call.ResizeMatrix a nrows ncols) = call.ResizeMatrix (r.matrix a) nrows ncols
renamed r (call.ResizeVector v size) = call.ResizeVector (r.vector v) size
renamed r (call.DupMatrix a) = call.DupMatrix (r.matrix a)
renamed r (call.DupVector v) = call.DupVector (r.vector v)
renamed r (call.BuildMatrix a tuples dup) = call.BuildMatrix (r.matrix a) tuples dup
renamed r (call.BuildVector v tuples dup) = call.BuildVector (r.vector v) tuples dup
renamed r (call.EwiseAddMatrix c mask accum op a b d) = call.EwiseAddMatrix (r.matrix c) (option_map r.matrix mask) accum op (r.matrix a) (r.matrix b) d
renamed r (call.EwiseAddVector w mask accum op u v d) = call.EwiseAddVector (r.vector w) (option_map r.vector mask) accum op (r.vector u) (r.vector v) d
renamed r (call.EwiseMultMatrix c mask accum op a b d) = call.EwiseMultMatrix (r.matrix c) (option_map r.matrix mask) accum op (r.matrix a) (r.matrix b) d
renamed r (call.EwiseMultVector w mask accum op u v d) = call.EwiseMultVector (r.vector w) (option_map r.vector mask) accum op (r.vector u) (r.vector v) d
renamed r (call.Mxv w mask accum semiring a u d) = call.Mxv (r.vector w) (option_map r.vector mask) accum semiring (r.matrix a) (r.vector u) d
renamed r (call.Vxm w mask accum semiring u a d) = call.Vxm (r.vector w) (option_map r.vector mask) accum semiring (r.vector u) (r.matrix a) d
renamed r (call.Mxm c mask accum semiring a b d) = call.Mxm (r.matrix c) (option_map r.matrix mask) accum semiring (r.matrix a) (r.matrix b) d
renamed r (call.ReduceRows w mask accum monoid a d) = call.ReduceRows (r.vector w) (option_map r.vector mask) accum monoid (r.matrix a) d
renamed r (call.WriteMatrix c mask accum term d) = call.WriteMatrix (r.matrix c) (option_map r.matrix mask) accum (renamed_matrix_term r term) d
renamed r (call.WriteVector w mask accum term d) = call.WriteVector (r.vector w) (option_map r.vector mask) accum (renamed_vector_term r term) d
renamed r (call.Diag v diagonal) = call.Diag (r.vector v) diagonal
renamed r (call.ReduceMatrix a monoid) = call.ReduceMatrix (r.matrix a) monoid
renamed r (call.ReduceVector v monoid) = call.ReduceVector (r.vector v) monoid
renamed r (call.WaitMatrix a mode) = call.WaitMatrix (r.matrix a) mode
renamed r (call.WaitVector v mode) = call.WaitVector (r.vector v) mode

-- the reply with other numbers for what was made
abbrev pub renamed_reply : Renaming → Reply → Reply
renamed_reply r (reply.MadeMatrix a) = reply.MadeMatrix (r.matrix a)
renamed_reply r (reply.MadeVector v) = reply.MadeVector (r.vector v)
renamed_reply r reply.Done = reply.Done
renamed_reply r (reply.Value value) = reply.Value value
renamed_reply r reply.NoValue = reply.NoValue
renamed_reply r (reply.Count n) = reply.Count n
renamed_reply r (reply.Size n) = reply.Size n
renamed_reply r (reply.Dims nrows ncols) = reply.Dims nrows ncols

abbrev pub renamed_answer : Renaming → Result Reply Refusal → Result Reply Refusal
renamed_answer r (Ok reply) = Ok (renamed_reply r reply)
renamed_answer r (Err refusal) = Err refusal

-- inner numbers for outer ones
abbrev pub inner_matrix : NumbersSeen → MatrixId → MatrixId
inner_matrix n a = record { 0 = inner_number n.matrices a.0 }

abbrev pub inner_vector : NumbersSeen → VectorId → VectorId
inner_vector n v = record { 0 = inner_number n.vectors v.0 }

abbrev pub inwards : NumbersSeen → Renaming
inwards n = record { matrix = inner_matrix n; vector = inner_vector n }

-- outer numbers for inner ones; the number that no object has stands for all that are greater
abbrev pub outer_matrix : NumbersSeen → MatrixId → MatrixId
outer_matrix n a = record { 0 = min (outer_number n.matrices a.0) no_number }

abbrev pub outer_vector : NumbersSeen → VectorId → VectorId
outer_vector n v = record { 0 = min (outer_number n.vectors v.0) no_number }

abbrev pub outwards : NumbersSeen → Renaming
outwards n = record { matrix = outer_matrix n; vector = outer_vector n }

-- the call, or the object, by inner numbers, and an answer by outer ones
abbrev pub inside : NumbersSeen → Call → Call
inside n c = renamed (inwards n) c

abbrev pub inside_object : NumbersSeen → Object → Object
inside_object n o = renamed_object (inwards n) o

abbrev pub outside_reply : NumbersSeen → Result Reply Refusal → Result Reply Refusal
outside_reply n r = renamed_answer (outwards n) r
