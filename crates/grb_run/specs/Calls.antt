-- believed: The call that a statement makes (own), where the names of its script stand for these objects.
use Rattle.std.specs.Prelude.{ℕ, List, Option}
use Rattle.std.specs.Option.{option_map}
use Rattle.grb_core.specs.declared.monoid.Monoid.{Monoid}
use Rattle.grb_call.specs.declared.call.Call.{Call}
use Rattle.grb_call.specs.declared.call.Call.TheVariants as call
use Rattle.grb_call.specs.declared.wait_mode.WaitMode.{WaitMode}
use Rattle.grb_call.specs.declared.wait_mode.WaitMode.TheVariants as mode
use Rattle.grb_call.specs.declared.term.MatrixTerm.TheVariants as of_matrix
use Rattle.grb_call.specs.declared.term.VectorTerm.TheVariants as of_vector
use Rattle.grb_call.specs.declared.ids.MatrixId.{MatrixId}
use Rattle.grb_call.specs.declared.ids.Object.{Object}
use Rattle.grb_call.specs.declared.ids.VectorId.{VectorId}
use Rattle.grb_script.specs.declared.ewise.Elementwise.{Elementwise}
use Rattle.grb_script.specs.declared.names.Sort.{Sort}
use Rattle.grb_script.specs.declared.names.Sort.TheVariants as sort
use Rattle.grb_script.specs.declared.product.Product.{Product}
use Rattle.grb_script.specs.declared.product.Reduction.{Reduction}
use Rattle.grb_script.specs.declared.statement.Statement.{Statement}
use Rattle.grb_script.specs.declared.statement.Statement.TheVariants as statement
use Rattle.grb_script.specs.declared.term.Application.{Application}
use Rattle.grb_script.specs.declared.term.KroneckerProduct.{KroneckerProduct}
use Rattle.grb_script.specs.declared.term.Selection.{Selection}
use Rattle.grb_script.specs.declared.term.Transposition.{Transposition}
use Rattle.grb_run.specs.Objects.{matrix_named, vector_named}

-- the calls on a whole object, by its sort
abbrev pub dup_call : List Object → ℕ → Sort → Call
dup_call objects name sort.Matrix = call.DupMatrix (matrix_named objects name)
dup_call objects name sort.Vector = call.DupVector (vector_named objects name)

abbrev pub free_call : List Object → ℕ → Sort → Call
free_call objects name sort.Matrix = call.FreeMatrix (matrix_named objects name)
free_call objects name sort.Vector = call.FreeVector (vector_named objects name)

abbrev pub nvals_call : List Object → ℕ → Sort → Call
nvals_call objects name sort.Matrix = call.NvalsMatrix (matrix_named objects name)
nvals_call objects name sort.Vector = call.NvalsVector (vector_named objects name)

abbrev pub size_call : List Object → ℕ → Sort → Call
size_call objects name sort.Matrix = call.SizeMatrix (matrix_named objects name)
size_call objects name sort.Vector = call.SizeVector (vector_named objects name)

abbrev pub clear_call : List Object → ℕ → Sort → Call
clear_call objects name sort.Matrix = call.ClearMatrix (matrix_named objects name)
clear_call objects name sort.Vector = call.ClearVector (vector_named objects name)

-- the object of the name of a mask, where one is given
abbrev pub mask_matrix : List Object → Option ℕ → Option MatrixId
mask_matrix objects mask = option_map (matrix_named objects) mask

abbrev pub mask_vector : List Object → Option ℕ → Option VectorId
mask_vector objects mask = option_map (vector_named objects) mask

-- the calls of the element-wise statements, by the sort of all their objects
abbrev pub ewise_add_call : List Object → Elementwise → Sort → Call
ewise_add_call objects e sort.Matrix =
    call.EwiseAddMatrix (matrix_named objects e.output) (mask_matrix objects e.mask) e.accum e.op (matrix_named objects e.left) (matrix_named objects e.right) e.descriptor
ewise_add_call objects e sort.Vector =
    call.EwiseAddVector (vector_named objects e.output) (mask_vector objects e.mask) e.accum e.op (vector_named objects e.left) (vector_named objects e.right) e.descriptor

abbrev pub ewise_mult_call : List Object → Elementwise → Sort → Call
ewise_mult_call objects e sort.Matrix =
    call.EwiseMultMatrix (matrix_named objects e.output) (mask_matrix objects e.mask) e.accum e.op (matrix_named objects e.left) (matrix_named objects e.right) e.descriptor
ewise_mult_call objects e sort.Vector =
    call.EwiseMultVector (vector_named objects e.output) (mask_vector objects e.mask) e.accum e.op (vector_named objects e.left) (vector_named objects e.right) e.descriptor

-- the calls of products and of a reduction of rows
abbrev pub mxv_call : List Object → Product → Call
mxv_call objects p =
    call.Mxv (vector_named objects p.output) (mask_vector objects p.mask) p.accum p.semiring (matrix_named objects p.left) (vector_named objects p.right) p.descriptor

abbrev pub vxm_call : List Object → Product → Call
vxm_call objects p =
    call.Vxm (vector_named objects p.output) (mask_vector objects p.mask) p.accum p.semiring (vector_named objects p.left) (matrix_named objects p.right) p.descriptor

abbrev pub mxm_call : List Object → Product → Call
mxm_call objects p =
    call.Mxm (matrix_named objects p.output) (mask_matrix objects p.mask) p.accum p.semiring (matrix_named objects p.left) (matrix_named objects p.right) p.descriptor

abbrev pub reduce_call : List Object → Reduction → Call
reduce_call objects r =
    call.ReduceRows (vector_named objects r.output) (mask_vector objects r.mask) r.accum r.monoid (matrix_named objects r.input) r.descriptor

-- the calls of a total and of a wait, by the sort of the object
abbrev pub total_call : List Object → ℕ → Sort → Monoid → Call
total_call objects name sort.Matrix monoid = call.ReduceMatrix (matrix_named objects name) monoid
total_call objects name sort.Vector monoid = call.ReduceVector (vector_named objects name) monoid

abbrev pub wait_call : List Object → ℕ → Sort → WaitMode → Call
wait_call objects name sort.Matrix mode = call.WaitMatrix (matrix_named objects name) mode
wait_call objects name sort.Vector mode = call.WaitVector (vector_named objects name) mode

-- the calls of a transposition, of a function of each value, of a test of each entry and of a Kronecker product, by the sort of all
-- their objects
abbrev pub transpose_call : List Object → Transposition → Call
transpose_call objects t = call.WriteMatrix (matrix_named objects t.output) (mask_matrix objects t.mask) t.accum (of_matrix.Transposed (matrix_named objects t.input)) t.descriptor

abbrev pub apply_call : List Object → Application → Sort → Call
apply_call objects p sort.Matrix =
    call.WriteMatrix (matrix_named objects p.output) (mask_matrix objects p.mask) p.accum (of_matrix.Applied p.function (matrix_named objects p.input)) p.descriptor
apply_call objects p sort.Vector =
    call.WriteVector (vector_named objects p.output) (mask_vector objects p.mask) p.accum (of_vector.Applied p.function (vector_named objects p.input)) p.descriptor

abbrev pub select_call : List Object → Selection → Sort → Call
select_call objects s sort.Matrix =
    call.WriteMatrix (matrix_named objects s.output) (mask_matrix objects s.mask) s.accum (of_matrix.Selected s.test (matrix_named objects s.input)) s.descriptor
select_call objects s sort.Vector =
    call.WriteVector (vector_named objects s.output) (mask_vector objects s.mask) s.accum (of_vector.Selected s.test (vector_named objects s.input)) s.descriptor

abbrev pub kronecker_call : List Object → KroneckerProduct → Call
kronecker_call objects p =
    call.WriteMatrix (matrix_named objects p.output) (mask_matrix objects p.mask) p.accum (of_matrix.Kronecker p.op (matrix_named objects p.left) (matrix_named objects p.right)) p.descriptor

-- the call that a statement makes: that of 'tuples' is a wait for the completion of its object
abbrev pub call_of : List Object → Statement → Call
call_of objects (statement.Matrix domain nrows ncols) = call.NewMatrix domain nrows ncols
call_of objects (statement.Vector domain size) = call.NewVector domain size
call_of objects (statement.Dup name sort) = dup_call objects name sort
call_of objects (statement.Free name sort) = free_call objects name sort
call_of objects (statement.Nvals name sort) = nvals_call objects name sort
call_of objects (statement.Size name sort) = size_call objects name sort
call_of objects (statement.Clear name sort) = clear_call objects name sort
call_of objects (statement.SetMatrix name i j value) = call.SetMatrix (matrix_named objects name) i j value
call_of objects (statement.SetVector name i value) = call.SetVector (vector_named objects name) i value
call_of objects (statement.RemoveMatrix name i j) = call.RemoveMatrix (matrix_named objects name) i j
call_of objects (statement.RemoveVector name i) = call.RemoveVector (vector_named objects name) i
call_of objects (statement.GetMatrix name i j) = call.GetMatrix (matrix_named objects name) i j
call_of objects (statement.GetVector name i) = call.GetVector (vector_named objects name) i
call_of objects (statement.ResizeMatrix name nrows ncols) = call.ResizeMatrix (matrix_named objects name) nrows ncols
call_of objects (statement.ResizeVector name size) = call.ResizeVector (vector_named objects name) size
call_of objects (statement.BuildMatrix name tuples dup) = call.BuildMatrix (matrix_named objects name) tuples dup
call_of objects (statement.BuildVector name tuples dup) = call.BuildVector (vector_named objects name) tuples dup
call_of objects (statement.EwiseAdd e) = ewise_add_call objects e e.sort
call_of objects (statement.EwiseMult e) = ewise_mult_call objects e e.sort
call_of objects (statement.Mxv p) = mxv_call objects p
call_of objects (statement.Vxm p) = vxm_call objects p
call_of objects (statement.Mxm p) = mxm_call objects p
call_of objects (statement.Reduce r) = reduce_call objects r
call_of objects (statement.Total name sort monoid) = total_call objects name sort monoid
call_of objects (statement.Wait name sort mode) = wait_call objects name sort mode
call_of objects (statement.Transpose t) = transpose_call objects t
call_of objects (statement.Apply p) = apply_call objects p p.sort
call_of objects (statement.Select s) = select_call objects s s.sort
call_of objects (statement.Kronecker p) = kronecker_call objects p
call_of objects (statement.Diag name diagonal) = call.Diag (vector_named objects name) diagonal
call_of objects (statement.Tuples name sort) = wait_call objects name sort mode.Complete
