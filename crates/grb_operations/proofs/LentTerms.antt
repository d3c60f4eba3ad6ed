-- What transpose, apply, select and kronecker are lent that are not refused, what each asks of it, and what is left of the output.
use Rattle.std.proofs.Common.{◌≡◌, ◌*◌, Bool, true, not, List, [], ◌∷◌, ◌++◌, sym, ap, ◌∙◌, Option, Some, None, IfSome, is_some, Bor}
use Rattle.std.specs.List.{list_all}
use Rattle.std.specs.Option.{option_map}
use Rattle.std.specs.Ordering.{nat_cmp}
use Rattle.std.proofs.lemmas.Bool.{and_parts}
use Rattle.grb_core.specs.declared.domain.Domain.{Domain}
use Rattle.grb_core.specs.declared.operator.BinaryOp.{BinaryOp}
use Rattle.grb_core.specs.Contents.{Matrix, Vector, edited_matrix, edited_vector}
use Rattle.grb_core.specs.Entries.{cell_cmp, MatrixEntries, VectorEntries}
use Rattle.grb_core.specs.Mask.{is_inside}
use Rattle.grb_core.specs.Operator.{op_domain}
use Rattle.grb_core.specs.Results.{turned}
use Rattle.grb_core.specs.Written.{written}
use Rattle.grb_core.specs.declared.functions.Function.{Function}
use Rattle.grb_core.specs.declared.tests.Test.{Test}
use Rattle.grb_core.specs.Functions.{turns_input}
use Rattle.grb_core.specs.Maps.{applied, kronecker_of, selected_cells, selected_indices}
use Rattle.grb_sparse.specs.Matrix.{SparseMatrixView}
use Rattle.grb_sparse.specs.Vector.{SparseVectorView}
use Rattle.grb_ewise.specs.Premises.{IsMatrixInput, IsMatrixOutput, IsVectorInput, IsVectorOutput, columns_read, rows_read}
use Rattle.grb_kronecker.specs.Factors.{AreFactors}
use Rattle.grb_call.specs.declared.call.Call.TheVariants as call
use Rattle.grb_core.specs.declared.descriptor.Descriptor.{Descriptor}
use Rattle.grb_call.specs.declared.ids.MatrixId.{MatrixId}
use Rattle.grb_call.specs.declared.ids.VectorId.{VectorId}
use Rattle.grb_call.specs.declared.ids.Object.TheVariants as object
use Rattle.grb_call.specs.declared.term.MatrixTerm.{MatrixTerm}
use Rattle.grb_call.specs.declared.term.MatrixTerm.TheVariants as matrix_term
use Rattle.grb_call.specs.declared.term.VectorTerm.{VectorTerm}
use Rattle.grb_call.specs.declared.term.VectorTerm.TheVariants as vector_term
use Rattle.grb_call.specs.Fits.{each_matrix_fits, each_vector_fits, kronecker_matrices_fit}
use Rattle.grb_call.specs.Operands.{matrix_mask, operands, vector_mask}
use Rattle.grb_call.specs.Operation.{accum_domains, function_domains, test_domains}
use Rattle.grb_call.specs.Output.{matrix_left, matrix_made, objects_in, vector_left, vector_made}
use Rattle.grb_call.specs.Refused.{is_one_domain}
use Rattle.grb_call.specs.Shapes.{ObjectShapes, is_live, object_at}
use Rattle.grb_call.specs.Store.{Store, shapes_of, matrix_at, vector_at, matrix_entries, vector_entries, matrix_shape, vector_shape}
use Rattle.grb_call.specs.After.{refused}
use Rattle.grb_call.proofs.Operated.{kronecker_by, writes_matrix, writes_vector}
use Rattle.grb_call.proofs.Passed.{has_passed}
use Rattle.grb_call.proofs.Terms.{EachMatrix, EachVector, KroneckerOperands, each_matrix, each_vector, kronecker_operands, list_all-append}
use Rattle.grb_objects.specs.Stored.{stored, stored_matrix, stored_vector}
use Rattle.grb_states.specs.Operation.{AreAllOf}
use Rattle.grb_operations.proofs.Lent.{held, at_matrix, at_vector, matrix_mask_held, vector_mask_held, matrix_entries-at, vector_entries-at}
use Rattle.grb_operations.proofs.Premises.{matrix_output, turned_input, vector_input, vector_output}

-- the tests that an operation on each entry of one input passed
pub record EachMatrixTests (t : ObjectShapes) (tran : Bool) (c : MatrixId) (mask : Option MatrixId) (accum : Option BinaryOp) (given : List Domain) (a : MatrixId) : Type 0 where
  pub live : list_all (is_live t) (object.Matrix c ∷ object.Matrix a ∷ matrix_mask mask) ≡ true
  pub one_domain : is_one_domain t (object.Matrix c ∷ object.Matrix a ∷ []) (given ++ accum_domains accum) ≡ true
  pub fits : each_matrix_fits t tran c mask a ≡ true

pub record EachVectorTests (t : ObjectShapes) (w : VectorId) (mask : Option VectorId) (accum : Option BinaryOp) (given : List Domain) (u : VectorId) : Type 0 where
  pub live : list_all (is_live t) (object.Vector w ∷ object.Vector u ∷ vector_mask mask) ≡ true
  pub one_domain : is_one_domain t (object.Vector w ∷ object.Vector u ∷ []) (given ++ accum_domains accum) ≡ true
  pub fits : each_vector_fits t w mask u ≡ true

-- and those that a Kronecker product passed
pub record KroneckerTests (t : ObjectShapes) (tran tran1 : Bool) (c : MatrixId) (mask : Option MatrixId) (accum : Option BinaryOp) (op : BinaryOp) (a b : MatrixId) : Type 0 where
  pub live : list_all (is_live t) (object.Matrix c ∷ object.Matrix a ∷ object.Matrix b ∷ matrix_mask mask) ≡ true
  pub one_domain : is_one_domain t (object.Matrix c ∷ object.Matrix a ∷ object.Matrix b ∷ []) (op_domain op ∷ accum_domains accum) ≡ true
  pub fits : kronecker_matrices_fit t tran tran1 c mask a b ≡ true

module _ (s : Store) (c : MatrixId) (mask : Option MatrixId) (accum : Option BinaryOp) (d : Descriptor) where
  pub transposed-tests : (a : MatrixId) → refused s (call.WriteMatrix c mask accum (matrix_term.Transposed a) d) ≡ None → EachMatrixTests (shapes_of s) (not d.tran) c mask accum [] a
  transposed-tests a accepted =
      let p = has_passed s (call.WriteMatrix c mask accum (matrix_term.Transposed a) d) accepted in record { live = p.initialized; one_domain = p.one_domain; fits = p.fits }

  pub applied-tests : (f : Function) (a : MatrixId) → refused s (call.WriteMatrix c mask accum (matrix_term.Applied f a) d) ≡ None →
      EachMatrixTests (shapes_of s) (turns_input f d.tran d.tran1) c mask accum (function_domains f) a
  applied-tests f a accepted =
      let p = has_passed s (call.WriteMatrix c mask accum (matrix_term.Applied f a) d) accepted in record { live = p.initialized; one_domain = p.one_domain; fits = p.fits }

  pub selected-tests : (t : Test) (a : MatrixId) → refused s (call.WriteMatrix c mask accum (matrix_term.Selected t a) d) ≡ None → EachMatrixTests (shapes_of s) d.tran c mask accum (test_domains t) a
  selected-tests t a accepted =
      let p = has_passed s (call.WriteMatrix c mask accum (matrix_term.Selected t a) d) accepted in record { live = p.initialized; one_domain = p.one_domain; fits = p.fits }

  pub kronecker-tests : (op : BinaryOp) (a b : MatrixId) → refused s (call.WriteMatrix c mask accum (matrix_term.Kronecker op a b) d) ≡ None → KroneckerTests (shapes_of s) d.tran d.tran1 c mask accum op a b
  kronecker-tests op a b accepted =
      let p = has_passed s (call.WriteMatrix c mask accum (matrix_term.Kronecker op a b) d) accepted in record { live = p.initialized; one_domain = p.one_domain; fits = p.fits }

module _ (s : Store) (w : VectorId) (mask : Option VectorId) (accum : Option BinaryOp) (d : Descriptor) where
  pub applied_vector-tests : (f : Function) (u : VectorId) → refused s (call.WriteVector w mask accum (vector_term.Applied f u) d) ≡ None → EachVectorTests (shapes_of s) w mask accum (function_domains f) u
  applied_vector-tests f u accepted =
      let p = has_passed s (call.WriteVector w mask accum (vector_term.Applied f u) d) accepted in record { live = p.initialized; one_domain = p.one_domain; fits = p.fits }

  pub selected_vector-tests : (t : Test) (u : VectorId) → refused s (call.WriteVector w mask accum (vector_term.Selected t u) d) ≡ None → EachVectorTests (shapes_of s) w mask accum (test_domains t) u
  selected_vector-tests t u accepted =
      let p = has_passed s (call.WriteVector w mask accum (vector_term.Selected t u) d) accepted in record { live = p.initialized; one_domain = p.one_domain; fits = p.fits }

module _ (ms : List (Option SparseMatrixView)) (vs : List (Option SparseVectorView)) where
  abbrev S : ObjectShapes
  S = shapes_of (stored ms vs)

  -- the mask of a term that is not refused is there
  pub term_matrix_mask-there : (c : MatrixId) (mask : Option MatrixId) (accum : Option BinaryOp) (term : MatrixTerm) (d : Descriptor) → refused (stored ms vs) (call.WriteMatrix c mask accum term d) ≡ None →
      IfSome mask (λ x. is_some (object_at ms x.0) ≡ true)
  term_matrix_mask-there c mask accum term d accepted =
      let p = has_passed (stored ms vs) (call.WriteMatrix c mask accum term d) accepted in
      matrix_mask_held ms vs mask (list_all-append (is_live S) (operands (call.WriteMatrix c mask accum term d)) (matrix_mask mask) p.initialized).1

  pub term_vector_mask-there : (w : VectorId) (mask : Option VectorId) (accum : Option BinaryOp) (term : VectorTerm) (d : Descriptor) → refused (stored ms vs) (call.WriteVector w mask accum term d) ≡ None →
      IfSome mask (λ x. is_some (object_at vs x.0) ≡ true)
  term_vector_mask-there w mask accum term d accepted =
      let p = has_passed (stored ms vs) (call.WriteVector w mask accum term d) accepted in
      vector_mask_held ms vs mask (list_all-append (is_live S) (operands (call.WriteVector w mask accum term d)) (vector_mask mask) p.initialized).1

  -- what an operation on each entry is lent
  module _ {tran : Bool} {given : List Domain} (c : MatrixId) (mask : Option MatrixId) (accum : Option BinaryOp) (a : MatrixId) (tests : EachMatrixTests S tran c mask accum given a) where
    pub each_matrix-there : is_some (object_at ms a.0) ≡ true
    each_matrix-there = held stored_matrix matrix_shape ms a.0 (and_parts _ _ (and_parts _ _ tests.live).1).0

    module _ (done : AreAllOf ms vs (object.Matrix c ∷ object.Matrix a ∷ matrix_mask mask)) (x : SparseMatrixView) (at_output : object_at ms c.0 ≡ Some x) where
      pub each_matrix_are : EachMatrix (stored ms vs) x.matrix tran mask accum given a
      each_matrix_are = each_matrix (stored ms vs) c x.matrix (at_matrix ms vs c x at_output) tran mask accum given a tests.live tests.one_domain tests.fits

      pub each_matrix_output : (lent : Option (Bor SparseMatrixView)) → option_map (λ m. Some m.now) lent ≡ option_map (λ x. object_at ms x.0) mask → IsMatrixOutput x lent accum
      each_matrix_output lent e = matrix_output ms vs c x at_output done.0 mask lent e done.1.1 each_matrix_are.masked accum each_matrix_are.accumulates

      pub each_matrix_input : (y : SparseMatrixView) → object_at ms a.0 ≡ Some y → IsMatrixInput tran x.matrix.domain x.matrix.nrows x.matrix.ncols y
      each_matrix_input y at = turned_input ms vs a y at tran x.matrix.domain x.matrix.nrows x.matrix.ncols each_matrix_are.first done.1.0

  module _ {given : List Domain} (w : VectorId) (mask : Option VectorId) (accum : Option BinaryOp) (u : VectorId) (tests : EachVectorTests S w mask accum given u) where
    pub each_vector-there : is_some (object_at vs u.0) ≡ true
    each_vector-there = held stored_vector vector_shape vs u.0 (and_parts _ _ (and_parts _ _ tests.live).1).0

    module _ (done : AreAllOf ms vs (object.Vector w ∷ object.Vector u ∷ vector_mask mask)) (x : SparseVectorView) (at_output : object_at vs w.0 ≡ Some x) where
      pub each_vector_are : EachVector (stored ms vs) x.vector mask accum given u
      each_vector_are = each_vector (stored ms vs) w x.vector (at_vector ms vs w x at_output) mask accum given u tests.live tests.one_domain tests.fits

      pub each_vector_output : (lent : Option (Bor SparseVectorView)) → option_map (λ m. Some m.now) lent ≡ option_map (λ x. object_at vs x.0) mask → IsVectorOutput x lent accum
      each_vector_output lent e = vector_output ms vs w x at_output done.0 mask lent e done.1.1 each_vector_are.masked accum each_vector_are.accumulates

      pub each_vector_input : (y : SparseVectorView) → object_at vs u.0 ≡ Some y → IsVectorInput x.vector.domain x.vector.size y
      each_vector_input y at = vector_input ms vs u y at x.vector.domain x.vector.size each_vector_are.first done.1.0

  -- and a Kronecker product
  module _ {tran tran1 : Bool} (c : MatrixId) (mask : Option MatrixId) (accum : Option BinaryOp) (op : BinaryOp) (a b : MatrixId) (tests : KroneckerTests S tran tran1 c mask accum op a b) where
    pub first_factor-there : is_some (object_at ms a.0) ≡ true
    first_factor-there = held stored_matrix matrix_shape ms a.0 (and_parts _ _ (and_parts _ _ tests.live).1).0

    pub second_factor-there : is_some (object_at ms b.0) ≡ true
    second_factor-there = held stored_matrix matrix_shape ms b.0 (and_parts _ _ (and_parts _ _ (and_parts _ _ tests.live).1).1).0

    module _ (done : AreAllOf ms vs (object.Matrix c ∷ object.Matrix a ∷ object.Matrix b ∷ matrix_mask mask)) (x : SparseMatrixView) (at_output : object_at ms c.0 ≡ Some x) where
      pub kronecker_are : KroneckerOperands (stored ms vs) x.matrix tran tran1 mask accum op a b
      kronecker_are = kronecker_operands (stored ms vs) c x.matrix (at_matrix ms vs c x at_output) tran tran1 mask accum op a b tests.live tests.one_domain tests.fits

      pub kronecker_output : (lent : Option (Bor SparseMatrixView)) → option_map (λ m. Some m.now) lent ≡ option_map (λ x. object_at ms x.0) mask → IsMatrixOutput x lent accum
      kronecker_output lent e = matrix_output ms vs c x at_output done.0 mask lent e done.1.1.1 kronecker_are.masked accum kronecker_are.accumulates

      pub kronecker_factors : (y z : SparseMatrixView) → object_at ms a.0 ≡ Some y → object_at ms b.0 ≡ Some z → AreFactors tran tran1 x.matrix.domain x.matrix.nrows x.matrix.ncols y z
      kronecker_factors y z at_first at_second =
          let are = kronecker_are in
          let first = turned_input ms vs a y at_first tran x.matrix.domain are.nrows are.ncols are.first done.1.0 in
          let second = turned_input ms vs b z at_second tran1 x.matrix.domain are.more_nrows are.more_ncols are.second done.1.1.0 in
          record {
            a_assembled = first.assembled;
            b_assembled = second.assembled;
            a_domain = first.domain;
            b_domain = second.domain;
            rows = ap (λ n. n * rows_read tran1 z.matrix) first.rows ∙ ap (λ n. are.nrows * n) second.rows ∙ are.rows;
            columns = ap (λ n. n * columns_read tran1 z.matrix) first.columns ∙ ap (λ n. are.ncols * n) second.columns ∙ are.columns;
          }

  -- what is left of the output, where this was computed and written
  module _ (c : MatrixId) (mask : Option MatrixId) (accum : Option BinaryOp) (d : Descriptor) (x : SparseMatrixView) (at_output : object_at ms c.0 ≡ Some x)
      (lent : Option MatrixEntries) (same_mask : lent ≡ option_map (matrix_entries (stored ms vs)) mask) (made : Matrix) where
    abbrev matrix_write : Option MatrixEntries → MatrixEntries → Matrix
    matrix_write m computed = edited_matrix (λ old. written cell_cmp (is_inside cell_cmp d.structure d.comp m) d.replace accum old computed) x.matrix

    -- by what the definition computes
    matrix_term-left : (term : MatrixTerm) (computed lent_computed : MatrixEntries)
        → matrix_made (objects_in (stored ms vs)) (call.WriteMatrix c mask accum term d) x.matrix ≡ matrix_write (option_map (matrix_entries (stored ms vs)) mask) computed
        → lent_computed ≡ computed → made ≡ matrix_write lent lent_computed
        → matrix_left (stored ms vs) (call.WriteMatrix c mask accum term d) (matrix_at (stored ms vs) c) ≡ Some made
    matrix_term-left term computed lent_computed law same is =
        ap (λ (o : Option Matrix). matrix_left (stored ms vs) (call.WriteMatrix c mask accum term d) o) (at_matrix ms vs c x at_output)
        ∙ ap (λ (m : Matrix). Some m) (law ∙ sym (is ∙ ap (λ m. matrix_write m lent_computed) same_mask ∙ ap (matrix_write (option_map (matrix_entries (stored ms vs)) mask)) same))

    pub transposed-left : (a : MatrixId) (y : SparseMatrixView) → object_at ms a.0 ≡ Some y → made ≡ matrix_write lent (turned (not d.tran) y.matrix.entries) →
        matrix_left (stored ms vs) (call.WriteMatrix c mask accum (matrix_term.Transposed a) d) (matrix_at (stored ms vs) c) ≡ Some made
    transposed-left a y at is =
        matrix_term-left (matrix_term.Transposed a) _ _ ((writes_matrix (objects_in (stored ms vs)) mask accum d x.matrix c).of_transpose a)
        (ap (turned (not d.tran)) (sym (matrix_entries-at ms vs a y at))) is

    pub applied-left : (f : Function) (a : MatrixId) (y : SparseMatrixView) → object_at ms a.0 ≡ Some y → made ≡ matrix_write lent (applied f (turned (turns_input f d.tran d.tran1) y.matrix.entries)) →
        matrix_left (stored ms vs) (call.WriteMatrix c mask accum (matrix_term.Applied f a) d) (matrix_at (stored ms vs) c) ≡ Some made
    applied-left f a y at is =
        matrix_term-left (matrix_term.Applied f a) _ _ ((writes_matrix (objects_in (stored ms vs)) mask accum d x.matrix c).of_apply f a)
        (ap (λ (es : MatrixEntries). applied f (turned (turns_input f d.tran d.tran1) es)) (sym (matrix_entries-at ms vs a y at))) is

    pub selected-left : (t : Test) (a : MatrixId) (y : SparseMatrixView) → object_at ms a.0 ≡ Some y → made ≡ matrix_write lent (selected_cells t (turned d.tran y.matrix.entries)) →
        matrix_left (stored ms vs) (call.WriteMatrix c mask accum (matrix_term.Selected t a) d) (matrix_at (stored ms vs) c) ≡ Some made
    selected-left t a y at is =
        matrix_term-left (matrix_term.Selected t a) _ _ ((writes_matrix (objects_in (stored ms vs)) mask accum d x.matrix c).of_select t a)
        (ap (λ (es : MatrixEntries). selected_cells t (turned d.tran es)) (sym (matrix_entries-at ms vs a y at))) is

    pub kronecker-left : (op : BinaryOp) (a b : MatrixId) (y z : SparseMatrixView) → object_at ms a.0 ≡ Some y → object_at ms b.0 ≡ Some z →
        rows_read d.tran y.matrix * rows_read d.tran1 z.matrix ≡ x.matrix.nrows → columns_read d.tran y.matrix * columns_read d.tran1 z.matrix ≡ x.matrix.ncols →
        made ≡ matrix_write lent (kronecker_of op (rows_read d.tran1 z.matrix) (columns_read d.tran1 z.matrix) x.matrix.nrows x.matrix.ncols (turned d.tran y.matrix.entries) (turned d.tran1 z.matrix.entries)) →
        matrix_left (stored ms vs) (call.WriteMatrix c mask accum (matrix_term.Kronecker op a b) d) (matrix_at (stored ms vs) c) ≡ Some made
    kronecker-left op a b y z at_first at_second rows columns is =
        let r = rows_read d.tran1 z.matrix in
        let k = columns_read d.tran1 z.matrix in
        let p : MatrixEntries = turned d.tran y.matrix.entries in
        let q : MatrixEntries = turned d.tran1 z.matrix.entries in
        matrix_term-left (matrix_term.Kronecker op a b) _ _ ((writes_matrix (objects_in (stored ms vs)) mask accum d x.matrix c).of_kronecker op a b)
        (ap (λ n. kronecker_of op r k n x.matrix.ncols p q) (sym rows)
        ∙ ap (λ n. kronecker_of op r k (rows_read d.tran y.matrix * r) n p q) (sym columns)
        ∙ ap (λ (o : Option Matrix). kronecker_by op d.tran d.tran1 o (Some z.matrix)) (sym (at_matrix ms vs a y at_first))
        ∙ ap (λ (o : Option Matrix). kronecker_by op d.tran d.tran1 (matrix_at (stored ms vs) a) o) (sym (at_matrix ms vs b z at_second)))
        is

  module _ (w : VectorId) (mask : Option VectorId) (accum : Option BinaryOp) (d : Descriptor) (x : SparseVectorView) (at_output : object_at vs w.0 ≡ Some x)
      (lent : Option VectorEntries) (same_mask : lent ≡ option_map (vector_entries (stored ms vs)) mask) (made : Vector) where
    abbrev vector_write : Option VectorEntries → VectorEntries → Vector
    vector_write m computed = edited_vector (λ old. written nat_cmp (is_inside nat_cmp d.structure d.comp m) d.replace accum old computed) x.vector

    vector_term-left : (term : VectorTerm) (computed lent_computed : VectorEntries)
        → vector_made (objects_in (stored ms vs)) (call.WriteVector w mask accum term d) x.vector ≡ vector_write (option_map (vector_entries (stored ms vs)) mask) computed
        → lent_computed ≡ computed → made ≡ vector_write lent lent_computed
        → vector_left (stored ms vs) (call.WriteVector w mask accum term d) (vector_at (stored ms vs) w) ≡ Some made
    vector_term-left term computed lent_computed law same is =
        ap (λ (o : Option Vector). vector_left (stored ms vs) (call.WriteVector w mask accum term d) o) (at_vector ms vs w x at_output)
        ∙ ap (λ (v : Vector). Some v) (law ∙ sym (is ∙ ap (λ m. vector_write m lent_computed) same_mask ∙ ap (vector_write (option_map (vector_entries (stored ms vs)) mask)) same))

    pub applied_vector-left : (f : Function) (u : VectorId) (y : SparseVectorView) → object_at vs u.0 ≡ Some y → made ≡ vector_write lent (applied f y.vector.entries) →
        vector_left (stored ms vs) (call.WriteVector w mask accum (vector_term.Applied f u) d) (vector_at (stored ms vs) w) ≡ Some made
    applied_vector-left f u y at is =
        vector_term-left (vector_term.Applied f u) _ _ ((writes_vector (objects_in (stored ms vs)) mask accum d x.vector w).of_apply f u) (ap (applied f) (sym (vector_entries-at ms vs u y at))) is

    pub selected_vector-left : (t : Test) (u : VectorId) (y : SparseVectorView) → object_at vs u.0 ≡ Some y → made ≡ vector_write lent (selected_indices t y.vector.entries) →
        vector_left (stored ms vs) (call.WriteVector w mask accum (vector_term.Selected t u) d) (vector_at (stored ms vs) w) ≡ Some made
    selected_vector-left t u y at is =
        vector_term-left (vector_term.Selected t u) _ _ ((writes_vector (objects_in (stored ms vs)) mask accum d x.vector w).of_select t u) (ap (selected_indices t) (sym (vector_entries-at ms vs u y at))) is
