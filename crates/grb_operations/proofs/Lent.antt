-- What an operation that is not refused is lent, and what it leaves of its output.
use Rattle.std.proofs.Common.{◌≡◌, ℕ, zero, suc, Bool, true, false, List, [], ◌∷◌, refl, sym, ap, ◌∙◌, Option, Some, None, IfSome, is_some}
use Rattle.std.specs.Prelude.{map, if◌then◌else◌, Result, Ok, Err, IfOk}
use Rattle.std.specs.List.{list_all}
use Rattle.std.specs.Option.{option_map, option_map_or}
use Rattle.std.specs.Ordering.{nat_cmp}
use Rattle.std.proofs.lemmas.Bool.{and_parts}
use Rattle.grb_core.specs.declared.domain.Domain.{Domain}
use Rattle.grb_core.specs.declared.operator.BinaryOp.{BinaryOp}
use Rattle.grb_core.specs.Operator.{op_domain}
use Rattle.grb_core.specs.Contents.{Matrix, Vector, edited_matrix, edited_vector}
use Rattle.grb_core.specs.Entries.{cell_cmp, MatrixEntries, VectorEntries}
use Rattle.grb_core.specs.Mask.{is_inside}
use Rattle.grb_core.specs.Written.{written}
use Rattle.grb_core.specs.Results.{ewise_add, ewise_mult, turned}
use Rattle.grb_sparse.specs.Matrix.{SparseMatrixView}
use Rattle.grb_sparse.specs.Vector.{SparseVectorView}
use Rattle.grb_call.specs.declared.call.Call.TheVariants as call
use Rattle.grb_core.specs.declared.descriptor.Descriptor.{Descriptor}
use Rattle.grb_call.specs.declared.ids.MatrixId.{MatrixId}
use Rattle.grb_call.specs.declared.ids.VectorId.{VectorId}
use Rattle.grb_call.specs.declared.ids.Object.TheVariants as object
use Rattle.grb_call.specs.Operands.{matrix_mask, vector_mask}
use Rattle.grb_call.specs.Operation.{accum_domains}
use Rattle.grb_call.specs.Output.{objects_in, matrix_left, vector_left}
use Rattle.grb_call.specs.Shapes.{ObjectShapes, object_at, is_live}
use Rattle.grb_call.specs.Refused.{is_one_domain}
use Rattle.grb_call.specs.Fits.{ewise_matrices_fit, ewise_vectors_fit}
use Rattle.grb_call.specs.Store.{Store, shapes_of, matrix_at, vector_at, matrix_entries, vector_entries, matrix_shape, vector_shape}
use Rattle.grb_call.specs.After.{refused}
use Rattle.grb_call.proofs.ShapesAfter.{object_at-map}
use Rattle.grb_call.proofs.Passed.{has_passed}
use Rattle.grb_call.proofs.Operated.{writes_matrix, writes_vector}
use Rattle.grb_call.proofs.Operations.{IsMatrixAt, IsTurnedAt, EwiseMatrices, EwiseVectors, ewise_matrices, ewise_vectors}
use Rattle.grb_objects.specs.Stored.{stored, stored_matrix, stored_vector}

pub if_ok : {X E : Type 0} (P Q : X → Type 0) (r : Result X E) → ((x : X) → P x → Q x) → IfOk r P → IfOk r Q
if_ok P Q (Ok x) f p = f x p
if_ok P Q (Err e) f p = p

pub if_both-0 : {X : Type 0} (P Q : X → Type 0) (o : Option X) → IfSome o (λ x. P x × Q x) → IfSome o P
if_both-0 P Q None h = h
if_both-0 P Q (Some x) h = h.0

pub if_both-1 : {X : Type 0} (P Q : X → Type 0) (o : Option X) → IfSome o (λ x. P x × Q x) → IfSome o Q
if_both-1 P Q None h = h
if_both-1 P Q (Some x) h = h.1

-- what has a shape is there
pub held : {X Y Z : Type 0} (f : X → Y) (g : Y → Z) (xs : List (Option X)) (n : ℕ) → is_some (object_at (map (option_map g) (map (option_map f) xs)) n) ≡ true → is_some (object_at xs n) ≡ true
held f g [] n e = cc
held f g (None ∷ xs) zero e = cc
held f g (Some x ∷ xs) zero e = refl
held f g (o ∷ xs) (suc n) e = held f g xs n e

-- the tests that an element-wise operation on matrices passed
pub record MatrixTests (t : ObjectShapes) (tran tran1 : Bool) (c : MatrixId) (mask : Option MatrixId) (accum : Option BinaryOp) (op : BinaryOp) (a b : MatrixId) : Type 0 where
  pub live : list_all (is_live t) (object.Matrix c ∷ object.Matrix a ∷ object.Matrix b ∷ matrix_mask mask) ≡ true
  pub one_domain : is_one_domain t (object.Matrix c ∷ object.Matrix a ∷ object.Matrix b ∷ []) (op_domain op ∷ accum_domains accum) ≡ true
  pub fits : ewise_matrices_fit t tran tran1 c mask a b ≡ true

module _ (s : Store) (c : MatrixId) (mask : Option MatrixId) (accum : Option BinaryOp) (op : BinaryOp) (a b : MatrixId) (d : Descriptor) where
  pub add_matrix-tests : refused s (call.EwiseAddMatrix c mask accum op a b d) ≡ None → MatrixTests (shapes_of s) d.tran d.tran1 c mask accum op a b
  add_matrix-tests accepted = let p = has_passed s (call.EwiseAddMatrix c mask accum op a b d) accepted in record { live = p.initialized; one_domain = p.one_domain; fits = p.fits }

  pub mult_matrix-tests : refused s (call.EwiseMultMatrix c mask accum op a b d) ≡ None → MatrixTests (shapes_of s) d.tran d.tran1 c mask accum op a b
  mult_matrix-tests accepted = let p = has_passed s (call.EwiseMultMatrix c mask accum op a b d) accepted in record { live = p.initialized; one_domain = p.one_domain; fits = p.fits }

module _ (ms : List (Option SparseMatrixView)) (vs : List (Option SparseVectorView)) where
  pub at_matrix : (b : MatrixId) (y : SparseMatrixView) → object_at ms b.0 ≡ Some y → matrix_at (stored ms vs) b ≡ Some y.matrix
  at_matrix b y at = object_at-map stored_matrix ms b.0 ∙ ap (option_map stored_matrix) at

  pub matrix_entries-at : (b : MatrixId) (y : SparseMatrixView) → object_at ms b.0 ≡ Some y → matrix_entries (stored ms vs) b ≡ y.matrix.entries
  matrix_entries-at b y at = ap (λ (o : Option Matrix). option_map_or (λ x. x.entries) o []) (at_matrix b y at)

  pub matrix_is : (o : Option Matrix) (x y : Matrix) → o ≡ Some x → o ≡ Some y → x ≡ y
  matrix_is o x y e f = let same : Some x ≡ Some y = sym e ∙ f in cc

  -- what is lent has the domain and the dimensions that are known of the object
  pub lent_matrix_is : (a : MatrixId) (y : SparseMatrixView) → object_at ms a.0 ≡ Some y → (domain : Domain) (nrows ncols : ℕ) → IsMatrixAt (stored ms vs) a domain nrows ncols →
      (y.matrix.domain ≡ domain) × (y.matrix.nrows ≡ nrows) × (y.matrix.ncols ≡ ncols)
  lent_matrix_is a y at domain nrows ncols is =
      let same = matrix_is (matrix_at (stored ms vs) a) is.matrix y.matrix is.at (at_matrix a y at) in
      (ap (λ (m : Matrix). m.domain) (sym same) ∙ is.same_domain, ap (λ (m : Matrix). m.nrows) (sym same) ∙ is.same_nrows, ap (λ (m : Matrix). m.ncols) (sym same) ∙ is.same_ncols)

  -- and the same of a first input, as it is turned
  pub lent_turned_is : (a : MatrixId) (y : SparseMatrixView) → object_at ms a.0 ≡ Some y → (tran : Bool) (domain : Domain) (nrows ncols : ℕ) → IsTurnedAt (stored ms vs) tran a domain nrows ncols →
      (y.matrix.domain ≡ domain) × ((if tran then y.matrix.ncols else y.matrix.nrows) ≡ nrows) × ((if tran then y.matrix.nrows else y.matrix.ncols) ≡ ncols)
  lent_turned_is a y at true domain nrows ncols is = let same = lent_matrix_is a y at domain ncols nrows is in (same.0, same.2, same.1)
  lent_turned_is a y at false domain nrows ncols is = lent_matrix_is a y at domain nrows ncols is

  -- a mask that is lent, as the view of what is lent
  module _ {B : Type 0} (now : B → SparseMatrixView) where
    pub lent_matrix_entries : (mask : Option MatrixId) (lent : Option B) → option_map (λ m. Some (now m)) lent ≡ option_map (λ x. object_at ms x.0) mask →
        option_map (λ m. (now m).matrix.entries) lent ≡ option_map (matrix_entries (stored ms vs)) mask
    lent_matrix_entries None None e = refl
    lent_matrix_entries None (Some b) e = cc
    lent_matrix_entries (Some x) None e = cc
    lent_matrix_entries (Some x) (Some b) e =
        let at : object_at ms x.0 ≡ Some (now b) = cc in
        ap (λ (es : MatrixEntries). Some es) (sym (matrix_entries-at x (now b) at))

  -- a mask that is live is there
  pub matrix_mask_held : (mask : Option MatrixId) → list_all (is_live (shapes_of (stored ms vs))) (matrix_mask mask) ≡ true → IfSome mask (λ x. is_some (object_at ms x.0) ≡ true)
  matrix_mask_held None live = tt
  matrix_mask_held (Some x) live = held stored_matrix matrix_shape ms x.0 (and_parts _ _ live).0

  module _ {tran tran1 : Bool} (c : MatrixId) (mask : Option MatrixId) (accum : Option BinaryOp) (op : BinaryOp) (a b : MatrixId) (tests : MatrixTests (shapes_of (stored ms vs)) tran tran1 c mask accum op a b) where
    pub matrix_first-there : is_some (object_at ms a.0) ≡ true
    matrix_first-there = held stored_matrix matrix_shape ms a.0 (and_parts _ _ (and_parts _ _ tests.live).1).0

    pub matrix_second-there : is_some (object_at ms b.0) ≡ true
    matrix_second-there = held stored_matrix matrix_shape ms b.0 (and_parts _ _ (and_parts _ _ (and_parts _ _ tests.live).1).1).0

    pub matrix_mask-there : IfSome mask (λ x. is_some (object_at ms x.0) ≡ true)
    matrix_mask-there =
        let rest = and_parts (is_live (shapes_of (stored ms vs)) (object.Matrix a)) _ (and_parts (is_live (shapes_of (stored ms vs)) (object.Matrix c)) _ tests.live).1 in
        let last = and_parts (is_live (shapes_of (stored ms vs)) (object.Matrix b)) _ rest.1 in
        matrix_mask_held mask last.1

    module _ (x : SparseMatrixView) (at_output : object_at ms c.0 ≡ Some x) where
      pub matrix_are : EwiseMatrices (stored ms vs) x.matrix tran tran1 mask accum op a b
      matrix_are = ewise_matrices (stored ms vs) c x.matrix (at_matrix c x at_output) tran tran1 mask accum op a b tests.live tests.one_domain tests.fits

  -- what is left of the output, where this was computed and written
  module _ (c : MatrixId) (mask : Option MatrixId) (accum : Option BinaryOp) (op : BinaryOp) (a b : MatrixId) (d : Descriptor)
      (x y z : SparseMatrixView) (at_output : object_at ms c.0 ≡ Some x) (at_first : object_at ms a.0 ≡ Some y) (at_second : object_at ms b.0 ≡ Some z)
      (lent : Option MatrixEntries) (same_mask : lent ≡ option_map (matrix_entries (stored ms vs)) mask) (made : Matrix) where
    abbrev matrix_write : Option MatrixEntries → MatrixEntries → Matrix
    matrix_write m computed = edited_matrix (λ old. written cell_cmp (is_inside cell_cmp d.structure d.comp m) d.replace accum old computed) x.matrix

    pub add_matrix-left : made ≡ matrix_write lent (ewise_add cell_cmp op (turned d.tran y.matrix.entries) (turned d.tran1 z.matrix.entries)) →
        matrix_left (stored ms vs) (call.EwiseAddMatrix c mask accum op a b d) (matrix_at (stored ms vs) c) ≡ Some made
    add_matrix-left is =
        let s = stored ms vs in
        ap (λ (o : Option Matrix). matrix_left s (call.EwiseAddMatrix c mask accum op a b d) o) (at_matrix c x at_output)
        ∙ ap (λ (m : Matrix). Some m) ((writes_matrix (objects_in s) mask accum d x.matrix c).of_ewise_add op a b ∙ sym (is
        ∙ ap (λ m. matrix_write m (ewise_add cell_cmp op (turned d.tran y.matrix.entries) (turned d.tran1 z.matrix.entries))) same_mask
        ∙ ap (λ es. matrix_write (option_map (matrix_entries s) mask) (ewise_add cell_cmp op (turned d.tran es) (turned d.tran1 z.matrix.entries))) (sym (matrix_entries-at a y at_first))
        ∙ ap (λ es. matrix_write (option_map (matrix_entries s) mask) (ewise_add cell_cmp op (turned d.tran (matrix_entries s a)) (turned d.tran1 es))) (sym (matrix_entries-at b z at_second))))

    pub mult_matrix-left : made ≡ matrix_write lent (ewise_mult cell_cmp op (turned d.tran y.matrix.entries) (turned d.tran1 z.matrix.entries)) →
        matrix_left (stored ms vs) (call.EwiseMultMatrix c mask accum op a b d) (matrix_at (stored ms vs) c) ≡ Some made
    mult_matrix-left is =
        let s = stored ms vs in
        ap (λ (o : Option Matrix). matrix_left s (call.EwiseMultMatrix c mask accum op a b d) o) (at_matrix c x at_output)
        ∙ ap (λ (m : Matrix). Some m) ((writes_matrix (objects_in s) mask accum d x.matrix c).of_ewise_mult op a b ∙ sym (is
        ∙ ap (λ m. matrix_write m (ewise_mult cell_cmp op (turned d.tran y.matrix.entries) (turned d.tran1 z.matrix.entries))) same_mask
        ∙ ap (λ es. matrix_write (option_map (matrix_entries s) mask) (ewise_mult cell_cmp op (turned d.tran es) (turned d.tran1 z.matrix.entries))) (sym (matrix_entries-at a y at_first))
        ∙ ap (λ es. matrix_write (option_map (matrix_entries s) mask) (ewise_mult cell_cmp op (turned d.tran (matrix_entries s a)) (turned d.tran1 es))) (sym (matrix_entries-at b z at_second))))

-- the tests that an element-wise operation on vectors passed
pub record VectorTests (t : ObjectShapes) (w : VectorId) (mask : Option VectorId) (accum : Option BinaryOp) (op : BinaryOp) (u v : VectorId) : Type 0 where
  pub live : list_all (is_live t) (object.Vector w ∷ object.Vector u ∷ object.Vector v ∷ vector_mask mask) ≡ true
  pub one_domain : is_one_domain t (object.Vector w ∷ object.Vector u ∷ object.Vector v ∷ []) (op_domain op ∷ accum_domains accum) ≡ true
  pub fits : ewise_vectors_fit t w mask u v ≡ true

module _ (s : Store) (w : VectorId) (mask : Option VectorId) (accum : Option BinaryOp) (op : BinaryOp) (u v : VectorId) (d : Descriptor) where
  pub add_vector-tests : refused s (call.EwiseAddVector w mask accum op u v d) ≡ None → VectorTests (shapes_of s) w mask accum op u v
  add_vector-tests accepted = let p = has_passed s (call.EwiseAddVector w mask accum op u v d) accepted in record { live = p.initialized; one_domain = p.one_domain; fits = p.fits }

  pub mult_vector-tests : refused s (call.EwiseMultVector w mask accum op u v d) ≡ None → VectorTests (shapes_of s) w mask accum op u v
  mult_vector-tests accepted = let p = has_passed s (call.EwiseMultVector w mask accum op u v d) accepted in record { live = p.initialized; one_domain = p.one_domain; fits = p.fits }

module _ (ms : List (Option SparseMatrixView)) (vs : List (Option SparseVectorView)) where
  pub at_vector : (v : VectorId) (y : SparseVectorView) → object_at vs v.0 ≡ Some y → vector_at (stored ms vs) v ≡ Some y.vector
  at_vector v y at = object_at-map stored_vector vs v.0 ∙ ap (option_map stored_vector) at

  pub vector_entries-at : (v : VectorId) (y : SparseVectorView) → object_at vs v.0 ≡ Some y → vector_entries (stored ms vs) v ≡ y.vector.entries
  vector_entries-at v y at = ap (λ (o : Option Vector). option_map_or (λ x. x.entries) o []) (at_vector v y at)

  pub vector_is : (o : Option Vector) (x y : Vector) → o ≡ Some x → o ≡ Some y → x ≡ y
  vector_is o x y e f = let same : Some x ≡ Some y = sym e ∙ f in cc

  -- a mask that is lent, as the view of what is lent
  module _ {B : Type 0} (now : B → SparseVectorView) where
    pub lent_vector_entries : (mask : Option VectorId) (lent : Option B) → option_map (λ m. Some (now m)) lent ≡ option_map (λ x. object_at vs x.0) mask →
        option_map (λ m. (now m).vector.entries) lent ≡ option_map (vector_entries (stored ms vs)) mask
    lent_vector_entries None None e = refl
    lent_vector_entries None (Some b) e = cc
    lent_vector_entries (Some x) None e = cc
    lent_vector_entries (Some x) (Some b) e =
        let at : object_at vs x.0 ≡ Some (now b) = cc in
        ap (λ (es : VectorEntries). Some es) (sym (vector_entries-at x (now b) at))

  -- a mask that is live is there
  pub vector_mask_held : (mask : Option VectorId) → list_all (is_live (shapes_of (stored ms vs))) (vector_mask mask) ≡ true → IfSome mask (λ x. is_some (object_at vs x.0) ≡ true)
  vector_mask_held None live = tt
  vector_mask_held (Some x) live = held stored_vector vector_shape vs x.0 (and_parts _ _ live).0

  module _ (w : VectorId) (mask : Option VectorId) (accum : Option BinaryOp) (op : BinaryOp) (u v : VectorId) (tests : VectorTests (shapes_of (stored ms vs)) w mask accum op u v) where
    pub vector_first-there : is_some (object_at vs u.0) ≡ true
    vector_first-there = held stored_vector vector_shape vs u.0 (and_parts _ _ (and_parts _ _ tests.live).1).0

    pub vector_second-there : is_some (object_at vs v.0) ≡ true
    vector_second-there = held stored_vector vector_shape vs v.0 (and_parts _ _ (and_parts _ _ (and_parts _ _ tests.live).1).1).0

    pub vector_mask-there : IfSome mask (λ x. is_some (object_at vs x.0) ≡ true)
    vector_mask-there =
        let rest = and_parts (is_live (shapes_of (stored ms vs)) (object.Vector u)) _ (and_parts (is_live (shapes_of (stored ms vs)) (object.Vector w)) _ tests.live).1 in
        let last = and_parts (is_live (shapes_of (stored ms vs)) (object.Vector v)) _ rest.1 in
        vector_mask_held mask last.1

    module _ (x : SparseVectorView) (at_output : object_at vs w.0 ≡ Some x) where
      pub vector_are : EwiseVectors (stored ms vs) x.vector mask accum op u v
      vector_are = ewise_vectors (stored ms vs) w x.vector (at_vector w x at_output) mask accum op u v tests.live tests.one_domain tests.fits

  -- what is left of the output, where this was computed and written
  module _ (w : VectorId) (mask : Option VectorId) (accum : Option BinaryOp) (op : BinaryOp) (u v : VectorId) (d : Descriptor)
      (x y z : SparseVectorView) (at_output : object_at vs w.0 ≡ Some x) (at_first : object_at vs u.0 ≡ Some y) (at_second : object_at vs v.0 ≡ Some z)
      (lent : Option VectorEntries) (same_mask : lent ≡ option_map (vector_entries (stored ms vs)) mask) (made : Vector) where
    abbrev vector_write : Option VectorEntries → VectorEntries → Vector
    vector_write m computed = edited_vector (λ old. written nat_cmp (is_inside nat_cmp d.structure d.comp m) d.replace accum old computed) x.vector

    pub add_vector-left : made ≡ vector_write lent (ewise_add nat_cmp op y.vector.entries z.vector.entries) →
        vector_left (stored ms vs) (call.EwiseAddVector w mask accum op u v d) (vector_at (stored ms vs) w) ≡ Some made
    add_vector-left is =
        let s = stored ms vs in
        ap (λ (o : Option Vector). vector_left s (call.EwiseAddVector w mask accum op u v d) o) (at_vector w x at_output)
        ∙ ap (λ (m : Vector). Some m) ((writes_vector (objects_in s) mask accum d x.vector w).of_ewise_add op u v ∙ sym (is
        ∙ ap (λ m. vector_write m (ewise_add nat_cmp op y.vector.entries z.vector.entries)) same_mask
        ∙ ap (λ es. vector_write (option_map (vector_entries s) mask) (ewise_add nat_cmp op es z.vector.entries)) (sym (vector_entries-at u y at_first))
        ∙ ap (λ es. vector_write (option_map (vector_entries s) mask) (ewise_add nat_cmp op (vector_entries s u) es)) (sym (vector_entries-at v z at_second))))

    pub mult_vector-left : made ≡ vector_write lent (ewise_mult nat_cmp op y.vector.entries z.vector.entries) →
        vector_left (stored ms vs) (call.EwiseMultVector w mask accum op u v d) (vector_at (stored ms vs) w) ≡ Some made
    mult_vector-left is =
        let s = stored ms vs in
        ap (λ (o : Option Vector). vector_left s (call.EwiseMultVector w mask accum op u v d) o) (at_vector w x at_output)
        ∙ ap (λ (m : Vector). Some m) ((writes_vector (objects_in s) mask accum d x.vector w).of_ewise_mult op u v ∙ sym (is
        ∙ ap (λ m. vector_write m (ewise_mult nat_cmp op y.vector.entries z.vector.entries)) same_mask
        ∙ ap (λ es. vector_write (option_map (vector_entries s) mask) (ewise_mult nat_cmp op es z.vector.entries)) (sym (vector_entries-at u y at_first))
        ∙ ap (λ es. vector_write (option_map (vector_entries s) mask) (ewise_mult nat_cmp op (vector_entries s u) es)) (sym (vector_entries-at v z at_second))))
