-- What an operation leaves of its output: it is a matter of what the operation reads, and so it is for each call.
use Rattle.std.proofs.Common.{◌≡◌, ℕ, ◌*◌, Bool, if◌then◌else◌, [], refl, ap, ◌∙◌, Option, Some, None, IfSome, option_map}
use Rattle.std.specs.Option.{option_map_or}
use Rattle.std.specs.Ordering.{nat_cmp}
use Rattle.grb_core.specs.declared.operator.BinaryOp.{BinaryOp}
use Rattle.grb_core.specs.Entries.{cell_cmp, MatrixEntries, VectorEntries}
use Rattle.grb_core.specs.Results.{ewise_add, ewise_mult, mxv_of, mxm_of, reduce_rows_of, turned, vxm_of}
use Rattle.grb_core.specs.Contents.{Matrix, Vector}
use Rattle.grb_core.specs.Maps.{applied, kronecker_of, selected_cells, selected_indices}
use Rattle.grb_call.specs.declared.call.Call.{Call}
use Rattle.grb_call.specs.declared.call.Call.TheVariants as call
use Rattle.grb_core.specs.declared.descriptor.Descriptor.{Descriptor}
use Rattle.grb_call.specs.declared.ids.MatrixId.{MatrixId}
use Rattle.grb_call.specs.declared.ids.VectorId.{VectorId}
use Rattle.grb_call.specs.declared.ids.Object.{Object}
use Rattle.grb_call.specs.declared.ids.Object.TheVariants as object
use Rattle.grb_call.specs.declared.operation.Operation.{Operation}
use Rattle.grb_call.specs.declared.operation.OperationKind.{OperationKind}
use Rattle.grb_call.specs.declared.operation.OperationKind.TheVariants.{EwiseAdd, EwiseMult, Product, Rows, Transpose, Apply, Select, Kronecker}
use Rattle.grb_call.specs.declared.term.MatrixTerm.TheVariants as matrix_term
use Rattle.grb_call.specs.declared.term.VectorTerm.TheVariants as vector_term
use Rattle.grb_call.specs.declared.operation.Input.TheVariants.{First, Second}
use Rattle.grb_call.specs.Operation.{operation_of, turns}
use Rattle.grb_call.specs.Output.{StoredObjects, entries_of_matrix, entries_of_vector, output_of, matrix_read, vector_read, matrix_input, matrix_computed, vector_computed, matrix_operated, vector_operated, matrix_made, vector_made}
use Rattle.grb_core.specs.Written.{written_matrix, written_vector}
use Rattle.grb_call.specs.OperationLaws.{WritesMatrix, WritesVector}

-- two stores hold the same object
abbrev pub SameObject : StoredObjects → StoredObjects → Object → Type 0
SameObject r t (object.Matrix a) = r.matrix a ≡ t.matrix a
SameObject r t (object.Vector v) = r.vector v ≡ t.vector v

-- and of each that an operation reads, its output aside
pub record ReadsSame (r t : StoredObjects) (o : Operation) : Type 0 where
  pub first : IfSome o.first (SameObject r t)
  pub second : IfSome o.second (SameObject r t)
  pub mask : IfSome o.mask (SameObject r t)

-- the dimensions and the entries of an input, by the object
abbrev pub nrows_as : Bool → Option Matrix → ℕ
nrows_as tran o = option_map_or (λ m. if tran then m.ncols else m.nrows) o 0

abbrev pub ncols_as : Bool → Option Matrix → ℕ
ncols_as tran o = option_map_or (λ m. if tran then m.nrows else m.ncols) o 0

abbrev pub entries_as : Bool → Option Matrix → MatrixEntries
entries_as tran o = turned tran (option_map_or (λ m. m.entries) o [])

-- a Kronecker product, by the objects that are its inputs
abbrev pub kronecker_by : BinaryOp → Bool → Bool → Option Matrix → Option Matrix → MatrixEntries
kronecker_by op tran tran1 a b =
    kronecker_of op (nrows_as tran1 b) (ncols_as tran1 b) (nrows_as tran a * nrows_as tran1 b) (ncols_as tran a * ncols_as tran1 b) (entries_as tran a) (entries_as tran1 b)

two : {X Y Z : Type 0} (f : X → Y → Z) (a b : X) (x y : Y) → a ≡ b → x ≡ y → f a x ≡ f b y
two f a b x y e g = ap (λ z. f z x) e ∙ ap (f b) g

module _ (r t : StoredObjects) where
  -- the entries of an object, and of an input that is turned or not
  same_m : (a : MatrixId) → SameObject r t (object.Matrix a) → entries_of_matrix r a ≡ entries_of_matrix t a
  same_m a e = ap (λ (o : Option Matrix). option_map_or (λ m. m.entries) o []) e

  same_v : (v : VectorId) → SameObject r t (object.Vector v) → entries_of_vector r v ≡ entries_of_vector t v
  same_v v e = ap (λ (o : Option Vector). option_map_or (λ x. x.entries) o []) e

  same_input : (tran : Bool) (a : MatrixId) → SameObject r t (object.Matrix a) → matrix_input r tran a ≡ matrix_input t tran a
  same_input tran a e = ap (λ (es : MatrixEntries). turned tran es) (same_m a e)

  pub matrix_computed-same : (kind : OperationKind) (tran tran1 : Bool) (first second : Option Object) → IfSome first (SameObject r t) → IfSome second (SameObject r t) →
      matrix_computed r kind tran tran1 first second ≡ matrix_computed t kind tran tran1 first second
  matrix_computed-same (EwiseAdd op) tran tran1 (Some (object.Matrix a)) (Some (object.Matrix b)) e g = two (λ x y. Some (ewise_add cell_cmp op x y)) _ _ _ _ (same_input tran a e) (same_input tran1 b g)
  matrix_computed-same (EwiseMult op) tran tran1 (Some (object.Matrix a)) (Some (object.Matrix b)) e g = two (λ x y. Some (ewise_mult cell_cmp op x y)) _ _ _ _ (same_input tran a e) (same_input tran1 b g)
  matrix_computed-same (Product semiring) tran tran1 (Some (object.Matrix a)) (Some (object.Matrix b)) e g = two (λ x y. Some (mxm_of semiring x y)) _ _ _ _ (same_input tran a e) (same_input tran1 b g)
  matrix_computed-same Transpose tran tran1 (Some (object.Matrix a)) None e g = ap (λ x. Some x) (same_input tran a e)
  matrix_computed-same (Apply f) tran tran1 (Some (object.Matrix a)) None e g = ap (λ x. Some (applied f x)) (same_input tran a e)
  matrix_computed-same (Select p) tran tran1 (Some (object.Matrix a)) None e g = ap (λ x. Some (selected_cells p x)) (same_input tran a e)
  matrix_computed-same (Kronecker op) tran tran1 (Some (object.Matrix a)) (Some (object.Matrix b)) e g = two (λ x y. Some (kronecker_by op tran tran1 x y)) _ _ _ _ e g
  matrix_computed-same _ tran tran1 _ _ e g = refl

  pub vector_computed-same : (kind : OperationKind) (tran tran1 : Bool) (first second : Option Object) → IfSome first (SameObject r t) → IfSome second (SameObject r t) →
      vector_computed r kind tran tran1 first second ≡ vector_computed t kind tran tran1 first second
  vector_computed-same (EwiseAdd op) tran tran1 (Some (object.Vector u)) (Some (object.Vector v)) e g = two (λ x y. Some (ewise_add nat_cmp op x y)) _ _ _ _ (same_v u e) (same_v v g)
  vector_computed-same (EwiseMult op) tran tran1 (Some (object.Vector u)) (Some (object.Vector v)) e g = two (λ x y. Some (ewise_mult nat_cmp op x y)) _ _ _ _ (same_v u e) (same_v v g)
  vector_computed-same (Product semiring) tran tran1 (Some (object.Matrix a)) (Some (object.Vector u)) e g = two (λ x y. Some (mxv_of semiring x y)) _ _ _ _ (same_input tran a e) (same_v u g)
  vector_computed-same (Product semiring) tran tran1 (Some (object.Vector u)) (Some (object.Matrix a)) e g = two (λ x y. Some (vxm_of semiring x y)) _ _ _ _ (same_v u e) (same_input tran1 a g)
  vector_computed-same (Rows monoid) tran tran1 (Some (object.Matrix a)) None e g = ap (λ x. Some (reduce_rows_of monoid x)) (same_input tran a e)
  vector_computed-same (Apply f) tran tran1 (Some (object.Vector u)) None e g = ap (λ x. Some (applied f x)) (same_v u e)
  vector_computed-same (Select p) tran tran1 (Some (object.Vector u)) None e g = ap (λ x. Some (selected_indices p x)) (same_v u e)
  vector_computed-same _ tran tran1 _ _ e g = refl

  matrix_mask-same : (mask : Option Object) → IfSome mask (SameObject r t) → option_map (matrix_read r) mask ≡ option_map (matrix_read t) mask
  matrix_mask-same None e = refl
  matrix_mask-same (Some (object.Matrix a)) e = ap (λ es. Some es) (same_m a e)
  matrix_mask-same (Some (object.Vector v)) e = refl

  vector_mask-same : (mask : Option Object) → IfSome mask (SameObject r t) → option_map (vector_read r) mask ≡ option_map (vector_read t) mask
  vector_mask-same None e = refl
  vector_mask-same (Some (object.Matrix a)) e = refl
  vector_mask-same (Some (object.Vector v)) e = ap (λ es. Some es) (same_v v e)

  matrix_operated-same : (o : Operation) (m : Matrix) → ReadsSame r t o → matrix_operated r o m ≡ matrix_operated t o m
  matrix_operated-same o m same =
      two (λ (mask computed : Option MatrixEntries). option_map_or (λ es. written_matrix mask o.accum o.d es m) computed m) _ _ _ _
      (matrix_mask-same o.mask same.mask) (matrix_computed-same o.kind (turns o.kind o.d First) (turns o.kind o.d Second) o.first o.second same.first same.second)

  vector_operated-same : (o : Operation) (x : Vector) → ReadsSame r t o → vector_operated r o x ≡ vector_operated t o x
  vector_operated-same o x same =
      two (λ (mask computed : Option VectorEntries). option_map_or (λ es. written_vector mask o.accum o.d es x) computed x) _ _ _ _
      (vector_mask-same o.mask same.mask) (vector_computed-same o.kind (turns o.kind o.d First) (turns o.kind o.d Second) o.first o.second same.first same.second)

  any_matrix-same : (q : Option Operation) (m : Matrix) → IfSome q (ReadsSame r t) → option_map_or (λ o. matrix_operated r o m) q m ≡ option_map_or (λ o. matrix_operated t o m) q m
  any_matrix-same None m same = refl
  any_matrix-same (Some o) m same = matrix_operated-same o m same

  any_vector-same : (q : Option Operation) (x : Vector) → IfSome q (ReadsSame r t) → option_map_or (λ o. vector_operated r o x) q x ≡ option_map_or (λ o. vector_operated t o x) q x
  any_vector-same None x same = refl
  any_vector-same (Some o) x same = vector_operated-same o x same

  pub matrix_made-same : (c : Call) (m : Matrix) → IfSome (operation_of c) (ReadsSame r t) → matrix_made r c m ≡ matrix_made t c m
  matrix_made-same (call.SetMatrix a i j value) m same = refl
  matrix_made-same (call.RemoveMatrix a i j) m same = refl
  matrix_made-same (call.ClearMatrix a) m same = refl
  matrix_made-same (call.ResizeMatrix a nrows ncols) m same = refl
  matrix_made-same (call.BuildMatrix a tuples dup) m same = refl
  matrix_made-same c m same = any_matrix-same (operation_of c) m same

  pub vector_made-same : (c : Call) (x : Vector) → IfSome (operation_of c) (ReadsSame r t) → vector_made r c x ≡ vector_made t c x
  vector_made-same (call.SetVector v i value) x same = refl
  vector_made-same (call.RemoveVector v i) x same = refl
  vector_made-same (call.ClearVector v) x same = refl
  vector_made-same (call.ResizeVector v size) x same = refl
  vector_made-same (call.BuildVector v tuples dup) x same = refl
  vector_made-same c x same = any_vector-same (operation_of c) x same

-- the mask of a call, as its operation has it
module _ (r : StoredObjects) where
  pub matrix_mask-read : (mask : Option MatrixId) → option_map (matrix_read r) (option_map object.Matrix mask) ≡ option_map (entries_of_matrix r) mask
  matrix_mask-read None = refl
  matrix_mask-read (Some a) = refl

  pub vector_mask-read : (mask : Option VectorId) → option_map (vector_read r) (option_map object.Vector mask) ≡ option_map (entries_of_vector r) mask
  vector_mask-read None = refl
  vector_mask-read (Some v) = refl

  module _ (mask : Option MatrixId) (accum : Option BinaryOp) (d : Descriptor) (m : Matrix) where
    by_matrix_mask : (computed : MatrixEntries) → written_matrix (option_map (matrix_read r) (option_map object.Matrix mask)) accum d computed m ≡ written_matrix (option_map (entries_of_matrix r) mask) accum d computed m
    by_matrix_mask computed = ap (λ (p : Option MatrixEntries). written_matrix p accum d computed m) (matrix_mask-read mask)

    pub writes_matrix : (c : MatrixId) → WritesMatrix r m c mask accum d
    writes_matrix c = record {
      of_ewise_add = λ op a b. by_matrix_mask _;
      of_ewise_mult = λ op a b. by_matrix_mask _;
      of_mxm = λ semiring a b. by_matrix_mask _;
      of_transpose = λ a. by_matrix_mask _;
      of_apply = λ f a. by_matrix_mask _;
      of_select = λ t a. by_matrix_mask _;
      of_kronecker = λ op a b. by_matrix_mask _;
    }

  module _ (mask : Option VectorId) (accum : Option BinaryOp) (d : Descriptor) (x : Vector) where
    by_vector_mask : (computed : VectorEntries) → written_vector (option_map (vector_read r) (option_map object.Vector mask)) accum d computed x ≡ written_vector (option_map (entries_of_vector r) mask) accum d computed x
    by_vector_mask computed = ap (λ (p : Option VectorEntries). written_vector p accum d computed x) (vector_mask-read mask)

    pub writes_vector : (w : VectorId) → WritesVector r x w mask accum d
    writes_vector w = record {
      of_ewise_add = λ op u v. by_vector_mask _;
      of_ewise_mult = λ op u v. by_vector_mask _;
      of_mxv = λ semiring a u. by_vector_mask _;
      of_vxm = λ semiring u a. by_vector_mask _;
      of_reduce_rows = λ monoid a. by_vector_mask _;
      of_apply = λ f u. by_vector_mask _;
      of_select = λ t u. by_vector_mask _;
    }

  -- what changes no object of a sort leaves each of them
  pub matrix_apart : (c : Call) (v : VectorId) (m : Matrix) → output_of c ≡ Some (object.Vector v) → matrix_made r c m ≡ m
  matrix_apart (call.SetMatrix a i j value) v m e = cc
  matrix_apart (call.RemoveMatrix a i j) v m e = cc
  matrix_apart (call.ClearMatrix a) v m e = cc
  matrix_apart (call.ResizeMatrix a nrows ncols) v m e = cc
  matrix_apart (call.BuildMatrix a tuples dup) v m e = cc
  matrix_apart (call.EwiseAddMatrix c mask accum op a b d) v m e = cc
  matrix_apart (call.EwiseMultMatrix c mask accum op a b d) v m e = cc
  matrix_apart (call.Mxm c mask accum semiring a b d) v m e = cc
  matrix_apart (call.WriteMatrix c mask accum term d) v m e = cc
  matrix_apart (call.WriteVector w mask accum (vector_term.Applied f u) d) v m e = refl
  matrix_apart (call.WriteVector w mask accum (vector_term.Selected t u) d) v m e = refl
  matrix_apart _ v m e = refl

  pub vector_apart : (c : Call) (a : MatrixId) (x : Vector) → output_of c ≡ Some (object.Matrix a) → vector_made r c x ≡ x
  vector_apart (call.SetVector v i value) a x e = cc
  vector_apart (call.RemoveVector v i) a x e = cc
  vector_apart (call.ClearVector v) a x e = cc
  vector_apart (call.ResizeVector v size) a x e = cc
  vector_apart (call.BuildVector v tuples dup) a x e = cc
  vector_apart (call.EwiseAddVector w mask accum op u v d) a x e = cc
  vector_apart (call.EwiseMultVector w mask accum op u v d) a x e = cc
  vector_apart (call.Mxv w mask accum semiring b u d) a x e = cc
  vector_apart (call.Vxm w mask accum semiring u b d) a x e = cc
  vector_apart (call.ReduceRows w mask accum monoid b d) a x e = cc
  vector_apart (call.WriteVector w mask accum term d) a x e = cc
  vector_apart (call.WriteMatrix c mask accum (matrix_term.Transposed b) d) a x e = refl
  vector_apart (call.WriteMatrix c mask accum (matrix_term.Applied f b) d) a x e = refl
  vector_apart (call.WriteMatrix c mask accum (matrix_term.Selected t b) d) a x e = refl
  vector_apart (call.WriteMatrix c mask accum (matrix_term.Kronecker op p q) d) a x e = refl
  vector_apart _ a x e = refl
