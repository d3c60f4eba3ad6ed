-- A call on a store, and the same call with other numbers on a store that holds the same objects at those numbers.
use Rattle.std.proofs.Common.{◌≡◌, ℕ, ◌*◌, ◌&&◌, ◌==◌, Bool, true, not, nat_lt, if◌then◌else◌, List, [], ◌∷◌, ◌++◌, map, refl, sym, ap, ◌∙◌, Option, None, Some, option_map, is_some}
use Rattle.std.specs.List.{list_all}
use Rattle.std.specs.Option.{option_map_or, option_or}
use Rattle.grb_core.specs.declared.domain.Domain.{Domain}
use Rattle.grb_core.specs.declared.refusal.Refusal.TheVariants.{UninitializedObject, InvalidValue, InvalidIndex, DomainMismatch, DimensionMismatch, OutputNotEmpty, IndexOutOfBounds}
use Rattle.grb_core.specs.Entries.{nvals_of}
use Rattle.grb_core.specs.Contents.{is_dimension}
use Rattle.grb_core.specs.Maps.{diagonal_size}
use Rattle.grb_call.specs.declared.call.Call.{Call}
use Rattle.grb_call.specs.declared.call.Call.TheVariants as call
use Rattle.grb_call.specs.declared.ids.MatrixId.{MatrixId}
use Rattle.grb_call.specs.declared.ids.VectorId.{VectorId}
use Rattle.grb_call.specs.declared.ids.Object.{Object}
use Rattle.grb_call.specs.declared.ids.Object.TheVariants as object
use Rattle.grb_call.specs.declared.operation.Input.TheVariants.{First, Second}
use Rattle.grb_call.specs.declared.operation.Operation.{Operation}
use Rattle.grb_call.specs.declared.operation.OperationKind.{OperationKind}
use Rattle.grb_call.specs.declared.operation.OperationKind.TheVariants.{EwiseAdd, EwiseMult, Product, Rows, Transpose, Apply, Select, Kronecker}
use Rattle.grb_call.specs.After.{has_old_entries, refused_build, refused}
use Rattle.grb_call.specs.Operands.{operands, masks, given_domains}
use Rattle.grb_call.specs.Operation.{operation_of, turns}
use Rattle.grb_call.specs.Refused.{is_initialized, has_valid_values, has_valid_index, is_cell_of, is_index_of, same_domain, are_of_domain, is_one_domain, has_one_domain, dims_at, has_dims, mask_fits, turned_nrows, turned_ncols, turned_dims, ewise_fits, product_fits, rows_fit, same_fits, kronecker_fits, fitting_of, operation_fits, has_fitting_dims, refused_by_shapes, is_in_bounds}
use Rattle.grb_call.specs.Shapes.{ObjectShapes, matrix_shape_at, vector_shape_at, is_live, domain_at, nrows_at, ncols_at, size_at}
use Rattle.grb_call.specs.Store.{Store, shapes_of, matrix_at, vector_at, matrix_shape, vector_shape, matrix_entries, vector_entries}
use Rattle.grb_call.proofs.ShapesAfter.{object_at-map}
use Rattle.grb_numbers.specs.Inside.{Renaming, renamed, renamed_object}
use Rattle.grb_numbers.proofs.Renamed.{renamed_operation, operation_of-renamed, given-renamed, operands_are, objects-renamed}

list_all-map : {X Y : Type 0} (p : Y → Bool) (f : X → Y) (xs : List X) → list_all (λ x. p (f x)) xs ≡ list_all p (map f xs)
list_all-map p f [] = refl
list_all-map p f (x ∷ xs) = ap (λ b. p (f x) && b) (list_all-map p f xs)

-- the one store holds at each number what the other holds at the new one
pub record HoldsSame (t s : Store) (r : Renaming) : Type 0 where
  pub matrix : (a : MatrixId) → matrix_at t a ≡ matrix_at s (r.matrix a)
  pub vector : (v : VectorId) → vector_at t v ≡ vector_at s (r.vector v)

module _ (t s : Store) (r : Renaming) (same : HoldsSame t s r) where
  abbrev T : ObjectShapes
  T = shapes_of t

  abbrev S : ObjectShapes
  S = shapes_of s

  m_shape : (a : MatrixId) → matrix_shape_at T a ≡ matrix_shape_at S (r.matrix a)
  m_shape a = object_at-map matrix_shape t.matrices a.0 ∙ ap (option_map matrix_shape) (same.matrix a) ∙ sym (object_at-map matrix_shape s.matrices (r.matrix a).0)

  v_shape : (v : VectorId) → vector_shape_at T v ≡ vector_shape_at S (r.vector v)
  v_shape v = object_at-map vector_shape t.vectors v.0 ∙ ap (option_map vector_shape) (same.vector v) ∙ sym (object_at-map vector_shape s.vectors (r.vector v).0)

  live : (o : Object) → is_live T o ≡ is_live S (renamed_object r o)
  live (object.Matrix a) = λ i. is_some (m_shape a i)
  live (object.Vector v) = λ i. is_some (v_shape v i)

  domain : (o : Object) → domain_at T o ≡ domain_at S (renamed_object r o)
  domain (object.Matrix a) = λ i. option_map (λ m. m.0) (m_shape a i)
  domain (object.Vector v) = λ i. option_map (λ x. x.0) (v_shape v i)

  nrows : (a : MatrixId) → nrows_at T a ≡ nrows_at S (r.matrix a)
  nrows a = λ i. option_map_or (λ m. m.1) (m_shape a i) 0

  ncols : (a : MatrixId) → ncols_at T a ≡ ncols_at S (r.matrix a)
  ncols a = λ i. option_map_or (λ m. m.2) (m_shape a i) 0

  size : (v : VectorId) → size_at T v ≡ size_at S (r.vector v)
  size v = λ i. option_map_or (λ x. x.1) (v_shape v i) 0

  initialized-same : (c : Call) → is_initialized T c ≡ is_initialized S (renamed r c)
  initialized-same c =
      let os = operands c ++ masks c in
      (λ i. list_all (λ o. live o i) os) ∙ list_all-map (is_live S) (renamed_object r) os ∙ ap (list_all (is_live S)) (sym (objects-renamed r c))

  cell-same : (a : MatrixId) (i j : ℕ) → is_cell_of T a i j ≡ is_cell_of S (r.matrix a) i j
  cell-same a i j = λ x. nat_lt i (nrows a x) && nat_lt j (ncols a x)

  index-same : (v : VectorId) (i : ℕ) → is_index_of T v i ≡ is_index_of S (r.vector v) i
  index-same v i = λ x. nat_lt i (size v x)

  valid_values-same : (c : Call) → has_valid_values T c ≡ has_valid_values S (renamed r c)
  valid_values-same (call.Diag v diagonal) = λ i. is_dimension (diagonal_size diagonal (size v i))
  valid_values-same _ = refl

  valid_index-same : (c : Call) → has_valid_index T c ≡ has_valid_index S (renamed r c)
  valid_index-same (call.SetMatrix a i j value) = cell-same a i j
  valid_index-same (call.SetVector v i value) = index-same v i
  valid_index-same (call.RemoveMatrix a i j) = cell-same a i j
  valid_index-same (call.RemoveVector v i) = index-same v i
  valid_index-same (call.GetMatrix a i j) = cell-same a i j
  valid_index-same (call.GetVector v i) = index-same v i
  valid_index-same _ = refl

  in_bounds-same : (c : Call) → is_in_bounds T c ≡ is_in_bounds S (renamed r c)
  in_bounds-same (call.BuildMatrix a tuples dup) = λ i. list_all (λ e. cell-same a e.0 e.1 i) tuples
  in_bounds-same (call.BuildVector v tuples dup) = λ i. list_all (λ e. index-same v e.0 i) tuples
  in_bounds-same _ = refl

  of_domain-same : (d : Domain) (os : List Object) → are_of_domain T d os ≡ are_of_domain S d (map (renamed_object r) os)
  of_domain-same d os =
      (λ i. list_all (λ o. option_map_or (same_domain d) (domain o i) true) os) ∙ list_all-map (λ o. option_map_or (same_domain d) (domain_at S o) true) (renamed_object r) os

  one_domain-same : (os : List Object) (given : List Domain) → is_one_domain T os given ≡ is_one_domain S (map (renamed_object r) os) given
  one_domain-same [] given = refl
  one_domain-same (o ∷ os) given = λ i. option_map_or (λ d. of_domain-same d os i && list_all (same_domain d) given) (domain o i) true

  has_one_domain-same : (c : Call) → has_one_domain T c ≡ has_one_domain S (renamed r c)
  has_one_domain-same c = one_domain-same (operands c) (given_domains c) ∙ (λ i. is_one_domain S (sym (operands_are r c) i) (sym (given-renamed r c) i))

  -- dimensions
  dims-same : (m o : Object) → has_dims T m (dims_at T o) ≡ has_dims S (renamed_object r m) (dims_at S (renamed_object r o))
  dims-same (object.Matrix a) (object.Matrix b) = λ i. (nrows a i == nrows b i) && (ncols a i == ncols b i)
  dims-same (object.Vector u) (object.Vector v) = λ i. size u i == size v i
  dims-same (object.Matrix a) (object.Vector v) = refl
  dims-same (object.Vector v) (object.Matrix a) = refl

  mask-same : (mask : Option Object) (o : Object) → mask_fits T mask (dims_at T o) ≡ mask_fits S (option_map (renamed_object r) mask) (dims_at S (renamed_object r o))
  mask-same None o = refl
  mask-same (Some m) o = dims-same m o

  turned_nrows-same : (tran : Bool) (a : MatrixId) → turned_nrows T tran a ≡ turned_nrows S tran (r.matrix a)
  turned_nrows-same tran a = λ i. if tran then ncols a i else nrows a i

  turned_ncols-same : (tran : Bool) (a : MatrixId) → turned_ncols T tran a ≡ turned_ncols S tran (r.matrix a)
  turned_ncols-same tran a = λ i. if tran then nrows a i else ncols a i

  turned-same : (tran : Bool) (a c : MatrixId) → turned_dims T tran a c ≡ turned_dims S tran (r.matrix a) (r.matrix c)
  turned-same tran a c = λ i. (turned_nrows-same tran a i == nrows c i) && (turned_ncols-same tran a i == ncols c i)

  ewise-same : (tran tran1 : Bool) (o : Object) (p q : Option Object) (m n : Bool) → m ≡ n →
      ewise_fits T tran tran1 o p q m ≡ ewise_fits S tran tran1 (renamed_object r o) (option_map (renamed_object r) p) (option_map (renamed_object r) q) n
  ewise-same tran tran1 (object.Matrix c) (Some (object.Matrix a)) (Some (object.Matrix b)) m n e = λ i. turned-same tran a c i && (turned-same tran1 b c i && e i)
  ewise-same tran tran1 (object.Vector w) (Some (object.Vector u)) (Some (object.Vector v)) m n e = λ i. (size u i == size w i) && ((size v i == size w i) && e i)
  ewise-same tran tran1 _ _ _ m n e = refl

  product-same : (tran tran1 : Bool) (o : Object) (p q : Option Object) (m n : Bool) → m ≡ n →
      product_fits T tran tran1 o p q m ≡ product_fits S tran tran1 (renamed_object r o) (option_map (renamed_object r) p) (option_map (renamed_object r) q) n
  product-same tran tran1 (object.Matrix c) (Some (object.Matrix a)) (Some (object.Matrix b)) m n e =
      λ i. (turned_nrows-same tran a i == nrows c i)
      && ((turned_ncols-same tran1 b i == ncols c i) && ((turned_ncols-same tran a i == turned_nrows-same tran1 b i) && e i))
  product-same tran tran1 (object.Vector w) (Some (object.Matrix a)) (Some (object.Vector u)) m n e =
      λ i. (turned_nrows-same tran a i == size w i) && ((turned_ncols-same tran a i == size u i) && e i)
  product-same tran tran1 (object.Vector w) (Some (object.Vector u)) (Some (object.Matrix a)) m n e =
      λ i. (turned_ncols-same tran1 a i == size w i) && ((turned_nrows-same tran1 a i == size u i) && e i)
  product-same tran tran1 _ _ _ m n e = refl

  rows-same : (tran tran1 : Bool) (o : Object) (p q : Option Object) (m n : Bool) → m ≡ n →
      rows_fit T tran tran1 o p q m ≡ rows_fit S tran tran1 (renamed_object r o) (option_map (renamed_object r) p) (option_map (renamed_object r) q) n
  rows-same tran tran1 (object.Vector w) (Some (object.Matrix a)) None m n e = λ i. (turned_nrows-same tran a i == size w i) && e i
  rows-same tran tran1 _ _ _ m n e = refl

  each-same : (tran tran1 : Bool) (o : Object) (p q : Option Object) (m n : Bool) → m ≡ n →
      same_fits T tran tran1 o p q m ≡ same_fits S tran tran1 (renamed_object r o) (option_map (renamed_object r) p) (option_map (renamed_object r) q) n
  each-same tran tran1 (object.Matrix c) (Some (object.Matrix a)) None m n e = λ i. turned-same tran a c i && e i
  each-same tran tran1 (object.Vector w) (Some (object.Vector u)) None m n e = λ i. (size u i == size w i) && e i
  each-same tran tran1 _ _ _ m n e = refl

  kronecker-same : (tran tran1 : Bool) (o : Object) (p q : Option Object) (m n : Bool) → m ≡ n →
      kronecker_fits T tran tran1 o p q m ≡ kronecker_fits S tran tran1 (renamed_object r o) (option_map (renamed_object r) p) (option_map (renamed_object r) q) n
  kronecker-same tran tran1 (object.Matrix c) (Some (object.Matrix a)) (Some (object.Matrix b)) m n e =
      λ i. (turned_nrows-same tran a i * turned_nrows-same tran1 b i == nrows c i) && ((turned_ncols-same tran a i * turned_ncols-same tran1 b i == ncols c i) && e i)
  kronecker-same tran tran1 _ _ _ m n e = refl

  kind-same : (kind : OperationKind) (tran tran1 : Bool) (o : Object) (p q : Option Object) (m n : Bool) → m ≡ n →
      fitting_of kind T tran tran1 o p q m ≡ fitting_of kind S tran tran1 (renamed_object r o) (option_map (renamed_object r) p) (option_map (renamed_object r) q) n
  kind-same (EwiseAdd op) = ewise-same
  kind-same (EwiseMult op) = ewise-same
  kind-same (Product semiring) = product-same
  kind-same (Rows monoid) = rows-same
  kind-same Transpose = each-same
  kind-same (Apply f) = each-same
  kind-same (Select p) = each-same
  kind-same (Kronecker op) = kronecker-same

  fits-same : (o : Operation) → operation_fits T o ≡ operation_fits S (renamed_operation r o)
  fits-same o = kind-same o.kind (turns o.kind o.d First) (turns o.kind o.d Second) o.output o.first o.second _ _ (mask-same o.mask o.output)

  any_fits : (q : Option Operation) → option_map_or (operation_fits T) q true ≡ option_map_or (operation_fits S) (option_map (renamed_operation r) q) true
  any_fits None = refl
  any_fits (Some o) = fits-same o

  has_fitting_dims-same : (c : Call) → has_fitting_dims T c ≡ has_fitting_dims S (renamed r c)
  has_fitting_dims-same c = any_fits (operation_of c) ∙ ap (λ (q : Option Operation). option_map_or (operation_fits S) q true) (sym (operation_of-renamed r c))

  -- refusals
  by_shapes-same : (c : Call) → refused_by_shapes T c ≡ refused_by_shapes S (renamed r c)
  by_shapes-same c = λ i.
      if not (initialized-same c i) then Some UninitializedObject
      else (if not (valid_values-same c i) then Some InvalidValue
      else (if not (valid_index-same c i) then Some InvalidIndex
      else (if not (has_one_domain-same c i) then Some DomainMismatch
      else (if not (has_fitting_dims-same c i) then Some DimensionMismatch
      else None))))

  pub m_entries : (a : MatrixId) → matrix_entries t a ≡ matrix_entries s (r.matrix a)
  m_entries a = λ i. option_map_or (λ m. m.entries) (same.matrix a i) []

  pub v_entries : (v : VectorId) → vector_entries t v ≡ vector_entries s (r.vector v)
  v_entries v = λ i. option_map_or (λ x. x.entries) (same.vector v i) []

  old-same : (c : Call) → has_old_entries t c ≡ has_old_entries s (renamed r c)
  old-same (call.BuildMatrix a tuples dup) = λ i. not (nvals_of (m_entries a i) == 0)
  old-same (call.BuildVector v tuples dup) = λ i. not (nvals_of (v_entries v i) == 0)
  old-same _ = refl

  build-same : (c : Call) → refused_build t c ≡ refused_build s (renamed r c)
  build-same c = λ i. if old-same c i then Some OutputNotEmpty else (if not (in_bounds-same c i) then Some IndexOutOfBounds else None)

  pub refused-same : (c : Call) → refused t c ≡ refused s (renamed r c)
  refused-same c = λ i. option_or (by_shapes-same c i) (build-same c i)
