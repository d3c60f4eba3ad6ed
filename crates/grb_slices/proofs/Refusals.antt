-- Why a call is refused is a matter of what it reads.
use Rattle.std.proofs.Common.{◌≡◌, ℕ, ◌*◌, Bool, true, false, not, ◌&&◌, nat_lt, if◌then◌else◌, List, [], ◌∷◌, refl, sym, ap, ◌∙◌, Option, Some, None, option_map, is_some, IfSome}
use Rattle.grb_slices.proofs.Prelude.{◌==◌, list_all, option_map_or, Refusal, UninitializedObject, InvalidValue, InvalidIndex, DomainMismatch, DimensionMismatch, Call, MatrixId, VectorId, Object, given_domains, masks, named, objects_read, operands, ObjectShapes, MatrixShape, VectorShape, matrix_shape_at, vector_shape_at, is_live, domain_at, nrows_at, ncols_at, size_at, is_initialized, has_valid_values, has_valid_index, has_one_domain, has_fitting_dims, same_domain, are_of_domain, is_one_domain, mask_fits, ewise_fits, product_fits, rows_fit, fitting_of, operation_fits, refused_by_shapes, turned_ncols, turned_nrows, Store, shapes_of, matrix_shape, vector_shape, matrix_at, vector_at, object_at-map, Content, MatrixContent, VectorContent, content_at, is_among, AgreeOn}
use Rattle.grb_core.specs.declared.domain.Domain.{Domain}
use Rattle.grb_core.specs.Contents.{Matrix, Vector, is_dimension}
use Rattle.grb_core.specs.Maps.{diagonal_size}
use Rattle.grb_call.specs.declared.call.Call.TheVariants as call
use Rattle.grb_call.specs.declared.ids.Object.TheVariants as object
use Rattle.grb_call.specs.declared.operation.Input.TheVariants.{First, Second}
use Rattle.grb_call.specs.declared.operation.Operation.{Operation}
use Rattle.grb_call.specs.declared.operation.OperationKind.{OperationKind}
use Rattle.grb_call.specs.declared.operation.OperationKind.TheVariants.{EwiseAdd, EwiseMult, Product, Rows, Transpose, Apply, Select, Kronecker}
use Rattle.grb_call.specs.Operation.{if_any, operation_inputs, operation_objects, operation_of, turns}
use Rattle.grb_call.specs.Refused.{dims_at, has_dims, kronecker_fits, same_fits, turned_dims}
use Rattle.grb_slices.proofs.Wants.{among_first, among_next, among_before, among_after}

-- the shapes have the same of this object
abbrev SameAt : ObjectShapes → ObjectShapes → Object → Type 0
SameAt s t (object.Matrix a) = matrix_shape_at s a ≡ matrix_shape_at t a
SameAt s t (object.Vector v) = vector_shape_at s v ≡ vector_shape_at t v

abbrev SameOn : ObjectShapes → ObjectShapes → List Object → Type 0
SameOn s t os = (o : Object) → is_among os o ≡ true → SameAt s t o

-- the refusals of a call whose objects are all there
abbrev later : Bool → Bool → Bool → Bool → Option Refusal
later v i d f = if not v then Some InvalidValue else (if not i then Some InvalidIndex else (if not d then Some DomainMismatch else (if not f then Some DimensionMismatch else None)))

module _ (s t : ObjectShapes) where
  first : (o : Object) (os : List Object) → SameOn s t (o ∷ os) → SameAt s t o
  first o os same = same o (among_first o os)

  next : (o : Object) (os : List Object) → SameOn s t (o ∷ os) → SameOn s t os
  next o os same p wanted = same p (among_next p o os wanted)

  live : (o : Object) → SameAt s t o → is_live s o ≡ is_live t o
  live (object.Matrix a) e = ap (λ m. is_some m) e
  live (object.Vector v) e = ap (λ x. is_some x) e

  domain : (o : Object) → SameAt s t o → domain_at s o ≡ domain_at t o
  domain (object.Matrix a) e = ap (λ m. option_map (λ x. x.0) m) e
  domain (object.Vector v) e = ap (λ m. option_map (λ x. x.0) m) e

  all_live : (os : List Object) → SameOn s t os → list_all (is_live s) os ≡ list_all (is_live t) os
  all_live [] same = refl
  all_live (o ∷ os) same = ap (λ b. b && list_all (is_live s) os) (live o (first o os same)) ∙ ap (λ b. is_live t o && b) (all_live os (next o os same))

  all_of : (d : Domain) (os : List Object) → SameOn s t os → are_of_domain s d os ≡ are_of_domain t d os
  all_of d [] same = refl
  all_of d (o ∷ os) same = ap (λ m. option_map_or (same_domain d) m true && are_of_domain s d os) (domain o (first o os same))
      ∙ ap (λ b. option_map_or (same_domain d) (domain_at t o) true && b) (all_of d os (next o os same))

  of_first : (d : Option Domain) (os : List Object) (given : List Domain) → SameOn s t os →
      option_map_or (λ d. are_of_domain s d os && list_all (same_domain d) given) d true ≡ option_map_or (λ d. are_of_domain t d os && list_all (same_domain d) given) d true
  of_first None os given same = refl
  of_first (Some d) os given same = ap (λ b. b && list_all (same_domain d) given) (all_of d os same)

  one_domain : (os : List Object) (given : List Domain) → SameOn s t os → is_one_domain s os given ≡ is_one_domain t os given
  one_domain [] given same = refl
  one_domain (o ∷ os) given same = ap (λ d. option_map_or (λ d. are_of_domain s d os && list_all (same_domain d) given) d true) (domain o (first o os same))
      ∙ of_first (domain_at t o) os given (next o os same)

  rows : (a : MatrixId) → SameAt s t (object.Matrix a) → nrows_at s a ≡ nrows_at t a
  rows a e = ap (λ m. option_map_or (λ x. x.1) m 0) e

  columns : (a : MatrixId) → SameAt s t (object.Matrix a) → ncols_at s a ≡ ncols_at t a
  columns a e = ap (λ m. option_map_or (λ x. x.2) m 0) e

  size : (v : VectorId) → SameAt s t (object.Vector v) → size_at s v ≡ size_at t v
  size v e = ap (λ m. option_map_or (λ x. x.1) m 0) e

  cell : (a : MatrixId) (i j : ℕ) → SameAt s t (object.Matrix a) → (nat_lt i (nrows_at s a) && nat_lt j (ncols_at s a)) ≡ (nat_lt i (nrows_at t a) && nat_lt j (ncols_at t a))
  cell a i j e = ap (λ n. nat_lt i n && nat_lt j (ncols_at s a)) (rows a e) ∙ ap (λ n. nat_lt i (nrows_at t a) && nat_lt j n) (columns a e)

  index : (v : VectorId) (i : ℕ) → SameAt s t (object.Vector v) → nat_lt i (size_at s v) ≡ nat_lt i (size_at t v)
  index v i e = ap (nat_lt i) (size v e)

  valid_values : (c : Call) → SameOn s t (operands c) → has_valid_values s c ≡ has_valid_values t c
  valid_values (call.Diag v diagonal) same = ap (λ n. is_dimension (diagonal_size diagonal n)) (size v (first (object.Vector v) [] same))
  valid_values _ same = refl

  valid_index : (c : Call) → SameOn s t (operands c) → has_valid_index s c ≡ has_valid_index t c
  valid_index (call.SetMatrix a i j value) same = cell a i j (first (object.Matrix a) [] same)
  valid_index (call.SetVector v i value) same = index v i (first (object.Vector v) [] same)
  valid_index (call.RemoveMatrix a i j) same = cell a i j (first (object.Matrix a) [] same)
  valid_index (call.RemoveVector v i) same = index v i (first (object.Vector v) [] same)
  valid_index (call.GetMatrix a i j) same = cell a i j (first (object.Matrix a) [] same)
  valid_index (call.GetVector v i) same = index v i (first (object.Vector v) [] same)
  valid_index _ same = refl

  sizes : (u v : VectorId) → SameAt s t (object.Vector u) → SameAt s t (object.Vector v) → (size_at s u == size_at s v) ≡ (size_at t u == size_at t v)
  sizes u v x y = ap (λ n. n == size_at s v) (size u x) ∙ ap (λ n. size_at t u == n) (size v y)

  same_number : (k m n o : ℕ) → k ≡ m → n ≡ o → (k == n) ≡ (m == o)
  same_number k m n o x y = ap (λ i. i == n) x ∙ ap (λ i. m == i) y

  multiplied : (k m n o : ℕ) → k ≡ m → n ≡ o → k * n ≡ m * o
  multiplied k m n o x y = ap (λ i. i * n) x ∙ ap (λ i. m * i) y

  both : (a b x y : Bool) → a ≡ x → b ≡ y → (a && b) ≡ (x && y)
  both a b x y e f = ap (λ n. n && b) e ∙ ap (λ n. x && n) f

  -- a mask, against the dimensions of an output
  shape_same : (m o : Object) → SameAt s t m → SameAt s t o → has_dims s m (dims_at s o) ≡ has_dims t m (dims_at t o)
  shape_same (object.Matrix a) (object.Matrix b) x y = both _ _ _ _ (same_number _ _ _ _ (rows a x) (rows b y)) (same_number _ _ _ _ (columns a x) (columns b y))
  shape_same (object.Vector u) (object.Vector v) x y = sizes u v x y
  shape_same (object.Matrix a) (object.Vector v) x y = refl
  shape_same (object.Vector u) (object.Matrix b) x y = refl

  mask_same : (mask : Option Object) (output : Object) → IfSome mask (SameAt s t) → SameAt s t output → mask_fits s mask (dims_at s output) ≡ mask_fits t mask (dims_at t output)
  mask_same None output x y = refl
  mask_same (Some m) output x y = shape_same m output x y

  -- an input, as it is turned
  turned_rows : (tran : Bool) (a : MatrixId) → SameAt s t (object.Matrix a) → turned_nrows s tran a ≡ turned_nrows t tran a
  turned_rows true a e = columns a e
  turned_rows false a e = rows a e

  turned_columns : (tran : Bool) (a : MatrixId) → SameAt s t (object.Matrix a) → turned_ncols s tran a ≡ turned_ncols t tran a
  turned_columns true a e = rows a e
  turned_columns false a e = columns a e

  turned_same : (tran : Bool) (a c : MatrixId) → SameAt s t (object.Matrix a) → SameAt s t (object.Matrix c) → turned_dims s tran a c ≡ turned_dims t tran a c
  turned_same tran a c x y = both _ _ _ _ (same_number _ _ _ _ (turned_rows tran a x) (rows c y)) (same_number _ _ _ _ (turned_columns tran a x) (columns c y))

  -- how the objects of an operation fit together, by what it computes
  module _ (tran tran1 : Bool) where
    ewise_same : (output : Object) (first second : Option Object) (x y : Bool) → SameAt s t output → IfSome first (SameAt s t) → IfSome second (SameAt s t) → x ≡ y →
        ewise_fits s tran tran1 output first second x ≡ ewise_fits t tran tran1 output first second y
    ewise_same (object.Matrix c) (Some (object.Matrix a)) (Some (object.Matrix b)) x y one two three masked =
        both _ _ _ _ (turned_same tran a c two one) (both _ _ _ _ (turned_same tran1 b c three one) masked)
    ewise_same (object.Vector w) (Some (object.Vector u)) (Some (object.Vector v)) x y one two three masked = both _ _ _ _ (sizes u w two one) (both _ _ _ _ (sizes v w three one) masked)
    ewise_same _ _ _ x y one two three masked = refl

    product_same : (output : Object) (first second : Option Object) (x y : Bool) → SameAt s t output → IfSome first (SameAt s t) → IfSome second (SameAt s t) → x ≡ y →
        product_fits s tran tran1 output first second x ≡ product_fits t tran tran1 output first second y
    product_same (object.Matrix c) (Some (object.Matrix a)) (Some (object.Matrix b)) x y one two three masked =
        both _ _ _ _ (same_number _ _ _ _ (turned_rows tran a two) (rows c one)) (both _ _ _ _ (same_number _ _ _ _ (turned_columns tran1 b three) (columns c one))
        (both _ _ _ _ (same_number _ _ _ _ (turned_columns tran a two) (turned_rows tran1 b three)) masked))
    product_same (object.Vector w) (Some (object.Matrix a)) (Some (object.Vector u)) x y one two three masked =
        both _ _ _ _ (same_number _ _ _ _ (turned_rows tran a two) (size w one)) (both _ _ _ _ (same_number _ _ _ _ (turned_columns tran a two) (size u three)) masked)
    product_same (object.Vector w) (Some (object.Vector u)) (Some (object.Matrix a)) x y one two three masked =
        both _ _ _ _ (same_number _ _ _ _ (turned_columns tran1 a three) (size w one)) (both _ _ _ _ (same_number _ _ _ _ (turned_rows tran1 a three) (size u two)) masked)
    product_same _ _ _ x y one two three masked = refl

    rows_same : (output : Object) (first second : Option Object) (x y : Bool) → SameAt s t output → IfSome first (SameAt s t) → IfSome second (SameAt s t) → x ≡ y →
        rows_fit s tran tran1 output first second x ≡ rows_fit t tran tran1 output first second y
    rows_same (object.Vector w) (Some (object.Matrix a)) None x y one two three masked = both _ _ _ _ (same_number _ _ _ _ (turned_rows tran a two) (size w one)) masked
    rows_same _ _ _ x y one two three masked = refl

    each_same : (output : Object) (first second : Option Object) (x y : Bool) → SameAt s t output → IfSome first (SameAt s t) → IfSome second (SameAt s t) → x ≡ y →
        same_fits s tran tran1 output first second x ≡ same_fits t tran tran1 output first second y
    each_same (object.Matrix c) (Some (object.Matrix a)) None x y one two three masked = both _ _ _ _ (turned_same tran a c two one) masked
    each_same (object.Vector w) (Some (object.Vector u)) None x y one two three masked = both _ _ _ _ (sizes u w two one) masked
    each_same _ _ _ x y one two three masked = refl

    kronecker_same : (output : Object) (first second : Option Object) (x y : Bool) → SameAt s t output → IfSome first (SameAt s t) → IfSome second (SameAt s t) → x ≡ y →
        kronecker_fits s tran tran1 output first second x ≡ kronecker_fits t tran tran1 output first second y
    kronecker_same (object.Matrix c) (Some (object.Matrix a)) (Some (object.Matrix b)) x y one two three masked =
        both _ _ _ _ (same_number _ _ _ _ (multiplied _ _ _ _ (turned_rows tran a two) (turned_rows tran1 b three)) (rows c one))
        (both _ _ _ _ (same_number _ _ _ _ (multiplied _ _ _ _ (turned_columns tran a two) (turned_columns tran1 b three)) (columns c one)) masked)
    kronecker_same _ _ _ x y one two three masked = refl

    kind_same : (kind : OperationKind) (output : Object) (first second : Option Object) (x y : Bool) → SameAt s t output → IfSome first (SameAt s t) → IfSome second (SameAt s t) → x ≡ y →
        fitting_of kind s tran tran1 output first second x ≡ fitting_of kind t tran tran1 output first second y
    kind_same (EwiseAdd op) = ewise_same
    kind_same (EwiseMult op) = ewise_same
    kind_same (Product semiring) = product_same
    kind_same (Rows monoid) = rows_same
    kind_same Transpose = each_same
    kind_same (Apply f) = each_same
    kind_same (Select p) = each_same
    kind_same (Kronecker op) = kronecker_same

  any_same : (q : Option Object) → SameOn s t (if_any q) → IfSome q (SameAt s t)
  any_same None same = tt
  any_same (Some o) same = first o [] same

  any_fitting : (q : Option Operation) (os : List Object) → SameOn s t (option_map_or operation_objects q os) → SameOn s t (option_map_or (λ o. if_any o.mask) q []) →
      option_map_or (operation_fits s) q true ≡ option_map_or (operation_fits t) q true
  any_fitting None os same masked = refl
  any_fitting (Some o) os same masked =
      let output = first o.output (operation_inputs o) same in
      let inputs = next o.output (operation_inputs o) same in
      kind_same (turns o.kind o.d First) (turns o.kind o.d Second) o.kind o.output o.first o.second _ _ output
      (any_same o.first (λ p wanted. inputs p (among_before p (if_any o.first) (if_any o.second) wanted))) (any_same o.second (λ p wanted. inputs p (among_after p (if_any o.first) (if_any o.second) wanted)))
      (mask_same o.mask o.output (any_same o.mask masked) output)

  fitting : (c : Call) → SameOn s t (operands c) → SameOn s t (masks c) → has_fitting_dims s c ≡ has_fitting_dims t c
  fitting c same masked = any_fitting (operation_of c) (if_any (named c)) same masked

  refusal_same : (c : Call) → SameOn s t (objects_read c) → refused_by_shapes s c ≡ refused_by_shapes t c
  refusal_same c same =
      let os : SameOn s t (operands c) = λ o wanted. same o (among_before o (operands c) (masks c) wanted) in
      let ms : SameOn s t (masks c) = λ o wanted. same o (among_after o (operands c) (masks c) wanted) in
      let live_t = is_initialized t c in
      ap (λ b. if not b then Some UninitializedObject else later (has_valid_values s c) (has_valid_index s c) (has_one_domain s c) (has_fitting_dims s c)) (all_live (objects_read c) same)
      ∙ (ap (λ b. if not live_t then Some UninitializedObject else later b (has_valid_index s c) (has_one_domain s c) (has_fitting_dims s c)) (valid_values c os)
      ∙ (ap (λ b. if not live_t then Some UninitializedObject else later (has_valid_values t c) b (has_one_domain s c) (has_fitting_dims s c)) (valid_index c os)
      ∙ (ap (λ b. if not live_t then Some UninitializedObject else later (has_valid_values t c) (has_valid_index t c) b (has_fitting_dims s c)) (one_domain (operands c) (given_domains c) os)
      ∙ ap (λ b. if not live_t then Some UninitializedObject else later (has_valid_values t c) (has_valid_index t c) (has_one_domain t c) b) (fitting c os ms))))

-- the shape of what an object holds
abbrev shape_of_matrix : Option Content → Option MatrixShape
shape_of_matrix (Some (MatrixContent m)) = Some (matrix_shape m)
shape_of_matrix _ = None

abbrev shape_of_vector : Option Content → Option VectorShape
shape_of_vector (Some (VectorContent x)) = Some (vector_shape x)
shape_of_vector _ = None

held_shape_m : (o : Option Matrix) → option_map matrix_shape o ≡ shape_of_matrix (option_map MatrixContent o)
held_shape_m None = refl
held_shape_m (Some m) = refl

held_shape_v : (o : Option Vector) → option_map vector_shape o ≡ shape_of_vector (option_map VectorContent o)
held_shape_v None = refl
held_shape_v (Some x) = refl

shapes_same : (s t : Store) (o : Object) → content_at s o ≡ content_at t o → SameAt (shapes_of s) (shapes_of t) o
shapes_same s t (object.Matrix a) e = (object_at-map matrix_shape s.matrices a.0 ∙ held_shape_m (matrix_at s a)) ∙ (ap shape_of_matrix e ∙ sym (object_at-map matrix_shape t.matrices a.0 ∙ held_shape_m (matrix_at t a)))
shapes_same s t (object.Vector v) e = (object_at-map vector_shape s.vectors v.0 ∙ held_shape_v (vector_at s v)) ∙ (ap shape_of_vector e ∙ sym (object_at-map vector_shape t.vectors v.0 ∙ held_shape_v (vector_at t v)))

pub same_refusal : (s t : Store) (c : Call) → AgreeOn (is_among (objects_read c)) (content_at s) (content_at t) → refused_by_shapes (shapes_of s) c ≡ refused_by_shapes (shapes_of t) c
same_refusal s t c agree = refusal_same (shapes_of s) (shapes_of t) c (λ o wanted. shapes_same s t o (agree o wanted))
