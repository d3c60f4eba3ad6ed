-- The operands of an operation that is not refused: they are there, of one domain, and of dimensions that fit.
use Rattle.std.proofs.Common.{◌≡◌, ℕ, zero, suc, ◌&&◌, Bool, true, false, List, [], ◌∷◌, map, refl, sym, ap, subst, ◌∙◌, Option, Some, None, IfSome, is_some, option_map}
use Rattle.std.specs.List.{list_all}
use Rattle.std.specs.Option.{option_map_or}
use Rattle.std.proofs.lemmas.Bool.{and_parts, eqb-true}
use Rattle.grb_core.specs.declared.domain.Domain.{Domain}
use Rattle.grb_core.specs.declared.operator.BinaryOp.{BinaryOp}
use Rattle.grb_core.specs.Contents.{Vector, Matrix}
use Rattle.grb_core.specs.Operator.{op_domain}
use Rattle.grb_core.specs.Written.{AccumulatesIn}
use Rattle.grb_call.specs.declared.ids.MatrixId.{MatrixId}
use Rattle.grb_call.specs.declared.ids.VectorId.{VectorId}
use Rattle.grb_call.specs.declared.ids.Object.{Object}
use Rattle.grb_call.specs.declared.ids.Object.TheVariants as object
use Rattle.grb_call.specs.Operands.{matrix_mask, vector_mask}
use Rattle.grb_call.specs.Operation.{accum_domains}
use Rattle.grb_call.specs.Shapes.{ObjectShapes, MatrixShape, VectorShape, object_at, matrix_shape_at, vector_shape_at, is_live, domain_at, nrows_at, ncols_at, size_at}
use Rattle.grb_call.specs.Refused.{same_domain, are_of_domain, is_one_domain, turned_dims, same_size}
use Rattle.grb_call.specs.Fits.{same_dims, matrix_mask_fits, vector_mask_fits, ewise_matrices_fit, ewise_vectors_fit}
use Rattle.grb_call.specs.Store.{Store, shapes_of, matrix_at, vector_at, matrix_shape, vector_shape}
use Rattle.grb_call.proofs.ShapesAfter.{object_at-map}
use Rattle.grb_call.proofs.Passed.{same_domain-true}

-- an object that has a shape is there
pub there : {X Y : Type 0} (g : X → Y) (xs : List (Option X)) (n : ℕ) → is_some (object_at (map (option_map g) xs) n) ≡ true → (x : X) × (object_at xs n ≡ Some x)
there g [] n e = cc
there g (None ∷ xs) zero e = cc
there g (Some x ∷ xs) zero e = (x, refl)
there g (o ∷ xs) (suc n) e = there g xs n e

-- the other objects, and what is given, are of the domain of the first object
pub of_output : (t : ObjectShapes) (o : Object) (d : Domain) (os : List Object) (given : List Domain) → ◌≡◌ {A = Option Domain} (domain_at t o) (Some d) → is_one_domain t (o ∷ os) given ≡ true →
    (are_of_domain t d os ≡ true) × (list_all (same_domain d) given ≡ true)
of_output t o d os given at e =
    and_parts _ _ (subst (λ (x : Option Domain). option_map_or (λ d. are_of_domain t d os && list_all (same_domain d) given) x true ≡ true) at e)

-- what an operation computes with, and its accumulator
pub given_of : (d given : Domain) (accum : Option BinaryOp) → list_all (same_domain d) (given ∷ accum_domains accum) ≡ true → (given ≡ d) × AccumulatesIn d accum
given_of d given None e = (sym (same_domain-true d given (and_parts _ _ e).0), tt)
given_of d given (Some op) e =
    let parts = and_parts _ _ e in
    (sym (same_domain-true d given parts.0), sym (same_domain-true d (op_domain op) (and_parts _ _ parts.1).0))

pub domain_is : (o : Option Domain) (d e : Domain) → option_map_or (same_domain d) o true ≡ true → o ≡ Some e → e ≡ d
domain_is o d e h at = sym (same_domain-true d e (subst (λ (x : Option Domain). option_map_or (same_domain d) x true ≡ true) at h))

-- what the shapes tell of an object that is there
module _ (s : Store) (a : MatrixId) (m : Matrix) (at : matrix_at s a ≡ Some m) where
  shape_of_matrix : ◌≡◌ {A = Option MatrixShape} (matrix_shape_at (shapes_of s) a) (Some (matrix_shape m))
  shape_of_matrix = object_at-map matrix_shape s.matrices a.0 ∙ ap (option_map matrix_shape) at

  pub nrows-at : nrows_at (shapes_of s) a ≡ m.nrows
  nrows-at = ap (λ (o : Option MatrixShape). option_map_or (λ x. x.1) o 0) shape_of_matrix

  pub ncols-at : ncols_at (shapes_of s) a ≡ m.ncols
  ncols-at = ap (λ (o : Option MatrixShape). option_map_or (λ x. x.2) o 0) shape_of_matrix

  pub matrix_domain-at : ◌≡◌ {A = Option Domain} (domain_at (shapes_of s) (object.Matrix a)) (Some m.domain)
  matrix_domain-at = ap (option_map (λ (x : MatrixShape). x.0)) shape_of_matrix

module _ (s : Store) (v : VectorId) (x : Vector) (at : vector_at s v ≡ Some x) where
  shape_of_vector : ◌≡◌ {A = Option VectorShape} (vector_shape_at (shapes_of s) v) (Some (vector_shape x))
  shape_of_vector = object_at-map vector_shape s.vectors v.0 ∙ ap (option_map vector_shape) at

  pub size-at : size_at (shapes_of s) v ≡ x.size
  size-at = ap (λ (o : Option VectorShape). option_map_or (λ y. y.1) o 0) shape_of_vector

  pub vector_domain-at : ◌≡◌ {A = Option Domain} (domain_at (shapes_of s) (object.Vector v)) (Some x.domain)
  vector_domain-at = ap (option_map (λ (y : VectorShape). y.0)) shape_of_vector

-- the matrix is there, with this domain and these dimensions
pub record IsMatrixAt (s : Store) (a : MatrixId) (domain : Domain) (nrows ncols : ℕ) : Type 0 where
  pub matrix : Matrix
  pub at : matrix_at s a ≡ Some matrix
  pub same_domain : matrix.domain ≡ domain
  pub same_nrows : matrix.nrows ≡ nrows
  pub same_ncols : matrix.ncols ≡ ncols

-- the vector is there, with this domain and this size
pub record IsVectorAt (s : Store) (v : VectorId) (domain : Domain) (size : ℕ) : Type 0 where
  pub vector : Vector
  pub at : vector_at s v ≡ Some vector
  pub same_domain : vector.domain ≡ domain
  pub same_size : vector.size ≡ size

-- the mask, if there is one, is there and has these dimensions
abbrev pub IsMatrixMask : Store → Option MatrixId → ℕ → ℕ → Type 0
IsMatrixMask s mask nrows ncols = IfSome mask (λ a. (m : Matrix) × (matrix_at s a ≡ Some m) × (m.nrows ≡ nrows) × (m.ncols ≡ ncols))

abbrev pub IsVectorMask : Store → Option VectorId → ℕ → Type 0
IsVectorMask s mask size = IfSome mask (λ v. (x : Vector) × (vector_at s v ≡ Some x) × (x.size ≡ size))

-- an input that has the dimensions of the output m
module _ (s : Store) (c : MatrixId) (m : Matrix) (at_output : matrix_at s c ≡ Some m) where
  dims-same : (a : MatrixId) (x : Matrix) → matrix_at s a ≡ Some x → same_dims (shapes_of s) a c ≡ true → (x.nrows ≡ m.nrows) × (x.ncols ≡ m.ncols)
  dims-same a x at e =
      let parts = and_parts _ _ e in (
        sym (nrows-at s a x at) ∙ eqb-true _ _ parts.0 ∙ nrows-at s c m at_output,
        sym (ncols-at s a x at) ∙ eqb-true _ _ parts.1 ∙ ncols-at s c m at_output,
      )

  matrix_input : (a : MatrixId) → is_live (shapes_of s) (object.Matrix a) ≡ true → option_map_or (same_domain m.domain) (domain_at (shapes_of s) (object.Matrix a)) true ≡ true →
      same_dims (shapes_of s) a c ≡ true → IsMatrixAt s a m.domain m.nrows m.ncols
  matrix_input a live domain dims =
      let found = there matrix_shape s.matrices a.0 live in
      let same = dims-same a found.0 found.1 dims in
      record {
        matrix = found.0;
        at = found.1;
        same_domain = domain_is (domain_at (shapes_of s) (object.Matrix a)) m.domain found.0.domain domain (matrix_domain-at s a found.0 found.1);
        same_nrows = same.0;
        same_ncols = same.1;
      }

  pub matrix_mask-there : (mask : Option MatrixId) → list_all (is_live (shapes_of s)) (matrix_mask mask) ≡ true → matrix_mask_fits (shapes_of s) mask c ≡ true → IsMatrixMask s mask m.nrows m.ncols
  matrix_mask-there None live fits = tt
  matrix_mask-there (Some a) live fits =
      let found = there matrix_shape s.matrices a.0 (and_parts _ _ live).0 in
      let same = dims-same a found.0 found.1 fits in
      (found.0, found.1, same.0, same.1)

module _ (s : Store) (w : VectorId) (x : Vector) (at_output : vector_at s w ≡ Some x) where
  size-same : (v : VectorId) (y : Vector) → vector_at s v ≡ Some y → same_size (shapes_of s) v w ≡ true → y.size ≡ x.size
  size-same v y at e = sym (size-at s v y at) ∙ eqb-true _ _ e ∙ size-at s w x at_output

  pub vector_input : (v : VectorId) → is_live (shapes_of s) (object.Vector v) ≡ true → option_map_or (same_domain x.domain) (domain_at (shapes_of s) (object.Vector v)) true ≡ true →
      same_size (shapes_of s) v w ≡ true → IsVectorAt s v x.domain x.size
  vector_input v live domain size =
      let found = there vector_shape s.vectors v.0 live in
      record {
        vector = found.0;
        at = found.1;
        same_domain = domain_is (domain_at (shapes_of s) (object.Vector v)) x.domain found.0.domain domain (vector_domain-at s v found.0 found.1);
        same_size = size-same v found.0 found.1 size;
      }

  pub vector_mask-there : (mask : Option VectorId) → list_all (is_live (shapes_of s)) (vector_mask mask) ≡ true → vector_mask_fits (shapes_of s) mask w ≡ true → IsVectorMask s mask x.size
  vector_mask-there None live fits = tt
  vector_mask-there (Some v) live fits =
      let found = there vector_shape s.vectors v.0 (and_parts _ _ live).0 in
      (found.0, found.1, size-same v found.0 found.1 fits)

-- the matrix is there, and has these dimensions as it is turned
abbrev pub IsTurnedAt : Store → Bool → MatrixId → Domain → ℕ → ℕ → Type 0
IsTurnedAt s true a domain nrows ncols = IsMatrixAt s a domain ncols nrows
IsTurnedAt s false a domain nrows ncols = IsMatrixAt s a domain nrows ncols

pub turned_input : (s : Store) (c : MatrixId) (m : Matrix) → matrix_at s c ≡ Some m → (tran : Bool) (a : MatrixId) → is_live (shapes_of s) (object.Matrix a) ≡ true →
    option_map_or (same_domain m.domain) (domain_at (shapes_of s) (object.Matrix a)) true ≡ true → turned_dims (shapes_of s) tran a c ≡ true → IsTurnedAt s tran a m.domain m.nrows m.ncols
turned_input s c m at_output true a live domain dims =
    let found = there matrix_shape s.matrices a.0 live in
    let parts = and_parts _ _ dims in
    record {
      matrix = found.0;
      at = found.1;
      same_domain = domain_is (domain_at (shapes_of s) (object.Matrix a)) m.domain found.0.domain domain (matrix_domain-at s a found.0 found.1);
      same_nrows = sym (nrows-at s a found.0 found.1) ∙ eqb-true _ _ parts.1 ∙ ncols-at s c m at_output;
      same_ncols = sym (ncols-at s a found.0 found.1) ∙ eqb-true _ _ parts.0 ∙ nrows-at s c m at_output;
    }
turned_input s c m at_output false a live domain dims = matrix_input s c m at_output a live domain dims

-- the operands of an element-wise operation, by its output m
pub record EwiseMatrices (s : Store) (m : Matrix) (tran tran1 : Bool) (mask : Option MatrixId) (accum : Option BinaryOp) (op : BinaryOp) (a b : MatrixId) : Type 0 where
  pub first : IsTurnedAt s tran a m.domain m.nrows m.ncols
  pub second : IsTurnedAt s tran1 b m.domain m.nrows m.ncols
  pub masked : IsMatrixMask s mask m.nrows m.ncols
  pub computes : op_domain op ≡ m.domain
  pub accumulates : AccumulatesIn m.domain accum

pub record EwiseVectors (s : Store) (x : Vector) (mask : Option VectorId) (accum : Option BinaryOp) (op : BinaryOp) (u v : VectorId) : Type 0 where
  pub first : IsVectorAt s u x.domain x.size
  pub second : IsVectorAt s v x.domain x.size
  pub masked : IsVectorMask s mask x.size
  pub computes : op_domain op ≡ x.domain
  pub accumulates : AccumulatesIn x.domain accum

pub ewise_matrices : (s : Store) (c : MatrixId) (m : Matrix) → matrix_at s c ≡ Some m → (tran tran1 : Bool) (mask : Option MatrixId) (accum : Option BinaryOp) (op : BinaryOp) (a b : MatrixId) →
    list_all (is_live (shapes_of s)) (object.Matrix c ∷ object.Matrix a ∷ object.Matrix b ∷ matrix_mask mask) ≡ true →
    is_one_domain (shapes_of s) (object.Matrix c ∷ object.Matrix a ∷ object.Matrix b ∷ []) (op_domain op ∷ accum_domains accum) ≡ true →
    ewise_matrices_fit (shapes_of s) tran tran1 c mask a b ≡ true → EwiseMatrices s m tran tran1 mask accum op a b
ewise_matrices s c m at tran tran1 mask accum op a b initialized one_domain fits =
    let live = and_parts _ _ (and_parts _ _ initialized).1 in
    let live_rest = and_parts _ _ live.1 in
    let domains = of_output (shapes_of s) (object.Matrix c) m.domain (object.Matrix a ∷ object.Matrix b ∷ []) (op_domain op ∷ accum_domains accum) (matrix_domain-at s c m at) one_domain in
    let inputs = and_parts _ _ domains.0 in
    let given = given_of m.domain (op_domain op) accum domains.1 in
    let dims = and_parts _ _ fits in
    let dims_rest = and_parts _ _ dims.1 in
    record {
      first = turned_input s c m at tran a live.0 inputs.0 dims.0;
      second = turned_input s c m at tran1 b live_rest.0 (and_parts _ _ inputs.1).0 dims_rest.0;
      masked = matrix_mask-there s c m at mask live_rest.1 dims_rest.1;
      computes = given.0;
      accumulates = given.1;
    }

pub ewise_vectors : (s : Store) (w : VectorId) (x : Vector) → vector_at s w ≡ Some x → (mask : Option VectorId) (accum : Option BinaryOp) (op : BinaryOp) (u v : VectorId) →
    list_all (is_live (shapes_of s)) (object.Vector w ∷ object.Vector u ∷ object.Vector v ∷ vector_mask mask) ≡ true →
    is_one_domain (shapes_of s) (object.Vector w ∷ object.Vector u ∷ object.Vector v ∷ []) (op_domain op ∷ accum_domains accum) ≡ true →
    ewise_vectors_fit (shapes_of s) w mask u v ≡ true → EwiseVectors s x mask accum op u v
ewise_vectors s w x at mask accum op u v initialized one_domain fits =
    let live = and_parts _ _ (and_parts _ _ initialized).1 in
    let live_rest = and_parts _ _ live.1 in
    let domains = of_output (shapes_of s) (object.Vector w) x.domain (object.Vector u ∷ object.Vector v ∷ []) (op_domain op ∷ accum_domains accum) (vector_domain-at s w x at) one_domain in
    let inputs = and_parts _ _ domains.0 in
    let given = given_of x.domain (op_domain op) accum domains.1 in
    let sizes = and_parts _ _ fits in
    let sizes_rest = and_parts _ _ sizes.1 in
    record {
      first = vector_input s w x at u live.0 inputs.0 sizes.0;
      second = vector_input s w x at v live_rest.0 (and_parts _ _ inputs.1).0 sizes_rest.0;
      masked = vector_mask-there s w x at mask live_rest.1 sizes_rest.1;
      computes = given.0;
      accumulates = given.1;
    }
