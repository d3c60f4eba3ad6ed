-- The operands of a product or a reduction of rows that is not refused: they are there, of one domain, and of dimensions that fit.
use Rattle.std.proofs.Common.{◌≡◌, ℕ, Bool, true, false, [], ◌∷◌, refl, sym, ◌∙◌, Option, Some}
use Rattle.std.specs.List.{list_all}
use Rattle.std.specs.Option.{option_map_or}
use Rattle.std.proofs.lemmas.Bool.{and_parts, eqb-true}
use Rattle.grb_core.specs.declared.domain.Domain.{Domain}
use Rattle.grb_core.specs.declared.operator.BinaryOp.{BinaryOp}
use Rattle.grb_core.specs.declared.monoid.Monoid.{Monoid}
use Rattle.grb_core.specs.Contents.{Vector, Matrix}
use Rattle.grb_core.specs.Operator.{op_domain}
use Rattle.grb_core.specs.Monoid.{monoid_domain}
use Rattle.grb_core.specs.Semiring.{SemiringParts}
use Rattle.grb_core.specs.Written.{AccumulatesIn}
use Rattle.grb_call.specs.declared.ids.MatrixId.{MatrixId}
use Rattle.grb_call.specs.declared.ids.VectorId.{VectorId}
use Rattle.grb_call.specs.declared.ids.Object.TheVariants as object
use Rattle.grb_call.specs.Operands.{matrix_mask, vector_mask}
use Rattle.grb_call.specs.Operation.{accum_domains}
use Rattle.grb_call.specs.Shapes.{is_live, domain_at}
use Rattle.grb_call.specs.Refused.{same_domain, is_one_domain, turned_ncols, turned_nrows}
use Rattle.grb_call.specs.Fits.{mxv_fits, mxm_fits, reduce_rows_fits, vxm_fits}
use Rattle.grb_call.specs.Store.{Store, shapes_of, matrix_at, vector_at, matrix_shape, vector_shape}
use Rattle.grb_call.proofs.Passed.{same_domain-true}
use Rattle.grb_call.proofs.Operations.{there, of_output, given_of, domain_is, nrows-at, ncols-at, matrix_domain-at, size-at, vector_domain-at, IsMatrixAt, IsTurnedAt, IsVectorAt, IsMatrixMask, IsVectorMask, matrix_mask-there, vector_mask-there}

-- an input that is there, and of the output's domain
module _ (s : Store) (domain : Domain) where
  pub matrix_operand : (a : MatrixId) → is_live (shapes_of s) (object.Matrix a) ≡ true → option_map_or (same_domain domain) (domain_at (shapes_of s) (object.Matrix a)) true ≡ true →
      (m : Matrix) × (matrix_at s a ≡ Some m) × (m.domain ≡ domain)
  matrix_operand a live same =
      let found = there matrix_shape s.matrices a.0 live in
      (found.0, found.1, domain_is (domain_at (shapes_of s) (object.Matrix a)) domain found.0.domain same (matrix_domain-at s a found.0 found.1))

  pub vector_operand : (v : VectorId) → is_live (shapes_of s) (object.Vector v) ≡ true → option_map_or (same_domain domain) (domain_at (shapes_of s) (object.Vector v)) true ≡ true →
      (x : Vector) × (vector_at s v ≡ Some x) × (x.domain ≡ domain)
  vector_operand v live same =
      let found = there vector_shape s.vectors v.0 live in
      (found.0, found.1, domain_is (domain_at (shapes_of s) (object.Vector v)) domain found.0.domain same (vector_domain-at s v found.0 found.1))

module _ (s : Store) (a : MatrixId) (m : Matrix) (at : matrix_at s a ≡ Some m) where
  -- its dimensions, as it is turned
  pub turned_is : (tran : Bool) (domain : Domain) → m.domain ≡ domain → (nrows ncols : ℕ) → turned_nrows (shapes_of s) tran a ≡ nrows → turned_ncols (shapes_of s) tran a ≡ ncols → IsTurnedAt s tran a domain nrows ncols
  turned_is true domain same nrows ncols e g = record { matrix = m; at = at; same_domain = same; same_nrows = sym (nrows-at s a m at) ∙ g; same_ncols = sym (ncols-at s a m at) ∙ e }
  turned_is false domain same nrows ncols e g = record { matrix = m; at = at; same_domain = same; same_nrows = sym (nrows-at s a m at) ∙ e; same_ncols = sym (ncols-at s a m at) ∙ g }

-- the operands of mxv, by its output x; the matrix has `inner` columns, as it is turned
pub record MxvOperands (s : Store) (x : Vector) (tran : Bool) (mask : Option VectorId) (accum : Option BinaryOp) (semiring : SemiringParts) (a : MatrixId) (u : VectorId) : Type 0 where
  pub inner : ℕ
  pub matrix : IsTurnedAt s tran a x.domain x.size inner
  pub vector : IsVectorAt s u x.domain inner
  pub masked : IsVectorMask s mask x.size
  pub adds : monoid_domain semiring.monoid ≡ x.domain
  pub multiplies : op_domain semiring.op ≡ x.domain
  pub accumulates : AccumulatesIn x.domain accum

pub mxv_operands : (s : Store) (w : VectorId) (x : Vector) → vector_at s w ≡ Some x → (tran : Bool) (mask : Option VectorId) (accum : Option BinaryOp) (semiring : SemiringParts) (a : MatrixId) (u : VectorId) →
    list_all (is_live (shapes_of s)) (object.Vector w ∷ object.Matrix a ∷ object.Vector u ∷ vector_mask mask) ≡ true →
    is_one_domain (shapes_of s) (object.Vector w ∷ object.Matrix a ∷ object.Vector u ∷ []) (monoid_domain semiring.monoid ∷ op_domain semiring.op ∷ accum_domains accum) ≡ true →
    mxv_fits (shapes_of s) tran w mask a u ≡ true → MxvOperands s x tran mask accum semiring a u
mxv_operands s w x at tran mask accum semiring a u initialized one_domain fits =
    let live = and_parts _ _ (and_parts _ _ initialized).1 in
    let live_rest = and_parts _ _ live.1 in
    let domains = of_output (shapes_of s) (object.Vector w) x.domain (object.Matrix a ∷ object.Vector u ∷ []) (monoid_domain semiring.monoid ∷ op_domain semiring.op ∷ accum_domains accum) (vector_domain-at s w x at) one_domain in
    let inputs = and_parts _ _ domains.0 in
    let given = and_parts _ _ domains.1 in
    let given_rest = given_of x.domain (op_domain semiring.op) accum given.1 in
    let dims = and_parts _ _ fits in
    let dims_rest = and_parts _ _ dims.1 in
    let m = matrix_operand s x.domain a live.0 inputs.0 in
    let y = vector_operand s x.domain u live_rest.0 (and_parts _ _ inputs.1).0 in
    record {
      inner = turned_ncols (shapes_of s) tran a;
      matrix = turned_is s a m.0 m.1 tran x.domain m.2 x.size _ (eqb-true _ _ dims.0 ∙ size-at s w x at) refl;
      vector = record { vector = y.0; at = y.1; same_domain = y.2; same_size = sym (size-at s u y.0 y.1) ∙ sym (eqb-true _ _ dims_rest.0) };
      masked = vector_mask-there s w x at mask live_rest.1 dims_rest.1;
      adds = sym (same_domain-true x.domain (monoid_domain semiring.monoid) given.0);
      multiplies = given_rest.0;
      accumulates = given_rest.1;
    }

-- the operands of vxm, by its output x; the matrix has `inner` rows, as it is turned
pub record VxmOperands (s : Store) (x : Vector) (tran1 : Bool) (mask : Option VectorId) (accum : Option BinaryOp) (semiring : SemiringParts) (u : VectorId) (a : MatrixId) : Type 0 where
  pub inner : ℕ
  pub vector : IsVectorAt s u x.domain inner
  pub matrix : IsTurnedAt s tran1 a x.domain inner x.size
  pub masked : IsVectorMask s mask x.size
  pub adds : monoid_domain semiring.monoid ≡ x.domain
  pub multiplies : op_domain semiring.op ≡ x.domain
  pub accumulates : AccumulatesIn x.domain accum

pub vxm_operands : (s : Store) (w : VectorId) (x : Vector) → vector_at s w ≡ Some x → (tran1 : Bool) (mask : Option VectorId) (accum : Option BinaryOp) (semiring : SemiringParts) (u : VectorId) (a : MatrixId) →
    list_all (is_live (shapes_of s)) (object.Vector w ∷ object.Vector u ∷ object.Matrix a ∷ vector_mask mask) ≡ true →
    is_one_domain (shapes_of s) (object.Vector w ∷ object.Vector u ∷ object.Matrix a ∷ []) (monoid_domain semiring.monoid ∷ op_domain semiring.op ∷ accum_domains accum) ≡ true →
    vxm_fits (shapes_of s) tran1 w mask u a ≡ true → VxmOperands s x tran1 mask accum semiring u a
vxm_operands s w x at tran1 mask accum semiring u a initialized one_domain fits =
    let live = and_parts _ _ (and_parts _ _ initialized).1 in
    let live_rest = and_parts _ _ live.1 in
    let domains = of_output (shapes_of s) (object.Vector w) x.domain (object.Vector u ∷ object.Matrix a ∷ []) (monoid_domain semiring.monoid ∷ op_domain semiring.op ∷ accum_domains accum) (vector_domain-at s w x at) one_domain in
    let inputs = and_parts _ _ domains.0 in
    let given = and_parts _ _ domains.1 in
    let given_rest = given_of x.domain (op_domain semiring.op) accum given.1 in
    let dims = and_parts _ _ fits in
    let dims_rest = and_parts _ _ dims.1 in
    let y = vector_operand s x.domain u live.0 inputs.0 in
    let m = matrix_operand s x.domain a live_rest.0 (and_parts _ _ inputs.1).0 in
    record {
      inner = turned_nrows (shapes_of s) tran1 a;
      vector = record { vector = y.0; at = y.1; same_domain = y.2; same_size = sym (size-at s u y.0 y.1) ∙ sym (eqb-true _ _ dims_rest.0) };
      matrix = turned_is s a m.0 m.1 tran1 x.domain m.2 _ x.size refl (eqb-true _ _ dims.0 ∙ size-at s w x at);
      masked = vector_mask-there s w x at mask live_rest.1 dims_rest.1;
      adds = sym (same_domain-true x.domain (monoid_domain semiring.monoid) given.0);
      multiplies = given_rest.0;
      accumulates = given_rest.1;
    }

-- the operands of mxm, by its output m; the first matrix has `inner` columns and the second so many rows, each as it is turned
pub record MxmOperands (s : Store) (m : Matrix) (tran tran1 : Bool) (mask : Option MatrixId) (accum : Option BinaryOp) (semiring : SemiringParts) (a b : MatrixId) : Type 0 where
  pub inner : ℕ
  pub first : IsTurnedAt s tran a m.domain m.nrows inner
  pub second : IsTurnedAt s tran1 b m.domain inner m.ncols
  pub masked : IsMatrixMask s mask m.nrows m.ncols
  pub adds : monoid_domain semiring.monoid ≡ m.domain
  pub multiplies : op_domain semiring.op ≡ m.domain
  pub accumulates : AccumulatesIn m.domain accum

pub mxm_operands : (s : Store) (c : MatrixId) (m : Matrix) → matrix_at s c ≡ Some m → (tran tran1 : Bool) (mask : Option MatrixId) (accum : Option BinaryOp) (semiring : SemiringParts) (a b : MatrixId) →
    list_all (is_live (shapes_of s)) (object.Matrix c ∷ object.Matrix a ∷ object.Matrix b ∷ matrix_mask mask) ≡ true →
    is_one_domain (shapes_of s) (object.Matrix c ∷ object.Matrix a ∷ object.Matrix b ∷ []) (monoid_domain semiring.monoid ∷ op_domain semiring.op ∷ accum_domains accum) ≡ true →
    mxm_fits (shapes_of s) tran tran1 c mask a b ≡ true → MxmOperands s m tran tran1 mask accum semiring a b
mxm_operands s c m at tran tran1 mask accum semiring a b initialized one_domain fits =
    let live = and_parts _ _ (and_parts _ _ initialized).1 in
    let live_rest = and_parts _ _ live.1 in
    let domains = of_output (shapes_of s) (object.Matrix c) m.domain (object.Matrix a ∷ object.Matrix b ∷ []) (monoid_domain semiring.monoid ∷ op_domain semiring.op ∷ accum_domains accum) (matrix_domain-at s c m at) one_domain in
    let inputs = and_parts _ _ domains.0 in
    let given = and_parts _ _ domains.1 in
    let given_rest = given_of m.domain (op_domain semiring.op) accum given.1 in
    let rows = and_parts _ _ fits in
    let columns = and_parts _ _ rows.1 in
    let between = and_parts _ _ columns.1 in
    let x = matrix_operand s m.domain a live.0 inputs.0 in
    let y = matrix_operand s m.domain b live_rest.0 (and_parts _ _ inputs.1).0 in
    record {
      inner = turned_ncols (shapes_of s) tran a;
      first = turned_is s a x.0 x.1 tran m.domain x.2 m.nrows _ (eqb-true _ _ rows.0 ∙ nrows-at s c m at) refl;
      second = turned_is s b y.0 y.1 tran1 m.domain y.2 _ m.ncols (sym (eqb-true _ _ between.0)) (eqb-true _ _ columns.0 ∙ ncols-at s c m at);
      masked = matrix_mask-there s c m at mask live_rest.1 between.1;
      adds = sym (same_domain-true m.domain (monoid_domain semiring.monoid) given.0);
      multiplies = given_rest.0;
      accumulates = given_rest.1;
    }

-- the operands of a reduction of rows, by its output x; the matrix has `inner` columns, as it is turned
pub record ReduceRowsOperands (s : Store) (x : Vector) (tran : Bool) (mask : Option VectorId) (accum : Option BinaryOp) (monoid : Monoid) (a : MatrixId) : Type 0 where
  pub inner : ℕ
  pub matrix : IsTurnedAt s tran a x.domain x.size inner
  pub masked : IsVectorMask s mask x.size
  pub folds : monoid_domain monoid ≡ x.domain
  pub accumulates : AccumulatesIn x.domain accum

pub reduce_rows_operands : (s : Store) (w : VectorId) (x : Vector) → vector_at s w ≡ Some x → (tran : Bool) (mask : Option VectorId) (accum : Option BinaryOp) (monoid : Monoid) (a : MatrixId) →
    list_all (is_live (shapes_of s)) (object.Vector w ∷ object.Matrix a ∷ vector_mask mask) ≡ true →
    is_one_domain (shapes_of s) (object.Vector w ∷ object.Matrix a ∷ []) (monoid_domain monoid ∷ accum_domains accum) ≡ true →
    reduce_rows_fits (shapes_of s) tran w mask a ≡ true → ReduceRowsOperands s x tran mask accum monoid a
reduce_rows_operands s w x at tran mask accum monoid a initialized one_domain fits =
    let live = and_parts _ _ (and_parts _ _ initialized).1 in
    let domains = of_output (shapes_of s) (object.Vector w) x.domain (object.Matrix a ∷ []) (monoid_domain monoid ∷ accum_domains accum) (vector_domain-at s w x at) one_domain in
    let given = given_of x.domain (monoid_domain monoid) accum domains.1 in
    let dims = and_parts _ _ fits in
    let m = matrix_operand s x.domain a live.0 (and_parts _ _ domains.0).0 in
    record {
      inner = turned_ncols (shapes_of s) tran a;
      matrix = turned_is s a m.0 m.1 tran x.domain m.2 x.size _ (eqb-true _ _ dims.0 ∙ size-at s w x at) refl;
      masked = vector_mask-there s w x at mask live.1 dims.1;
      folds = given.0;
      accumulates = given.1;
    }
