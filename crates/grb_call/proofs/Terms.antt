-- The operands of transpose, apply, select, kronecker and diag that are not refused: they are there, of one domain, and of dimensions that fit;
-- and what is computed of them is whole.
use Rattle.std.proofs.Common.{◌≡◌, ℕ, ◌*◌, ◌&&◌, Bool, true, false, not, List, [], ◌∷◌, ◌++◌, refl, sym, ap, subst, ◌∙◌, Option, Some, None, IfSome, option_map}
use Rattle.std.specs.List.{list_all}
use Rattle.std.specs.Option.{option_map_or}
use Rattle.std.proofs.lemmas.Bool.{and_parts, eqb-true}
use Rattle.grb_core.specs.declared.domain.Domain.{Domain}
use Rattle.grb_core.specs.declared.operator.BinaryOp.{BinaryOp}
use Rattle.grb_core.specs.Contents.{Vector, Matrix, IsDimension, IsVector, IsMatrix, is_dimension}
use Rattle.grb_core.specs.Entries.{MatrixEntries, VectorEntries, cell_cmp}
use Rattle.grb_core.specs.Operator.{op_domain}
use Rattle.grb_core.specs.ResultLaws.{AreMatrixEntries, AreVectorEntries, IsBelow, IsCellBelow}
use Rattle.grb_core.specs.Results.{turned}
use Rattle.grb_core.specs.Written.{AccumulatesIn}
use Rattle.std.specs.Ordering.{nat_cmp}
use Rattle.grb_core.specs.declared.functions.Function.{Function}
use Rattle.grb_core.specs.declared.functions.Function.TheVariants as function
use Rattle.grb_core.specs.declared.tests.Diagonal.{Diagonal}
use Rattle.grb_core.specs.declared.tests.Test.{Test}
use Rattle.grb_core.specs.declared.tests.Test.TheVariants as test
use Rattle.grb_core.specs.Functions.{BringsItsValue, IsFunctionOf}
use Rattle.grb_core.specs.Maps.{applied, diagonal_matrix, diagonal_size, selected_cells, selected_indices}
use Rattle.grb_core.specs.Tests.{IsTestOf}
use Rattle.grb_core.proofs.Whole.{applied_makes_entries, diagonal_makes_entries, kronecker_makes_entries, selected_makes_entries}
use Rattle.grb_call.specs.declared.ids.MatrixId.{MatrixId}
use Rattle.grb_call.specs.declared.ids.VectorId.{VectorId}
use Rattle.grb_call.specs.declared.ids.Object.TheVariants as object
use Rattle.grb_call.specs.Fits.{each_matrix_fits, each_vector_fits, kronecker_matrices_fit}
use Rattle.grb_call.specs.Operands.{matrix_mask, vector_mask}
use Rattle.grb_call.specs.Operation.{accum_domains, function_domains, test_domains}
use Rattle.grb_call.specs.Output.{input_ncols, input_nrows, kronecker_computed, objects_in}
use Rattle.grb_call.specs.Refused.{same_domain, is_one_domain, turned_ncols, turned_nrows}
use Rattle.grb_call.specs.Shapes.{MatrixShape, is_live, size_at}
use Rattle.grb_call.specs.Store.{Store, shapes_of, matrix_at, vector_at, matrix_entries, vector_entries, matrix_shape}
use Rattle.grb_call.proofs.Operations.{of_output, matrix_domain-at, vector_domain-at, nrows-at, ncols-at, size-at, IsTurnedAt, IsVectorAt, IsMatrixMask, IsVectorMask, matrix_mask-there, vector_mask-there, turned_input, vector_input}
use Rattle.grb_call.proofs.Passed.{same_domain-true}
use Rattle.grb_call.proofs.Products.{matrix_operand, turned_is}
use Rattle.grb_call.proofs.ShapesAfter.{object_at-map}
use Rattle.grb_call.proofs.WholeOutputs.{input_turned-entries, input_vector-entries}

pub list_all-append : {X : Type 0} (p : X → Bool) (xs ys : List X) → list_all p (xs ++ ys) ≡ true → (list_all p xs ≡ true) × (list_all p ys ≡ true)
list_all-append p [] ys e = (refl, e)
list_all-append p (x ∷ xs) ys e =
    let parts = and_parts _ _ e in
    let rest = list_all-append p xs ys parts.1 in
    (subst (λ b. (b && list_all p xs) ≡ true) (sym parts.0) rest.0, rest.1)

accum_of : (d : Domain) (accum : Option BinaryOp) → list_all (same_domain d) (accum_domains accum) ≡ true → AccumulatesIn d accum
accum_of d None e = tt
accum_of d (Some op) e = sym (same_domain-true d (op_domain op) (and_parts _ _ e).0)

-- what a function, or a test, brings is of a domain
pub function_is : (d : Domain) (f : Function) → list_all (same_domain d) (function_domains f) ≡ true → IsFunctionOf d f
function_is d (function.Unary op) e = sym (same_domain-true d _ (and_parts _ _ e).0)
function_is d (function.First x op) e = let parts = and_parts _ _ e in (sym (same_domain-true d _ parts.0), sym (same_domain-true d _ (and_parts _ _ parts.1).0))
function_is d (function.Second op x) e = let parts = and_parts _ _ e in (sym (same_domain-true d _ parts.0), sym (same_domain-true d _ (and_parts _ _ parts.1).0))

pub test_is : (d : Domain) (t : Test) → list_all (same_domain d) (test_domains t) ≡ true → IsTestOf d t
test_is d (test.ValueEq x) e = sym (same_domain-true d _ (and_parts _ _ e).0)
test_is d (test.ValueNe x) e = sym (same_domain-true d _ (and_parts _ _ e).0)
test_is d (test.ValueLt x) e = sym (same_domain-true d _ (and_parts _ _ e).0)
test_is d (test.ValueLe x) e = sym (same_domain-true d _ (and_parts _ _ e).0)
test_is d (test.ValueGt x) e = sym (same_domain-true d _ (and_parts _ _ e).0)
test_is d (test.ValueGe x) e = sym (same_domain-true d _ (and_parts _ _ e).0)
test_is d _ e = tt

-- the operands of an operation on each entry of one input, by its output; what it computes with is of these domains
pub record EachMatrix (s : Store) (m : Matrix) (tran : Bool) (mask : Option MatrixId) (accum : Option BinaryOp) (given : List Domain) (a : MatrixId) : Type 0 where
  pub first : IsTurnedAt s tran a m.domain m.nrows m.ncols
  pub masked : IsMatrixMask s mask m.nrows m.ncols
  pub computes : list_all (same_domain m.domain) given ≡ true
  pub accumulates : AccumulatesIn m.domain accum

pub record EachVector (s : Store) (x : Vector) (mask : Option VectorId) (accum : Option BinaryOp) (given : List Domain) (u : VectorId) : Type 0 where
  pub first : IsVectorAt s u x.domain x.size
  pub masked : IsVectorMask s mask x.size
  pub computes : list_all (same_domain x.domain) given ≡ true
  pub accumulates : AccumulatesIn x.domain accum

pub each_matrix : (s : Store) (c : MatrixId) (m : Matrix) → matrix_at s c ≡ Some m → (tran : Bool) (mask : Option MatrixId) (accum : Option BinaryOp) (given : List Domain) (a : MatrixId) →
    list_all (is_live (shapes_of s)) (object.Matrix c ∷ object.Matrix a ∷ matrix_mask mask) ≡ true →
    is_one_domain (shapes_of s) (object.Matrix c ∷ object.Matrix a ∷ []) (given ++ accum_domains accum) ≡ true →
    each_matrix_fits (shapes_of s) tran c mask a ≡ true → EachMatrix s m tran mask accum given a
each_matrix s c m at tran mask accum given a initialized one_domain fits =
    let live = and_parts _ _ (and_parts _ _ initialized).1 in
    let domains = of_output (shapes_of s) (object.Matrix c) m.domain (object.Matrix a ∷ []) (given ++ accum_domains accum) (matrix_domain-at s c m at) one_domain in
    let computes = list_all-append (same_domain m.domain) given (accum_domains accum) domains.1 in
    let dims = and_parts _ _ fits in
    record {
      first = turned_input s c m at tran a live.0 (and_parts _ _ domains.0).0 dims.0;
      masked = matrix_mask-there s c m at mask live.1 dims.1;
      computes = computes.0;
      accumulates = accum_of m.domain accum computes.1;
    }

pub each_vector : (s : Store) (w : VectorId) (x : Vector) → vector_at s w ≡ Some x → (mask : Option VectorId) (accum : Option BinaryOp) (given : List Domain) (u : VectorId) →
    list_all (is_live (shapes_of s)) (object.Vector w ∷ object.Vector u ∷ vector_mask mask) ≡ true →
    is_one_domain (shapes_of s) (object.Vector w ∷ object.Vector u ∷ []) (given ++ accum_domains accum) ≡ true →
    each_vector_fits (shapes_of s) w mask u ≡ true → EachVector s x mask accum given u
each_vector s w x at mask accum given u initialized one_domain fits =
    let live = and_parts _ _ (and_parts _ _ initialized).1 in
    let domains = of_output (shapes_of s) (object.Vector w) x.domain (object.Vector u ∷ []) (given ++ accum_domains accum) (vector_domain-at s w x at) one_domain in
    let computes = list_all-append (same_domain x.domain) given (accum_domains accum) domains.1 in
    let sizes = and_parts _ _ fits in
    record {
      first = vector_input s w x at u live.0 (and_parts _ _ domains.0).0 sizes.0;
      masked = vector_mask-there s w x at mask live.1 sizes.1;
      computes = computes.0;
      accumulates = accum_of x.domain accum computes.1;
    }

-- the operands of a Kronecker product, by its output; each input has the dimensions that it has as it is turned
pub record KroneckerOperands (s : Store) (m : Matrix) (tran tran1 : Bool) (mask : Option MatrixId) (accum : Option BinaryOp) (op : BinaryOp) (a b : MatrixId) : Type 0 where
  pub nrows : ℕ
  pub ncols : ℕ
  pub more_nrows : ℕ
  pub more_ncols : ℕ
  pub first : IsTurnedAt s tran a m.domain nrows ncols
  pub second : IsTurnedAt s tran1 b m.domain more_nrows more_ncols
  pub rows_of_first : input_nrows (objects_in s) tran a ≡ nrows
  pub columns_of_first : input_ncols (objects_in s) tran a ≡ ncols
  pub rows_of_second : input_nrows (objects_in s) tran1 b ≡ more_nrows
  pub columns_of_second : input_ncols (objects_in s) tran1 b ≡ more_ncols
  pub rows : nrows * more_nrows ≡ m.nrows
  pub columns : ncols * more_ncols ≡ m.ncols
  pub masked : IsMatrixMask s mask m.nrows m.ncols
  pub computes : op_domain op ≡ m.domain
  pub accumulates : AccumulatesIn m.domain accum

nrows-shape : (o : Option Matrix) → option_map_or (λ (m : MatrixShape). m.1) (option_map matrix_shape o) 0 ≡ option_map_or (λ (m : Matrix). m.nrows) o 0
nrows-shape None = refl
nrows-shape (Some m) = refl

ncols-shape : (o : Option Matrix) → option_map_or (λ (m : MatrixShape). m.2) (option_map matrix_shape o) 0 ≡ option_map_or (λ (m : Matrix). m.ncols) o 0
ncols-shape None = refl
ncols-shape (Some m) = refl

module _ (s : Store) (a : MatrixId) where
  nrows-read : option_map_or (λ (m : Matrix). m.nrows) (matrix_at s a) 0 ≡ turned_nrows (shapes_of s) false a
  nrows-read = sym (ap (λ (o : Option MatrixShape). option_map_or (λ m. m.1) o 0) (object_at-map matrix_shape s.matrices a.0) ∙ nrows-shape (matrix_at s a))

  ncols-read : option_map_or (λ (m : Matrix). m.ncols) (matrix_at s a) 0 ≡ turned_ncols (shapes_of s) false a
  ncols-read = sym (ap (λ (o : Option MatrixShape). option_map_or (λ m. m.2) o 0) (object_at-map matrix_shape s.matrices a.0) ∙ ncols-shape (matrix_at s a))

  input_nrows-at : (tran : Bool) → input_nrows (objects_in s) tran a ≡ turned_nrows (shapes_of s) tran a
  input_nrows-at true = ncols-read
  input_nrows-at false = nrows-read

  input_ncols-at : (tran : Bool) → input_ncols (objects_in s) tran a ≡ turned_ncols (shapes_of s) tran a
  input_ncols-at true = nrows-read
  input_ncols-at false = ncols-read

pub kronecker_operands : (s : Store) (c : MatrixId) (m : Matrix) → matrix_at s c ≡ Some m → (tran tran1 : Bool) (mask : Option MatrixId) (accum : Option BinaryOp) (op : BinaryOp) (a b : MatrixId) →
    list_all (is_live (shapes_of s)) (object.Matrix c ∷ object.Matrix a ∷ object.Matrix b ∷ matrix_mask mask) ≡ true →
    is_one_domain (shapes_of s) (object.Matrix c ∷ object.Matrix a ∷ object.Matrix b ∷ []) (op_domain op ∷ accum_domains accum) ≡ true →
    kronecker_matrices_fit (shapes_of s) tran tran1 c mask a b ≡ true → KroneckerOperands s m tran tran1 mask accum op a b
kronecker_operands s c m at tran tran1 mask accum op a b initialized one_domain fits =
    let live = and_parts _ _ (and_parts _ _ initialized).1 in
    let live_rest = and_parts _ _ live.1 in
    let domains = of_output (shapes_of s) (object.Matrix c) m.domain (object.Matrix a ∷ object.Matrix b ∷ []) (op_domain op ∷ accum_domains accum) (matrix_domain-at s c m at) one_domain in
    let inputs = and_parts _ _ domains.0 in
    let given = and_parts _ _ domains.1 in
    let rows = and_parts _ _ fits in
    let columns = and_parts _ _ rows.1 in
    let x = matrix_operand s m.domain a live.0 inputs.0 in
    let y = matrix_operand s m.domain b live_rest.0 (and_parts _ _ inputs.1).0 in
    record {
      nrows = turned_nrows (shapes_of s) tran a;
      ncols = turned_ncols (shapes_of s) tran a;
      more_nrows = turned_nrows (shapes_of s) tran1 b;
      more_ncols = turned_ncols (shapes_of s) tran1 b;
      first = turned_is s a x.0 x.1 tran m.domain x.2 _ _ refl refl;
      second = turned_is s b y.0 y.1 tran1 m.domain y.2 _ _ refl refl;
      rows_of_first = input_nrows-at s a tran;
      columns_of_first = input_ncols-at s a tran;
      rows_of_second = input_nrows-at s b tran1;
      columns_of_second = input_ncols-at s b tran1;
      rows = eqb-true _ _ rows.0 ∙ nrows-at s c m at;
      columns = eqb-true _ _ columns.0 ∙ ncols-at s c m at;
      masked = matrix_mask-there s c m at mask live_rest.1 columns.1;
      computes = sym (same_domain-true m.domain (op_domain op) given.0);
      accumulates = accum_of m.domain accum given.1;
    }

-- what is computed
pub applied_matrix-entries : (s : Store) (m : Matrix) (tran : Bool) (mask : Option MatrixId) (accum : Option BinaryOp) (f : Function) (a : MatrixId) → IfSome (matrix_at s a) IsMatrix → BringsItsValue f →
    EachMatrix s m tran mask accum (function_domains f) a → AreMatrixEntries m.nrows m.ncols m.domain (applied f (turned tran (matrix_entries s a)))
applied_matrix-entries s m tran mask accum f a whole brings are =
    applied_makes_entries cell_cmp (IsCellBelow m.nrows m.ncols) m.domain f _ (function_is m.domain f are.computes) brings
    (input_turned-entries s tran a m.domain m.nrows m.ncols whole are.first)

pub applied_vector-entries : (s : Store) (x : Vector) (mask : Option VectorId) (accum : Option BinaryOp) (f : Function) (u : VectorId) → IfSome (vector_at s u) IsVector → BringsItsValue f →
    EachVector s x mask accum (function_domains f) u → AreVectorEntries x.size x.domain (applied f (vector_entries s u))
applied_vector-entries s x mask accum f u whole brings are =
    applied_makes_entries nat_cmp (IsBelow x.size) x.domain f _ (function_is x.domain f are.computes) brings
    (input_vector-entries s u x.domain x.size whole are.first)

pub selected_matrix-entries : (s : Store) (m : Matrix) (tran : Bool) (mask : Option MatrixId) (accum : Option BinaryOp) (t : Test) (a : MatrixId) → IfSome (matrix_at s a) IsMatrix →
    EachMatrix s m tran mask accum (test_domains t) a → AreMatrixEntries m.nrows m.ncols m.domain (selected_cells t (turned tran (matrix_entries s a)))
selected_matrix-entries s m tran mask accum t a whole are =
    (selected_makes_entries m.domain t).0 m.nrows m.ncols _ (input_turned-entries s tran a m.domain m.nrows m.ncols whole are.first)

pub selected_vector-entries : (s : Store) (x : Vector) (mask : Option VectorId) (accum : Option BinaryOp) (t : Test) (u : VectorId) → IfSome (vector_at s u) IsVector →
    EachVector s x mask accum (test_domains t) u → AreVectorEntries x.size x.domain (selected_indices t (vector_entries s u))
selected_vector-entries s x mask accum t u whole are =
    (selected_makes_entries x.domain t).1 x.size _ (input_vector-entries s u x.domain x.size whole are.first)

pub kronecker-entries : (s : Store) (m : Matrix) (tran tran1 : Bool) (mask : Option MatrixId) (accum : Option BinaryOp) (op : BinaryOp) (a b : MatrixId) → IfSome (matrix_at s a) IsMatrix → IfSome (matrix_at s b) IsMatrix →
    KroneckerOperands s m tran tran1 mask accum op a b → AreMatrixEntries m.nrows m.ncols m.domain (kronecker_computed (objects_in s) op tran tran1 a b)
kronecker-entries s m tran tran1 mask accum op a b whole_a whole_b are =
    let x : MatrixEntries = turned tran (matrix_entries s a) in
    let y : MatrixEntries = turned tran1 (matrix_entries s b) in
    let first = input_turned-entries s tran a m.domain are.nrows are.ncols whole_a are.first in
    let second = input_turned-entries s tran1 b m.domain are.more_nrows are.more_ncols whole_b are.second in
    let made : MatrixEntries = kronecker_computed (objects_in s) op tran tran1 a b in
    let rows : input_nrows (objects_in s) tran a * input_nrows (objects_in s) tran1 b ≡ m.nrows =
    ap (λ n. n * input_nrows (objects_in s) tran1 b) are.rows_of_first ∙ ap (λ n. are.nrows * n) are.rows_of_second ∙ are.rows in
    let columns : input_ncols (objects_in s) tran a * input_ncols (objects_in s) tran1 b ≡ m.ncols =
    ap (λ n. n * input_ncols (objects_in s) tran1 b) are.columns_of_first ∙ ap (λ n. are.ncols * n) are.columns_of_second ∙ are.columns in
    subst (λ (d : Domain). AreMatrixEntries m.nrows m.ncols d made) are.computes
    (subst (λ (n : ℕ). AreMatrixEntries n m.ncols (op_domain op) made) rows
    (subst (λ (n : ℕ). AreMatrixEntries (input_nrows (objects_in s) tran a * input_nrows (objects_in s) tran1 b) n (op_domain op) made) columns
    (kronecker_makes_entries op are.nrows are.ncols are.more_nrows are.more_ncols _ _ _ _ x y
    (subst (λ (d : Domain). AreMatrixEntries are.nrows are.ncols d x) (sym are.computes) first)
    (subst (λ (d : Domain). AreMatrixEntries are.more_nrows are.more_ncols d y) (sym are.computes) second))))

-- a matrix that is made of a vector
diagonal_is : (d : Diagonal) (x : Vector) → IsDimension (diagonal_size d x.size) → IsVector x → IsMatrix (diagonal_matrix d x)
diagonal_is d x fits is =
    let made = diagonal_makes_entries x.domain d x.size (diagonal_size d x.size) x.entries (record { ordered = is.ordered; within = is.within; of_domain = is.of_domain }) in
    record { nrows = fits; ncols = fits; ordered = made.ordered; within = made.within; of_domain = made.of_domain }

diagonal_holds : (f : Vector → Matrix) (o : Option Vector) → ((x : Vector) → o ≡ Some x → IsVector x → IsMatrix (f x)) → IfSome o IsVector → IfSome (option_map f o) IsMatrix
diagonal_holds f None keeps h = tt
diagonal_holds f (Some x) keeps h = keeps x refl h

pub diagonal-whole : (s : Store) (v : VectorId) (d : Diagonal) → is_dimension (diagonal_size d (size_at (shapes_of s) v)) ≡ true → IfSome (vector_at s v) IsVector →
    IfSome (option_map (diagonal_matrix d) (vector_at s v)) IsMatrix
diagonal-whole s v d fits whole =
    diagonal_holds (diagonal_matrix d) (vector_at s v) (λ x at is. diagonal_is d x (subst (λ n. is_dimension (diagonal_size d n) ≡ true) (size-at s v x at) fits) is) whole
