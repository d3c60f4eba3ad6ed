-- inside: no public contract names it. How the objects of each operation fit together, by the operation's own objects.
use Rattle.std.specs.Prelude.{Bool, ◌*◌, ◌&&◌, ◌==◌, Option}
use Rattle.std.specs.Option.{option_map}
use Rattle.grb_call.specs.declared.ids.MatrixId.{MatrixId}
use Rattle.grb_call.specs.declared.ids.VectorId.{VectorId}
use Rattle.grb_call.specs.declared.ids.Object.TheVariants.{Matrix, Vector}
use Rattle.grb_call.specs.Shapes.{ObjectShapes, nrows_at, ncols_at, size_at}
use Rattle.grb_call.specs.Refused.{dims_at, mask_fits, same_size, turned_dims, turned_nrows, turned_ncols}

abbrev pub same_dims : ObjectShapes → MatrixId → MatrixId → Bool
same_dims s a b = (nrows_at s a == nrows_at s b) && (ncols_at s a == ncols_at s b)

abbrev pub matrix_mask_fits : ObjectShapes → Option MatrixId → MatrixId → Bool
matrix_mask_fits s mask c = mask_fits s (option_map Matrix mask) (dims_at s (Matrix c))

abbrev pub vector_mask_fits : ObjectShapes → Option VectorId → VectorId → Bool
vector_mask_fits s mask w = mask_fits s (option_map Vector mask) (dims_at s (Vector w))

abbrev pub ewise_matrices_fit : ObjectShapes → Bool → Bool → MatrixId → Option MatrixId → MatrixId → MatrixId → Bool
ewise_matrices_fit s tran tran1 c mask a b = turned_dims s tran a c && (turned_dims s tran1 b c && matrix_mask_fits s mask c)

abbrev pub ewise_vectors_fit : ObjectShapes → VectorId → Option VectorId → VectorId → VectorId → Bool
ewise_vectors_fit s w mask u v = same_size s u w && (same_size s v w && vector_mask_fits s mask w)

abbrev pub mxv_fits : ObjectShapes → Bool → VectorId → Option VectorId → MatrixId → VectorId → Bool
mxv_fits s tran w mask a u = (turned_nrows s tran a == size_at s w) && ((turned_ncols s tran a == size_at s u) && vector_mask_fits s mask w)

abbrev pub vxm_fits : ObjectShapes → Bool → VectorId → Option VectorId → VectorId → MatrixId → Bool
vxm_fits s tran1 w mask u a = (turned_ncols s tran1 a == size_at s w) && ((turned_nrows s tran1 a == size_at s u) && vector_mask_fits s mask w)

abbrev pub mxm_fits : ObjectShapes → Bool → Bool → MatrixId → Option MatrixId → MatrixId → MatrixId → Bool
mxm_fits s tran tran1 c mask a b =
    (turned_nrows s tran a == nrows_at s c) && ((turned_ncols s tran1 b == ncols_at s c) && ((turned_ncols s tran a == turned_nrows s tran1 b) && matrix_mask_fits s mask c))

abbrev pub each_matrix_fits : ObjectShapes → Bool → MatrixId → Option MatrixId → MatrixId → Bool
each_matrix_fits s tran c mask a = turned_dims s tran a c && matrix_mask_fits s mask c

abbrev pub each_vector_fits : ObjectShapes → VectorId → Option VectorId → VectorId → Bool
each_vector_fits s w mask u = same_size s u w && vector_mask_fits s mask w

abbrev pub kronecker_matrices_fit : ObjectShapes → Bool → Bool → MatrixId → Option MatrixId → MatrixId → MatrixId → Bool
kronecker_matrices_fit s tran tran1 c mask a b =
    (turned_nrows s tran a * turned_nrows s tran1 b == nrows_at s c) && ((turned_ncols s tran a * turned_ncols s tran1 b == ncols_at s c) && matrix_mask_fits s mask c)

abbrev pub reduce_rows_fits : ObjectShapes → Bool → VectorId → Option VectorId → MatrixId → Bool
reduce_rows_fits s tran w mask a = (turned_nrows s tran a == size_at s w) && vector_mask_fits s mask w
