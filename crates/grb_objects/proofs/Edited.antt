-- What an edit makes of one object by itself, it makes of that object in each store.
use Rattle.std.proofs.Common.{◌≡◌, ◌≢◌, ℕ, zero, suc, ◌<◌, false, List, [], ◌∷◌, ◌++◌, length, refl, sym, ap, subst, ◌∙◌, Option, Some, None, slice_set, arith}
use Rattle.std.specs.Prelude.{Bool}
use Rattle.grb_core.specs.Contents.{Matrix, Vector}
use Rattle.grb_sparse.specs.Matrix.{SparseMatrixView}
use Rattle.grb_sparse.specs.Vector.{SparseVectorView}
use Rattle.grb_call.specs.declared.call.Call.{Call}
use Rattle.grb_call.specs.declared.call.Call.TheVariants as call
use Rattle.grb_call.specs.declared.class.Class.TheVariants.{Edits}
use Rattle.grb_call.specs.declared.ids.Object.{Object}
use Rattle.grb_call.specs.declared.ids.Object.TheVariants as object
use Rattle.grb_call.specs.Kinds.{class_of}
use Rattle.grb_call.specs.Output.{output_of, matrix_after, vector_after, matrix_left, vector_left}
use Rattle.grb_call.specs.Shapes.{object_at}
use Rattle.grb_call.specs.Store.{Store, empty_store, matrix_at, vector_at}
use Rattle.grb_call.specs.After.{changed, refused}
use Rattle.grb_objects.specs.Fits.{FitsMatrix, FitsVector, ends_matrix, ends_vector}
use Rattle.grb_objects.specs.Places.{contents_at, left_of}
use Rattle.grb_objects.specs.declared.shared_content.SharedContent.{SharedContent}
use Rattle.grb_objects.specs.declared.shared_content.SharedContent.TheVariants as shared
use Rattle.grb_objects.specs.SharedContent.{IsAt, MayEdit, is_free}
use Rattle.grb_call.proofs.Changed.{changed_matrix, changed_vector}
use Rattle.grb_call.proofs.ObjectLists.{object_at-set_other}
use Rattle.grb_objects.proofs.ByNumber.{set_at}
use Rattle.grb_objects.proofs.Accepted.{fits_matrix_at, fits_vector_at, matrix_left_alone, vector_left_alone}

-- one place more, with nothing there
pub object_at-more : {X Y : Type 0} (f : X → Y) (xs : List (Option X)) (n : ℕ) → object_at (contents_at f (xs ++ None ∷ [])) n ≡ object_at (contents_at f xs) n
object_at-more f [] zero = refl
object_at-more f [] (suc n) = refl
object_at-more f (x ∷ xs) zero = refl
object_at-more f (x ∷ xs) (suc n) = object_at-more f xs n

-- the object that was put at a number
object_at-put : {X : Type 0} (xs : List (Option X)) (n : ℕ) (x : X) (y : Option X) → object_at xs n ≡ Some x → object_at (slice_set xs n y) n ≡ y
object_at-put [] n x y e = cc
object_at-put (z ∷ xs) zero x y e = refl
object_at-put (z ∷ xs) (suc n) x y e = object_at-put xs n x y e

stays_matrix : (c : Call) → is_free c ≡ false → ends_matrix c ≡ false
stays_matrix (call.FreeMatrix a) e = cc
stays_matrix _ e = refl

stays_vector : (c : Call) → is_free c ≡ false → ends_vector c ≡ false
stays_vector (call.FreeVector v) e = cc
stays_vector _ e = refl

fits_matrix_by : (s : Store) (o : Object) (c : Call) (m : SparseMatrixView) → output_of c ≡ Some o → IsAt s o (shared.Matrix m) → class_of c ≡ Edits → refused s c ≡ None → FitsMatrix c m.matrix
fits_matrix_by s (object.Matrix a) c m is held edits accepted = fits_matrix_at s a m.matrix held c is edits accepted
fits_matrix_by s (object.Vector v) c m is held edits accepted = absurd held

fits_vector_by : (s : Store) (o : Object) (c : Call) (x : SparseVectorView) → output_of c ≡ Some o → IsAt s o (shared.Vector x) → class_of c ≡ Edits → refused s c ≡ None → FitsVector c x.vector
fits_vector_by s (object.Matrix a) c x is held edits accepted = absurd held
fits_vector_by s (object.Vector v) c x is held edits accepted = fits_vector_at s v x.vector held c is edits accepted

pub may_edit_matrix : (c : Call) (x : SharedContent) (m : SparseMatrixView) → x ≡ shared.Matrix m → class_of c ≡ Edits → MayEdit c x → FitsMatrix c m.matrix
may_edit_matrix c x m e edits may = fits_matrix_by may.store may.output c m may.is_output (subst (λ (y : SharedContent). IsAt may.store may.output y) e may.held) edits may.accepted

pub may_edit_vector : (c : Call) (x : SharedContent) (y : SparseVectorView) → x ≡ shared.Vector y → class_of c ≡ Edits → MayEdit c x → FitsVector c y.vector
may_edit_vector c x y e edits may = fits_vector_by may.store may.output c y may.is_output (subst (λ (z : SharedContent). IsAt may.store may.output z) e may.held) edits may.accepted

module _ (c : Call) (edits : class_of c ≡ Edits) (on : is_free c ≡ false) where
  pub edited_matrix : (m n : SparseMatrixView) → n.matrix ≡ matrix_after empty_store c m.matrix →
      (s : Store) (o : Object) → output_of c ≡ Some o → IsAt s o (shared.Matrix m) → IsAt (changed s c) o (shared.Matrix n)
  edited_matrix m n made s (object.Vector v) is held = absurd held
  edited_matrix m n made s (object.Matrix a) is held =
      ap (λ (t : Store). matrix_at t a) (changed_matrix s a c is)
      ∙ (object_at-put s.matrices a.0 m.matrix (matrix_left s c (matrix_at s a)) held
      ∙ (ap (λ (o : Option Matrix). matrix_left s c o) held
      ∙ (sym (matrix_left_alone empty_store s c (Some m.matrix) edits)
      ∙ (ap (λ (b : Bool). left_of b (matrix_after empty_store c) (Some m.matrix)) (stays_matrix c on) ∙ ap (λ (x : Matrix). Some x) (sym made)))))

  pub edited_vector : (x y : SparseVectorView) → y.vector ≡ vector_after empty_store c x.vector →
      (s : Store) (o : Object) → output_of c ≡ Some o → IsAt s o (shared.Vector x) → IsAt (changed s c) o (shared.Vector y)
  edited_vector x y made s (object.Matrix a) is held = absurd held
  edited_vector x y made s (object.Vector v) is held =
      ap (λ (t : Store). vector_at t v) (changed_vector s v c is)
      ∙ (object_at-put s.vectors v.0 x.vector (vector_left s c (vector_at s v)) held
      ∙ (ap (λ (o : Option Vector). vector_left s c o) held
      ∙ (sym (vector_left_alone empty_store s c (Some x.vector) edits)
      ∙ (ap (λ (b : Bool). left_of b (vector_after empty_store c) (Some x.vector)) (stays_vector c on) ∙ ap (λ (z : Vector). Some z) (sym made)))))

-- what was put at a place, and what stands at the others
module _ {X Y : Type 0} (f : X → Y) where
  pub put_held : (xs : List (Option X)) (k m : ℕ) (x : X) → k ≡ m → k < length xs → object_at (contents_at f (slice_set xs k (Some x))) m ≡ Some (f x)
  put_held [] k m x same near = absurd (omega arith)
  put_held (y ∷ xs) zero zero x same near = refl
  put_held (y ∷ xs) zero (suc m) x same near = absurd (omega arith)
  put_held (y ∷ xs) (suc k) zero x same near = absurd (omega arith)
  put_held (y ∷ xs) (suc k) (suc m) x same near = put_held xs k m x (omega arith) (omega arith)

  pub put_others : (xs : List (Option X)) (k m n : ℕ) (x : X) → k ≡ m → m ≢ n → object_at (contents_at f (slice_set xs k (Some x))) n ≡ object_at (contents_at f xs) n
  put_others xs k m n x same apart = ap (λ (ys : List (Option Y)). object_at ys n) (set_at f xs k (Some x)) ∙ object_at-set_other (contents_at f xs) k n (Some (f x)) (λ e. apart (sym same ∙ e))
