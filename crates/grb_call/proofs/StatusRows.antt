-- The statuses that two rows hold, when the rows are made and when a place is put.
use Rattle.std.proofs.Common.{◌≡◌, ◌≢◌, ℕ, zero, suc, ◌<◌, ◌≤◌, Bool, true, false, cond, List, [], ◌∷◌, length, replicate, refl, sym, ap, ◌∙◌, arith, eq-eqb, ne_eqb}
use mathlib.Core.Logic.{dite}
use native.Mathlib.Decide.{ℕ_discrete}
use Rattle.std.specs.Prelude.{◌&&◌, ◌==◌, nat_lt, Option, Some, None, slice_set}
use Rattle.std.proofs.lemmas.Bool.{ltb-true, ltb-false}
use Rattle.grb_core.specs.declared.refusal.Info.{Info}
use Rattle.grb_call.specs.declared.ids.MatrixId.{MatrixId}
use Rattle.grb_call.specs.declared.ids.VectorId.{VectorId}
use Rattle.grb_call.specs.declared.ids.Object.{Object}
use Rattle.grb_call.specs.declared.ids.Object.TheVariants as object
use Rattle.grb_call.specs.Shapes.{object_at}
use Rattle.grb_call.specs.Status.{with_status}
use Rattle.grb_call.proofs.ObjectLists.{object_at-set_other}
use Rattle.grb_call.specs.Statuses.{StatusRows, AreRows, no_rows, status_at}

abbrev blank : Option Info
blank = None

none_in : (n m : ℕ) → object_at (replicate n blank) m ≡ None
none_in zero m = refl
none_in (suc n) zero = refl
none_in (suc n) (suc m) = none_in n m

-- rows with no status
pub none_at : (room : ℕ) (x : Object) → status_at (no_rows room) x ≡ None
none_at room (object.Matrix a) = none_in room a.0
none_at room (object.Vector v) = none_in room v.0

set_here : (row : List (Option Info)) (n : ℕ) (status : Info) → n < length row → object_at (slice_set row n (Some status)) n ≡ Some status
set_here [] n status lt = absurd (omega arith)
set_here (o ∷ row) zero status lt = refl
set_here (o ∷ row) (suc n) status lt = set_here row n status (omega arith)

set_past : (row : List (Option Info)) (n m : ℕ) (status : Info) → length row ≤ n → object_at (slice_set row n (Some status)) m ≡ object_at row m
set_past [] n m status le = refl
set_past (o ∷ row) zero m status le = absurd (omega arith)
set_past (o ∷ row) (suc n) zero status le = refl
set_past (o ∷ row) (suc n) (suc m) status le = set_past row n m status (omega arith)

module _ {X : Type 0} (x y : X) where
  neither : (b c : Bool) → c ≡ false → cond (b && c) x y ≡ y
  neither true c e = ap (λ (d : Bool). cond d x y) e
  neither false c e = refl

  not_first : (b c : Bool) → b ≡ false → cond (b && c) x y ≡ y
  not_first b c e = ap (λ (d : Bool). cond (d && c) x y) e

  both : (b c : Bool) → b ≡ true → c ≡ true → cond (b && c) x y ≡ x
  both b c e f = ap (λ (d : Bool). cond (d && c) x y) e ∙ ap (λ (d : Bool). cond d x y) f

-- a place that is put
module _ (row : List (Option Info)) (room : ℕ) (status : Info) (is : length row ≡ room) where
  abbrev IsPut : ℕ → ℕ → Type 0
  IsPut n m = object_at (slice_set row n (Some status)) m ≡ cond (nat_lt n room && (n == m)) (Some status) (object_at row m)

  put_here : (n m : ℕ) (b : Bool) → nat_lt n room ≡ b → n ≡ m → IsPut n m
  put_here n m true e same =
      let lt : n < room = ltb-true n room e in
      ap (λ (k : ℕ). object_at (slice_set row n (Some status)) k) (sym same) ∙ set_here row n status (omega (arith, is))
      ∙ sym (both (Some status) (object_at row m) (nat_lt n room) (n == m) e (eq-eqb n m same))
  put_here n m false e same =
      let le : room ≤ n = ltb-false n room e in
      set_past row n m status (omega (arith, is)) ∙ sym (not_first (Some status) (object_at row m) (nat_lt n room) (n == m) e)

  put_at : (n m : ℕ) → IsPut n m
  put_at n m = dite (ℕ_discrete n m)
      (put_here n m (nat_lt n room) refl)
      (λ (ne : n ≢ m). object_at-set_other row n m (Some status) ne ∙ sym (neither (Some status) (object_at row m) (nat_lt n room) (n == m) (ne_eqb n m ne)))

module _ (rows : StatusRows) (room : ℕ) (are : AreRows rows.matrices rows.vectors room) (status : Info) where
  matrix_at : (a : MatrixId) (x : Object) → status_at (record rows { matrices = slice_set rows.matrices a.0 (Some status) }) x ≡ with_status room (Some (object.Matrix a)) status (status_at rows) x
  matrix_at a (object.Matrix b) = put_at rows.matrices room status are.matrices_are a.0 b.0
  matrix_at a (object.Vector w) = sym (neither (Some status) (object_at rows.vectors w.0) (nat_lt a.0 room) false refl)

  vector_at : (v : VectorId) (x : Object) → status_at (record rows { vectors = slice_set rows.vectors v.0 (Some status) }) x ≡ with_status room (Some (object.Vector v)) status (status_at rows) x
  vector_at v (object.Matrix b) = sym (neither (Some status) (object_at rows.matrices b.0) (nat_lt v.0 room) false refl)
  vector_at v (object.Vector w) = put_at rows.vectors room status are.vectors_are v.0 w.0

  -- the status of a matrix, or of a vector, is put into the row of its sort
  pub matrix_kept : (a : MatrixId) → status_at (record rows { matrices = slice_set rows.matrices a.0 (Some status) }) ≡ with_status room (Some (object.Matrix a)) status (status_at rows)
  matrix_kept a = λ i x. matrix_at a x i

  pub vector_kept : (v : VectorId) → status_at (record rows { vectors = slice_set rows.vectors v.0 (Some status) }) ≡ with_status room (Some (object.Vector v)) status (status_at rows)
  vector_kept v = λ i x. vector_at v x i
