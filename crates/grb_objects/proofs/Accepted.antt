-- A call that is not refused fits the object that it changes, and what it makes of the store.
use Rattle.std.proofs.Common.{◌≡◌, ℕ, ◌<◌, Bool, true, false, not, List, [], ◌∷◌, length, refl, sym, ap, subst, ◌∙◌, arith}
use Rattle.std.specs.Prelude.{◌&&◌, ◌==◌, map, Option, Some, None, IfSome, slice_set}
use Rattle.std.specs.List.{AllByRecursion}
use Rattle.std.specs.Option.{option_map_or}
use Rattle.std.proofs.lemmas.List.Elements.{All-from_recursion}
use Rattle.grb_core.specs.declared.value.Value.{Value}
use Rattle.grb_core.specs.declared.domain.Domain.{Domain}
use Rattle.grb_core.specs.Value.{value_domain}
use Rattle.grb_core.specs.Monoid.{monoid_domain}
use Rattle.grb_core.specs.Contents.{Matrix, Vector, is_dimension}
use Rattle.grb_call.specs.declared.call.Call.{Call}
use Rattle.grb_call.specs.declared.call.Call.TheVariants as call
use Rattle.grb_call.specs.declared.class.Class.TheVariants.{Edits}
use Rattle.grb_call.specs.declared.ids.MatrixId.{MatrixId}
use Rattle.grb_call.specs.declared.ids.VectorId.{VectorId}
use Rattle.grb_call.specs.declared.ids.Object.TheVariants as object
use Rattle.grb_call.specs.Kinds.{class_of}
use Rattle.grb_call.specs.Output.{output_of, matrix_after, vector_after, matrix_left, vector_left}
use Rattle.grb_call.specs.Refused.{is_cell_of, is_index_of}
use Rattle.grb_call.specs.Store.{Store, empty_store, shapes_of, matrix_at, vector_at}
use Rattle.grb_call.specs.After.{refused, changed}
use Rattle.grb_call.proofs.Changed.{changed_matrix, changed_vector}
use Rattle.grb_call.proofs.Passed.{HasPassed, has_passed, list_all-true, recursion-weaker, cell-inside, matrix_given, index-inside, vector_given}
use Rattle.grb_objects.specs.Fits.{FitsMatrix, FitsVector, ends_matrix, ends_vector}
use Rattle.grb_objects.specs.Places.{left_of}

both_true : (a b : Bool) → (a && b) ≡ true → (a ≡ true) × (b ≡ true)
both_true true true e = (refl, refl)
both_true true false e = cc
both_true false b e = cc

if_some : {X : Type 0} (P : X → Type 0) (o : Option X) → ((x : X) → o ≡ Some x → P x) → IfSome o P
if_some P None f = tt
if_some P (Some x) f = f x refl

-- no entries
none_stored : {X : Type 0} (xs : List X) → not (length xs == 0) ≡ false → xs ≡ []
none_stored [] e = refl
none_stored (x ∷ xs) e = let none : length (x ∷ xs) ≡ 0 = grind arith in absurd (omega arith)

domains_given : {X : Type 0} (d : Domain) (f : X → Domain) (xs : List X) → AllByRecursion (λ e. d ≡ e) (map f xs) → AllByRecursion (λ x. f x ≡ d) xs
domains_given d f [] h = tt
domains_given d f (x ∷ xs) h = (sym h.0, domains_given d f xs h.1)

module _ (s : Store) (a : MatrixId) (m : Matrix) (at : matrix_at s a ≡ Some m) where
  pub fits_matrix_at : (c : Call) → output_of c ≡ Some (object.Matrix a) → class_of c ≡ Edits → refused s c ≡ None → FitsMatrix c m
  fits_matrix_at (call.SetMatrix b i j value) is edits accepted =
      let same : b ≡ a = cc in let c : Call = call.SetMatrix a i j value in
      let p : HasPassed s c = has_passed s c (subst (λ (x : MatrixId). refused s (call.SetMatrix x i j value) ≡ None) same accepted) in
      let inside = cell-inside s a m at i j p.index in
      (inside.0, inside.1, sym (matrix_given s a m at (value_domain value ∷ []) p.one_domain).0)
  fits_matrix_at (call.RemoveMatrix b i j) is edits accepted =
      let same : b ≡ a = cc in let c : Call = call.RemoveMatrix a i j in
      let p : HasPassed s c = has_passed s c (subst (λ (x : MatrixId). refused s (call.RemoveMatrix x i j) ≡ None) same accepted) in
      cell-inside s a m at i j p.index
  fits_matrix_at (call.ResizeMatrix b nrows ncols) is edits accepted =
      let p : HasPassed s (call.ResizeMatrix b nrows ncols) = has_passed s (call.ResizeMatrix b nrows ncols) accepted in
      both_true (is_dimension nrows) (is_dimension ncols) p.values
  fits_matrix_at (call.BuildMatrix b tuples dup) is edits accepted =
      let same : b ≡ a = cc in let c : Call = call.BuildMatrix a tuples dup in
      let p : HasPassed s c = has_passed s c (subst (λ (x : MatrixId). refused s (call.BuildMatrix x tuples dup) ≡ None) same accepted) in
      let stored : not (length m.entries == 0) ≡ false = subst (λ (o : Option Matrix). not (length (option_map_or (λ x. x.entries) o []) == 0) ≡ false) at p.no_entries in
      let given = matrix_given s a m at (monoid_domain dup ∷ map (λ e. value_domain e.2) tuples) p.one_domain in
      let inside = recursion-weaker (λ (e : ℕ × ℕ × Value). is_cell_of (shapes_of s) a e.0 e.1 ≡ true) (λ (e : ℕ × ℕ × Value). (e.0 < m.nrows) × (e.1 < m.ncols))
      (λ e h. cell-inside s a m at e.0 e.1 h) tuples (list_all-true (λ (e : ℕ × ℕ × Value). is_cell_of (shapes_of s) a e.0 e.1) tuples p.in_bounds) in
      (none_stored m.entries stored, All-from_recursion _ tuples inside, sym given.0, All-from_recursion _ tuples (domains_given m.domain (λ (e : ℕ × ℕ × Value). value_domain e.2) tuples given.1))
  fits_matrix_at (call.ClearMatrix b) is edits accepted = tt
  fits_matrix_at (call.FreeMatrix b) is edits accepted = tt
  fits_matrix_at _ is edits accepted = cc

pub fits_matrix : (s : Store) (a : MatrixId) (c : Call) → output_of c ≡ Some (object.Matrix a) → class_of c ≡ Edits → refused s c ≡ None → IfSome (matrix_at s a) (FitsMatrix c)
fits_matrix s a c is edits accepted = if_some (FitsMatrix c) (matrix_at s a) (λ m at. fits_matrix_at s a m at c is edits accepted)

module _ (s : Store) (v : VectorId) (x : Vector) (at : vector_at s v ≡ Some x) where
  pub fits_vector_at : (c : Call) → output_of c ≡ Some (object.Vector v) → class_of c ≡ Edits → refused s c ≡ None → FitsVector c x
  fits_vector_at (call.SetVector w i value) is edits accepted =
      let same : w ≡ v = cc in let c : Call = call.SetVector v i value in
      let p : HasPassed s c = has_passed s c (subst (λ (y : VectorId). refused s (call.SetVector y i value) ≡ None) same accepted) in
      (index-inside s v x at i p.index, sym (vector_given s v x at (value_domain value ∷ []) p.one_domain).0)
  fits_vector_at (call.RemoveVector w i) is edits accepted =
      let same : w ≡ v = cc in let c : Call = call.RemoveVector v i in
      let p : HasPassed s c = has_passed s c (subst (λ (y : VectorId). refused s (call.RemoveVector y i) ≡ None) same accepted) in
      index-inside s v x at i p.index
  fits_vector_at (call.ResizeVector w size) is edits accepted =
      let p : HasPassed s (call.ResizeVector w size) = has_passed s (call.ResizeVector w size) accepted in
      p.values
  fits_vector_at (call.BuildVector w tuples dup) is edits accepted =
      let same : w ≡ v = cc in let c : Call = call.BuildVector v tuples dup in
      let p : HasPassed s c = has_passed s c (subst (λ (y : VectorId). refused s (call.BuildVector y tuples dup) ≡ None) same accepted) in
      let stored : not (length x.entries == 0) ≡ false = subst (λ (o : Option Vector). not (length (option_map_or (λ y. y.entries) o []) == 0) ≡ false) at p.no_entries in
      let given = vector_given s v x at (monoid_domain dup ∷ map (λ e. value_domain e.1) tuples) p.one_domain in
      let inside = recursion-weaker (λ (e : ℕ × Value). is_index_of (shapes_of s) v e.0 ≡ true) (λ (e : ℕ × Value). e.0 < x.size)
      (λ e h. index-inside s v x at e.0 h) tuples (list_all-true (λ (e : ℕ × Value). is_index_of (shapes_of s) v e.0) tuples p.in_bounds) in
      (none_stored x.entries stored, All-from_recursion _ tuples inside, sym given.0, All-from_recursion _ tuples (domains_given x.domain (λ (e : ℕ × Value). value_domain e.1) tuples given.1))
  fits_vector_at (call.ClearVector w) is edits accepted = tt
  fits_vector_at (call.FreeVector w) is edits accepted = tt
  fits_vector_at _ is edits accepted = cc

pub fits_vector : (s : Store) (v : VectorId) (c : Call) → output_of c ≡ Some (object.Vector v) → class_of c ≡ Edits → refused s c ≡ None → IfSome (vector_at s v) (FitsVector c)
fits_vector s v c is edits accepted = if_some (FitsVector c) (vector_at s v) (λ x at. fits_vector_at s v x at c is edits accepted)

-- what a call that edits leaves of its output, it leaves in each store
matrix_after_alone : (s t : Store) (c : Call) (m : Matrix) → class_of c ≡ Edits → matrix_after s c m ≡ matrix_after t c m
matrix_after_alone s t (call.SetMatrix a i j value) m edits = refl
matrix_after_alone s t _ m edits = cc

pub matrix_left_alone : (s t : Store) (c : Call) (o : Option Matrix) → class_of c ≡ Edits → left_of (ends_matrix c) (matrix_after s c) o ≡ matrix_left t c o
matrix_left_alone s t (call.FreeMatrix a) o edits = refl
matrix_left_alone s t c None edits = refl
matrix_left_alone s t c (Some m) edits = ap (λ (x : Matrix). Some x) (matrix_after_alone s t c m edits)

vector_after_alone : (s t : Store) (c : Call) (x : Vector) → class_of c ≡ Edits → vector_after s c x ≡ vector_after t c x
vector_after_alone s t (call.SetVector v i value) x edits = refl
vector_after_alone s t _ x edits = cc

pub vector_left_alone : (s t : Store) (c : Call) (o : Option Vector) → class_of c ≡ Edits → left_of (ends_vector c) (vector_after s c) o ≡ vector_left t c o
vector_left_alone s t (call.FreeVector a) o edits = refl
vector_left_alone s t c None edits = refl
vector_left_alone s t c (Some m) edits = ap (λ (x : Vector). Some x) (vector_after_alone s t c m edits)

abbrev with_matrices : Store → List (Option Matrix) → Store
with_matrices s ms = record { matrices = ms; vectors = s.vectors }

abbrev with_vectors : Store → List (Option Vector) → Store
with_vectors s vs = record { matrices = s.matrices; vectors = vs }

-- the store in which that output alone is changed
pub matrix_edited : (s : Store) (a : MatrixId) (c : Call) (ms : List (Option Matrix)) → output_of c ≡ Some (object.Matrix a) → class_of c ≡ Edits →
    ms ≡ slice_set s.matrices a.0 (left_of (ends_matrix c) (matrix_after empty_store c) (matrix_at s a)) → ◌≡◌ {A = Store} (record { matrices = ms; vectors = s.vectors }) (changed s c)
matrix_edited s a c ms is edits e =
    ap (λ (xs : List (Option Matrix)). with_matrices s xs) (e ∙ ap (λ (o : Option Matrix). slice_set s.matrices a.0 o) (matrix_left_alone empty_store s c (matrix_at s a) edits))
    ∙ sym (changed_matrix s a c is)

pub vector_edited : (s : Store) (v : VectorId) (c : Call) (vs : List (Option Vector)) → output_of c ≡ Some (object.Vector v) → class_of c ≡ Edits →
    vs ≡ slice_set s.vectors v.0 (left_of (ends_vector c) (vector_after empty_store c) (vector_at s v)) → ◌≡◌ {A = Store} (record { matrices = s.matrices; vectors = vs }) (changed s c)
vector_edited s v c vs is edits e =
    ap (λ (xs : List (Option Vector)). with_vectors s xs) (e ∙ ap (λ (o : Option Vector). slice_set s.vectors v.0 o) (vector_left_alone empty_store s c (vector_at s v) edits))
    ∙ sym (changed_vector s v c is)
