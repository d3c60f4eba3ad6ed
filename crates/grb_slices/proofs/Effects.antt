-- What a call makes of each object: of its target what its outcome says, and nothing of any other; and that the outcome is a matter
-- of what the call reads. Each case over calls stands here.
use Rattle.std.proofs.Common.{◌≡◌, ◌≢◌, ℕ, zero, suc, Bool, true, false, not, ◌&&◌, nat_lt, if◌then◌else◌, List, [], ◌∷◌, ◌++◌, map, length, refl, sym, ap, subst, ◌∙◌, Option, Some, None, option_map, slice_set, IfSome}
use Rattle.grb_slices.proofs.Prelude.{length-map, ◌==◌, list_all, option_map_or, option_or, Refusal, OutputNotEmpty, IndexOutOfBounds, Call, MatrixId, VectorId, Object, ObjectShapes, MatrixShape, VectorShape, object_at, masks, named, objects_read, operands, objects_in, output_of, matrix_after, vector_after, matrix_left, vector_left, matrix_made, vector_made, refused_by_shapes, is_in_bounds, Store, shapes_of, matrix_shape, vector_shape, matrix_at, vector_at, has_old_entries, refused_build, changed, output_changed, after, object_at-map, Content, MatrixContent, VectorContent, Contents, content_at, target_of, effective_target, matrix_held, vector_held, objects_held, can_fill_matrix, can_fill_vector, filled_matrix, filled_vector, content_made, output_made, outcome, AgreeOn, is_among}
use Rattle.grb_core.specs.declared.value.Value.{Value}
use Rattle.grb_core.specs.declared.monoid.Monoid.{Monoid}
use Rattle.grb_core.specs.Contents.{Matrix, Vector}
use Rattle.grb_core.specs.Entries.{nvals_of}
use Rattle.grb_core.specs.declared.tests.Diagonal.{Diagonal}
use Rattle.grb_core.specs.Maps.{diagonal_matrix}
use Rattle.grb_call.specs.declared.call.Call.TheVariants as call
use Rattle.grb_call.specs.declared.ids.Object.TheVariants as object
use Rattle.grb_call.specs.declared.operation.Operation.{Operation}
use Rattle.grb_call.specs.Operation.{if_any, operation_inputs, operation_of, operation_objects}
use Rattle.grb_call.proofs.Changed.{matrix_left-none, vector_left-none}
use Rattle.grb_call.proofs.ObjectLists.{object_at-end}
use Rattle.grb_call.proofs.ObjectsAfter.{other_matrix-output, other_vector-output}
use Rattle.grb_call.proofs.Operated.{SameObject, ReadsSame, matrix_made-same, vector_made-same}
use Rattle.grb_slices.proofs.Outputs.{output_among}
use Rattle.grb_slices.specs.Content.{diagonal_content}
use Rattle.grb_slices.proofs.Wants.{among_after, among_before, among_first, among_next}

-- places of a list of objects
module _ {X : Type 0} where
  object_at-set_own : (xs : List (Option X)) (n : ℕ) (f : Option X → Option X) → f None ≡ None → object_at (slice_set xs n (f (object_at xs n))) n ≡ f (object_at xs n)
  object_at-set_own [] n f none = sym none
  object_at-set_own (x ∷ xs) zero f none = refl
  object_at-set_own (x ∷ xs) (suc n) f none = object_at-set_own xs n f none

  object_at-push_other : (xs : List (Option X)) (o : Option X) (n : ℕ) → n ≢ length xs → object_at (xs ++ o ∷ []) n ≡ object_at xs n
  object_at-push_other [] o zero other = absurd (other refl)
  object_at-push_other [] o (suc n) other = refl
  object_at-push_other (x ∷ xs) o zero other = refl
  object_at-push_other (x ∷ xs) o (suc n) other = object_at-push_other xs o n (λ e. other (ap suc e))

  object_at-count : {Y : Type 0} (g : X → Y) (xs : List (Option X)) (o : Option X) → object_at (xs ++ o ∷ []) (length (map (option_map g) xs)) ≡ o
  object_at-count g xs o = ap (object_at (xs ++ o ∷ [])) (length-map xs (option_map g)) ∙ object_at-end xs o

-- what a call reads of the store is what its objects hold
held_m : (o : Option Matrix) → matrix_held (option_map MatrixContent o) ≡ o
held_m None = refl
held_m (Some m) = refl

held_v : (o : Option Vector) → vector_held (option_map VectorContent o) ≡ o
held_v None = refl
held_v (Some x) = refl

module _ (s : Store) where
  in_any : (o : Object) → SameObject (objects_in s) (objects_held (content_at s)) o
  in_any (object.Matrix a) = sym (held_m (matrix_at s a))
  in_any (object.Vector v) = sym (held_v (vector_at s v))

  if_any-in : (q : Option Object) → IfSome q (SameObject (objects_in s) (objects_held (content_at s)))
  if_any-in None = tt
  if_any-in (Some o) = in_any o

  reads_in : (q : Option Operation) → IfSome q (ReadsSame (objects_in s) (objects_held (content_at s)))
  reads_in None = tt
  reads_in (Some o) = record { first = if_any-in o.first; second = if_any-in o.second; mask = if_any-in o.mask }

  made_m : (c : Call) (m : Matrix) → matrix_after s c m ≡ matrix_made (objects_held (content_at s)) c m
  made_m c m = matrix_made-same (objects_in s) (objects_held (content_at s)) c m (reads_in (operation_of c))

  made_v : (c : Call) (x : Vector) → vector_after s c x ≡ vector_made (objects_held (content_at s)) c x
  made_v c x = vector_made-same (objects_in s) (objects_held (content_at s)) c x (reads_in (operation_of c))

-- the call ends its output, or may find it filled
abbrev ends_or_fills : Call → Bool
ends_or_fills (call.FreeMatrix a) = true
ends_or_fills (call.FreeVector v) = true
ends_or_fills (call.BuildMatrix a tuples dup) = true
ends_or_fills (call.BuildVector v tuples dup) = true
ends_or_fills _ = false

-- what any other call leaves of its output
module _ (s : Store) where
  left_m : (c : Call) (o : Option Matrix) → ends_or_fills c ≡ false → option_map MatrixContent (matrix_left s c o) ≡ option_map (content_made (content_at s) c) (option_map MatrixContent o)
  left_m (call.FreeMatrix a) o e = cc
  left_m (call.BuildMatrix a tuples dup) o e = cc
  left_m c None e = ap (option_map MatrixContent) (matrix_left-none s c)
  left_m c (Some m) e = ap (λ y. Some (MatrixContent y)) (made_m s c m)

  left_v : (c : Call) (o : Option Vector) → ends_or_fills c ≡ false → option_map VectorContent (vector_left s c o) ≡ option_map (content_made (content_at s) c) (option_map VectorContent o)
  left_v (call.FreeVector v) o e = cc
  left_v (call.BuildVector v tuples dup) o e = cc
  left_v c None e = ap (option_map VectorContent) (vector_left-none s c)
  left_v c (Some x) e = ap (λ y. Some (VectorContent y)) (made_v s c x)

  own-output : (c : Call) (q : Option Object) → ends_or_fills c ≡ false → IfSome q (λ o. content_at (output_changed s c q) o ≡ output_made (content_at s) c q)
  own-output c None e = tt
  own-output c (Some (object.Matrix a)) e = ap (option_map MatrixContent) (object_at-set_own s.matrices a.0 (matrix_left s c) (matrix_left-none s c)) ∙ left_m c (matrix_at s a) e
  own-output c (Some (object.Vector v)) e = ap (option_map VectorContent) (object_at-set_own s.vectors v.0 (vector_left s c) (vector_left-none s c)) ∙ left_v c (vector_at s v) e

-- a build is refused by what its object stores, or by its bounds, or fills it
module _ (s t : Store) (o : Object) where
  built : (b d : Bool) (x y : Content) → content_at s o ≡ Some x → content_at t o ≡ Some y →
      content_at (option_map_or (λ _. s) (if not b then Some OutputNotEmpty else (if not d then Some IndexOutOfBounds else None)) t) o ≡ Some (if b && d then y else x)
  built false d x y before after_it = before
  built true false x y before after_it = before
  built true true x y before after_it = after_it

  not_there : (q : Option Refusal) → content_at s o ≡ None → content_at t o ≡ None → content_at (option_map_or (λ _. s) q t) o ≡ None
  not_there None before after_it = after_it
  not_there (Some r) before after_it = before

if_matrix : (b : Bool) (m n : Matrix) → ◌≡◌ {A = Option Content} (Some (if b then MatrixContent m else MatrixContent n)) (Some (MatrixContent (if b then m else n)))
if_matrix true m n = refl
if_matrix false m n = refl

if_vector : (b : Bool) (x y : Vector) → ◌≡◌ {A = Option Content} (Some (if b then VectorContent x else VectorContent y)) (Some (VectorContent (if b then x else y)))
if_vector true x y = refl
if_vector false x y = refl

module _ (s : Store) (a : MatrixId) (tuples : List (ℕ × ℕ × Value)) (dup : Monoid) where
  abbrev build_m : Call
  build_m = call.BuildMatrix a tuples dup

  built_m : (o : Option Matrix) → matrix_at s a ≡ o →
      content_at (option_map_or (λ _. s) (refused_build s build_m) (changed s build_m)) (object.Matrix a) ≡ option_map (content_made (content_at s) build_m) (option_map MatrixContent o)
  built_m None at =
      not_there s (changed s build_m) (object.Matrix a) (refused_build s build_m) (ap (option_map MatrixContent) at)
      (ap (option_map MatrixContent) (object_at-set_own s.matrices a.0 (option_map (matrix_after s build_m)) refl ∙ ap (option_map (matrix_after s build_m)) at))
  built_m (Some m) at =
      let f : Matrix → Matrix = matrix_after s build_m in
      let old : Bool = nvals_of m.entries == 0 in
      let inside : Bool = list_all (λ (e : ℕ × ℕ × Value). nat_lt e.0 m.nrows && nat_lt e.1 m.ncols) tuples in
      let shape : ◌≡◌ {A = Option MatrixShape} (object_at (map (option_map matrix_shape) s.matrices) a.0) (Some (matrix_shape m)) = object_at-map matrix_shape s.matrices a.0 ∙ ap (option_map matrix_shape) at in
      let olds : has_old_entries s build_m ≡ not old = ap (λ (o : Option Matrix). not (nvals_of (option_map_or (λ x. x.entries) o []) == 0)) at in
      let bounds : is_in_bounds (shapes_of s) build_m ≡ inside = ap (λ (o : Option MatrixShape). list_all (λ (e : ℕ × ℕ × Value). nat_lt e.0 (option_map_or (λ x. x.1) o 0) && nat_lt e.1 (option_map_or (λ x. x.2) o 0)) tuples) shape in
      let by_tests : ◌≡◌ {A = Option Refusal} (refused_build s build_m) (if not old then Some OutputNotEmpty else (if not inside then Some IndexOutOfBounds else None)) =
      ap (λ (b : Bool). if b then Some OutputNotEmpty else (if not (is_in_bounds (shapes_of s) build_m) then Some IndexOutOfBounds else None)) olds
      ∙ ap (λ (b : Bool). if not old then Some OutputNotEmpty else (if not b then Some IndexOutOfBounds else None)) bounds in
      ap (λ (q : Option Refusal). content_at (option_map_or (λ _. s) q (changed s build_m)) (object.Matrix a)) by_tests
      ∙ (built s (changed s build_m) (object.Matrix a) old inside (MatrixContent m) (MatrixContent (f m)) (ap (option_map MatrixContent) at)
      (ap (option_map MatrixContent) (object_at-set_own s.matrices a.0 (option_map f) refl ∙ ap (option_map f) at))
      ∙ if_matrix (old && inside) (f m) m)

module _ (s : Store) (v : VectorId) (tuples : List (ℕ × Value)) (dup : Monoid) where
  abbrev build_v : Call
  build_v = call.BuildVector v tuples dup

  built_v : (o : Option Vector) → vector_at s v ≡ o →
      content_at (option_map_or (λ _. s) (refused_build s build_v) (changed s build_v)) (object.Vector v) ≡ option_map (content_made (content_at s) build_v) (option_map VectorContent o)
  built_v None at =
      not_there s (changed s build_v) (object.Vector v) (refused_build s build_v) (ap (option_map VectorContent) at)
      (ap (option_map VectorContent) (object_at-set_own s.vectors v.0 (option_map (vector_after s build_v)) refl ∙ ap (option_map (vector_after s build_v)) at))
  built_v (Some m) at =
      let f : Vector → Vector = vector_after s build_v in
      let old : Bool = nvals_of m.entries == 0 in
      let inside : Bool = list_all (λ (e : ℕ × Value). nat_lt e.0 m.size) tuples in
      let shape : ◌≡◌ {A = Option VectorShape} (object_at (map (option_map vector_shape) s.vectors) v.0) (Some (vector_shape m)) = object_at-map vector_shape s.vectors v.0 ∙ ap (option_map vector_shape) at in
      let olds : has_old_entries s build_v ≡ not old = ap (λ (o : Option Vector). not (nvals_of (option_map_or (λ x. x.entries) o []) == 0)) at in
      let bounds : is_in_bounds (shapes_of s) build_v ≡ inside = ap (λ (o : Option VectorShape). list_all (λ (e : ℕ × Value). nat_lt e.0 (option_map_or (λ x. x.1) o 0)) tuples) shape in
      let by_tests : ◌≡◌ {A = Option Refusal} (refused_build s build_v) (if not old then Some OutputNotEmpty else (if not inside then Some IndexOutOfBounds else None)) =
      ap (λ (b : Bool). if b then Some OutputNotEmpty else (if not (is_in_bounds (shapes_of s) build_v) then Some IndexOutOfBounds else None)) olds
      ∙ ap (λ (b : Bool). if not old then Some OutputNotEmpty else (if not b then Some IndexOutOfBounds else None)) bounds in
      ap (λ (q : Option Refusal). content_at (option_map_or (λ _. s) q (changed s build_v)) (object.Vector v)) by_tests
      ∙ (built s (changed s build_v) (object.Vector v) old inside (VectorContent m) (VectorContent (f m)) (ap (option_map VectorContent) at)
      (ap (option_map VectorContent) (object_at-set_own s.vectors v.0 (option_map f) refl ∙ ap (option_map f) at))
      ∙ if_vector (old && inside) (f m) m)

-- after a call that shapes do not refuse
abbrev taken : Store → Call → Store
taken s c = option_map_or (λ _. s) (refused_build s c) (changed s c)

diagonal_held : (d : Diagonal) (o : Option Vector) → option_map MatrixContent (option_map (diagonal_matrix d) o) ≡ diagonal_content d (option_map VectorContent o)
diagonal_held d None = refl
diagonal_held d (Some x) = refl

own-at : (s : Store) (c : Call) → IfSome (target_of (shapes_of s) c) (λ o. content_at (taken s c) o ≡ outcome (content_at s) c)
own-at s (call.NewMatrix domain nrows ncols) = ap (option_map MatrixContent) (object_at-count matrix_shape s.matrices _)
own-at s (call.NewVector domain size) = ap (option_map VectorContent) (object_at-count vector_shape s.vectors _)
own-at s (call.DupMatrix a) = ap (option_map MatrixContent) (object_at-count matrix_shape s.matrices _)
own-at s (call.DupVector v) = ap (option_map VectorContent) (object_at-count vector_shape s.vectors _)
own-at s (call.Diag v diagonal) = ap (option_map MatrixContent) (object_at-count matrix_shape s.matrices _) ∙ diagonal_held diagonal (vector_at s v)
own-at s (call.FreeMatrix a) = ap (option_map MatrixContent) (object_at-set_own s.matrices a.0 (λ _. None) refl)
own-at s (call.FreeVector v) = ap (option_map VectorContent) (object_at-set_own s.vectors v.0 (λ _. None) refl)
own-at s (call.BuildMatrix a tuples dup) = built_m s a tuples dup (matrix_at s a) refl
own-at s (call.BuildVector v tuples dup) = built_v s v tuples dup (vector_at s v) refl
own-at s c = own-output s c (output_of c) refl

if_some-at : {X : Type 0} (P : X → Type 0) (o : Option X) (x : X) → o ≡ Some x → IfSome o P → P x
if_some-at {X = X} P o x e h = subst (λ (q : Option X). IfSome q P) e h

-- what an entry that shapes do not refuse leaves of its target
pub own : (s : Store) (c : Call) (o : Object) → refused_by_shapes (shapes_of s) c ≡ None → target_of (shapes_of s) c ≡ Some o → content_at (after s c) o ≡ outcome (content_at s) c
own s c o accepted target =
    ap (λ (q : Option Refusal). content_at (option_map_or (λ _. s) (option_or q (refused_build s c)) (changed s c)) o) accepted
    ∙ if_some-at (λ o. content_at (taken s c) o ≡ outcome (content_at s) c) (target_of (shapes_of s) c) o target (own-at s c)

-- the other objects
module _ (s : Store) where
  other_m : (c : Call) (a : MatrixId) → target_of (shapes_of s) c ≢ Some (object.Matrix a) → matrix_at (changed s c) a ≡ matrix_at s a
  other_m (call.NewMatrix domain nrows ncols) a other = object_at-push_other s.matrices _ a.0 (λ e. other (ap (λ n. Some (object.Matrix (record { 0 = n }))) (length-map s.matrices (option_map matrix_shape) ∙ sym e)))
  other_m (call.DupMatrix b) a other = object_at-push_other s.matrices _ a.0 (λ e. other (ap (λ n. Some (object.Matrix (record { 0 = n }))) (length-map s.matrices (option_map matrix_shape) ∙ sym e)))
  other_m (call.Diag v diagonal) a other = object_at-push_other s.matrices _ a.0 (λ e. other (ap (λ n. Some (object.Matrix (record { 0 = n }))) (length-map s.matrices (option_map matrix_shape) ∙ sym e)))
  other_m (call.NewVector domain size) a other = refl
  other_m (call.DupVector v) a other = refl
  other_m c a other = other_matrix-output s c (output_of c) a other

  other_v : (c : Call) (v : VectorId) → target_of (shapes_of s) c ≢ Some (object.Vector v) → vector_at (changed s c) v ≡ vector_at s v
  other_v (call.NewVector domain size) v other = object_at-push_other s.vectors _ v.0 (λ e. other (ap (λ n. Some (object.Vector (record { 0 = n }))) (length-map s.vectors (option_map vector_shape) ∙ sym e)))
  other_v (call.DupVector w) v other = object_at-push_other s.vectors _ v.0 (λ e. other (ap (λ n. Some (object.Vector (record { 0 = n }))) (length-map s.vectors (option_map vector_shape) ∙ sym e)))
  other_v (call.NewMatrix domain nrows ncols) v other = refl
  other_v (call.DupMatrix a) v other = refl
  other_v (call.Diag w diagonal) v other = refl
  other_v c v other = other_vector-output s c (output_of c) v other

  other-changed : (c : Call) (o : Object) → target_of (shapes_of s) c ≢ Some o → content_at (changed s c) o ≡ content_at s o
  other-changed c (object.Matrix a) other = ap (option_map MatrixContent) (other_m c a other)
  other-changed c (object.Vector v) other = ap (option_map VectorContent) (other_v c v other)

  other-by : (c : Call) (o : Object) (p q : Option Refusal) → option_map_or (λ _. None) p (target_of (shapes_of s) c) ≢ Some o →
      content_at (option_map_or (λ _. s) (option_or p q) (changed s c)) o ≡ content_at s o
  other-by c o (Some r) q other = refl
  other-by c o None (Some r) other = refl
  other-by c o None None other = other-changed c o other

  -- what an entry leaves of each object that is not its target
  pub other : (c : Call) (o : Object) → effective_target (shapes_of s) c ≢ Some o → content_at (after s c) o ≡ content_at s o
  other c o not_target = other-by c o (refused_by_shapes (shapes_of s) c) (refused_build s c) not_target

target_taken : (p : Option Refusal) (t : Option Object) (o : Object) → option_map_or (λ _. None) p t ≡ Some o → (p ≡ None) × (t ≡ Some o)
target_taken None t o e = (refl, e)
target_taken (Some r) t o e = cc

pub effective : (s : ObjectShapes) (c : Call) (o : Object) → effective_target s c ≡ Some o → (refused_by_shapes s c ≡ None) × (target_of s c ≡ Some o)
effective s c o e = target_taken (refused_by_shapes s c) (target_of s c) o e

-- the outcome reads what the call reads alone
module _ {r t : Contents} where
  agree_first : (o : Object) (os : List Object) → AgreeOn (is_among (o ∷ os)) r t → r o ≡ t o
  agree_first o os agree = agree o (among_first o os)

  agree_next : (o : Object) (os : List Object) → AgreeOn (is_among (o ∷ os)) r t → AgreeOn (is_among os) r t
  agree_next o os agree p wanted = agree p (among_next p o os wanted)

module _ (r t : Contents) where
  made_same : (c : Call) → ((m : Matrix) → filled_matrix r c m ≡ filled_matrix t c m) → ((x : Vector) → filled_vector r c x ≡ filled_vector t c x) → (o : Option Content) →
      option_map (content_made r c) o ≡ option_map (content_made t c) o
  made_same c m v None = refl
  made_same c m v (Some (MatrixContent a)) = ap (λ y. Some (MatrixContent y)) (m a)
  made_same c m v (Some (VectorContent x)) = ap (λ y. Some (VectorContent y)) (v x)

  framed : (c : Call) (o : Object) → ((m : Matrix) → filled_matrix r c m ≡ filled_matrix t c m) → ((x : Vector) → filled_vector r c x ≡ filled_vector t c x) → r o ≡ t o →
      option_map (content_made r c) (r o) ≡ option_map (content_made t c) (t o)
  framed c o m v e = made_same c m v (r o) ∙ ap (option_map (content_made t c)) e

  -- each object that the call reads
  held_same : (o : Object) → r o ≡ t o → SameObject (objects_held r) (objects_held t) o
  held_same (object.Matrix a) e = ap matrix_held e
  held_same (object.Vector v) e = ap vector_held e

  any_same : (q : Option Object) → AgreeOn (is_among (if_any q)) r t → IfSome q (SameObject (objects_held r) (objects_held t))
  any_same None agree = tt
  any_same (Some o) agree = held_same o (agree_first o [] agree)

  reads_same : (q : Option Operation) (os : List Object) → AgreeOn (is_among (option_map_or operation_objects q os ++ option_map_or (λ o. if_any o.mask) q [])) r t →
      IfSome q (ReadsSame (objects_held r) (objects_held t))
  reads_same None os agree = tt
  reads_same (Some o) os agree =
      let rest : AgreeOn (is_among (operation_inputs o ++ if_any o.mask)) r t = agree_next o.output (operation_inputs o ++ if_any o.mask) agree in
      let inputs : AgreeOn (is_among (operation_inputs o)) r t = λ p wanted. rest p (among_before p (operation_inputs o) (if_any o.mask) wanted) in
      record {
        first = any_same o.first (λ p wanted. inputs p (among_before p (if_any o.first) (if_any o.second) wanted));
        second = any_same o.second (λ p wanted. inputs p (among_after p (if_any o.first) (if_any o.second) wanted));
        mask = any_same o.mask (λ p wanted. rest p (among_after p (operation_inputs o) (if_any o.mask) wanted));
      }

  filled_m : (c : Call) (m : Matrix) → AgreeOn (is_among (objects_read c)) r t → filled_matrix r c m ≡ filled_matrix t c m
  filled_m c m agree = ap (λ (y : Matrix). if can_fill_matrix c m then y else m) (matrix_made-same (objects_held r) (objects_held t) c m (reads_same (operation_of c) (if_any (named c)) agree))

  filled_v : (c : Call) (x : Vector) → AgreeOn (is_among (objects_read c)) r t → filled_vector r c x ≡ filled_vector t c x
  filled_v c x agree = ap (λ (y : Vector). if can_fill_vector c x then y else x) (vector_made-same (objects_held r) (objects_held t) c x (reads_same (operation_of c) (if_any (named c)) agree))

  frame-output : (c : Call) (q : Option Object) → output_of c ≡ q → AgreeOn (is_among (objects_read c)) r t → output_made r c q ≡ output_made t c q
  frame-output c None is agree = refl
  frame-output c (Some o) is agree =
      framed c o (λ m. filled_m c m agree) (λ x. filled_v c x agree) (agree o (among_before o (operands c) (masks c) (output_among c o is)))

pub frame : (r t : Contents) (c : Call) → AgreeOn (is_among (objects_read c)) r t → outcome r c ≡ outcome t c
frame r t (call.NewMatrix domain nrows ncols) agree = refl
frame r t (call.NewVector domain size) agree = refl
frame r t (call.DupMatrix a) agree = agree_first (object.Matrix a) [] agree
frame r t (call.DupVector v) agree = agree_first (object.Vector v) [] agree
frame r t (call.Diag v diagonal) agree = ap (diagonal_content diagonal) (agree_first (object.Vector v) [] agree)
frame r t (call.FreeMatrix a) agree = refl
frame r t (call.FreeVector v) agree = refl
frame r t c agree = frame-output r t c (output_of c) refl agree
