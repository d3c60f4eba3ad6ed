-- One call on single objects makes its outcome.
use Rattle.std.proofs.Common.{◌≡◌, ◌≢◌, Bool, true, false, ◌||◌, List, [], ◌∷◌, ◌++◌, refl, sym, ap, subst, ◌∙◌, Option, Some, None, is_some}
use Rattle.grb_results.proofs.Prelude.{Result, Ok, Err, OnOk, IfOk, IfSome, option_map, option_map_or, option_or, Matrix, Vector, Call, Object, objects_read, output_of, refused_by_shapes, ObjectShapes, Store, matrix_at, shapes_of, vector_at, MatrixContent, VectorContent, Contents, content_at, outcome, target_of, is_among, AgreeOn, SharedContent, AreElse, IsAt, IsThere, MayEdit, AreHeld, MayMake, IsEdit, content_of, EditsOne, edits_one, some_same}
use Rattle.std.specs.List.{list_any}
use Rattle.grb_core.specs.declared.refusal.Refusal.{Refusal}
use Rattle.grb_call.specs.declared.call.Call.TheVariants as call
use Rattle.grb_call.specs.declared.class.Class.TheVariants.{Edits, Operates}
use Rattle.grb_call.specs.declared.ids.Object.TheVariants as object
use Rattle.grb_call.specs.Kinds.{class_of}
use Rattle.grb_call.specs.Status.{is_same_object}
use Rattle.grb_call.specs.After.{after, changed, refused, refused_build}
use Rattle.grb_slices.proofs.Effects.{frame, own}
use Rattle.grb_slices.proofs.Wants.{is_same_object-self, is_same_object-true}
use Rattle.grb_objects.specs.declared.shared_content.SharedContent.TheVariants as shared

-- what an object of a store holds, in both words
the_matrix : (q : Option Matrix) (m : Matrix) → option_map MatrixContent q ≡ Some (MatrixContent m) → q ≡ Some m
the_matrix None m e = cc
the_matrix (Some n) m e = let same : MatrixContent n ≡ MatrixContent m = some_same (MatrixContent n) (MatrixContent m) e in let inside : n ≡ m = cc in ap (λ (x : Matrix). Some x) inside

the_vector : (q : Option Vector) (x : Vector) → option_map VectorContent q ≡ Some (VectorContent x) → q ≡ Some x
the_vector None x e = cc
the_vector (Some y) x e = let same : VectorContent y ≡ VectorContent x = some_same (VectorContent y) (VectorContent x) e in let inside : y ≡ x = cc in ap (λ (z : Vector). Some z) inside

no_vector : (q : Option Matrix) (x : Vector) → option_map MatrixContent q ≡ Some (VectorContent x) → ⊥
no_vector None x e = cc
no_vector (Some m) x e = let same : MatrixContent m ≡ VectorContent x = some_same (MatrixContent m) (VectorContent x) e in cc

no_matrix : (q : Option Vector) (m : Matrix) → option_map VectorContent q ≡ Some (MatrixContent m) → ⊥
no_matrix None m e = cc
no_matrix (Some x) m e = let same : VectorContent x ≡ MatrixContent m = some_same (VectorContent x) (MatrixContent m) e in cc

pub at_of : (s : Store) (o : Object) (v : SharedContent) → content_at s o ≡ Some (content_of v) → IsAt s o v
at_of s (object.Matrix a) (shared.Matrix m) e = the_matrix (matrix_at s a) m.matrix e
at_of s (object.Matrix a) (shared.Vector x) e = no_vector (matrix_at s a) x.vector e
at_of s (object.Vector v) (shared.Matrix m) e = no_matrix (vector_at s v) m.matrix e
at_of s (object.Vector v) (shared.Vector x) e = the_vector (vector_at s v) x.vector e

pub of_at : (s : Store) (o : Object) (v : SharedContent) → IsAt s o v → content_at s o ≡ Some (content_of v)
of_at s (object.Matrix a) (shared.Matrix m) e = ap (λ (q : Option Matrix). option_map MatrixContent q) e
of_at s (object.Matrix a) (shared.Vector x) e = absurd e
of_at s (object.Vector v) (shared.Matrix m) e = absurd e
of_at s (object.Vector v) (shared.Vector x) e = ap (λ (q : Option Vector). option_map VectorContent q) e

there_of : (s : Store) (o : Object) (q : Option SharedContent) → IsThere s o q → option_map content_of q ≡ content_at s o
there_of s o (Some v) e = sym (of_at s o v e)
there_of s (object.Matrix a) None e = sym (ap (λ (q : Option Matrix). option_map MatrixContent q) e)
there_of s (object.Vector v) None e = sym (ap (λ (q : Option Vector). option_map VectorContent q) e)

-- what is held twice is the same
among_none : (p : Object) → is_among [] p ≡ true → ⊥
among_none p e = cc

agree_held : (os : List Object) (vs : List SharedContent) (r t : Contents) → AreHeld r os vs → AreHeld t os vs → AgreeOn (is_among os) r t
agree_held [] vs r t x y p wanted = absurd (among_none p wanted)
agree_held (o ∷ os) [] r t x y p wanted = absurd x
agree_held (o ∷ os) (v ∷ vs) r t x y p wanted = by (λ w. agree_held os vs r t x.1 y.1 p w) (is_same_object p o) refl wanted
  where
    by : (is_among os p ≡ true → r p ≡ t p) → (b : Bool) → is_same_object p o ≡ b → (b || list_any (is_same_object p) os) ≡ true → r p ≡ t p
    by rest true same wanted = let here : o ≡ p = sym (is_same_object-true p o same) in subst (λ (q : Object). r q ≡ t q) here (x.0 ∙ sym y.0)
    by rest false apart wanted = rest wanted

-- what is put on the bench
among_before_last : (os : List Object) (o p : Object) → is_same_object p o ≡ false → is_among (os ++ o ∷ []) p ≡ true → is_among os p ≡ true
among_before_last [] o p apart e = let no : false ≡ true = subst (λ (b : Bool). (b || false) ≡ true) apart e in cc
among_before_last (q ∷ os) o p apart e = by (among_before_last os o p apart) (is_same_object p q) e
  where
    by : (is_among (os ++ o ∷ []) p ≡ true → is_among os p ≡ true) → (b : Bool) → (b || list_any (is_same_object p) (os ++ o ∷ [])) ≡ true → (b || list_any (is_same_object p) os) ≡ true
    by rest true e = refl
    by rest false e = rest e

else_as : (old new : Store) (o p : Object) → AreElse old new o → o ≢ p → content_at new p ≡ content_at old p
else_as old new o (object.Matrix a) other apart = ap (λ (q : Option Matrix). option_map MatrixContent q) (other.0 a apart)
else_as old new o (object.Vector v) other apart = ap (λ (q : Option Vector). option_map VectorContent q) (other.1 v apart)

pub put_on : (old new s : Store) (os : List Object) (o : Object) (v : SharedContent) → ((t : Store) → IsAt t o v → IsAt new o v) → AreElse old new o →
    AgreeOn (is_among os) (content_at old) (content_at s) → content_at s o ≡ Some (content_of v) → AgreeOn (is_among (os ++ o ∷ [])) (content_at new) (content_at s)
put_on old new s os o v held other agree is p wanted = by (is_same_object p o) refl
  where
    by : (b : Bool) → is_same_object p o ≡ b → content_at new p ≡ content_at s p
    by true same =
        let here : o ≡ p = sym (is_same_object-true p o same) in
        subst (λ (q : Object). content_at new q ≡ content_at s q) here (of_at new o v (held s (at_of s o v is)) ∙ sym is)
    by false apart =
        else_as old new o p other (λ e. let same : is_same_object p o ≡ true = subst (λ (q : Object). is_same_object p q ≡ true) (sym e) (is_same_object-self p) in cc)
        ∙ agree p (among_before_last os o p apart wanted)

-- the target of a call that makes no object is its output
target_edits : (u : ObjectShapes) (c : Call) → class_of c ≡ Edits → target_of u c ≡ output_of c
target_edits u (call.NewMatrix domain nrows ncols) e = cc
target_edits u (call.NewVector domain size) e = cc
target_edits u (call.DupMatrix a) e = cc
target_edits u (call.DupVector v) e = cc
target_edits u (call.Diag v diagonal) e = cc
target_edits u _ e = refl

target_operates : (u : ObjectShapes) (c : Call) → class_of c ≡ Operates → target_of u c ≡ output_of c
target_operates u (call.NewMatrix domain nrows ncols) e = cc
target_operates u (call.NewVector domain size) e = cc
target_operates u (call.DupMatrix a) e = cc
target_operates u (call.DupVector v) e = cc
target_operates u (call.Diag v diagonal) e = cc
target_operates u _ e = refl

no_build : (s : Store) (c : Call) → class_of c ≡ Operates → refused_build s c ≡ None
no_build s (call.BuildMatrix a tuples dup) e = cc
no_build s (call.BuildVector v tuples dup) e = cc
no_build s _ e = refl

refused_is : (s : Store) (c : Call) → refused_by_shapes (shapes_of s) c ≡ None → refused s c ≡ refused_build s c
refused_is s c accepted = ap (λ (q : Option Refusal). option_or q (refused_build s c)) accepted

after_by : (s : Store) (c : Call) (q : Option Refusal) → refused s c ≡ q → after s c ≡ option_map_or (λ _. s) q (changed s c)
after_by s c q e = ap (λ (p : Option Refusal). option_map_or (λ _. s) p (changed s c)) e

is_none : (q : Option Refusal) → is_some q ≡ false → q ≡ None
is_none None e = refl
is_none (Some r) e = cc

stays_by : (s t : Store) (q : Option Refusal) → is_some q ≡ true → option_map_or (λ _. s) q t ≡ s
stays_by s t None e = cc
stays_by s t (Some r) e = refl

-- an edit of an object by itself
module _ (c : Call) (v : SharedContent) (edits : IsEdit c) (may : MayMake c (v ∷ [])) where
  abbrev s : Store
  s = may.store

  pub one : EditsOne c
  one = edits_one c edits.0

  held : content_at s one.object ≡ Some (content_of v)
  held = (subst (λ (os : List Object). AreHeld (content_at s) os (v ∷ [])) one.reads may.held).0

  pub is_held : IsAt s one.object v
  is_held = at_of s one.object v held

  owned : content_at (after s c) one.object ≡ outcome (content_at s) c
  owned = own s c one.object may.accepted (target_edits (shapes_of s) c edits.0 ∙ one.output)

  framed : (r : Contents) → AreHeld r (objects_read c) (v ∷ []) → outcome r c ≡ outcome (content_at s) c
  framed r is = frame r (content_at s) c (agree_held (objects_read c) (v ∷ []) r (content_at s) is may.held)

  -- it is refused
  pub stays : is_some (refused_build s c) ≡ true → (r : Contents) → AreHeld r (objects_read c) (v ∷ []) → outcome r c ≡ Some (content_of v)
  stays told r is =
      framed r is ∙ (sym owned ∙ (ap (λ (t : Store). content_at t one.object) (after_by s c (refused_build s c) (refused_is s c may.accepted) ∙ stays_by s (changed s c) (refused_build s c) told) ∙ held))

  -- or not
  not_refused : is_some (refused_build s c) ≡ false → refused s c ≡ None
  not_refused told = refused_is s c may.accepted ∙ is_none (refused_build s c) told

  pub may_edit : is_some (refused_build s c) ≡ false → MayEdit c v
  may_edit told = record { store = s; output = one.object; is_output = one.output; held = is_held; accepted = not_refused told }

  pub changes : (new : SharedContent) → is_some (refused_build s c) ≡ false → IsAt (changed s c) one.object new → (r : Contents) → AreHeld r (objects_read c) (v ∷ []) → outcome r c ≡ Some (content_of new)
  changes new told is r same = framed r same ∙ (sym owned ∙ (ap (λ (t : Store). content_at t one.object) (after_by s c None (not_refused told)) ∙ of_at (changed s c) one.object new is))

-- an operation on a bench
module _ (s : Store) (c : Call) (operates : class_of c ≡ Operates) (accepted : refused_by_shapes (shapes_of s) c ≡ None) where
  pub operation_accepted : refused s c ≡ None
  operation_accepted = refused_is s c accepted ∙ no_build s c operates

  pub operation_made : (o : Object) (q : Option SharedContent) → output_of c ≡ Some o → IsThere (changed s c) o q → (r : Contents) → AgreeOn (is_among (objects_read c)) (content_at s) r →
      option_map content_of q ≡ outcome r c
  operation_made o q output there r agree =
      there_of (changed s c) o q there
      ∙ (ap (λ (t : Store). content_at t o) (sym (after_by s c None operation_accepted))
      ∙ (own s c o accepted (target_operates (shapes_of s) c operates ∙ output) ∙ frame (content_at s) r c agree))

pub both_ok : {X E : Type 0} (P Q R : Type 0) (r : Result X E) → (P → Q → R) → OnOk r P → OnOk r Q → OnOk r R
both_ok P Q R (Ok x) f p q = f p q
both_ok P Q R (Err e) f p q = p

pub some_of : {X : Type 0} (P Q : X → Type 0) (q : Option X) → ((x : X) → P x → Q x) → IfSome q P → IfSome q Q
some_of P Q None f p = tt
some_of P Q (Some x) f p = f x p

pub if_ok : {X E : Type 0} (P Q : X → Type 0) (r : Result X E) → ((x : X) → P x → Q x) → IfOk r P → IfOk r Q
if_ok P Q (Ok x) f p = f x p
if_ok P Q (Err e) f p = p

pub some_at : {X : Type 0} (P : X → Type 0) (q : Option X) (x : X) → q ≡ Some x → IfSome q P → P x
some_at {X = X} P q x e p = subst (λ (y : Option X). IfSome y P) e p
