-- A call that needs nothing of what its output stored makes the same where that stores nothing.
use Rattle.std.proofs.Common.{◌≡◌, ◌≢◌, ℕ, Bool, true, false, not, ◌&&◌, ◌||◌, if◌then◌else◌, [], ◌∷◌, ◌++◌, refl, sym, ap, subst, ◌∙◌, Option, Some, None, is_some}
use Rattle.std.specs.Option.{option_map, option_map_or}
use Rattle.std.proofs.lemmas.Bool.{not-true}
use Rattle.grb_core.specs.declared.domain.Domain.{Domain}
use Rattle.grb_core.specs.declared.operator.BinaryOp.{BinaryOp}
use Rattle.grb_core.specs.declared.refusal.Refusal.{Refusal}
use Rattle.grb_core.specs.declared.refusal.Refusal.TheVariants.{UninitializedObject, InvalidValue, InvalidIndex, DomainMismatch, DimensionMismatch}
use Rattle.grb_core.specs.Contents.{Matrix, Vector}
use Rattle.grb_call.specs.declared.call.Call.{Call}
use Rattle.grb_call.specs.declared.call.Call.TheVariants as call
use Rattle.grb_call.specs.declared.ids.MatrixId.{MatrixId}
use Rattle.grb_call.specs.declared.ids.VectorId.{VectorId}
use Rattle.grb_call.specs.declared.ids.Object.{Object}
use Rattle.grb_call.specs.declared.ids.Object.TheVariants as object
use Rattle.grb_call.specs.declared.operation.Operation.{Operation}
use Rattle.grb_call.specs.After.{after}
use Rattle.grb_call.specs.Operands.{named, objects_read}
use Rattle.grb_call.specs.Operation.{if_any, operation_inputs, operation_objects, operation_of}
use Rattle.grb_call.specs.Output.{output_of}
use Rattle.grb_call.specs.Refused.{refused_by_shapes, reshaped}
use Rattle.grb_call.specs.Shapes.{MatrixShape, VectorShape, ObjectShapes, matrix_shape_at, vector_shape_at}
use Rattle.grb_call.specs.Store.{Store, matrix_at, matrix_shape, shapes_of, vector_at, vector_shape}
use Rattle.grb_call.proofs.ShapesAfter.{object_at-map, shapes_of-after}
use Rattle.grb_slices.specs.Content.{Content, MatrixContent, VectorContent, Contents, content_at, content_made, outcome, target_of}
use Rattle.grb_slices.specs.Slice.{is_among}
use Rattle.grb_slices.specs.Steps.{AgreeOn}
use Rattle.grb_slices.proofs.Effects.{own, other, effective}
use Rattle.grb_slices.proofs.Refusals.{same_refusal}
use Rattle.grb_links.specs.declared.shape.Shape.{Shape}
use Rattle.grb_links.specs.declared.shape.Shape.TheVariants as shape
use Rattle.grb_links.specs.Overwrites.{HaveOneShape, blank_of, forgets, inputs_of, is_anew, is_clear, is_plain, overwrites, shape_at}
use Rattle.grb_links.proofs.Lists.{end_none, some_same}
use Rattle.grb_links.proofs.Overwritten.{overwritten}

-- the clear of an object
abbrev pub clear_of : Object → Call
clear_of (object.Matrix a) = call.ClearMatrix a
clear_of (object.Vector v) = call.ClearVector v

-- it is refused nowhere where the object is there
by_shape_m : (q : Option MatrixShape) → Option Refusal
by_shape_m q = if not (is_some q && true) then Some UninitializedObject
    else (if not true then Some InvalidValue
    else (if not true then Some InvalidIndex
    else (if not (option_map_or (λ (d : Domain). true && true) (option_map (λ (m : MatrixShape). m.0) q) true) then Some DomainMismatch
    else (if not true then Some DimensionMismatch else None))))

accepts_m : (u : ObjectShapes) (a : MatrixId) (m : MatrixShape) → matrix_shape_at u a ≡ Some m → refused_by_shapes u (call.ClearMatrix a) ≡ None
unfolding by_shape_m
accepts_m u a m e = ap by_shape_m e

by_shape_v : (q : Option VectorShape) → Option Refusal
by_shape_v q = if not (is_some q && true) then Some UninitializedObject
    else (if not true then Some InvalidValue
    else (if not true then Some InvalidIndex
    else (if not (option_map_or (λ (d : Domain). true && true) (option_map (λ (m : VectorShape). m.0) q) true) then Some DomainMismatch
    else (if not true then Some DimensionMismatch else None))))

accepts_v : (u : ObjectShapes) (v : VectorId) (x : VectorShape) → vector_shape_at u v ≡ Some x → refused_by_shapes u (call.ClearVector v) ≡ None
unfolding by_shape_v
accepts_v u v x e = ap by_shape_v e

matrix_shaped : (q : Option MatrixShape) (d : Domain) (n k : ℕ) → option_map (λ s. shape.Matrix s.0 s.1 s.2) q ≡ Some (shape.Matrix d n k) → q ≡ Some (d, n, k)
matrix_shaped None d n k e = cc
matrix_shaped (Some s) d n k e =
    let same : shape.Matrix s.0 s.1 s.2 ≡ shape.Matrix d n k = some_same (shape.Matrix s.0 s.1 s.2) (shape.Matrix d n k) e in
    let x : s.0 ≡ d = cc in let y : s.1 ≡ n = cc in let z : s.2 ≡ k = cc in
    ap (λ (w : Domain). Some (w, s.1, s.2)) x ∙ (ap (λ (w : ℕ). Some (d, w, s.2)) y ∙ ap (λ (w : ℕ). Some (d, n, w)) z)

vector_shaped : (q : Option VectorShape) (d : Domain) (n : ℕ) → option_map (λ s. shape.Vector s.0 s.1) q ≡ Some (shape.Vector d n) → q ≡ Some (d, n)
vector_shaped None d n e = cc
vector_shaped (Some s) d n e =
    let same : shape.Vector s.0 s.1 ≡ shape.Vector d n = some_same (shape.Vector s.0 s.1) (shape.Vector d n) e in
    let x : s.0 ≡ d = cc in let y : s.1 ≡ n = cc in
    ap (λ (w : Domain). Some (w, s.1)) x ∙ ap (λ (w : ℕ). Some (d, w)) y

no_vector : (q : Option MatrixShape) (d : Domain) (n : ℕ) → option_map (λ s. shape.Matrix s.0 s.1 s.2) q ≡ Some (shape.Vector d n) → ⊥
no_vector None d n e = cc
no_vector (Some s) d n e = let same : shape.Matrix s.0 s.1 s.2 ≡ shape.Vector d n = some_same (shape.Matrix s.0 s.1 s.2) (shape.Vector d n) e in cc

no_matrix : (q : Option VectorShape) (d : Domain) (n k : ℕ) → option_map (λ s. shape.Vector s.0 s.1) q ≡ Some (shape.Matrix d n k) → ⊥
no_matrix None d n k e = cc
no_matrix (Some s) d n k e = let same : shape.Vector s.0 s.1 ≡ shape.Matrix d n k = some_same (shape.Vector s.0 s.1) (shape.Matrix d n k) e in cc

accepts : (u : ObjectShapes) (o : Object) (x : Shape) → shape_at u o ≡ Some x → refused_by_shapes u (clear_of o) ≡ None
accepts u (object.Matrix a) (shape.Matrix d n k) e = accepts_m u a (d, n, k) (matrix_shaped (matrix_shape_at u a) d n k e)
accepts u (object.Matrix a) (shape.Vector d n) e = absurd (no_vector (matrix_shape_at u a) d n e)
accepts u (object.Vector v) (shape.Vector d n) e = accepts_v u v (d, n) (vector_shaped (vector_shape_at u v) d n e)
accepts u (object.Vector v) (shape.Matrix d n k) e = absurd (no_matrix (vector_shape_at u v) d n k e)

clears : (u : ObjectShapes) (o : Object) → target_of u (clear_of o) ≡ Some o
clears u (object.Matrix a) = refl
clears u (object.Vector v) = refl

reshapes : (u : ObjectShapes) (o : Object) → reshaped u (clear_of o) ≡ u
reshapes u (object.Matrix a) = refl
reshapes u (object.Vector v) = refl

-- what it leaves stores nothing, and is of the same shape
left_m : (r : Contents) (a : MatrixId) (q : Option Matrix) (d : Domain) (n k : ℕ) → option_map matrix_shape q ≡ Some (d, n, k) →
    option_map (content_made r (call.ClearMatrix a)) (option_map MatrixContent q) ≡ Some (blank_of (shape.Matrix d n k))
left_m r a None d n k e = cc
left_m r a (Some m) d n k e =
    ap (λ (x : MatrixShape). Some (MatrixContent (record { domain = x.0; nrows = x.1; ncols = x.2; entries = [] }))) (some_same (matrix_shape m) (d, n, k) e)

left_v : (r : Contents) (v : VectorId) (q : Option Vector) (d : Domain) (n : ℕ) → option_map vector_shape q ≡ Some (d, n) →
    option_map (content_made r (call.ClearVector v)) (option_map VectorContent q) ≡ Some (blank_of (shape.Vector d n))
left_v r v None d n e = cc
left_v r v (Some x) d n e =
    ap (λ (y : VectorShape). Some (VectorContent (record { domain = y.0; size = y.1; entries = [] }))) (some_same (vector_shape x) (d, n) e)

one_shape_m : (a : MatrixId) (q : Option Matrix) (d : Domain) (n k : ℕ) → option_map matrix_shape q ≡ Some (d, n, k) →
    HaveOneShape (object.Matrix a) (Some (blank_of (shape.Matrix d n k))) (option_map MatrixContent q)
one_shape_m a None d n k e = cc
one_shape_m a (Some m) d n k e =
    let same : matrix_shape m ≡ (d, n, k) = some_same (matrix_shape m) (d, n, k) e in
    (sym (ap (λ (x : MatrixShape). x.0) same), sym (ap (λ (x : MatrixShape). x.1) same), sym (ap (λ (x : MatrixShape). x.2) same))

one_shape_v : (v : VectorId) (q : Option Vector) (d : Domain) (n : ℕ) → option_map vector_shape q ≡ Some (d, n) →
    HaveOneShape (object.Vector v) (Some (blank_of (shape.Vector d n))) (option_map VectorContent q)
one_shape_v v None d n e = cc
one_shape_v v (Some x) d n e =
    let same : vector_shape x ≡ (d, n) = some_same (vector_shape x) (d, n) e in
    (sym (ap (λ (y : VectorShape). y.0) same), sym (ap (λ (y : VectorShape). y.1) same))

module _ (s : Store) where
  matrix_of_shape : (a : MatrixId) (d : Domain) (n k : ℕ) → shape_at (shapes_of s) (object.Matrix a) ≡ Some (shape.Matrix d n k) → option_map matrix_shape (matrix_at s a) ≡ Some (d, n, k)
  matrix_of_shape a d n k e = sym (object_at-map matrix_shape s.matrices a.0) ∙ matrix_shaped (matrix_shape_at (shapes_of s) a) d n k e

  vector_of_shape : (v : VectorId) (d : Domain) (n : ℕ) → shape_at (shapes_of s) (object.Vector v) ≡ Some (shape.Vector d n) → option_map vector_shape (vector_at s v) ≡ Some (d, n)
  vector_of_shape v d n e = sym (object_at-map vector_shape s.vectors v.0) ∙ vector_shaped (vector_shape_at (shapes_of s) v) d n e

  pub clear_leaves : (o : Object) (x : Shape) → shape_at (shapes_of s) o ≡ Some x → outcome (content_at s) (clear_of o) ≡ Some (blank_of x)
  clear_leaves (object.Matrix a) (shape.Matrix d n k) e = left_m (content_at s) a (matrix_at s a) d n k (matrix_of_shape a d n k e)
  clear_leaves (object.Matrix a) (shape.Vector d n) e = absurd (no_vector (matrix_shape_at (shapes_of s) a) d n e)
  clear_leaves (object.Vector v) (shape.Vector d n) e = left_v (content_at s) v (vector_at s v) d n (vector_of_shape v d n e)
  clear_leaves (object.Vector v) (shape.Matrix d n k) e = absurd (no_matrix (vector_shape_at (shapes_of s) v) d n k e)

  blank_shaped : (o : Object) (x : Shape) → shape_at (shapes_of s) o ≡ Some x → HaveOneShape o (Some (blank_of x)) (content_at s o)
  blank_shaped (object.Matrix a) (shape.Matrix d n k) e = one_shape_m a (matrix_at s a) d n k (matrix_of_shape a d n k e)
  blank_shaped (object.Matrix a) (shape.Vector d n) e = absurd (no_vector (matrix_shape_at (shapes_of s) a) d n e)
  blank_shaped (object.Vector v) (shape.Vector d n) e = one_shape_v v (vector_at s v) d n (vector_of_shape v d n e)
  blank_shaped (object.Vector v) (shape.Matrix d n k) e = absurd (no_matrix (vector_shape_at (shapes_of s) v) d n k e)

  -- the store in which the object stores nothing
  module _ (o : Object) (x : Shape) (shaped : shape_at (shapes_of s) o ≡ Some x) where
    abbrev pub emptied : Store
    emptied = after s (clear_of o)

    pub emptied_there : content_at emptied o ≡ Some (blank_of x)
    emptied_there = own s (clear_of o) o (accepts (shapes_of s) o x shaped) (clears (shapes_of s) o) ∙ clear_leaves o x shaped

    pub emptied_else : (p : Object) → o ≢ p → content_at emptied p ≡ content_at s p
    emptied_else p apart =
        other s (clear_of o) p (λ e. apart (some_same o p (sym (clears (shapes_of s) o) ∙ (effective (shapes_of s) (clear_of o) p e).1)))

    emptied_shapes : shapes_of emptied ≡ shapes_of s
    emptied_shapes =
        shapes_of-after s (clear_of o)
        ∙ (ap (λ (q : Option Refusal). option_map_or (λ _. shapes_of s) q (reshaped (shapes_of s) (clear_of o))) (accepts (shapes_of s) o x shaped) ∙ reshapes (shapes_of s) o)

    emptied_one_shape : HaveOneShape o (content_at emptied o) (content_at s o)
    emptied_one_shape = subst (λ (q : Option Content). HaveOneShape o q (content_at s o)) (sym emptied_there) (blank_shaped o x shaped)

    -- a call with this output that reads it as no input
    module _ (c : Call) (output : output_of c ≡ Some o) (over : overwrites c ≡ true) (apart : is_among (inputs_of c) o ≡ false) where
      pub inputs_else : (p : Object) → is_among (inputs_of c) p ≡ true → content_at emptied p ≡ content_at s p
      inputs_else p wanted = emptied_else p (λ e. let no : is_among (inputs_of c) o ≡ true = subst (λ (q : Object). is_among (inputs_of c) q ≡ true) (sym e) wanted in cc)

      pub overwrites_emptied : outcome (content_at emptied) c ≡ outcome (content_at s) c
      overwrites_emptied =
          overwritten (content_at emptied) (content_at s) c over inputs_else
          (λ p e. subst (λ (q : Object). HaveOneShape q (content_at emptied q) (content_at s q)) (some_same o p (sym output ∙ e)) emptied_one_shape)

      pub accepts_emptied : (b : Store) → AgreeOn (is_among (objects_read c)) (content_at b) (content_at emptied) → refused_by_shapes (shapes_of s) c ≡ None → refused_by_shapes (shapes_of b) c ≡ None
      accepts_emptied b agree accepted = same_refusal b emptied c agree ∙ (ap (λ (u : ObjectShapes). refused_by_shapes u c) emptied_shapes ∙ accepted)

-- the clears
pub clear_is : (c : Call) (o : Object) → is_clear c ≡ true → output_of c ≡ Some o → c ≡ clear_of o
clear_is (call.ClearMatrix a) o e output = ap clear_of (some_same (object.Matrix a) o output)
clear_is (call.ClearVector v) o e output = ap clear_of (some_same (object.Vector v) o output)
clear_is _ o e output = cc

-- the output of an operation stands first in what it reads
output_is : (c : Call) (p : Operation) → operation_of c ≡ Some p → output_of c ≡ Some p.output
output_is (call.EwiseAddMatrix c mask accum op a b d) p e = ap (option_map (λ (o : Operation). o.output)) e
output_is (call.EwiseAddVector w mask accum op u v d) p e = ap (option_map (λ (o : Operation). o.output)) e
output_is (call.EwiseMultMatrix c mask accum op a b d) p e = ap (option_map (λ (o : Operation). o.output)) e
output_is (call.EwiseMultVector w mask accum op u v d) p e = ap (option_map (λ (o : Operation). o.output)) e
output_is (call.Mxv w mask accum semiring a u d) p e = ap (option_map (λ (o : Operation). o.output)) e
output_is (call.Vxm w mask accum semiring u a d) p e = ap (option_map (λ (o : Operation). o.output)) e
output_is (call.Mxm c mask accum semiring a b d) p e = ap (option_map (λ (o : Operation). o.output)) e
output_is (call.ReduceRows w mask accum monoid a d) p e = ap (option_map (λ (o : Operation). o.output)) e
output_is (call.WriteMatrix c mask accum term d) p e = ap (option_map (λ (o : Operation). o.output)) e
output_is (call.WriteVector w mask accum term d) p e = ap (option_map (λ (o : Operation). o.output)) e
output_is _ p e = cc

plain_masked : {X : Type 0} (mask : Option X) (accum : Option BinaryOp) (comp : Bool) → is_plain mask accum comp ≡ true → mask ≡ None
plain_masked None accum comp e = refl
plain_masked (Some m) accum comp e = cc

reads_by : (q : Option Operation) (p : Operation) (x : Option Object) → q ≡ Some p → p.mask ≡ None →
    option_map_or operation_objects q (if_any x) ++ option_map_or (λ o. if_any o.mask) q [] ≡ (p.output ∷ option_map_or operation_inputs q []) ++ []
reads_by q p x e none =
    ap (λ (y : Option Operation). option_map_or operation_objects y (if_any x) ++ option_map_or (λ o. if_any o.mask) y []) e
    ∙ (ap (λ (m : Option Object). (p.output ∷ operation_inputs p) ++ if_any m) none
    ∙ ap (λ (y : Option Operation). (p.output ∷ option_map_or operation_inputs y []) ++ []) (sym e))

pub both_true : (a b : Bool) → (a && b) ≡ true → (a ≡ true) × (b ≡ true)
both_true true true e = (refl, refl)
both_true true false e = cc
both_true false b e = cc

-- an operation that needs nothing of its output
pub record IsAnew (c : Call) (o : Object) : Type 0 where
  pub reads : objects_read c ≡ o ∷ inputs_of c
  pub over : overwrites c ≡ true
  pub apart : is_among (inputs_of c) o ≡ false

over_by : (q : Option Operation) (p : Operation) → q ≡ Some p → is_plain p.mask p.accum p.d.comp ≡ true → option_map_or (λ o. is_plain o.mask o.accum o.d.comp) q false ≡ true
over_by q p e plain = ap (λ (y : Option Operation). option_map_or (λ o. is_plain o.mask o.accum o.d.comp) y false) e ∙ plain

overwrites_is : (c : Call) → is_clear c ≡ false → overwrites c ≡ option_map_or (λ o. is_plain o.mask o.accum o.d.comp) (operation_of c) false
overwrites_is (call.ClearMatrix a) e = cc
overwrites_is (call.ClearVector v) e = cc
overwrites_is _ e = refl

no_clear : (c : Call) (p : Operation) → operation_of c ≡ Some p → is_clear c ≡ false
no_clear (call.ClearMatrix a) p e = cc
no_clear (call.ClearVector v) p e = cc
no_clear _ p e = refl

pub anew : (c : Call) (p : Operation) (o : Object) → operation_of c ≡ Some p → forgets c ≡ true → output_of c ≡ Some o → IsAnew c o
anew c p o e needs_none output =
    let clear = no_clear c p e in
    let here : p.output ≡ o = some_same p.output o (sym (output_is c p e) ∙ output) in
    let both : (is_plain p.mask p.accum p.d.comp && not (is_among (operation_inputs p) p.output)) ≡ true =
    sym (ap (λ (b : Bool). b || option_map_or is_anew (operation_of c) false) clear ∙ ap (λ (y : Option Operation). option_map_or is_anew y false) e) ∙ needs_none in
    let parts = both_true (is_plain p.mask p.accum p.d.comp) (not (is_among (operation_inputs p) p.output)) both in
    let beside : is_among (operation_inputs p) p.output ≡ false = not-true (is_among (operation_inputs p) p.output) parts.1 in
    record {
      reads = reads_by (operation_of c) p (named c) e (plain_masked p.mask p.accum p.d.comp parts.0) ∙ (end_none (p.output ∷ inputs_of c) ∙ ap (λ (x : Object). x ∷ inputs_of c) here);
      over = overwrites_is c clear ∙ over_by (operation_of c) p e parts.0;
      apart = ap (λ (y : Option Operation). is_among (option_map_or operation_inputs y []) o) e ∙ (ap (is_among (operation_inputs p)) (sym here) ∙ beside);
    }
