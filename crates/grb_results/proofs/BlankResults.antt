-- The results of calls that need nothing of what their output stored.
use Rattle.std.proofs.Common.{◌≡◌, ◌<◌, ℕ, Bool, true, if◌then◌else◌, List, [], ◌∷◌, length, sym, ap, subst, refl, ◌∙◌, Option, Some, None, is_some}
use Rattle.grb_results.proofs.Prelude.{slice_get, IfSome, option_map, option_map_or, Call, Object, objects_read, output_of, refused_by_shapes, ObjectShapes, Store, shapes_of, Content, Contents, content_at, outcome, target_of, is_among, AgreeOn, SharedContent, Table, blank_of, forgets, inputs_of, is_clear, shape_at, shape_noted, shape_of_any, contents_after, target_in, IsBlankAt, IsResult, IsTable, content_of, is_accepted, node_there, store_before, the_target, some_same}
use Rattle.grb_call.specs.declared.call.Call.TheVariants as call
use Rattle.grb_call.specs.declared.class.Class.TheVariants.{Operates}
use Rattle.grb_call.specs.declared.operation.Operation.{Operation}
use Rattle.grb_call.specs.After.{after}
use Rattle.grb_call.specs.Kinds.{class_of}
use Rattle.grb_call.specs.Operation.{operation_inputs, operation_of}
use Rattle.grb_links.specs.declared.shape.Shape.{Shape}
use Rattle.grb_links.proofs.Blank.{IsAnew, accepts_emptied, anew, clear_is, clear_leaves, clear_of, emptied_there, inputs_else, overwrites_emptied}
use Rattle.grb_results.proofs.Frame.{in_nodes, result_is, some_result}

the_shape : (q : Option Shape) (w : Content) → option_map blank_of q ≡ Some w → (x : Shape) × (q ≡ Some x) × (blank_of x ≡ w)
the_shape None w e = cc
the_shape (Some x) w e = (x, refl, some_same (blank_of x) w e)

clear_output : (u : ObjectShapes) (c : Call) → is_clear c ≡ true → target_of u c ≡ output_of c
clear_output u (call.ClearMatrix a) e = refl
clear_output u (call.ClearVector v) e = refl
clear_output u _ e = cc

pub clear_forgets : (c : Call) → is_clear c ≡ true → forgets c ≡ true
clear_forgets (call.ClearMatrix a) e = refl
clear_forgets (call.ClearVector v) e = refl
clear_forgets _ e = cc

operation_there : (c : Call) → class_of c ≡ Operates → (p : Operation) × (operation_of c ≡ Some p)
operation_there (call.EwiseAddMatrix c mask accum op a b d) e = (_, refl)
operation_there (call.EwiseAddVector w mask accum op u v d) e = (_, refl)
operation_there (call.EwiseMultMatrix c mask accum op a b d) e = (_, refl)
operation_there (call.EwiseMultVector w mask accum op u v d) e = (_, refl)
operation_there (call.Mxv w mask accum semiring a u d) e = (_, refl)
operation_there (call.Vxm w mask accum semiring u a d) e = (_, refl)
operation_there (call.Mxm c mask accum semiring a b d) e = (_, refl)
operation_there (call.ReduceRows w mask accum monoid a d) e = (_, refl)
operation_there (call.WriteMatrix c mask accum term d) e = (_, refl)
operation_there (call.WriteVector w mask accum term d) e = (_, refl)
operation_there _ e = cc

-- the store before the call at a place, where an object stores nothing
abbrev pub bare : List Call → ℕ → Object → Store
bare cs k o = after (store_before cs k) (clear_of o)

-- the inputs of a call, by its operation
pub inputs_are : (c : Call) (p : Operation) → operation_of c ≡ Some p → operation_inputs p ≡ inputs_of c
inputs_are c p e = sym (ap (λ (y : Option Operation). option_map_or operation_inputs y []) e)

module _ (cs : List Call) (t : Table) (is : IsTable cs t) (k : ℕ) (near : k < length t.results.items) (c : Call) (here : slice_get cs k ≡ Some c) (o : Object) (v : SharedContent) where
  shape_found : forgets c ≡ true → output_of c ≡ Some o → IsBlankAt t k v → (x : Shape) × (shape_at (shapes_of (store_before cs k)) o ≡ Some x) × (blank_of x ≡ content_of v)
  shape_found forgotten output blank =
      let node = node_there t.learnt.nodes.items k (in_nodes cs t is k near) in
      let u = shapes_of (store_before cs k) in
      let shaped : shape_noted t.learnt.shapes_noted.items node.0.noted ≡ shape_at u o =
      (is.learnt.nodes_are k node.0 node.1).shape_is c here ∙ (ap (λ (b : Bool). if b then shape_of_any u (output_of c) else None) forgotten ∙ ap (shape_of_any u) output) in
      the_shape (shape_at u o) (content_of v) (ap (option_map blank_of) (sym shaped) ∙ blank node.0 node.1)

  cleared_by : target_in cs k ≡ Some o → is_clear c ≡ true → IsBlankAt t k v → IsResult cs k v
  cleared_by target clears blank =
      let s = store_before cs k in
      let output : output_of c ≡ Some o = sym (clear_output (shapes_of s) c clears) ∙ (is_accepted cs k c o here target).1 in
      let found = shape_found (clear_forgets c clears) output blank in
      result_is cs t is k near c v here
      (ap (outcome (content_at s)) (clear_is c o clears output) ∙ (clear_leaves s o found.0 found.1 ∙ ap (λ (w : Content). Some w) found.2))

  -- an operation
  module _ (accepted : is_some (target_in cs k) ≡ true) (operates : class_of c ≡ Operates) (forgotten : forgets c ≡ true) (output : output_of c ≡ Some o) (blank : IsBlankAt t k v) where
    found : (x : Shape) × (shape_at (shapes_of (store_before cs k)) o ≡ Some x) × (blank_of x ≡ content_of v)
    found = shape_found forgotten output blank

    is_anew : IsAnew c o
    is_anew = let p = operation_there c operates in anew c p.0 o p.1 forgotten output

    taken : refused_by_shapes (shapes_of (store_before cs k)) c ≡ None
    taken = let o = the_target (target_in cs k) accepted in (is_accepted cs k c o.0 here o.1).0

    pub stands_empty : content_at (bare cs k o) o ≡ Some (content_of v)
    stands_empty = emptied_there (store_before cs k) o found.0 found.1 ∙ ap (λ (w : Content). Some w) found.2

    pub holds_inputs : (p : Object) → is_among (inputs_of c) p ≡ true → content_at (bare cs k o) p ≡ contents_after cs k p
    holds_inputs = inputs_else (store_before cs k) o found.0 found.1 c output is_anew.over is_anew.apart

    all_read : (b : Store) → AgreeOn (is_among (o ∷ inputs_of c)) (content_at b) (content_at (bare cs k o)) → AgreeOn (is_among (objects_read c)) (content_at b) (content_at (bare cs k o))
    all_read b agree = subst (λ (os : List Object). AgreeOn (is_among os) (content_at b) (content_at (bare cs k o))) (sym is_anew.reads) agree

    pub accepts_bare : (b : Store) → AgreeOn (is_among (o ∷ inputs_of c)) (content_at b) (content_at (bare cs k o)) → refused_by_shapes (shapes_of b) c ≡ None
    accepts_bare b agree = accepts_emptied (store_before cs k) o found.0 found.1 c output is_anew.over is_anew.apart b (all_read b agree) taken

    pub overwritten_result : (q : Option SharedContent) (b : Store) → AgreeOn (is_among (o ∷ inputs_of c)) (content_at b) (content_at (bare cs k o)) →
        ((r : Contents) → AgreeOn (is_among (objects_read c)) (content_at b) r → option_map content_of q ≡ outcome r c) → IfSome q (IsResult cs k)
    overwritten_result q b agree makes =
        some_result cs t is k near c q here
        (makes (content_at (bare cs k o)) (all_read b agree) ∙ overwrites_emptied (store_before cs k) o found.0 found.1 c output is_anew.over is_anew.apart)

module _ (cs : List Call) (t : Table) (is : IsTable cs t) (k : ℕ) (near : k < length t.results.items) (c : Call) (here : slice_get cs k ≡ Some c) where
  pub cleared_result : (v : SharedContent) → is_some (target_in cs k) ≡ true → is_clear c ≡ true → IsBlankAt t k v → IsResult cs k v
  cleared_result v accepted clears blank =
      let o = the_target (target_in cs k) accepted in cleared_by cs t is k near c here o.0 v o.1 clears blank
