-- Calls with other numbers: what they name, and what they do to a store that holds the same objects at those numbers.
use Rattle.std.proofs.Common.{◌≡◌, Bool, true, false, if◌then◌else◌, List, [], ◌∷◌, ◌++◌, map, refl, sym, ap, ◌∙◌, Option, None, Some, option_map}
use Rattle.std.specs.Option.{option_map_or, option_or}
use Rattle.grb_call.specs.declared.call.Call.{Call}
use Rattle.grb_call.specs.declared.call.Call.TheVariants as call
use Rattle.grb_call.specs.declared.term.MatrixTerm.TheVariants as matrix_term
use Rattle.grb_call.specs.declared.term.VectorTerm.TheVariants as vector_term
use Rattle.grb_call.specs.declared.ids.Object.{Object}
use Rattle.grb_call.specs.declared.operation.Operation.{Operation}
use Rattle.grb_call.specs.Kinds.{enters}
use Rattle.grb_call.specs.Operands.{named, operands, masks, given_domains}
use Rattle.grb_call.specs.Operation.{if_any, operation_of, operation_objects}
use Rattle.grb_call.specs.Output.{output_of}
use Rattle.grb_call.specs.Status.{object_of}
use Rattle.grb_numbers.specs.Inside.{Renaming, renamed, renamed_object}

module _ (r : Renaming) where
  -- the operation with other numbers
  abbrev pub renamed_operation : Operation → Operation
  renamed_operation o =
      record { output = renamed_object r o.output; mask = option_map (renamed_object r) o.mask; accum = o.accum; first = option_map (renamed_object r) o.first; second = option_map (renamed_object r) o.second; kind = o.kind; d = o.d }

  pub operation_of-renamed : (c : Call) → operation_of (renamed r c) ≡ option_map renamed_operation (operation_of c)
  operation_of-renamed (call.EwiseAddMatrix c None accum op a b d) = refl
  operation_of-renamed (call.EwiseAddMatrix c (Some m) accum op a b d) = refl
  operation_of-renamed (call.EwiseAddVector w None accum op u v d) = refl
  operation_of-renamed (call.EwiseAddVector w (Some m) accum op u v d) = refl
  operation_of-renamed (call.EwiseMultMatrix c None accum op a b d) = refl
  operation_of-renamed (call.EwiseMultMatrix c (Some m) accum op a b d) = refl
  operation_of-renamed (call.EwiseMultVector w None accum op u v d) = refl
  operation_of-renamed (call.EwiseMultVector w (Some m) accum op u v d) = refl
  operation_of-renamed (call.Mxv w None accum semiring a u d) = refl
  operation_of-renamed (call.Mxv w (Some m) accum semiring a u d) = refl
  operation_of-renamed (call.Vxm w None accum semiring u a d) = refl
  operation_of-renamed (call.Vxm w (Some m) accum semiring u a d) = refl
  operation_of-renamed (call.Mxm c None accum semiring a b d) = refl
  operation_of-renamed (call.Mxm c (Some m) accum semiring a b d) = refl
  operation_of-renamed (call.ReduceRows w None accum monoid a d) = refl
  operation_of-renamed (call.ReduceRows w (Some m) accum monoid a d) = refl
  operation_of-renamed (call.WriteMatrix c None accum (matrix_term.Transposed a) d) = refl
  operation_of-renamed (call.WriteMatrix c (Some m) accum (matrix_term.Transposed a) d) = refl
  operation_of-renamed (call.WriteMatrix c None accum (matrix_term.Applied f a) d) = refl
  operation_of-renamed (call.WriteMatrix c (Some m) accum (matrix_term.Applied f a) d) = refl
  operation_of-renamed (call.WriteMatrix c None accum (matrix_term.Selected t a) d) = refl
  operation_of-renamed (call.WriteMatrix c (Some m) accum (matrix_term.Selected t a) d) = refl
  operation_of-renamed (call.WriteMatrix c None accum (matrix_term.Kronecker op a b) d) = refl
  operation_of-renamed (call.WriteMatrix c (Some m) accum (matrix_term.Kronecker op a b) d) = refl
  operation_of-renamed (call.WriteVector w None accum (vector_term.Applied f u) d) = refl
  operation_of-renamed (call.WriteVector w (Some m) accum (vector_term.Applied f u) d) = refl
  operation_of-renamed (call.WriteVector w None accum (vector_term.Selected t u) d) = refl
  operation_of-renamed (call.WriteVector w (Some m) accum (vector_term.Selected t u) d) = refl
  operation_of-renamed _ = refl

  pub named-renamed : (c : Call) → named (renamed r c) ≡ option_map (renamed_object r) (named c)
  named-renamed (call.NewMatrix domain nrows ncols) = refl
  named-renamed _ = refl

  pub enters-renamed : (c : Call) → enters (renamed r c) ≡ enters c
  enters-renamed (call.NewMatrix domain nrows ncols) = refl
  enters-renamed _ = refl

  pub given-renamed : (c : Call) → given_domains (renamed r c) ≡ given_domains c
  given-renamed (call.NewMatrix domain nrows ncols) = refl
  given-renamed (call.WriteMatrix c mask accum (matrix_term.Transposed a) d) = refl
  given-renamed (call.WriteMatrix c mask accum (matrix_term.Applied f a) d) = refl
  given-renamed (call.WriteMatrix c mask accum (matrix_term.Selected t a) d) = refl
  given-renamed (call.WriteMatrix c mask accum (matrix_term.Kronecker op a b) d) = refl
  given-renamed (call.WriteVector w mask accum (vector_term.Applied f u) d) = refl
  given-renamed (call.WriteVector w mask accum (vector_term.Selected t u) d) = refl
  given-renamed _ = refl

  if_any-renamed : (o : Option Object) → if_any (option_map (renamed_object r) o) ≡ map (renamed_object r) (if_any o)
  if_any-renamed None = refl
  if_any-renamed (Some o) = refl

  map-both : (os ps : List Object) → map (renamed_object r) (os ++ ps) ≡ map (renamed_object r) os ++ map (renamed_object r) ps
  map-both [] ps = refl
  map-both (o ∷ os) ps = ap (λ t. renamed_object r o ∷ t) (map-both os ps)

  inputs-renamed : (o p : Option Object) → if_any (option_map (renamed_object r) o) ++ if_any (option_map (renamed_object r) p) ≡ map (renamed_object r) (if_any o ++ if_any p)
  inputs-renamed None p = if_any-renamed p
  inputs-renamed (Some o) p = ap (λ t. renamed_object r o ∷ t) (if_any-renamed p)

  operands_by : (q : Option Operation) (n : Option Object) →
      option_map_or operation_objects (option_map renamed_operation q) (if_any (option_map (renamed_object r) n)) ≡ map (renamed_object r) (option_map_or operation_objects q (if_any n))
  operands_by None n = if_any-renamed n
  operands_by (Some o) n = ap (λ t. renamed_object r o.output ∷ t) (inputs-renamed o.first o.second)

  operands-renamed : (c : Call) → operands (renamed r c) ≡ map (renamed_object r) (operands c)
  operands-renamed c = (λ i. option_map_or operation_objects (operation_of-renamed c i) (if_any (named-renamed c i))) ∙ operands_by (operation_of c) (named c)

  masks_by : (q : Option Operation) → option_map_or (λ (o : Operation). if_any o.mask) (option_map renamed_operation q) [] ≡ map (renamed_object r) (option_map_or (λ (o : Operation). if_any o.mask) q [])
  masks_by None = refl
  masks_by (Some o) = if_any-renamed o.mask

  masks-renamed : (c : Call) → masks (renamed r c) ≡ map (renamed_object r) (masks c)
  masks-renamed c = ap (λ (q : Option Operation). option_map_or (λ o. if_any o.mask) q []) (operation_of-renamed c) ∙ masks_by (operation_of c)

  pub operands_are : (c : Call) → operands (renamed r c) ≡ map (renamed_object r) (operands c)
  operands_are c = operands-renamed c

  pub objects-renamed : (c : Call) → operands (renamed r c) ++ masks (renamed r c) ≡ map (renamed_object r) (operands c ++ masks c)
  objects-renamed c = (λ i. operands-renamed c i ++ masks-renamed c i) ∙ sym (map-both (operands c) (masks c))

  object_by : (q : Option Operation) (n : Option Object) →
      option_or (option_map (λ (o : Operation). o.output) (option_map renamed_operation q)) (option_map (renamed_object r) n) ≡ option_map (renamed_object r) (option_or (option_map (λ (o : Operation). o.output) q) n)
  object_by None n = refl
  object_by (Some o) n = refl

  object_of-renamed : (c : Call) → object_of (renamed r c) ≡ option_map (renamed_object r) (object_of c)
  object_of-renamed (call.DupMatrix a) = refl
  object_of-renamed (call.DupVector v) = refl
  object_of-renamed (call.Diag v diagonal) = refl
  object_of-renamed c = refl

  output_by : (b : Bool) (o : Option Object) → (if b then option_map (renamed_object r) o else None) ≡ option_map (renamed_object r) (if b then o else None)
  output_by true o = refl
  output_by false o = refl

  pub output_of-renamed : (c : Call) → output_of (renamed r c) ≡ option_map (renamed_object r) (output_of c)
  output_of-renamed c = (λ i. if enters-renamed c i then object_of-renamed c i else None) ∙ output_by (enters c) (object_of c)
