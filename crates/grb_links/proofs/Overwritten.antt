-- What a call leaves that overwrites its output, whatever that stored.
use Rattle.std.proofs.Common.{◌≡◌, ℕ, Bool, true, false, not, List, [], ◌∷◌, refl, sym, ap, ◌∙◌, Option, Some, None}
use Rattle.std.specs.Option.{option_map, option_map_or}
use Rattle.std.specs.declared.cmp.Ordering.{Ordering}
use Rattle.std.specs.Ordering.{nat_cmp}
use Rattle.std.specs.Cmp.{IsTotalOrder, nat_cmp_total}
use Rattle.std.specs.FinMap.{find, IsAntisymmetric, nat_cmp-IsAntisymmetric}
use Rattle.grb_core.specs.declared.domain.Domain.{Domain}
use Rattle.grb_core.specs.declared.operator.BinaryOp.{BinaryOp}
use Rattle.grb_core.specs.declared.value.Value.{Value}
use Rattle.grb_core.specs.Contents.{Matrix, Vector}
use Rattle.grb_core.specs.Entries.{cell_cmp, MatrixEntries, VectorEntries}
use Rattle.grb_core.specs.Mask.{is_inside}
use Rattle.grb_core.specs.Results.{ewise_add, ewise_mult, mxv_of, mxm_of, reduce_rows_of, turned, vxm_of}
use Rattle.grb_core.specs.Written.{written, written_value}
use Rattle.grb_core.proofs.Maps.{cell_cmp_total, cell_cmp-IsAntisymmetric, same_entries_at}
use Rattle.grb_core.proofs.Written.{find-masked, is_sorted-masked}
use Rattle.grb_core.specs.Functions.{turns_input}
use Rattle.grb_core.specs.Maps.{applied, selected_cells, selected_indices}
use Rattle.grb_call.specs.declared.call.Call.{Call}
use Rattle.grb_call.specs.declared.call.Call.TheVariants as call
use Rattle.grb_core.specs.declared.descriptor.Descriptor.{Descriptor}
use Rattle.grb_call.specs.declared.ids.MatrixId.{MatrixId}
use Rattle.grb_call.specs.declared.ids.VectorId.{VectorId}
use Rattle.grb_call.specs.declared.ids.Object.{Object}
use Rattle.grb_call.specs.declared.ids.Object.TheVariants as object
use Rattle.grb_call.specs.declared.term.MatrixTerm.TheVariants as matrix_term
use Rattle.grb_call.specs.declared.term.VectorTerm.TheVariants as vector_term
use Rattle.grb_call.proofs.Operated.{kronecker_by}
use Rattle.grb_call.specs.Output.{entries_of_matrix, entries_of_vector, output_of, matrix_read, vector_read}
use Rattle.grb_core.specs.Written.{written_matrix, written_vector}
use Rattle.grb_slices.specs.Content.{Content, MatrixContent, VectorContent, Contents, content_made, filled_matrix, filled_vector, matrix_held, objects_held, outcome, vector_held}
use Rattle.grb_slices.specs.Slice.{is_among}
use Rattle.grb_slices.specs.Steps.{AgreeOn}
use Rattle.grb_slices.proofs.Wants.{among_first, among_next}
use Rattle.grb_links.specs.Overwrites.{is_plain, overwrites, inputs_of, HaveOneShape}

-- where all places are inside, and nothing combines, the old output is not read
module _ {K : Type 0} (R : K → K → Ordering) (o : IsTotalOrder R) (same : IsAntisymmetric R) (inside : K → Bool) (all : (q : K) → inside q ≡ true) (replace : Bool) where
  at : (q : K) (old new : List (K × Value)) → find R q (written R inside replace None old new) ≡ find R q new
  at q old new = find-masked o same inside replace q old new ∙ ap (λ b. written_value b replace (find R q old) (find R q new)) (all q)

  pub written_over : (old other new : List (K × Value)) → written R inside replace None old new ≡ written R inside replace None other new
  written_over old other new =
      same_entries_at R o same _ _ (is_sorted-masked o same inside replace old new) (is_sorted-masked o same inside replace other new) (λ q. at q old new ∙ sym (at q other new))

abbrev matrix_of : Domain → ℕ → ℕ → MatrixEntries → Matrix
matrix_of domain nrows ncols entries = record { domain = domain; nrows = nrows; ncols = ncols; entries = entries }

abbrev vector_of : Domain → ℕ → VectorEntries → Vector
vector_of domain size entries = record { domain = domain; size = size; entries = entries }

same_matrix : (d e : Domain) (i j k l : ℕ) (x y : MatrixEntries) → d ≡ e → i ≡ j → k ≡ l → x ≡ y → matrix_of d i k x ≡ matrix_of e j l y
same_matrix d e i j k l x y a b c f = ap (λ z. matrix_of z i k x) a ∙ (ap (λ z. matrix_of e z k x) b ∙ (ap (λ z. matrix_of e j z x) c ∙ ap (matrix_of e j l) f))

same_vector : (d e : Domain) (i j : ℕ) (x y : VectorEntries) → d ≡ e → i ≡ j → x ≡ y → vector_of d i x ≡ vector_of e j y
same_vector d e i j x y a b f = ap (λ z. vector_of z i x) a ∙ (ap (λ z. vector_of e z x) b ∙ ap (vector_of e j) f)

all_inside_m : (structure comp : Bool) (mask : Option MatrixEntries) → mask ≡ None → comp ≡ false → (q : ℕ × ℕ) → is_inside cell_cmp structure comp mask q ≡ true
all_inside_m structure comp mask none plain q = ap (λ (m : Option MatrixEntries). is_inside cell_cmp structure comp m q) none ∙ ap (λ (b : Bool). is_inside cell_cmp structure b None q) plain

all_inside_v : (structure comp : Bool) (mask : Option VectorEntries) → mask ≡ None → comp ≡ false → (q : ℕ) → is_inside nat_cmp structure comp mask q ≡ true
all_inside_v structure comp mask none plain q = ap (λ (m : Option VectorEntries). is_inside nat_cmp structure comp m q) none ∙ ap (λ (b : Bool). is_inside nat_cmp structure b None q) plain

no_comp : (X : Type 0) (b : Bool) → is_plain {X = X} None None b ≡ true → b ≡ false
no_comp X false e = refl
no_comp X true e = cc

module _ (r t : Contents) where
  agree_first : (o : Object) (os : List Object) → AgreeOn (is_among (o ∷ os)) r t → r o ≡ t o
  agree_first o os agree = agree o (among_first o os)

  agree_next : (o : Object) (os : List Object) → AgreeOn (is_among (o ∷ os)) r t → AgreeOn (is_among os) r t
  agree_next o os agree p wanted = agree p (among_next p o os wanted)

  wrote_m : (mask : Option Object) (accum : Option BinaryOp) (d : Descriptor) → is_plain mask accum d.comp ≡ true → (x y : MatrixEntries) → x ≡ y → (m n : Matrix) →
      (m.domain ≡ n.domain) × (m.nrows ≡ n.nrows) × (m.ncols ≡ n.ncols) → written_matrix (option_map (matrix_read (objects_held r)) mask) accum d x m ≡ written_matrix (option_map (matrix_read (objects_held t)) mask) accum d y n
  wrote_m None None d plain x y e m n shape =
      same_matrix m.domain n.domain m.nrows n.nrows m.ncols n.ncols _ _ shape.0 shape.1 shape.2
      (written_over cell_cmp cell_cmp_total cell_cmp-IsAntisymmetric (is_inside cell_cmp d.structure d.comp None) (all_inside_m d.structure d.comp None refl (no_comp Object d.comp plain)) d.replace m.entries n.entries x
      ∙ ap (written cell_cmp (is_inside cell_cmp d.structure d.comp None) d.replace None n.entries) e)
  wrote_m (Some k) accum d plain x y e m n shape = cc
  wrote_m None (Some op) d plain x y e m n shape = cc

  wrote_v : (mask : Option Object) (accum : Option BinaryOp) (d : Descriptor) → is_plain mask accum d.comp ≡ true → (x y : VectorEntries) → x ≡ y → (m n : Vector) →
      (m.domain ≡ n.domain) × (m.size ≡ n.size) → written_vector (option_map (vector_read (objects_held r)) mask) accum d x m ≡ written_vector (option_map (vector_read (objects_held t)) mask) accum d y n
  wrote_v None None d plain x y e m n shape =
      same_vector m.domain n.domain m.size n.size _ _ shape.0 shape.1
      (written_over nat_cmp nat_cmp_total nat_cmp-IsAntisymmetric (is_inside nat_cmp d.structure d.comp None) (all_inside_v d.structure d.comp None refl (no_comp Object d.comp plain)) d.replace m.entries n.entries x
      ∙ ap (written nat_cmp (is_inside nat_cmp d.structure d.comp None) d.replace None n.entries) e)
  wrote_v (Some k) accum d plain x y e m n shape = cc
  wrote_v None (Some op) d plain x y e m n shape = cc

  -- by the output
  of_matrix : (c : Call) (a : MatrixId) (p q : Option Content) → HaveOneShape (object.Matrix a) p q →
      ((m n : Matrix) → (m.domain ≡ n.domain) × (m.nrows ≡ n.nrows) × (m.ncols ≡ n.ncols) → filled_matrix r c m ≡ filled_matrix t c n) → option_map (content_made r c) p ≡ option_map (content_made t c) q
  of_matrix c a (Some (MatrixContent m)) (Some (MatrixContent n)) shape makes = ap (λ (z : Matrix). Some (MatrixContent z)) (makes m n shape)
  of_matrix c a (Some (MatrixContent m)) (Some (VectorContent y)) shape makes = absurd shape
  of_matrix c a (Some (VectorContent x)) (Some q) shape makes = absurd shape
  of_matrix c a (Some p) None shape makes = no p shape
    where
      no : (p : Content) → HaveOneShape (object.Matrix a) (Some p) None → option_map (content_made r c) (Some p) ≡ None
      no (MatrixContent m) shape = absurd shape
      no (VectorContent x) shape = absurd shape
  of_matrix c a None (Some q) shape makes = absurd shape
  of_matrix c a None None shape makes = refl

  of_vector : (c : Call) (v : VectorId) (p q : Option Content) → HaveOneShape (object.Vector v) p q →
      ((x y : Vector) → (x.domain ≡ y.domain) × (x.size ≡ y.size) → filled_vector r c x ≡ filled_vector t c y) → option_map (content_made r c) p ≡ option_map (content_made t c) q
  of_vector c v (Some (VectorContent x)) (Some (VectorContent y)) shape makes = ap (λ (z : Vector). Some (VectorContent z)) (makes x y shape)
  of_vector c v (Some (VectorContent x)) (Some (MatrixContent n)) shape makes = absurd shape
  of_vector c v (Some (MatrixContent m)) (Some q) shape makes = absurd shape
  of_vector c v (Some p) None shape makes = no p shape
    where
      no : (p : Content) → HaveOneShape (object.Vector v) (Some p) None → option_map (content_made r c) (Some p) ≡ None
      no (MatrixContent m) shape = absurd shape
      no (VectorContent x) shape = absurd shape
  of_vector c v None (Some q) shape makes = absurd shape
  of_vector c v None None shape makes = refl

  -- the inputs hold the same
  one_m : (a : MatrixId) (os : List Object) → AgreeOn (is_among (object.Matrix a ∷ os)) r t → entries_of_matrix (objects_held r) a ≡ entries_of_matrix (objects_held t) a
  one_m a os agree = ap (λ (p : Option Content). option_map_or (λ m. m.entries) (matrix_held p) []) (agree_first (object.Matrix a) os agree)

  held_m : (a : MatrixId) (os : List Object) → AgreeOn (is_among (object.Matrix a ∷ os)) r t → matrix_held (r (object.Matrix a)) ≡ matrix_held (t (object.Matrix a))
  held_m a os agree = ap matrix_held (agree_first (object.Matrix a) os agree)

  one_v : (v : VectorId) (os : List Object) → AgreeOn (is_among (object.Vector v ∷ os)) r t → entries_of_vector (objects_held r) v ≡ entries_of_vector (objects_held t) v
  one_v v os agree = ap (λ (p : Option Content). option_map_or (λ x. x.entries) (vector_held p) []) (agree_first (object.Vector v) os agree)

  two : {X Y Z : Type 0} (f : X → Y → Z) (a b : X) (x y : Y) → a ≡ b → x ≡ y → f a x ≡ f b y
  two f a b x y e g = ap (λ z. f z x) e ∙ ap (f b) g

  pub over : (c : Call) → overwrites c ≡ true → AgreeOn (is_among (inputs_of c)) r t → ((o : Object) → output_of c ≡ Some o → HaveOneShape o (r o) (t o)) → outcome r c ≡ outcome t c
  over (call.ClearMatrix a) plain agree shape =
      of_matrix (call.ClearMatrix a) a _ _ (shape (object.Matrix a) refl) (λ m n s. same_matrix m.domain n.domain m.nrows n.nrows m.ncols n.ncols [] [] s.0 s.1 s.2 refl)
  over (call.ClearVector v) plain agree shape = of_vector (call.ClearVector v) v _ _ (shape (object.Vector v) refl) (λ x y s. same_vector x.domain y.domain x.size y.size [] [] s.0 s.1 refl)
  over (call.EwiseAddMatrix c mask accum op a b d) plain agree shape =
      of_matrix (call.EwiseAddMatrix c mask accum op a b d) c _ _ (shape (object.Matrix c) refl)
      (wrote_m (option_map object.Matrix mask) accum d plain _ _ (two (λ x y. ewise_add cell_cmp op (turned d.tran x) (turned d.tran1 y)) _ _ _ _ (one_m a (object.Matrix b ∷ []) agree) (one_m b [] (agree_next (object.Matrix a) (object.Matrix b ∷ []) agree))))
  over (call.EwiseMultMatrix c mask accum op a b d) plain agree shape =
      of_matrix (call.EwiseMultMatrix c mask accum op a b d) c _ _ (shape (object.Matrix c) refl)
      (wrote_m (option_map object.Matrix mask) accum d plain _ _ (two (λ x y. ewise_mult cell_cmp op (turned d.tran x) (turned d.tran1 y)) _ _ _ _ (one_m a (object.Matrix b ∷ []) agree) (one_m b [] (agree_next (object.Matrix a) (object.Matrix b ∷ []) agree))))
  over (call.Mxm c mask accum semiring a b d) plain agree shape =
      of_matrix (call.Mxm c mask accum semiring a b d) c _ _ (shape (object.Matrix c) refl)
      (wrote_m (option_map object.Matrix mask) accum d plain _ _ (two (λ x y. mxm_of semiring (turned d.tran x) (turned d.tran1 y)) _ _ _ _ (one_m a (object.Matrix b ∷ []) agree) (one_m b [] (agree_next (object.Matrix a) (object.Matrix b ∷ []) agree))))
  over (call.EwiseAddVector w mask accum op u v d) plain agree shape =
      of_vector (call.EwiseAddVector w mask accum op u v d) w _ _ (shape (object.Vector w) refl)
      (wrote_v (option_map object.Vector mask) accum d plain _ _ (two (ewise_add nat_cmp op) _ _ _ _ (one_v u (object.Vector v ∷ []) agree) (one_v v [] (agree_next (object.Vector u) (object.Vector v ∷ []) agree))))
  over (call.EwiseMultVector w mask accum op u v d) plain agree shape =
      of_vector (call.EwiseMultVector w mask accum op u v d) w _ _ (shape (object.Vector w) refl)
      (wrote_v (option_map object.Vector mask) accum d plain _ _ (two (ewise_mult nat_cmp op) _ _ _ _ (one_v u (object.Vector v ∷ []) agree) (one_v v [] (agree_next (object.Vector u) (object.Vector v ∷ []) agree))))
  over (call.Mxv w mask accum semiring a u d) plain agree shape =
      of_vector (call.Mxv w mask accum semiring a u d) w _ _ (shape (object.Vector w) refl)
      (wrote_v (option_map object.Vector mask) accum d plain _ _ (two (λ x y. mxv_of semiring (turned d.tran x) y) _ _ _ _ (one_m a (object.Vector u ∷ []) agree) (one_v u [] (agree_next (object.Matrix a) (object.Vector u ∷ []) agree))))
  over (call.Vxm w mask accum semiring u a d) plain agree shape =
      of_vector (call.Vxm w mask accum semiring u a d) w _ _ (shape (object.Vector w) refl)
      (wrote_v (option_map object.Vector mask) accum d plain _ _ (two (λ x y. vxm_of semiring x (turned d.tran1 y)) _ _ _ _ (one_v u (object.Matrix a ∷ []) agree) (one_m a [] (agree_next (object.Vector u) (object.Matrix a ∷ []) agree))))
  over (call.ReduceRows w mask accum monoid a d) plain agree shape =
      of_vector (call.ReduceRows w mask accum monoid a d) w _ _ (shape (object.Vector w) refl)
      (wrote_v (option_map object.Vector mask) accum d plain _ _ (ap (λ x. reduce_rows_of monoid (turned d.tran x)) (one_m a [] agree)))
  over (call.WriteMatrix c mask accum (matrix_term.Transposed a) d) plain agree shape =
      of_matrix (call.WriteMatrix c mask accum (matrix_term.Transposed a) d) c _ _ (shape (object.Matrix c) refl)
      (wrote_m (option_map object.Matrix mask) accum d plain _ _ (ap (turned (not d.tran)) (one_m a [] agree)))
  over (call.WriteMatrix c mask accum (matrix_term.Applied f a) d) plain agree shape =
      of_matrix (call.WriteMatrix c mask accum (matrix_term.Applied f a) d) c _ _ (shape (object.Matrix c) refl)
      (wrote_m (option_map object.Matrix mask) accum d plain _ _ (ap (λ x. applied f (turned (turns_input f d.tran d.tran1) x)) (one_m a [] agree)))
  over (call.WriteMatrix c mask accum (matrix_term.Selected p a) d) plain agree shape =
      of_matrix (call.WriteMatrix c mask accum (matrix_term.Selected p a) d) c _ _ (shape (object.Matrix c) refl)
      (wrote_m (option_map object.Matrix mask) accum d plain _ _ (ap (λ x. selected_cells p (turned d.tran x)) (one_m a [] agree)))
  over (call.WriteMatrix c mask accum (matrix_term.Kronecker op a b) d) plain agree shape =
      of_matrix (call.WriteMatrix c mask accum (matrix_term.Kronecker op a b) d) c _ _ (shape (object.Matrix c) refl)
      (wrote_m (option_map object.Matrix mask) accum d plain _ _
      (two (kronecker_by op d.tran d.tran1) _ _ _ _ (held_m a (object.Matrix b ∷ []) agree) (held_m b [] (agree_next (object.Matrix a) (object.Matrix b ∷ []) agree))))
  over (call.WriteVector w mask accum (vector_term.Applied f u) d) plain agree shape =
      of_vector (call.WriteVector w mask accum (vector_term.Applied f u) d) w _ _ (shape (object.Vector w) refl)
      (wrote_v (option_map object.Vector mask) accum d plain _ _ (ap (applied f) (one_v u [] agree)))
  over (call.WriteVector w mask accum (vector_term.Selected p u) d) plain agree shape =
      of_vector (call.WriteVector w mask accum (vector_term.Selected p u) d) w _ _ (shape (object.Vector w) refl)
      (wrote_v (option_map object.Vector mask) accum d plain _ _ (ap (selected_indices p) (one_v u [] agree)))
  over (call.NewMatrix domain nrows ncols) plain agree shape = refl
  over (call.NewVector domain size) plain agree shape = refl
  over (call.DupMatrix a) plain agree shape = cc
  over (call.DupVector v) plain agree shape = cc
  over (call.Diag v diagonal) plain agree shape = cc
  over (call.FreeMatrix a) plain agree shape = refl
  over (call.FreeVector v) plain agree shape = refl
  over _ plain agree shape = cc

pub overwritten : (r t : Contents) (c : Call) → overwrites c ≡ true → AgreeOn (is_among (inputs_of c)) r t → ((o : Object) → output_of c ≡ Some o → HaveOneShape o (r o) (t o)) → outcome r c ≡ outcome t c
overwritten r t c plain agree shape = over r t c plain agree shape
