-- One entry of a list, made on the whole store, and on the part that holds what is wanted where it belongs to the slice.
use Rattle.std.proofs.Common.{◌≡◌, ◌≢◌, ℕ, zero, suc, Bool, true, false, if◌then◌else◌, List, [], ◌∷◌, ◌++◌, length, refl, sym, ap, subst, ◌∙◌, Option, Some, None, option_map, length-set}
use Rattle.grb_replay.proofs.Prelude.{length-map, option_map_or, Refusal, Call, Object, output_of, ObjectShapes, object_at, refused_by_shapes, reshaped, is_same_object, Store, shapes_of, with_place, after, shapes_of-after, objects_read, MatrixContent, VectorContent, content_at, target_of, effective_target, outcome, Wants, Make, is_among, wants_before, with_content, AgreeOn, Follows, part_after, is_chosen, wants_before_entry}
use Rattle.grb_call.specs.declared.call.Call.TheVariants as call
use Rattle.grb_call.specs.declared.ids.Object.TheVariants as object
use Rattle.grb_slices.proofs.Effects.{own, other, effective, frame}
use Rattle.grb_slices.proofs.Refusals.{same_refusal}
use Rattle.grb_slices.proofs.Wants.{is_same_object-self, is_same_object-true, read_before, other_before}

-- how many objects of each sort there are after a call
abbrev pub makes_matrix : Call → Bool
makes_matrix (call.NewMatrix domain nrows ncols) = true
makes_matrix (call.DupMatrix a) = true
makes_matrix (call.Diag v diagonal) = true
makes_matrix _ = false

abbrev pub makes_vector : Call → Bool
makes_vector (call.NewVector domain size) = true
makes_vector (call.DupVector v) = true
makes_vector _ = false

abbrev pub more : Bool → ℕ → ℕ
more b n = if b then suc n else n

one_more : {X : Type 0} (xs : List X) (x : X) → length (xs ++ x ∷ []) ≡ suc (length xs)
one_more [] x = refl
one_more (y ∷ xs) x = ap suc (one_more xs x)

reshaped_matrices : (s : ObjectShapes) (c : Call) → length (reshaped s c).matrices ≡ more (makes_matrix c) (length s.matrices)
reshaped_matrices s (call.NewMatrix domain nrows ncols) = one_more s.matrices _
reshaped_matrices s (call.DupMatrix a) = one_more s.matrices _
reshaped_matrices s (call.Diag v diagonal) = one_more s.matrices _
reshaped_matrices s (call.FreeMatrix a) = length-set s.matrices a.0 _
reshaped_matrices s (call.ResizeMatrix a nrows ncols) = length-set s.matrices a.0 _
reshaped_matrices s _ = refl

reshaped_vectors : (s : ObjectShapes) (c : Call) → length (reshaped s c).vectors ≡ more (makes_vector c) (length s.vectors)
reshaped_vectors s (call.NewVector domain size) = one_more s.vectors _
reshaped_vectors s (call.DupVector v) = one_more s.vectors _
reshaped_vectors s (call.FreeVector v) = length-set s.vectors v.0 _
reshaped_vectors s (call.ResizeVector v size) = length-set s.vectors v.0 _
reshaped_vectors s _ = refl

pub matrices_of : (s : Store) → length (shapes_of s).matrices ≡ length s.matrices
matrices_of s = length-map s.matrices _

pub vectors_of : (s : Store) → length (shapes_of s).vectors ≡ length s.vectors
vectors_of s = length-map s.vectors _

module _ (s : Store) (c : Call) where
  by_shapes : (p : Option Refusal) → refused_by_shapes (shapes_of s) c ≡ p → shapes_of (after s c) ≡ option_map_or (λ _. shapes_of s) p (reshaped (shapes_of s) c)
  by_shapes p e = shapes_of-after s c ∙ ap (λ p. option_map_or (λ _. shapes_of s) p (reshaped (shapes_of s) c)) e

  pub after_matrices : refused_by_shapes (shapes_of s) c ≡ None → length (after s c).matrices ≡ more (makes_matrix c) (length s.matrices)
  after_matrices e = sym (matrices_of (after s c)) ∙ (ap (λ (t : ObjectShapes). length t.matrices) (by_shapes None e)
      ∙ (reshaped_matrices (shapes_of s) c ∙ ap (more (makes_matrix c)) (matrices_of s)))

  pub after_vectors : refused_by_shapes (shapes_of s) c ≡ None → length (after s c).vectors ≡ more (makes_vector c) (length s.vectors)
  after_vectors e = sym (vectors_of (after s c)) ∙ (ap (λ (t : ObjectShapes). length t.vectors) (by_shapes None e)
      ∙ (reshaped_vectors (shapes_of s) c ∙ ap (more (makes_vector c)) (vectors_of s)))

  pub same_matrices : (r : Refusal) → refused_by_shapes (shapes_of s) c ≡ Some r → length (after s c).matrices ≡ length s.matrices
  same_matrices r e = sym (matrices_of (after s c)) ∙ (ap (λ (t : ObjectShapes). length t.matrices) (by_shapes (Some r) e) ∙ matrices_of s)

  pub same_vectors : (r : Refusal) → refused_by_shapes (shapes_of s) c ≡ Some r → length (after s c).vectors ≡ length s.vectors
  same_vectors r e = sym (vectors_of (after s c)) ∙ (ap (λ (t : ObjectShapes). length t.vectors) (by_shapes (Some r) e) ∙ vectors_of s)

-- targets
same_target : (s t : ObjectShapes) (c : Call) → length t.matrices ≡ length s.matrices → length t.vectors ≡ length s.vectors → target_of t c ≡ target_of s c
same_target s t (call.NewMatrix domain nrows ncols) m v = ap (λ n. Some (object.Matrix (record { 0 = n }))) m
same_target s t (call.NewVector domain size) m v = ap (λ n. Some (object.Vector (record { 0 = n }))) v
same_target s t (call.DupMatrix a) m v = ap (λ n. Some (object.Matrix (record { 0 = n }))) m
same_target s t (call.DupVector x) m v = ap (λ n. Some (object.Vector (record { 0 = n }))) v
same_target s t (call.Diag x diagonal) m v = ap (λ n. Some (object.Matrix (record { 0 = n }))) m
same_target s t _ m v = refl

-- a call without a target makes no object, and one with an output neither
makes_none : (s : ObjectShapes) (c : Call) → target_of s c ≡ None → (makes_matrix c ≡ false) × (makes_vector c ≡ false)
makes_none s (call.NewMatrix domain nrows ncols) e = cc
makes_none s (call.NewVector domain size) e = cc
makes_none s (call.DupMatrix a) e = cc
makes_none s (call.DupVector x) e = cc
makes_none s (call.Diag x diagonal) e = cc
makes_none s _ e = (refl, refl)

makes_no_output : (c : Call) (o : Object) → output_of c ≡ Some o → (makes_matrix c ≡ false) × (makes_vector c ≡ false)
makes_no_output (call.NewMatrix domain nrows ncols) o e = cc
makes_no_output (call.NewVector domain size) o e = cc
makes_no_output (call.DupMatrix a) o e = cc
makes_no_output (call.DupVector x) o e = cc
makes_no_output (call.Diag x diagonal) o e = cc
makes_no_output _ o e = (refl, refl)

-- of which sort an object is
abbrev is_matrix : Object → Bool
is_matrix (object.Matrix a) = true
is_matrix (object.Vector v) = false

abbrev is_vector : Object → Bool
is_vector (object.Matrix a) = false
is_vector (object.Vector v) = true

-- a call that makes an object makes one of the sort of its target
made_as : (s : ObjectShapes) (c : Call) (o : Object) → target_of s c ≡ Some o → output_of c ≡ None → (makes_matrix c ≡ is_matrix o) × (makes_vector c ≡ is_vector o)
made_as s (call.NewMatrix domain nrows ncols) (object.Matrix a) e none = (refl, refl)
made_as s (call.NewMatrix domain nrows ncols) (object.Vector v) e none = cc
made_as s (call.NewVector domain size) (object.Matrix a) e none = cc
made_as s (call.NewVector domain size) (object.Vector v) e none = (refl, refl)
made_as s (call.DupMatrix b) (object.Matrix a) e none = (refl, refl)
made_as s (call.DupMatrix b) (object.Vector v) e none = cc
made_as s (call.DupVector x) (object.Matrix a) e none = cc
made_as s (call.DupVector x) (object.Vector v) e none = (refl, refl)
made_as s (call.Diag x diagonal) (object.Matrix a) e none = (refl, refl)
made_as s (call.Diag x diagonal) (object.Vector v) e none = cc
made_as s _ o e none = let no : ◌≡◌ {A = Option Object} None (Some o) = sym none ∙ e in cc

-- a place where nothing is
nothing_more : {X : Type 0} (xs : List (Option X)) (n : ℕ) → object_at (xs ++ None ∷ []) n ≡ object_at xs n
nothing_more [] zero = refl
nothing_more [] (suc n) = refl
nothing_more (x ∷ xs) zero = refl
nothing_more (x ∷ xs) (suc n) = nothing_more xs n

pub placed_same : (s : Store) (o p : Object) → content_at (with_place s o) p ≡ content_at s p
placed_same s (object.Matrix a) (object.Matrix b) = ap (option_map MatrixContent) (nothing_more s.matrices b.0)
placed_same s (object.Matrix a) (object.Vector w) = refl
placed_same s (object.Vector v) (object.Matrix b) = refl
placed_same s (object.Vector v) (object.Vector w) = ap (option_map VectorContent) (nothing_more s.vectors w.0)

placed_matrices : (s : Store) (o : Object) → length (with_place s o).matrices ≡ more (is_matrix o) (length s.matrices)
placed_matrices s (object.Matrix a) = one_more s.matrices None
placed_matrices s (object.Vector v) = refl

placed_vectors : (s : Store) (o : Object) → length (with_place s o).vectors ≡ more (is_vector o) (length s.vectors)
placed_vectors s (object.Matrix a) = refl
placed_vectors s (object.Vector v) = one_more s.vectors None

some_same : (o p : Object) → ◌≡◌ {A = Option Object} (Some o) (Some p) → o ≡ p
some_same o p e = cc

apart_object : (o p : Object) → is_same_object o p ≡ false → o ≢ p
apart_object o p apart e = let same : is_same_object o p ≡ true = subst (λ (q : Object). is_same_object o q ≡ true) e (is_same_object-self o) in cc

unwanted_object : (w : Wants) (o p : Object) → w o ≡ false → w p ≡ true → o ≢ p
unwanted_object w o p unwanted wanted e = let both : w o ≡ true = subst (λ (q : Object). w q ≡ true) (sym e) wanted in cc

-- on a part that follows, a call whose target is wanted has the same target
pub taken_there : (w : Wants) (s t : Store) (c : Call) (o : Object) → effective_target (shapes_of s) c ≡ Some o → Follows (wants_before w o (Make c)) s t →
    (refused_by_shapes (shapes_of t) c ≡ None) × (target_of (shapes_of t) c ≡ Some o)
taken_there w s t c o target follows =
    let taken = effective (shapes_of s) c o target in
    let reads : AgreeOn (λ p. is_among (objects_read c) p) (content_at s) (content_at t) = λ p wanted. follows.agree p (read_before w o (Make c) p wanted) in
    let counted_m : length (shapes_of t).matrices ≡ length (shapes_of s).matrices = matrices_of t ∙ (follows.matrices ∙ sym (matrices_of s)) in
    let counted_v : length (shapes_of t).vectors ≡ length (shapes_of s).vectors = vectors_of t ∙ (follows.vectors ∙ sym (vectors_of s)) in
    (sym (same_refusal s t c reads) ∙ taken.0, same_target (shapes_of s) (shapes_of t) c counted_m counted_v ∙ taken.1)

-- what a store holds after a call with a target
pub made_there : (t : Store) (c : Call) (o : Object) → refused_by_shapes (shapes_of t) c ≡ None → target_of (shapes_of t) c ≡ Some o → (p : Object) →
    content_at (after t c) p ≡ with_content (content_at t) o (outcome (content_at t) c) p
made_there t c o unrefused target p = by_same (is_same_object o p) refl
  where
    effective_t : effective_target (shapes_of t) c ≡ Some o
    effective_t = ap (λ p. option_map_or (λ _. None) p (target_of (shapes_of t) c)) unrefused ∙ target

    by_same : (b : Bool) → is_same_object o p ≡ b → content_at (after t c) p ≡ (if b then outcome (content_at t) c else content_at t p)
    by_same true same = subst (λ (q : Object). content_at (after t c) q ≡ outcome (content_at t) c) (is_same_object-true o p same) (own t c o unrefused target)
    by_same false apart = other t c p (λ e. apart_object o p apart (some_same o p (sym effective_t ∙ e)))

module _ (w : Wants) (s t : Store) (c : Call) where
  -- the target is wanted: the call is made on the part too
  pub follows_chosen : (o : Object) → effective_target (shapes_of s) c ≡ Some o → Follows (wants_before w o (Make c)) s t → Follows w (after s c) (after t c)
  follows_chosen o target follows =
      let taken = effective (shapes_of s) c o target in
      let reads : AgreeOn (λ p. is_among (objects_read c) p) (content_at s) (content_at t) = λ p wanted. follows.agree p (read_before w o (Make c) p wanted) in
      let there = taken_there w s t c o target follows in let unrefused = there.0 in let target_t = there.1 in
      let effective_t : effective_target (shapes_of t) c ≡ Some o = ap (λ p. option_map_or (λ _. None) p (target_of (shapes_of t) c)) unrefused ∙ target_t in
      record {
        matrices = after_matrices t c unrefused ∙ (ap (more (makes_matrix c)) follows.matrices ∙ sym (after_matrices s c taken.0));
        vectors = after_vectors t c unrefused ∙ (ap (more (makes_vector c)) follows.vectors ∙ sym (after_vectors s c taken.0));
        agree = λ p wanted. by_object o taken.0 taken.1 target unrefused target_t effective_t reads follows p wanted (is_same_object o p) refl;
      }
    where
      by_object : (o : Object) → refused_by_shapes (shapes_of s) c ≡ None → target_of (shapes_of s) c ≡ Some o → effective_target (shapes_of s) c ≡ Some o →
          refused_by_shapes (shapes_of t) c ≡ None → target_of (shapes_of t) c ≡ Some o → effective_target (shapes_of t) c ≡ Some o →
          AgreeOn (λ p. is_among (objects_read c) p) (content_at s) (content_at t) → Follows (wants_before w o (Make c)) s t →
          (p : Object) → w p ≡ true → (b : Bool) → is_same_object o p ≡ b → content_at (after s c) p ≡ content_at (after t c) p
      by_object o su st se tu tt_ te reads follows p wanted true same =
          subst (λ (q : Object). content_at (after s c) q ≡ content_at (after t c) q) (is_same_object-true o p same)
          (own s c o su st ∙ (frame (content_at s) (content_at t) c reads ∙ sym (own t c o tu tt_)))
      by_object o su st se tu tt_ te reads follows p wanted false apart =
          let not_s : effective_target (shapes_of s) c ≢ Some p = λ e. apart_object o p apart (some_same o p (sym se ∙ e)) in
          let not_t : effective_target (shapes_of t) c ≢ Some p = λ e. apart_object o p apart (some_same o p (sym te ∙ e)) in
          other s c p not_s ∙ (follows.agree p (other_before w o (Make c) p apart wanted) ∙ sym (other t c p not_t))

  -- there is no target: the part stays
  pub follows_none : effective_target (shapes_of s) c ≡ None → Follows w s t → Follows w (after s c) t
  follows_none none follows = by_refusal (refused_by_shapes (shapes_of s) c) refl
    where
      same : length (after s c).matrices ≡ length s.matrices → length (after s c).vectors ≡ length s.vectors → Follows w (after s c) t
      same m v = record {
        matrices = follows.matrices ∙ sym m;
        vectors = follows.vectors ∙ sym v;
        agree = λ p wanted. other s c p (λ e. let no : ◌≡◌ {A = Option Object} None (Some p) = sym none ∙ e in cc) ∙ follows.agree p wanted;
      }

      by_refusal : (p : Option Refusal) → refused_by_shapes (shapes_of s) c ≡ p → Follows w (after s c) t
      by_refusal None e =
          let makes = makes_none (shapes_of s) c (sym (ap (λ p. option_map_or (λ _. None) p (target_of (shapes_of s) c)) e) ∙ none) in
          same (after_matrices s c e ∙ ap (λ b. more b (length s.matrices)) makes.0) (after_vectors s c e ∙ ap (λ b. more b (length s.vectors)) makes.1)
      by_refusal (Some r) e = same (same_matrices s c r e) (same_vectors s c r e)

  -- the target is not wanted and was there before: the part stays
  pub follows_left : (o q : Object) → effective_target (shapes_of s) c ≡ Some o → w o ≡ false → output_of c ≡ Some q → Follows w s t → Follows w (after s c) t
  follows_left o q target unwanted output follows =
      let taken = effective (shapes_of s) c o target in
      let makes = makes_no_output c q output in
      record {
        matrices = follows.matrices ∙ sym (after_matrices s c taken.0 ∙ ap (λ b. more b (length s.matrices)) makes.0);
        vectors = follows.vectors ∙ sym (after_vectors s c taken.0 ∙ ap (λ b. more b (length s.vectors)) makes.1);
        agree = λ p wanted. other s c p (λ e. unwanted_object w o p unwanted wanted (some_same o p (sym target ∙ e))) ∙ follows.agree p wanted;
      }

  -- the target is not wanted and is new: the part gets a place for it
  pub follows_placed : (o : Object) → effective_target (shapes_of s) c ≡ Some o → w o ≡ false → output_of c ≡ None → Follows w s t → Follows w (after s c) (with_place t o)
  follows_placed o target unwanted none follows =
      let taken = effective (shapes_of s) c o target in
      let made = made_as (shapes_of s) c o taken.1 none in
      record {
        matrices = placed_matrices t o ∙ (ap (λ b. more b (length t.matrices)) (sym made.0) ∙ (ap (more (makes_matrix c)) follows.matrices ∙ sym (after_matrices s c taken.0)));
        vectors = placed_vectors t o ∙ (ap (λ b. more b (length t.vectors)) (sym made.1) ∙ (ap (more (makes_vector c)) follows.vectors ∙ sym (after_vectors s c taken.0)));
        agree = λ p wanted. other s c p (λ e. unwanted_object w o p unwanted wanted (some_same o p (sym target ∙ e))) ∙ (follows.agree p wanted ∙ sym (placed_same t o p));
      }

-- wants that are the same object by object
pub same_wants : (v w : Wants) (s t : Store) → ((p : Object) → v p ≡ w p) → Follows v s t → Follows w s t
same_wants v w s t same follows = record {
  matrices = follows.matrices;
  vectors = follows.vectors;
  agree = λ p wanted. follows.agree p (same p ∙ wanted);
}

-- one entry, chosen or not, where its target is wanted after it or not
module _ (w : Wants) (s t : Store) (c : Call) where
  unmade : (o : Object) (q : Option Object) → effective_target (shapes_of s) c ≡ Some o → w o ≡ false → output_of c ≡ q → Follows w s t →
      Follows w (after s c) (option_map_or (λ _. t) q (with_place t o))
  unmade o None target unwanted output follows = follows_placed w s t c o target unwanted output follows
  unmade o (Some q) target unwanted output follows = follows_left w s t c o q target unwanted output follows

  pub by_want : (o : Object) → effective_target (shapes_of s) c ≡ Some o → (b : Bool) → w o ≡ b → Follows (if b then wants_before w o (Make c) else w) s t →
      Follows w (after s c) (part_after b (Some o) c t)
  by_want o target true wanted follows = follows_chosen w s t c o target follows
  by_want o target false unwanted follows = unmade o (output_of c) target unwanted refl follows

  by_target : (u : Option Object) → effective_target (shapes_of s) c ≡ u → Follows (wants_before_entry w u c) s t → Follows w (after s c) (part_after (is_chosen w u) u c t)
  by_target None target follows = follows_none w s t c target follows
  by_target (Some o) target follows = by_want o target (w o) refl follows

pub follows_next : (w : Wants) (s t : Store) (c : Call) → Follows (wants_before_entry w (effective_target (shapes_of s) c) c) s t →
    Follows w (after s c) (part_after (is_chosen w (effective_target (shapes_of s) c)) (effective_target (shapes_of s) c) c t)
follows_next w s t c follows = by_target w s t c (effective_target (shapes_of s) c) refl follows
