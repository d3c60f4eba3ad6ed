-- Evaluating a slice alone gives what the wanted objects hold after all calls. No case over calls stands here.
use Rattle.std.proofs.Common.{◌≡◌, ◌≢◌, Bool, true, false, if◌then◌else◌, List, [], ◌∷◌, refl, sym, ap, subst, ◌∙◌, Option, Some, None}
use Rattle.grb_slices.proofs.Prelude.{Call, Object, ObjectShapes, Store, shapes_of, after, after_all, shapes_of-after, is_same_object, Content, Contents, content_at, effective_target, outcome, Step, Entry, Known, Origin, Make, Recall, Element, chosen, Wants, wants_before, Sliced, sliced_step, sliced, result_of, with_content, evaluated, steps_of, AreSteps, AgreeOn}
use Rattle.grb_slices.proofs.Effects.{own, other, effective, frame}
use Rattle.grb_slices.proofs.Wants.{is_same_object-self, is_same_object-true, read_before, other_before}

-- what is had of the contents at the end
abbrev Right : Wants → Contents → Contents → List Element → Type 0
Right ws end r ts = AgreeOn ws end (evaluated r ts)

if_object : (o p : Object) → is_same_object o p ≡ false → o ≢ p
if_object o p apart e = let same : is_same_object o p ≡ true = subst (λ (q : Object). is_same_object o q ≡ true) e (is_same_object-self o) in cc

-- one deed of a slice: from the contents before it to those after it, where it changes no object but its own
module _ (before after_it : Contents) (o : Object) (d : Origin) (ws : Wants) (r : Contents)
    (others : (p : Object) → is_same_object o p ≡ false → after_it p ≡ before p) (own_is : after_it o ≡ result_of r d) (agree : AgreeOn (wants_before ws o d) before r) where
  done-by : (p : Object) → ws p ≡ true → (b : Bool) → is_same_object o p ≡ b → after_it p ≡ (if b then result_of r d else r p)
  done-by p wanted true same = subst (λ (q : Object). after_it q ≡ result_of r d) (is_same_object-true o p same) own_is
  done-by p wanted false apart = others p apart ∙ agree p (other_before ws o d p apart wanted)

  done : AgreeOn ws after_it (with_content r o (result_of r d))
  done p wanted = done-by p wanted (is_same_object o p) refl

-- a deed that is chosen where its object is wanted
module _ (before after_it : Contents) (o : Object) (d : Origin) (ws : Wants) (end : Contents) (rest : Sliced)
    (others : (p : Object) → is_same_object o p ≡ false → after_it p ≡ before p)
    (own_is : (r : Contents) → AgreeOn (wants_before rest.wanted o d) before r → after_it o ≡ result_of r d)
    (goes_on : (r : Contents) → AgreeOn rest.wanted after_it r → Right ws end r rest.elements) where
  by_want : (b : Bool) → rest.wanted o ≡ b → (r : Contents) →
      AgreeOn (if b then (record { wanted = wants_before rest.wanted o d; elements = (o, d) ∷ rest.elements }) else rest).wanted before r →
      Right ws end r (if b then (record { wanted = wants_before rest.wanted o d; elements = (o, d) ∷ rest.elements }) else rest).elements
  by_want true wanted r agree =
      goes_on (with_content r o (result_of r d)) (done before after_it o d rest.wanted r others (own_is r agree) agree)
  by_want false wanted r agree = goes_on r (λ p w. others p (apart p w (is_same_object o p) refl) ∙ agree p w)
    where
      apart : (p : Object) → rest.wanted p ≡ true → (b : Bool) → is_same_object o p ≡ b → is_same_object o p ≡ false
      apart p w true same = let yes_wanted : rest.wanted o ≡ true = subst (λ (q : Object). rest.wanted q ≡ true) (sym (is_same_object-true o p same)) w in cc
      apart p w false same = same

  by_chosen : (r : Contents) → AgreeOn (chosen o d rest).wanted before r → Right ws end r (chosen o d rest).elements
  by_chosen r agree = by_want (rest.wanted o) refl r agree

module _ (s : Store) (c : Call) (ws : Wants) (end : Contents) (rest : Sliced)
    (goes_on : (r : Contents) → AgreeOn rest.wanted (content_at (after s c)) r → Right ws end r rest.elements) where
  by_target : (t : Option Object) (b : Call) → t ≡ effective_target (shapes_of s) c → b ≡ c → (r : Contents) →
      AgreeOn (sliced_step (Entry t b) rest).wanted (content_at s) r → Right ws end r (sliced_step (Entry t b) rest).elements
  by_target None b target is r agree = goes_on r (λ p w. other s c p (λ e. let no : ◌≡◌ {A = Option Object} None (Some p) = target ∙ e in cc) ∙ agree p w)
  by_target (Some o) b target is r agree =
      let taken = effective (shapes_of s) c o (sym target) in
      by_chosen (content_at s) (content_at (after s c)) o (Make b) ws end rest
      (λ p apart. other s c p (λ e. let both : ◌≡◌ {A = Option Object} (Some o) (Some p) = target ∙ e in let same : o ≡ p = cc in if_object o p apart same))
      (λ r agree. own s c o taken.0 taken.1 ∙ (ap (outcome (content_at s)) (sym is)
      ∙ frame (content_at s) r b (λ p wanted. agree p (read_before rest.wanted o (Make b) p wanted)))) goes_on r agree

right_known : (ws : Wants) (s : Store) (cs : List Call) (o : Object) (x : Content) (rest : Sliced) → content_at s o ≡ Some x →
    ((r : Contents) → AgreeOn rest.wanted (content_at s) r → Right ws (content_at (after_all s cs)) r rest.elements) →
    (r : Contents) → AgreeOn (chosen o (Recall x) rest).wanted (content_at s) r → Right ws (content_at (after_all s cs)) r (chosen o (Recall x) rest).elements
right_known ws s cs o x rest is goes_on r agree =
    by_chosen (content_at s) (content_at s) o (Recall x) ws (content_at (after_all s cs)) rest (λ p apart. refl) (λ r agree. is) goes_on r agree

right : (ws : Wants) (s : Store) (cs : List Call) (xs : List Step) → AreSteps s cs xs → (r : Contents) → AgreeOn (sliced ws xs).wanted (content_at s) r →
    Right ws (content_at (after_all s cs)) r (sliced ws xs).elements
right ws s [] [] steps r agree = agree
right ws s (c ∷ cs) [] steps r agree = absurd steps
right ws s [] (Known o x ∷ xs) steps r agree = right_known ws s [] o x (sliced ws xs) steps.0 (λ t h. right ws s [] xs steps.1 t h) r agree
right ws s (c ∷ cs) (Known o x ∷ xs) steps r agree = right_known ws s (c ∷ cs) o x (sliced ws xs) steps.0 (λ t h. right ws s (c ∷ cs) xs steps.1 t h) r agree
right ws s [] (Entry t d ∷ xs) steps r agree = absurd steps
right ws s (c ∷ cs) (Entry t d ∷ xs) steps r agree =
    by_target s c ws (content_at (after_all s (c ∷ cs))) (sliced ws xs) (λ u h. right ws (after s c) cs xs steps.2 u h) t d steps.0 steps.1 r agree

-- of several objects at once
pub slice_of_all : (s : Store) (cs : List Call) (ws : Wants) (xs : List Step) (r : Contents) → AreSteps s cs xs → AgreeOn (sliced ws xs).wanted (content_at s) r →
    AgreeOn ws (content_at (after_all s cs)) (evaluated r (sliced ws xs).elements)
slice_of_all s cs ws xs r steps agree = right ws s cs xs steps r agree

-- the entries that one walk over shapes finds are those of the calls
pub are_steps : (s : Store) (cs : List Call) → AreSteps s cs (steps_of (shapes_of s) cs)
are_steps s [] = tt
are_steps s (c ∷ cs) = (refl, refl, subst (λ (t : ObjectShapes). AreSteps (after s c) cs (steps_of t cs)) (shapes_of-after s c) (are_steps (after s c) cs))

-- of one object, from the store itself
pub slice_of_one : (s : Store) (cs : List Call) (o : Object) → evaluated (content_at s) (sliced (is_same_object o) (steps_of (shapes_of s) cs)).elements o ≡ content_at (after_all s cs) o
slice_of_one s cs o = sym (slice_of_all s cs (is_same_object o) (steps_of (shapes_of s) cs) (content_at s) (are_steps s cs) (λ p wanted. refl) o (is_same_object-self o))
