-- A list of calls on the whole store and on the part, one after another.
use Rattle.std.proofs.Common.{◌≡◌, ℕ, zero, suc, ◌<◌, Bool, true, false, if◌then◌else◌, List, [], ◌∷◌, refl, sym, ap, subst, ◌∙◌, arith, length, drop, take, get_or, Option, Some, None}
use Rattle.grb_replay.proofs.Prelude.{option_map_or, Call, Object, ObjectShapes, shapes_after, output_of, Store, shapes_of, with_place, after, after_all, shapes_of-after, Contents, content_at, effective_target, outcome, Step, Entry, Make, Wants, entries, evaluated, sliced, wants_before, with_content, steps_of, is_chosen, wants_before_entry, Follows, GoesOn, HasGoneOver, part_after, targets_of}
use Rattle.grb_replay.proofs.Lists.{take_all}
use Rattle.grb_replay.proofs.Followed.{follows_next, made_there, placed_same, same_wants, taken_there}
use Rattle.grb_replay.proofs.Places.{drop_end}
use Rattle.grb_replay.proofs.Walked.{sliced_before}

first_of : {X : Type 0} (x y : X) (xs ys : List X) → ◌≡◌ {A = List X} (x ∷ xs) (y ∷ ys) → x ≡ y
first_of x y xs ys e = cc

rest_of : {X : Type 0} (x y : X) (xs ys : List X) → ◌≡◌ {A = List X} (x ∷ xs) (y ∷ ys) → xs ≡ ys
rest_of x y xs ys e = cc

goes_next : (w : Wants) (s part : Store) (c : Call) (cs : List Call) (t : Option Object) (ts : List (Option Object)) (b : Bool) (bs : List Bool) →
    GoesOn w s (c ∷ cs) (t ∷ ts) (b ∷ bs) part → GoesOn w (after s c) cs ts bs (part_after b t c part)
goes_next w s part c cs t ts b bs goes =
    let target : t ≡ effective_target (shapes_of s) c = first_of t _ ts _ goes.targets_are in
    let v : Wants = (sliced w (entries ts cs)).wanted in
    let chose : b ≡ is_chosen v t = first_of b _ bs _ goes.chosen_are in
    let before : Follows (wants_before_entry v t c) s part = same_wants (sliced w (Entry t c ∷ entries ts cs)).wanted (wants_before_entry v t c) s part (sliced_before w t c (entries ts cs)) goes.follows in
    record {
      targets_are = rest_of t _ ts _ goes.targets_are ∙ ap (λ (u : ObjectShapes). targets_of u cs) (sym (shapes_of-after s c));
      chosen_are = rest_of b _ bs _ goes.chosen_are;
      follows = subst (λ (d : Bool). Follows v (after s c) (part_after d t c part)) (sym chose)
          (subst (λ (u : Option Object). Follows v (after s c) (part_after (is_chosen v u) u c part)) (sym target)
          (follows_next v s part c (subst (λ (u : Option Object). Follows (wants_before_entry v u c) s part) target before)));
    }

pub drop_at : {X : Type 0} (xs : List X) (k : ℕ) (d : X) → k < length xs → drop k xs ≡ get_or xs k d ∷ drop (suc k) xs
drop_at [] k d h = absurd (omega arith)
drop_at (x ∷ xs) zero d h = refl
drop_at (x ∷ xs) (suc k) d h = drop_at xs k d (omega arith)

pub after_at : (s : Store) (cs : List Call) (k : ℕ) (d : Call) → k < length cs → after_all s (take (suc k) cs) ≡ after (after_all s (take k cs)) (get_or cs k d)
after_at s [] k d h = absurd (omega arith)
after_at s (c ∷ cs) zero d h = refl
after_at s (c ∷ cs) (suc k) d h = after_at (after s c) cs k d (omega arith)

-- at each place of the lists
pub goes_at : (w : Wants) (s part : Store) (cs : List Call) (ts : List (Option Object)) (bs : List Bool) (k : ℕ) (c : Call) (t : Option Object) (b : Bool) →
    k < length cs → length ts ≡ length cs → length bs ≡ length cs → get_or cs k c ≡ c → get_or ts k t ≡ t → get_or bs k b ≡ b →
    GoesOn w (after_all s (take k cs)) (drop k cs) (drop k ts) (drop k bs) part →
    GoesOn w (after_all s (take (suc k) cs)) (drop (suc k) cs) (drop (suc k) ts) (drop (suc k) bs) (part_after b t c part)
goes_at w s part cs ts bs k c t b within same_t same_b ec et eb goes =
    let here_c : drop k cs ≡ c ∷ drop (suc k) cs = drop_at cs k c within ∙ ap (λ x. x ∷ drop (suc k) cs) ec in
    let here_t : drop k ts ≡ t ∷ drop (suc k) ts = drop_at ts k t (omega (arith, within, same_t)) ∙ ap (λ x. x ∷ drop (suc k) ts) et in
    let here_b : drop k bs ≡ b ∷ drop (suc k) bs = drop_at bs k b (omega (arith, within, same_b)) ∙ ap (λ x. x ∷ drop (suc k) bs) eb in
    let whole : after_all s (take (suc k) cs) ≡ after (after_all s (take k cs)) c = after_at s cs k c within ∙ ap (after (after_all s (take k cs))) ec in
    subst (λ (u : Store). GoesOn w u (drop (suc k) cs) (drop (suc k) ts) (drop (suc k) bs) (part_after b t c part)) (sym whole)
    (goes_next w (after_all s (take k cs)) part c (drop (suc k) cs) t (drop (suc k) ts) b (drop (suc k) bs)
    (subst (λ (x : List Call). GoesOn w (after_all s (take k cs)) x (t ∷ drop (suc k) ts) (b ∷ drop (suc k) bs) part) here_c
    (subst (λ (x : List (Option Object)). GoesOn w (after_all s (take k cs)) (drop k cs) x (b ∷ drop (suc k) bs) part) here_t
    (subst (λ (x : List Bool). GoesOn w (after_all s (take k cs)) (drop k cs) (drop k ts) x part) here_b goes))))

-- and the target at that place
pub goes_target : (w : Wants) (s part : Store) (cs : List Call) (ts : List (Option Object)) (bs : List Bool) (k : ℕ) (c : Call) (t : Option Object) →
    k < length cs → length ts ≡ length cs → get_or cs k c ≡ c → get_or ts k t ≡ t → GoesOn w (after_all s (take k cs)) (drop k cs) (drop k ts) (drop k bs) part →
    t ≡ effective_target (shapes_of (after_all s (take k cs))) c
goes_target w s part cs ts bs k c t within same_t ec et goes =
    let u : ObjectShapes = shapes_of (after_all s (take k cs)) in
    let here_c : drop k cs ≡ c ∷ drop (suc k) cs = drop_at cs k c within ∙ ap (λ x. x ∷ drop (suc k) cs) ec in
    let here_t : drop k ts ≡ t ∷ drop (suc k) ts = drop_at ts k t (omega (arith, within, same_t)) ∙ ap (λ x. x ∷ drop (suc k) ts) et in
    first_of t (effective_target u c) (drop (suc k) ts) (targets_of (shapes_after u c) (drop (suc k) cs)) (sym here_t ∙ (goes.targets_are ∙ ap (targets_of u) here_c))

-- at the end of the lists the part holds what was wanted
pub goes_end : (w : Wants) (s part : Store) (cs : List Call) (ts : List (Option Object)) (bs : List Bool) (n : ℕ) → n ≡ length cs → length ts ≡ length cs →
    GoesOn w (after_all s (take n cs)) (drop n cs) (drop n ts) (drop n bs) part → Follows w (after_all s cs) part
goes_end w s part cs ts bs n e same goes =
    subst (λ (x : List Call). Follows w (after_all s x) part) (take_all cs n e)
    (subst (λ (x : List Step). Follows (sliced w x).wanted (after_all s (take n cs)) part)
    (ap (λ (x : List Call). entries (drop n ts) x) (drop_end cs n e) ∙ ap (λ (x : List (Option Object)). entries x []) (drop_end ts n (e ∙ sym same))) goes.follows)

-- what the part holds goes over, by the elements of the slice to come, into what is to be held at the end
abbrev pub HasCome : Wants → Contents → List (Option Object) → List Call → Store → Type 0
HasCome w end ts cs part = evaluated (content_at part) (sliced w (entries ts cs)).elements ≡ end

-- an entry without a target, one whose target is not wanted, and one that is made
module _ (w : Wants) (end : Contents) (s part : Store) (c : Call) (xs : List Step) where
  abbrev v : Wants
  v = (sliced w xs).wanted

  unmade : (o : Object) (q : Option Object) → content_at (option_map_or (λ _. part) q (with_place part o)) ≡ content_at part
  unmade o None = λ i p. placed_same part o p i
  unmade o (Some q) = refl

  made : (o : Object) → effective_target (shapes_of s) c ≡ Some o → Follows (wants_before v o (Make c)) s part →
      evaluated (with_content (content_at part) o (outcome (content_at part) c)) (sliced w xs).elements ≡ end → evaluated (content_at (after part c)) (sliced w xs).elements ≡ end
  made o target follows come =
      let there = taken_there v s part c o target follows in
      ap (λ (r : Contents). evaluated r (sliced w xs).elements) (λ i p. made_there part c o there.0 there.1 p i) ∙ come

  by_want : (o : Object) → effective_target (shapes_of s) c ≡ Some o → (b : Bool) → v o ≡ b →
      Follows (if b then wants_before v o (Make c) else v) s part →
      evaluated (content_at part) (if b then (record { wanted = wants_before v o (Make c); elements = (o, Make c) ∷ (sliced w xs).elements }) else sliced w xs).elements ≡ end →
      evaluated (content_at (part_after b (Some o) c part)) (sliced w xs).elements ≡ end
  by_want o target true wanted follows come = made o target follows come
  by_want o target false unwanted follows come = ap (λ (r : Contents). evaluated r (sliced w xs).elements) (unmade o (output_of c)) ∙ come

  by_target : (t : Option Object) → effective_target (shapes_of s) c ≡ t → Follows (wants_before_entry v t c) s part → evaluated (content_at part) (sliced w (Entry t c ∷ xs)).elements ≡ end →
      evaluated (content_at (part_after (is_chosen v t) t c part)) (sliced w xs).elements ≡ end
  by_target None target follows come = come
  by_target (Some o) target follows come = by_want o target (v o) refl follows come

comes_next : (w : Wants) (end : Contents) (s part : Store) (c : Call) (cs : List Call) (t : Option Object) (ts : List (Option Object)) (b : Bool) (bs : List Bool) →
    GoesOn w s (c ∷ cs) (t ∷ ts) (b ∷ bs) part → HasCome w end (t ∷ ts) (c ∷ cs) part → HasCome w end ts cs (part_after b t c part)
comes_next w end s part c cs t ts b bs goes come =
    let target : t ≡ effective_target (shapes_of s) c = first_of t _ ts _ goes.targets_are in
    let xs : List Step = entries ts cs in
    let chose : b ≡ is_chosen (sliced w xs).wanted t = first_of b _ bs _ goes.chosen_are in
    let before : Follows (wants_before_entry (sliced w xs).wanted t c) s part = same_wants (sliced w (Entry t c ∷ xs)).wanted (wants_before_entry (sliced w xs).wanted t c) s part (sliced_before w t c xs) goes.follows in
    subst (λ (d : Bool). HasCome w end ts cs (part_after d t c part)) (sym chose) (by_target w end s part c xs t (sym target) before come)

-- at each place of the lists
pub comes_at : (w : Wants) (end : Contents) (s part : Store) (cs : List Call) (ts : List (Option Object)) (bs : List Bool) (k : ℕ) (c : Call) (t : Option Object) (b : Bool) →
    k < length cs → length ts ≡ length cs → length bs ≡ length cs → get_or cs k c ≡ c → get_or ts k t ≡ t → get_or bs k b ≡ b →
    GoesOn w (after_all s (take k cs)) (drop k cs) (drop k ts) (drop k bs) part → HasCome w end (drop k ts) (drop k cs) part →
    HasCome w end (drop (suc k) ts) (drop (suc k) cs) (part_after b t c part)
comes_at w end s part cs ts bs k c t b within same_t same_b ec et eb goes come =
    let here_c : drop k cs ≡ c ∷ drop (suc k) cs = drop_at cs k c within ∙ ap (λ x. x ∷ drop (suc k) cs) ec in
    let here_t : drop k ts ≡ t ∷ drop (suc k) ts = drop_at ts k t (omega (arith, within, same_t)) ∙ ap (λ x. x ∷ drop (suc k) ts) et in
    let here_b : drop k bs ≡ b ∷ drop (suc k) bs = drop_at bs k b (omega (arith, within, same_b)) ∙ ap (λ x. x ∷ drop (suc k) bs) eb in
    comes_next w end (after_all s (take k cs)) part c (drop (suc k) cs) t (drop (suc k) ts) b (drop (suc k) bs)
    (subst (λ (x : List Call). GoesOn w (after_all s (take k cs)) x (t ∷ drop (suc k) ts) (b ∷ drop (suc k) bs) part) here_c
    (subst (λ (x : List (Option Object)). GoesOn w (after_all s (take k cs)) (drop k cs) x (b ∷ drop (suc k) bs) part) here_t
    (subst (λ (x : List Bool). GoesOn w (after_all s (take k cs)) (drop k cs) (drop k ts) x part) here_b goes)))
    (subst (λ (x : List Call). HasCome w end (t ∷ drop (suc k) ts) x part) here_c (subst (λ (x : List (Option Object)). HasCome w end x (drop k cs) part) here_t come))

-- at the end of the lists the calls were gone over
pub has_gone_over : (w : Wants) (s old new : Store) (cs : List Call) (ts : List (Option Object)) (bs : List Bool) (n : ℕ) → n ≡ length cs → length ts ≡ length cs →
    GoesOn w (after_all s (take n cs)) (drop n cs) (drop n ts) (drop n bs) new →
    HasCome w (evaluated (content_at old) (sliced w (entries ts cs)).elements) (drop n ts) (drop n cs) new → HasGoneOver w s cs ts old new
has_gone_over w s old new cs ts bs n e same goes come = record {
  follows = goes_end w s new cs ts bs n e same goes;
  slice =
      let none : entries (drop n ts) (drop n cs) ≡ [] = ap (λ (x : List Call). entries (drop n ts) x) (drop_end cs n e) ∙ ap (λ (x : List (Option Object)). entries x []) (drop_end ts n (e ∙ sym same)) in
      let held : content_at new ≡ evaluated (content_at old) (sliced w (entries ts cs)).elements = subst (λ (x : List Step). evaluated (content_at new) (sliced w x).elements ≡ evaluated (content_at old) (sliced w (entries ts cs)).elements) none come in
      λ o. ap (λ (r : Contents). r o) held;
}

-- the entries of these targets are those that one walk over shapes finds
pub entries_are : (s : ObjectShapes) (cs : List Call) → entries (targets_of s cs) cs ≡ steps_of s cs
entries_are s [] = refl
entries_are s (c ∷ cs) = ap (λ xs. Entry (effective_target s c) c ∷ xs) (entries_are (shapes_after s c) cs)

-- inside a list the default does not matter
pub inside_default : {X : Type 0} (xs : List X) (k : ℕ) (d e : X) → k < length xs → get_or xs k d ≡ get_or xs k e
inside_default [] k d e h = absurd (omega arith)
inside_default (x ∷ xs) zero d e h = refl
inside_default (x ∷ xs) (suc k) d e h = inside_default xs k d e (omega arith)
