-- A fold in any grouping and in any order, by the laws of its monoid.
use Rattle.std.proofs.Common.{◌≡◌, ℕ, zero, suc, ◌<◌, List, [], ◌∷◌, ◌++◌, length, refl, sym, ap, ◌∙◌, arith}
use Rattle.grb_core.proofs.Prelude.{All, swap, AllByRecursion, IsPermutation, All-from_recursion, recursion_from_All, Value, Monoid, IsValueOf, value_of_op, monoid_domain, monoid_op, fold_of, FoldsInParts, FoldsInAnyOrder}
use Rattle.std.proofs.Math.ListN.{get_or, set}
use Rattle.std.proofs.lemmas.List.{set-get_or}
use Rattle.std.proofs.lemmas.List.Sorted.{All-permutation, IsPermutation-keeps, IsPermutation-swap}
use Rattle.grb_core.proofs.MonoidLaws.{monoid_laws}

module _ (m : Monoid) where
  abbrev Is : Value → Type 0
  Is = IsValueOf (monoid_domain m)

  abbrev op : Value → Value → Value
  op = value_of_op (monoid_op m)

  pub fold_of-is : (vs : List Value) → AllByRecursion Is vs → Is (fold_of m vs)
  fold_of-is [] h = (monoid_laws m).identity_is
  fold_of-is (v ∷ vs) h = (monoid_laws m).closed v (fold_of m vs) (h.0) (fold_of-is vs (h.1))

  -- two parts are folded apart, and then combined
  pub fold_of-append : (us vs : List Value) → AllByRecursion Is us → AllByRecursion Is vs → fold_of m (us ++ vs) ≡ op (fold_of m us) (fold_of m vs)
  fold_of-append [] vs g h = sym ((monoid_laws m).neutral (fold_of m vs) (fold_of-is vs h))
  fold_of-append (u ∷ us) vs g h =
      ap (op u) (fold_of-append us vs (g.1) h)
      ∙ sym ((monoid_laws m).associative u (fold_of m us) (fold_of m vs) (g.0) (fold_of-is us (g.1)) (fold_of-is vs h))

  set_is : (l : List Value) (j : ℕ) (v : Value) → Is v → AllByRecursion Is l → AllByRecursion Is (set l j v)
  set_is [] j v g h = tt
  set_is (x ∷ l) zero v g h = (g, h.1)
  set_is (x ∷ l) (suc j) v g h = (h.0, set_is l j v g h.1)

  left_comm : (a b c : Value) → Is a → Is b → Is c → op a (op b c) ≡ op b (op a c)
  left_comm a b c f g h =
      let laws = monoid_laws m in
      sym (laws.associative a b c f g h) ∙ ap (λ x. op x c) (laws.commutative a b f g) ∙ laws.associative b a c g f h

  -- a value at the front and one inside change places
  exchanged : (w v : Value) (l : List Value) (j : ℕ) → Is w → Is v → AllByRecursion Is l → j < length l → op w (fold_of m (set l j v)) ≡ op v (fold_of m (set l j w))
  exchanged w v [] j f g h lt = absurd (omega arith)
  exchanged w v (x ∷ l) zero f g h lt = left_comm w v (fold_of m l) f g (fold_of-is l h.1)
  exchanged w v (x ∷ l) (suc j) f g h lt =
      left_comm w x (fold_of m (set l j v)) f h.0 (fold_of-is (set l j v) (set_is l j v g h.1))
      ∙ ap (op x) (exchanged w v l j f g h.1 (omega arith))
      ∙ left_comm x v (fold_of m (set l j w)) h.0 g (fold_of-is (set l j w) (set_is l j w f h.1))

  is_at : (l : List Value) (j : ℕ) (d : Value) → AllByRecursion Is l → j < length l → Is (get_or l j d)
  is_at [] j d h lt = absurd (omega arith)
  is_at (x ∷ l) zero d h lt = h.0
  is_at (x ∷ l) (suc j) d h lt = is_at l j d h.1 (omega arith)

  -- the front value is exchanged with the one at j
  front_exchanged : (x : Value) (l : List Value) (j : ℕ) (d : Value) → Is x → AllByRecursion Is l → j < length l → op (get_or l j d) (fold_of m (set l j x)) ≡ op x (fold_of m l)
  front_exchanged x l j d g h lt =
      exchanged (get_or l j d) x l j (is_at l j d h lt) g h lt ∙ ap (λ k. op x (fold_of m k)) (set-get_or l j d)

  fold_of-exchanged : (l : List Value) (i j : ℕ) (d : Value) → AllByRecursion Is l → i < length l → j < length l →
      fold_of m (set (set l i (get_or l j d)) j (get_or l i d)) ≡ fold_of m l
  fold_of-exchanged [] i j d h p q = absurd (omega arith)
  fold_of-exchanged (x ∷ l) zero zero d h p q = refl
  fold_of-exchanged (x ∷ l) zero (suc j) d h p q = front_exchanged x l j d h.0 h.1 (omega arith)
  fold_of-exchanged (x ∷ l) (suc i) zero d h p q = front_exchanged x l i d h.0 h.1 (omega arith)
  fold_of-exchanged (x ∷ l) (suc i) (suc j) d h p q = ap (op x) (fold_of-exchanged l i j d h.1 (omega arith) (omega arith))

  fold_of-swap : (l : List Value) (i j : ℕ) → AllByRecursion Is l → i < length l → j < length l → fold_of m (swap l i j) ≡ fold_of m l
  fold_of-swap [] i j h p q = refl
  fold_of-swap (x ∷ l) i j h p q = fold_of-exchanged (x ∷ l) i j x h p q

  pub fold_of-IsPermutation : (us vs : List Value) → AllByRecursion Is us → IsPermutation us vs → fold_of m us ≡ fold_of m vs
  fold_of-IsPermutation us vs h moved =
      let kept = IsPermutation-keeps us (λ l. All Is l × (fold_of m l ≡ fold_of m us)) (All-from_recursion Is us h, refl)
      (λ l i j p q was. (
        All-permutation Is l (swap l i j) (IsPermutation-swap l (swap l i j) i j p q refl) was.0,
        fold_of-swap l i j (recursion_from_All Is l was.0) p q ∙ was.1,
      )) vs moved in
      sym kept.1

pub folds_in_parts : FoldsInParts
folds_in_parts m us vs g h = fold_of-append m us vs (recursion_from_All _ us g) (recursion_from_All _ vs h)

pub folds_in_any_order : FoldsInAnyOrder
folds_in_any_order m us vs h moved = fold_of-IsPermutation m us vs (recursion_from_All _ us h) moved
