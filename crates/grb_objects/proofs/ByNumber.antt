-- The objects of a store by number, where one place changes.
use Rattle.std.proofs.Common.{◌≡◌, ℕ, zero, suc, ◌-◌, ◌<◌, ◌≤◌, true, nat_lt, List, [], ◌∷◌, length, refl, ap, subst, ◌∙◌, sym, ltb-true, arith}
use Rattle.std.specs.Prelude.{IfSome, map, slice_set, slice_get, slice_index_or, Option, Some, None, Result, Ok, Err, OnOk, OnErr}
use Rattle.std.specs.Option.{option_map}
use Rattle.grb_call.specs.Shapes.{object_at}

got : {X : Type 0} (xs : List (Option X)) (n : ℕ) (x : Option X) → n < length xs → x ≡ slice_index_or xs n x → slice_get xs n ≡ Some x
got [] n x lt at = absurd (omega arith)
got {X = X} (y ∷ ys) zero x lt at = ap (λ (o : Option X). Some o) (sym at)
got (y ∷ ys) (suc n) x lt at = got ys n x (omega arith) at

module _ {X Y : Type 0} (g : X → Y) where
  abbrev all : List (Option X) → List (Option Y)
  all xs = map (option_map g) xs

  pub set_at : (xs : List (Option X)) (n : ℕ) (x : Option X) → all (slice_set xs n x) ≡ slice_set (all xs) n (option_map g x)
  set_at [] n x = refl
  set_at (y ∷ ys) zero x = refl
  set_at (y ∷ ys) (suc n) x = ap (λ t. option_map g y ∷ t) (set_at ys n x)

  pub object_at-all : (xs : List (Option X)) (n : ℕ) (x : Option X) → slice_get xs n ≡ Some x → object_at (all xs) n ≡ option_map g x
  object_at-all [] n x e = cc
  object_at-all (None ∷ ys) zero x e = let same : None ≡ x = cc in ap (option_map g) same
  object_at-all (Some y ∷ ys) zero x e = let same : Some y ≡ x = cc in ap (option_map g) same
  object_at-all (y ∷ ys) (suc n) x e = object_at-all ys n x e

  -- a number that was never given has no place
  pub set_absent : (xs : List (Option X)) (n : ℕ) (y : Option Y) → slice_get xs n ≡ None → slice_set (all xs) n y ≡ all xs
  set_absent [] n y e = refl
  set_absent (x ∷ xs) zero y e = cc
  set_absent (x ∷ xs) (suc n) y e = ap (λ t. option_map g x ∷ t) (set_absent xs n y e)

  pub object_at-absent : (xs : List (Option X)) (n : ℕ) → slice_get xs n ≡ None → object_at (all xs) n ≡ None
  object_at-absent [] n e = refl
  object_at-absent (x ∷ xs) zero e = cc
  object_at-absent (x ∷ xs) (suc n) e = object_at-absent xs n e

  set_same : (xs : List (Option X)) (n : ℕ) (x : Option X) → slice_get xs n ≡ Some x → slice_set (all xs) n (option_map g x) ≡ all xs
  set_same [] n x e = refl
  set_same (y ∷ ys) zero x e = let same : y ≡ x = cc in ap (λ (o : Option X). option_map g o ∷ all ys) (sym same)
  set_same (y ∷ ys) (suc n) x e = ap (λ t. option_map g y ∷ t) (set_same ys n x e)

  module _ (xs : List (Option X)) (n : ℕ) (old : Option X) (lt : true ≡ nat_lt n (length xs)) (at : old ≡ slice_index_or xs n old) where
    here : slice_get xs n ≡ Some old
    here = got xs n old (ltb-true n (length xs) (sym lt)) at

    -- the object at the place was edited
    pub edited_at : (f : Option Y → Option Y) (m : ℕ) → n ≡ m → (new : Option X) → option_map g new ≡ f (option_map g old) → all (slice_set xs n new) ≡ slice_set (all xs) m (f (object_at (all xs) m))
    edited_at f m same new e =
        set_at xs n new ∙ ap (slice_set (all xs) n) (e ∙ ap f (sym (object_at-all xs n old here))) ∙ ap (λ (k : ℕ). slice_set (all xs) k (f (object_at (all xs) k))) same

    -- or kept
    pub kept_at : (new : Option X) → option_map g new ≡ option_map g old → all (slice_set xs n new) ≡ all xs
    kept_at new e = set_at xs n new ∙ ap (slice_set (all xs) n) e ∙ set_same xs n old here

pub on_ok : {X E : Type 0} (P Q : Type 0) (r : Result X E) → (P → Q) → OnOk r P → OnOk r Q
on_ok P Q (Ok x) f p = f p
on_ok P Q (Err e) f p = p

pub on_err : {X E : Type 0} (P Q : Type 0) (r : Result X E) → (P → Q) → OnErr r P → OnErr r Q
on_err P Q (Ok x) f p = p
on_err P Q (Err e) f p = f p

object_here : {X : Type 0} (xs : List (Option X)) (n : ℕ) (x : Option X) → slice_get xs n ≡ Some x → object_at xs n ≡ x
object_here [] n x e = cc
object_here (y ∷ ys) zero x e = cc
object_here (y ∷ ys) (suc n) x e = object_here ys n x e

-- what holds of the object at each number, where one place changes
module _ {X : Type 0} (P : X → Type 0) where
  set_holds : (xs : List (Option X)) (m : ℕ) (new : Option X) → (n : ℕ) → (m ≡ n → IfSome (object_at xs n) P → IfSome new P) → IfSome (object_at xs n) P → IfSome (object_at (slice_set xs m new) n) P
  set_holds [] m new n f h = h
  set_holds (x ∷ xs) zero new zero f h = f refl h
  set_holds (x ∷ xs) zero new (suc n) f h = h
  set_holds (x ∷ xs) (suc m) new zero f h = h
  set_holds (x ∷ xs) (suc m) new (suc n) f h = set_holds xs m new n (λ e. f (ap suc e)) h

  set_here : (xs : List (Option X)) (n : ℕ) (new : Option X) → n < length xs → IfSome new P → IfSome (object_at (slice_set xs n new) n) P
  set_here [] n new lt h = tt
  set_here (x ∷ xs) zero new lt h = h
  set_here (x ∷ xs) (suc n) new lt h = set_here xs n new (omega arith) h

  pub holds_at : (xs : List (Option X)) (n : ℕ) → true ≡ nat_lt n (length xs) → (new : Option X) → IfSome new P → IfSome (object_at (slice_set xs n new) n) P
  holds_at xs n lt new h = set_here xs n new (ltb-true n (length xs) (sym lt)) h

  pub holds_kept : (xs : List (Option X)) (m : ℕ) (old : Option X) → true ≡ nat_lt m (length xs) → old ≡ slice_index_or xs m old → (new : Option X) → (IfSome old P → IfSome new P) →
      (n : ℕ) → IfSome (object_at xs n) P → IfSome (object_at (slice_set xs m new) n) P
  holds_kept xs m old lt at new f n h =
      let same : object_at xs m ≡ old = object_here xs m old (got xs m old (ltb-true m (length xs) (sym lt)) at) in
      set_holds xs m new n (λ e g. f (subst (λ (o : Option X). IfSome o P) same (subst (λ (k : ℕ). IfSome (object_at xs k) P) (sym e) g))) h

  -- a number that was never given has no place
  pub holds_beyond : (xs : List (Option X)) (n : ℕ) → (n < length xs → ⊥) → IfSome (object_at xs n) P
  holds_beyond [] n beyond = tt
  holds_beyond (x ∷ xs) zero beyond = absurd (beyond (omega arith))
  holds_beyond (x ∷ xs) (suc n) beyond = holds_beyond xs n (λ lt. beyond (omega arith))

  -- what holds at each number that there is holds at every one
  pub holds_everywhere : (xs : List (Option X)) (k : ℕ) → length xs ≤ k → ((n : ℕ) → n < k → IfSome (object_at xs n) P) → (n : ℕ) → IfSome (object_at xs n) P
  holds_everywhere [] k le below n = tt
  holds_everywhere (x ∷ xs) k le below zero = below zero (omega arith)
  holds_everywhere (x ∷ xs) k le below (suc n) = holds_everywhere xs (k - 1) (omega arith) (λ m h. below (suc m) (omega arith)) n
