-- The wanted objects: what is wanted before an entry, and lists of objects.
use Rattle.std.proofs.Common.{◌≡◌, ℕ, Bool, true, false, ◌||◌, nat_eq, if◌then◌else◌, List, [], ◌∷◌, ◌++◌, refl, sym, ap, subst, arith}
use Rattle.grb_slices.proofs.Prelude.{list_any, Object, is_same_object, Origin, Wants, is_among, needs, wants_before}
use Rattle.std.proofs.lemmas.Bool.{or_left, or_right}
use Rattle.grb_call.specs.declared.ids.Object.TheVariants as object

same_number : (n : ℕ) → nat_eq n n ≡ true
same_number n = grind arith

number_same : (m n : ℕ) → nat_eq m n ≡ true → m ≡ n
number_same m n e = grind arith

pub is_same_object-self : (o : Object) → is_same_object o o ≡ true
is_same_object-self (object.Matrix a) = same_number a.0
is_same_object-self (object.Vector v) = same_number v.0

pub is_same_object-true : (o p : Object) → is_same_object o p ≡ true → o ≡ p
is_same_object-true (object.Matrix a) (object.Matrix b) e = ap (λ n. object.Matrix (record { 0 = n })) (number_same a.0 b.0 e)
is_same_object-true (object.Vector a) (object.Vector b) e = ap (λ n. object.Vector (record { 0 = n })) (number_same a.0 b.0 e)
is_same_object-true (object.Matrix a) (object.Vector b) e = cc
is_same_object-true (object.Vector a) (object.Matrix b) e = cc

pub among_first : (o : Object) (os : List Object) → is_among (o ∷ os) o ≡ true
among_first o os = or_left (is_same_object o o) _ (is_same_object-self o)

pub among_next : (p o : Object) (os : List Object) → is_among os p ≡ true → is_among (o ∷ os) p ≡ true
among_next p o os e = or_right (is_same_object p o) _ e

-- what an entry reads is wanted before it
pub read_before : (w : Wants) (o : Object) (d : Origin) (p : Object) → is_among (needs d) p ≡ true → wants_before w o d p ≡ true
read_before w o d p e = or_left (is_among (needs d) p) _ e

-- and so is what else is wanted after it
pub other_before : (w : Wants) (o : Object) (d : Origin) (p : Object) → is_same_object o p ≡ false → w p ≡ true → wants_before w o d p ≡ true
other_before w o d p apart wanted = or_right (is_among (needs d) p) _ (subst (λ (b : Bool). (if b then false else w p) ≡ true) (sym apart) wanted)

pub among_before : (p : Object) (os ps : List Object) → is_among os p ≡ true → is_among (os ++ ps) p ≡ true
among_before p [] ps e = cc
among_before p (o ∷ os) ps e = elim (is_same_object p o) as (λ b. (b || list_any (is_same_object p) os) ≡ true → (b || list_any (is_same_object p) (os ++ ps)) ≡ true) [
  | true ↦ λ _. refl
  | false ↦ λ h. among_before p os ps h
] e

pub among_after : (p : Object) (os ps : List Object) → is_among ps p ≡ true → is_among (os ++ ps) p ≡ true
among_after p [] ps e = e
among_after p (o ∷ os) ps e = or_right (is_same_object p o) _ (among_after p os ps e)
