-- A place that is written, and all behind it; the last of a list; and what handles hold.
use Rattle.std.proofs.Common.{◌≡◌, ℕ, zero, suc, ◌<◌, ◌≤◌, List, [], ◌∷◌, ◌++◌, length, refl, arith, Some}
use Rattle.std.specs.Prelude.{Option, None, map, slice_get, slice_index_or, slice_set}
use Rattle.grb_context.specs.Known.{Shared, Knowing}
use Rattle.grb_c.specs.Opening.{Holds, IsPassWith}
use Rattle.grb_c.specs.Sessions.{Opened}
use Rattle.grb_c.specs.declared.session.Kind.{Kind}
use Rattle.grb_c.specs.declared.session.Kind.TheVariants as kind

pub at_set : {X Y : Type 0} (P : ℕ → Y → Type 0) (f : X → Y) (xs : List X) (j : ℕ) (y : X) (d : Y) → P j (f y) →
    ((k : ℕ) → suc j ≤ k → k < length (map f xs) → P k (slice_index_or (map f xs) k d)) →
    (k : ℕ) → j ≤ k → k < length (map f (slice_set xs j y)) → P k (slice_index_or (map f (slice_set xs j y)) k d)
at_set P f [] j y d p rest k from within = absurd (omega (arith, within))
at_set P f (x ∷ xs) zero y d p rest zero from within = p
at_set P f (x ∷ xs) zero y d p rest (suc k) from within = rest (suc k) (omega arith) within
at_set P f (x ∷ xs) (suc j) y d p rest zero from within = absurd (omega (arith, from))
at_set P f (x ∷ xs) (suc j) y d p rest (suc k) from within =
    at_set (λ (n : ℕ). P (suc n)) f xs j y d p (λ l a b. rest (suc l) (omega (arith, a)) (omega (arith, b))) k (omega (arith, from)) (omega (arith, within))

pub get_left : {X : Type 0} (xs ys : List X) (k : ℕ) → k < length xs → slice_get (xs ++ ys) k ≡ slice_get xs k
get_left [] ys k lt = absurd (omega (arith, lt))
get_left (x ∷ xs) ys zero lt = refl
get_left (x ∷ xs) ys (suc k) lt = get_left xs ys k (omega (arith, lt))

pub get_last : {X : Type 0} (xs : List X) (x : X) → slice_get (xs ++ x ∷ []) (length xs) ≡ Some x
get_last [] x = refl
get_last (y ∷ xs) x = get_last xs x

pass_as : (context : Shared) (P Q : Knowing → Type 0) → ((p : Knowing) → P p → Q p) → (k : Kind) → IsPassWith context P k → IsPassWith context Q k
pass_as context P Q f (kind.Bounded p) is = (is.0, f p.pass is.1)
pass_as context P Q f (kind.Member m) is = is

-- a handle that holds a pass of which the one is true holds one of which the other is
pub held_as : (context : Shared) (store : ℕ) (P Q : Knowing → Type 0) → ((p : Knowing) → P p → Q p) → (h : Option Opened) → Holds context store P h → Holds context store Q h
held_as context store P Q f None held = held
held_as context store P Q f (Some s) held = (held.0, pass_as context P Q f s.kind held.1)
