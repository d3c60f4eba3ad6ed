-- The members of a new chain, one after another.
use Rattle.std.proofs.Common.{◌≡◌, ℕ, zero, suc, ◌+◌, ◌<◌, ◌⊎◌, inl, inr, List, [], ◌∷◌, ◌++◌, length, Option, Some, refl, sym, ap, ◌∙◌, subst, arith}
use Rattle.std.specs.Prelude.{slice_get}
use Rattle.std.proofs.lemmas.Option.{slice_get_within}
use Rattle.grb_order.specs.View.{fresh}
use Rattle.grb_order.specs.Holding.{TableId}
use Rattle.grb_context.specs.Known.{AreNew, Knowing, Shared, known, new_pass}
use Rattle.grb_generations.specs.Chain.{Chain}
use Rattle.grb_generations.specs.Seated.{AreNewMembers, IsNewMember, Seated}

some_is : {X : Type 0} (x y : X) → ◌≡◌ {A = Option X} (Some x) (Some y) → x ≡ y
some_is x y e = cc

-- these are passes by their numbers from this one on, of so many, which know no call
abbrev pub AreLeft : ℕ → ℕ → List Knowing → Type 0
AreLeft passes from rest = (k : ℕ) (p : Knowing) → slice_get rest k ≡ Some p → (p.view.number ≡ from + k) × (known p ≡ []) × (p.view.passes ≡ passes)

pub left_all : (order : TableId) (passes : ℕ) (opened : List Knowing) → AreNew order passes opened passes → AreLeft passes 0 opened
left_all order passes opened new = λ k p at.
    let near : k < passes = omega (arith, slice_get_within opened k p at, new.count) in
    let q : Knowing = new_pass order (fresh k passes) in
    let is : q ≡ p = some_is q p (sym (new.each k near) ∙ at) in
    let number : p.view.number ≡ k = sym (ap (λ (x : Knowing). x.view.number) is) in
    (omega (arith, number), sym (ap known is), sym (ap (λ (x : Knowing). x.view.passes) is))

pub left_head : (passes from : ℕ) (p : Knowing) (rest : List Knowing) → AreLeft passes from (p ∷ rest) → (p.view.number ≡ from) × (known p ≡ []) × (p.view.passes ≡ passes)
left_head passes from p rest left = let h = left 0 p refl in (omega (arith, h.0), h.1, h.2)

pub left_tail : (passes from : ℕ) (p : Knowing) (rest : List Knowing) → AreLeft passes from (p ∷ rest) → AreLeft passes (from + 1) rest
left_tail passes from p rest left = λ k q at. let h = left (suc k) q at in (omega (arith, h.0), h.1, h.2)

-- what stands in a list to which one was put
push_at : {X : Type 0} (xs : List X) (x : X) (k : ℕ) (y : X) → slice_get (xs ++ x ∷ []) k ≡ Some y → (slice_get xs k ≡ Some y) ⊎ ((k ≡ length xs) × (x ≡ y))
push_at [] x zero y e = inr (refl, some_is x y e)
push_at [] x (suc k) y e = cc
push_at (z ∷ xs) x zero y e = inl e
push_at (z ∷ xs) x (suc k) y e = elim (push_at xs x k y e) [
  | inl h ↦ inl h
  | inr h ↦ inr (ap suc h.0, h.1)
]

pub new_none : (chain : Chain) (context : Shared) → AreNewMembers chain context [] 0
new_none chain context = record { count = refl; each = λ k m at. cc }

pub new_more : (chain : Chain) (context : Shared) (ms : List Seated) (m : Seated) → AreNewMembers chain context ms (length ms) → IsNewMember chain context (length ms) m →
    AreNewMembers chain context (ms ++ m ∷ []) (length (ms ++ m ∷ []))
new_more chain context ms m before is = record {
  count = refl;
  each = λ k q at. elim (push_at ms m k q at) [
    | inl h ↦ before.each k q h
    | inr h ↦ subst (λ (n : ℕ). IsNewMember chain context n q) (sym h.0) (subst (IsNewMember chain context (length ms)) h.1 is)
  ];
}
