use Rattle.std.proofs.Common.{◌≡◌, ◌<◌, ◌∙◌, ℕ, List, ap, sym, subst, cond, nat_eq, Option, Some, None, arith}
use Rattle.std.specs.Map.{lookup}
use Rattle.std.proofs.lemmas.Bool.Decides.{nat_tests}
use Rattle.grb_core.specs.declared.value.Value.{Value}
use Rattle.grb_rows.specs.Pending.{Change, last_at, PendingView}
use Rattle.grb_rows.specs.Layers.{placed_after}
use Rattle.grb_rows.proofs.Changes.{told}
use Rattle.grb_rows.proofs.Layered.{first_of}
use Rattle.grb_rows.proofs.Latest.{last_at-lookup}
use Rattle.grb_rows.proofs.pending.Pending.push.Goals as goal

flip : (q k : ℕ) → nat_eq k q ≡ nat_eq q k
flip q k = grind (arith, nat_tests)

pub invariant_of-self : goal.invariant_of-self
invariant_of-self c =
    let positive : 0 < c.self.inside.reserved = subst (λ (v : PendingView). 0 < v.reserved) (sym c.self.view_is) c.requires in
    let held = c.self.invariant in
    let put = c.insert-before.ensures in
    let stored = told _ (put.succeeds (omega (arith, positive, held.1))) put.updates in (
      put.unique,
      omega (arith, put.spare, held.1),
      λ none. absurd (nothing c.args.change (sym (ap (λ (es : List Change). lookup (nat_eq c.args.index) es) none) ∙ stored.1)),
      omega (arith, c.list.ensures.len, c.list.ensures.capacity, held.3),
    )
  where
    nothing : (v : Option Value) → ◌≡◌ {A = Option (Option Value)} None (Some v) → ⊥
    nothing v e = cc

pub returns-clause-last : goal.returns-clause-last
returns-clause-last c =
    let k = c.args.index in
    let positive : 0 < c.self.inside.reserved = subst (λ (v : PendingView). 0 < v.reserved) (sym c.self.view_is) c.requires in
    let held = c.self.invariant in
    let put = c.insert-before.ensures in
    let stored = told _ (put.succeeds (omega (arith, positive, held.1))) put.updates in
    let old = c.self.inside.latest.entries in
    λ q.
    last_at-lookup q c.insert-before.new.self.entries put.unique
    ∙ stored.0 q
    ∙ ap (λ b. cond b (Some c.args.change) (lookup (nat_eq q) old)) (flip q k)
    ∙ ap (cond (nat_eq q k) (Some c.args.change)) (sym (last_at-lookup q old held.0))
    ∙ ap (λ (v : PendingView). cond (nat_eq q k) (Some c.args.change) (last_at q v.changes)) c.self.view_is

pub returns-clause-places : goal.returns-clause-places
returns-clause-places c =
    let k = c.args.index in
    let positive : 0 < c.self.inside.reserved = subst (λ (v : PendingView). 0 < v.reserved) (sym c.self.view_is) c.requires in
    let put = c.insert-before.ensures in
    let old = c.self.inside.latest.entries in
    let first = first_of _ (put.succeeds (omega (arith, positive, c.self.invariant.1))) c.is_first.result c.is_first.ensures (lookup (nat_eq k) old) put.old in
    c.list.ensures.items (lookup (nat_eq k) old) first
    ∙ ap (λ w. placed_after w c.args.place c.self.inside.places.items) (sym (last_at-lookup k old c.self.invariant.0))
    ∙ ap (λ (v : PendingView). placed_after (last_at k v.changes) c.args.place v.places) c.self.view_is
