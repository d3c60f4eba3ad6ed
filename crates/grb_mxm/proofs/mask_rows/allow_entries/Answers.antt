use Rattle.std.proofs.Common.{◌≡◌, ◌<◌, ◌+◌, ◌-◌, ℕ, List, Bool, false, arith, ap, sym, ◌∙◌, length, get_or, set, inl, inr}
use Rattle.std.specs.Prelude.{◌||◌}
use Rattle.std.specs.Ordering.{nat_cmp}
use Rattle.std.specs.FinMap.{find}
use Rattle.std.proofs.lemmas.Bool.{cases_eq}
use Rattle.std.proofs.lemmas.List.{get_or-set_same, get_or-set_other}
use Rattle.grb_core.specs.Mask.{selects}
use Rattle.grb_kernels.specs.Typed.{entries_from}
use Rattle.grb_kernels.proofs.Lists.{from-read, from-all}
use Rattle.grb_mxm.specs.AllowedSums.{allowed_of, summed_of}
use Rattle.grb_mxm.proofs.MaskedSums.{allowed_by}
use Rattle.grb_mxm.proofs.States.{length-allowed, length-summed, allowed-set, summed-set, none_allowed, none_summed}
use Rattle.grb_mxm.proofs.mask_rows.allow_entries.Goals as goal

none_set : (ms : List Bool) (q p : ℕ) → q < length ms → ((p : ℕ) → get_or ms p false ≡ false) → get_or (set ms q false) p false ≡ false
none_set ms q p inside none =
    elim (cases_eq p q) [
      | inl e ↦ ap (λ k. get_or (set ms q false) k false) e ∙ get_or-set_same ms q false false inside
      | inr n ↦ get_or-set_other ms q p false false n ∙ none p
    ]

pub down-init : goal.down-init
down-init g c = record {
  i = omega arith;
  allowed_from = λ p. none_allowed c.args.states.now c.requires.none p ∙ sym (ap (λ m. selects c.args.structure (find nat_cmp p m)) (from-all g.U.Scalar.value c.args.places.now c.args.values.now (length c.args.places.now) (omega arith)));
  none = none_summed c.args.states.now c.requires.none;
}

pub down-preserved : goal.down-preserved
down-preserved g c =
    let tv = g.U.Scalar.value in
    let cs = c.args.places.now in
    let vs = c.args.values.now in
    let states = c.down.states in
    let i = c.down.i - 1 in
    let q = get_or cs i 0 in
    let x = c.index-values-i.result in
    let s = c.state_of.result in
    let inside : i < length cs = omega arith in
    let one : c.down.i ≡ i + 1 = omega arith in
    let in_states : q < length states = omega (arith, c.requires.in_range i 0 inside) in
    let in_allowed : q < length (allowed_of states) = omega (arith, in_states, length-allowed states) in
    let in_summed : q < length (summed_of states) = omega (arith, in_states, length-summed states) in
    record {
      i = omega arith;
      allowed_from = λ p.
          ap (λ (m : List Bool). get_or m p false) (allowed-set states q s ∙ ap (set (allowed_of states) q) c.state_of.ensures.allowed)
          ∙ allowed_by c.args.structure (allowed_of states) q (tv x) (c.args.structure || c.is_true.result) (entries_from tv (i + 1) cs vs) in_allowed
          (ap (λ (b : Bool). c.args.structure || b) c.is_true.ensures)
          (λ r. c.down.invariant.allowed_from r ∙ ap (λ n. selects c.args.structure (find nat_cmp r (entries_from tv n cs vs))) one) p
          ∙ ap (λ m. selects c.args.structure (find nat_cmp p m)) (sym (from-read tv cs vs i x inside c.requires.same c.index-values-i.is));
      none = λ p. ap (λ (m : List Bool). get_or m p false) (summed-set states q s ∙ ap (set (summed_of states) q) c.state_of.ensures.none) ∙ none_set (summed_of states) q p in_summed c.down.invariant.none;
    }
