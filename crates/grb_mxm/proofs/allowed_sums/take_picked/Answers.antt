use Rattle.std.proofs.Common.{◌≡◌, ◌<◌, ◌≤◌, ◌+◌, ◌++◌, ℕ, List, [], Bool, true, false, refl, arith, ap, sym, subst, ◌∙◌, length, get_or, set}
use Rattle.std.specs.Prelude.{nat_eq}
use Rattle.std.proofs.lemmas.List.{length-set}
use Rattle.grb_core.specs.Monoid.{identity_of}
use Rattle.grb_core.specs.Entries.{before_entries}
use Rattle.grb_kernels.specs.Typed.{kept, first_entries}
use Rattle.grb_semirings.specs.Open.{marked_at}
use Rattle.grb_semirings.proofs.Marks.{marked-read, marked-set_other}
use Rattle.grb_sums.specs.Naming.{name_in}
use Rattle.grb_mxm.specs.RowProducts.{picked}
use Rattle.grb_mxm.specs.AllowedSums.{allowed_of, summed_of}
use Rattle.grb_sums.specs.Marks.{HoldUnmarked}
use Rattle.grb_mxm.proofs.MaskedSums.{picked_step, picked_all, left_gone, hold_gone, none_left}
use Rattle.grb_mxm.proofs.States.{length-allowed, length-summed, allowed-set, summed-set, summed-read, none_summed, no_state, hold_all}
use Rattle.grb_mxm.proofs.allowed_sums.take_picked.Goals as goal

pub emit-k-requires-clause-room : goal.emit-k-requires-clause-room
emit-k-requires-clause-room g c = omega (arith, c.places.invariant.k, c.places-test.true)

pub places-init : goal.places-init
places-init g c = record {
  k = omega arith;
  so_far = refl;
  ahead = λ j h l. refl;
  left = λ p h. let at = c.requires.picked p h in (at.0, omega arith, at.1, at.2);
  clear = c.requires.sound.clear;
}

pub places-preserved : goal.places-preserved
places-preserved g c =
    let tv = g.T.Scalar.value in
    let v = identity_of g.M.MonoidOver.monoid in
    let name = name_in c.args.names.now in
    let ps = c.args.places.now in
    let states = c.places.states in
    let ms = summed_of states in
    let ss = c.places.sums in
    let before = marked_at tv (summed_of c.args.states.now) c.args.sums.now in
    let i = c.places.i in
    let q = get_or ps i 0 in
    let x = c.index-sums-at.result in
    let new = c.identity.result in
    let held = c.places.invariant in
    let inside : i < length ps = c.places-test.true in
    let long = length-summed states in
    let in_sums : q < length ss = omega (arith, c.requires.in_range i 0 inside) in
    let in_states : q < length states = omega (arith, in_sums, c.requires.sound.long) in
    let in_marks : q < length ms = omega (arith, in_states, long) in
    let in_allowed : q < length (allowed_of states) = omega (arith, in_states, length-allowed states) in
    let same : length ms ≡ length ss = omega (arith, long, c.requires.sound.long) in
    let here : kept (tv x) (get_or ms q false) ≡ before q = sym (marked-read tv ms ss q x in_marks same c.index-sums-at.is) ∙ held.ahead i (omega arith) inside in
    record {
      k = omega (arith, c.emit-k.ensures.most, held.k);
      so_far = picked_step name before ps i (kept (tv x) (get_or ms q false)) (first_entries tv c.places.k c.places.columns c.places.values)
          (first_entries tv c.emit-k.result c.emit-k.new.columns c.emit-k.new.values) (picked name before ps) inside held.so_far here
          (subst (λ b. first_entries tv c.emit-k.result c.emit-k.new.columns c.emit-k.new.values ≡ first_entries tv c.places.k c.places.columns c.places.values ++ before_entries (name q) (kept (tv x) b) []) (sym (summed-read states q))
          (c.emit-k.ensures.first ∙ ap (λ j. first_entries tv c.places.k c.places.columns c.places.values ++ before_entries j (kept (tv x) (nat_eq (get_or states q 0) 2)) []) c.name-column.ensures));
      ahead = λ j h l.
          let other = c.requires.rising i j (omega (arith, h)) l in
          ap (λ (m : List Bool). marked_at tv m (set ss q new) (get_or ps j 0)) (summed-set states q 0)
          ∙ marked-set_other tv ms ss q (get_or ps j 0) false new (λ e. omega (arith, e, other))
          ∙ held.ahead j (omega (arith, h)) l;
      left = λ p. subst (λ (m : List Bool). get_or m p false ≡ true → (k : ℕ) × (i + 1 ≤ k) × (k < length ps) × (get_or ps k 0 ≡ p)) (sym (allowed-set states q 0))
          (left_gone ms (allowed_of states) q in_allowed in_marks ps i refl held.left p);
      clear = subst (λ (m : List Bool). HoldUnmarked tv v m (set ss q new)) (sym (summed-set states q 0))
          (hold_gone tv v ms ss q new in_sums (length-set ss q new) c.identity.ensures held.clear);
    }

pub returns-clause-entries : goal.returns-clause-entries
returns-clause-entries g c =
    let tv = g.T.Scalar.value in
    let at = marked_at tv (summed_of c.args.states.now) c.args.sums.now in
    let name = name_in c.args.names.now in
    picked_all name at c.args.places.now c.places.i (first_entries tv c.places.k c.places.columns c.places.values) (picked name at c.args.places.now) (omega (arith, c.places-test.false)) c.places.invariant.so_far

pub returns-clause-ready : goal.returns-clause-ready
returns-clause-ready g c =
    let tv = g.T.Scalar.value in
    let v = identity_of g.M.MonoidOver.monoid in
    let past : length c.args.places.now ≤ c.places.i = omega (arith, c.places-test.false) in
    let none : (p : ℕ) → get_or c.places.states p 0 ≡ 0 = λ p. no_state c.places.states p (none_left (allowed_of c.places.states) c.args.places.now c.places.i p past c.places.invariant.left) in
    record {
      long = omega (arith, c.requires.named);
      states_long = omega (arith, c.requires.named, c.requires.sound.long);
      none = none;
      clear = hold_all tv v (summed_of c.places.states) c.places.sums (none_summed c.places.states none) c.places.invariant.clear;
    }
