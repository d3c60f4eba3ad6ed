use Rattle.std.proofs.Common.{◌≡◌, ◌≢◌, ◌+◌, ◌-◌, ◌<◌, ℕ, List, Bool, true, false, length, get_or, take, sym, ap, subst, ◌∙◌, arith}
use Rattle.std.proofs.lemmas.List.{length-set}
use Rattle.grb_rows.specs.Layers.{is_listed}
use Rattle.grb_folds.proofs.Windows.{marked_here, listed_elsewhere}
use Rattle.grb_folds.proofs.changed.mark_window.Goals as goal
use Rattle.grb_folds.proofs.changed.mark_window.Goals.{then-start-place+then-place-start, else-start-place, else-start-place-via-then-start-place+else-place-start, else-start-place-via-else-start-place}

not_both : true ≡ false → ⊥
not_both e = cc

pub places-preserved : goal.places-preserved
places-preserved c =
    let ks = c.args.places.now in
    let start = c.args.start in
    let i = c.places.place-index in
    let k = get_or ks i 0 in
    let ms = c.places.marks in
    let was = c.places.invariant in
    let inside = c.places-test.true in
    elim c.if-start-place.branch [
      | then-start-place+then-place-start w ↦
          let here : start + (k - start) ≡ k = omega (arith, w.if-start-place.true) in
          record {
            marked = subst (λ (bs : List Bool). (q : ℕ) → q < length bs → get_or bs q false ≡ is_listed (take (i + 1) ks) (start + q)) (sym w.marks-is)
                (λ q l. marked_here ks i inside ms start (k - start) here w.if-place-start.true was.marked q (let n = length-set ms (k - start) true in omega (arith, l, n)));
            none = λ e. absurd (not_both (sym w.any-is ∙ e));
          }
      | else-start-place w ↦
          let elsewhere : (q : ℕ) → q < length ms → start + q ≢ k =
          elim w.else-start-place.branch [
            | else-start-place-via-then-start-place+else-place-start v ↦ λ q l e. omega (arith, v.if-place-start.false, l, e)
            | else-start-place-via-else-start-place v ↦ λ q l e. omega (arith, v.if-start-place.false, l, e)
          ] in
          let long : length c.if-start-place.marks ≡ length ms = ap length w.marks-is in
          record {
            marked = λ q l.
                let inside_q : q < length ms = omega (arith, l, long) in
                ap (λ (bs : List Bool). get_or bs q false) w.marks-is ∙ was.marked q inside_q ∙ sym (listed_elsewhere ks i inside start q (elsewhere q inside_q));
            none = λ e q l.
                let inside_q : q < length ms = omega (arith, l, long) in
                listed_elsewhere ks i inside start q (elsewhere q inside_q) ∙ was.none (sym w.any-is ∙ e) q inside_q;
          }
    ]
