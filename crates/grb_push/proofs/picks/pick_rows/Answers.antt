use Rattle.std.proofs.Common.{◌≡◌, ◌≤◌, ◌<◌, ◌+◌, ◌++◌, ◌∷◌, [], ℕ, List, All, Vec, Global, arith, length, get_or, refl, sym, ap, subst, ◌∙◌}
use Rattle.std.specs.Vec.{vec_len, vec_capacity}
use Rattle.std.proofs.lemmas.List.Elements.{All-push}
use Rattle.grb_lists.specs.Cells.{decoded}
use Rattle.grb_sums.specs.ColumnSums.{as_entries}
use Rattle.grb_push.specs.Pushes.{pushed, at_numbers}
use Rattle.grb_push.proofs.Pushing.{picked_here, picked_nowhere, stands_nowhere}
use Rattle.grb_push.proofs.Searching.{lent_rise}
use Rattle.grb_push.proofs.picks.pick_rows.Goals as goal
use Rattle.grb_push.proofs.picks.pick_rows.Goals.{then-is_at, else-is_at}

pub entries-preserved : goal.entries-preserved
entries-preserved g c =
    let tv = g.T.Scalar.value in
    let u = c.args.u.now in
    let rows = c.rows-rows.result.now in
    let numbers = c.args.lists.now.rows in
    let a = decoded c.args.lists.now.entries in
    let place = c.next_place-from.result in
    let i = c.entries.i in
    let picks = c.entries.picks.items in
    let held = c.entries.invariant in
    let x = c.index-u-i.result in
    let passed : (q : ℕ) → q < place → (j : ℕ) → i + 1 ≤ j → j < length u.indices.now → get_or rows q 0 < get_or u.indices.now j 0 =
    λ q l j m n. omega (arith, c.next_place-from.ensures.below q l, lent_rise tv u.indices.now u.values.now u.same u.rising i j (omega arith) n) in
    elim c.if-is_at.branch [
      | then-is_at w ↦
          let here = w.if-is_at.ensures.here refl in
          let more = w.push_reserved.ensures in
          let items : c.if-is_at.picks.items ≡ picks ++ (place, x) ∷ [] =
          ap (λ (v : Vec (ℕ × g.row.T.Denot) Global). v.items) w.picks-is ∙ more.items ∙ ap (λ (y : g.row.T.Denot). picks ++ (place, y) ∷ []) (sym c.index-u-i.is) in
          let len = ap vec_len w.picks-is in
          let capacity = ap vec_capacity w.picks-is in
          record {
            len = omega (arith, held.len, len, more.len);
            room = omega (arith, held.room, capacity, more.capacity);
            from = c.next_place-from.ensures.within;
            passed = passed;
            within = subst (All (λ (p : ℕ × g.row.T.Denot). p.0 < length rows)) (sym items) (All-push (λ (p : ℕ × g.row.T.Denot). p.0 < length rows) picks (place, x) held.within here.0);
            picked = λ f.
                ap (λ (ps : List (ℕ × g.row.T.Denot)). pushed f (at_numbers numbers (as_entries tv ps)) a) items
                ∙ picked_here tv a numbers u.indices.now u.values.now picks i x f place c.entries-test.true u.same c.index-u-i.is
                (ap (λ (rs : List ℕ). get_or rs place 0) (sym c.rows-rows.ensures.list) ∙ here.1) (held.picked f);
          }
      | else-is_at w ↦
          let items = ap (λ (v : Vec (ℕ × g.row.T.Denot) Global). v.items) w.picks-is in
          let len = ap vec_len w.picks-is in
          let capacity = ap vec_capacity w.picks-is in
          record {
            len = omega (arith, held.len, len);
            room = omega (arith, held.room, capacity);
            from = c.next_place-from.ensures.within;
            passed = passed;
            within = subst (All (λ (p : ℕ × g.row.T.Denot). p.0 < length rows)) (sym items) held.within;
            picked = λ f.
                ap (λ (ps : List (ℕ × g.row.T.Denot)). pushed f (at_numbers numbers (as_entries tv ps)) a) items
                ∙ picked_nowhere tv a numbers u.indices.now u.values.now picks i x f c.entries-test.true u.same c.index-u-i.is
                (c.rows-rows.ensures.all (get_or u.indices.now i 0)
                (stands_nowhere rows numbers place (get_or u.indices.now i 0) c.rows-rows.ensures.list c.rows-rows.ensures.rise
                c.next_place-from.ensures.below c.next_place-from.ensures.above (w.if-is_at.ensures.not_here refl)))
                (held.picked f);
          }
    ]
