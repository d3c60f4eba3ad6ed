use Rattle.std.proofs.Common.{◌≡◌, ◌+◌, ◌<◌, ◌∙◌, ◌++◌, ℕ, Bool, true, false, length, get_or, take, drop, sym, ap, subst, arith}
use Rattle.std.specs.List.{AllByRecursion}
use Rattle.grb_core.specs.declared.value.Value.{Value}
use Rattle.grb_core.specs.declared.value.Value.TheVariants as value
use Rattle.grb_core.specs.Entries.{VectorEntries}
use Rattle.grb_core.specs.Contents.{is_cell_in}
use Rattle.grb_lists.specs.Cells.{cell_of}
use Rattle.grb_lists.specs.Stored.{RowView}
use Rattle.grb_lists.proofs.Places.{holds}
use Rattle.grb_rows.proofs.Kept.{kept-waits, kept-copied, kept-below}
use Rattle.grb_rows.proofs.merge.keep_within.Goals as goal
use Rattle.grb_rows.proofs.merge.keep_within.Goals.{then-not-inside+in_ok-keep, else-not-inside}

pub keep-requires-clause-above : goal.keep-requires-clause-above
keep-requires-clause-above c = λ l d. c.loop-at.invariant.above (omega (arith, l, c.loop-at-test.true, c.loop-at.auto.at-end)) d

pub loop-at-preserved : goal.loop-at-preserved
loop-at-preserved c =
    let m = c.args.row.now.entries in
    let t : ℕ → Bool = λ k. is_cell_in c.args.dims.0 c.args.dims.1 (cell_of k) in
    let start = c.args.start in
    let old = c.args.new.now.entries in
    let new = c.loop-at.new.entries in
    let from = c.loop-at.from in
    let at = c.loop-at.at in
    let k = c.index_at.result in
    let held = c.loop-at.invariant in
    let before : at < c.args.end = omega (arith, c.loop-at-test.true, c.loop-at.auto.at-end) in
    let inside : at < length m = omega (arith, before, c.requires.within) in
    let d : ℕ × Value = (0, value.Bool true) in
    elim c.if-not-inside.branch [
      | then-not-inside+in_ok-keep w ↦
          let fails : t k ≡ false = sym c.is_within-inside.ensures ∙ w.if-not-inside.true in
          let is = ap (λ (r : RowView). r.entries) w.new-is in
          let copied = w.in_ok-keep.ensures.entries in
          record {
            after = omega (arith, w.from-is, held.after, held.order);
            order = omega (arith, w.from-is);
            entries = ap (λ (n : ℕ). c.if-not-inside.new.entries ++ drop n (take (at + 1) m)) w.from-is
                ∙ kept-copied t m start old new from at k held.after held.order inside d (c.index_at.ensures d) held.entries fails c.if-not-inside.new.entries (is ∙ copied);
            above = λ l z.
                let next : at + 1 < c.args.end = omega (arith, l, w.from-is) in
                subst (λ (n : ℕ). AllByRecursion (λ e. e.0 < (get_or m n z).0) c.if-not-inside.new.entries) (sym w.from-is)
                (kept-below t m start old new from at k held.after held.order inside z (c.index_at.ensures z) held.entries (holds c.requires.row_ordered) (omega (arith, next, c.requires.within))
                (c.requires.above (omega (arith, before, held.after, held.order)) z) c.if-not-inside.new.entries (is ∙ copied));
            domain = ap (λ (r : RowView). r.domain) w.new-is ∙ w.keep.ensures.domain ∙ held.domain;
            room = let a = ap (λ (r : RowView). r.room) w.new-is in let b = w.in_ok-keep.ensures.room in omega (arith, a, b);
          }
      | else-not-inside w ↦
          let passes : t k ≡ true = sym c.is_within-inside.ensures ∙ w.if-not-inside.false in
          let is = ap (λ (r : RowView). r.entries) w.new-is in
          record {
            after = omega (arith, w.from-is, held.after);
            order = omega (arith, w.from-is, held.order);
            entries = ap (λ (n : ℕ). c.if-not-inside.new.entries ++ drop n (take (at + 1) m)) w.from-is
                ∙ ap (λ (x : VectorEntries). x ++ drop from (take (at + 1) m)) is
                ∙ kept-waits t m start old new from at k held.after held.order inside d (c.index_at.ensures d) held.entries passes;
            above = λ l z.
                subst (λ (n : ℕ). AllByRecursion (λ e. e.0 < (get_or m n z).0) c.if-not-inside.new.entries) (sym w.from-is)
                (subst (λ (x : VectorEntries). AllByRecursion (λ e. e.0 < (get_or m from z).0) x) (sym is) (held.above (omega (arith, l, w.from-is)) z));
            domain = ap (λ (r : RowView). r.domain) w.new-is ∙ held.domain;
            room = let a = ap (λ (r : RowView). r.room) w.new-is in omega (arith, a, held.room);
          }
    ]
