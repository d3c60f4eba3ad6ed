use Rattle.std.proofs.Common.{ℕ, List, ap, inl, ◌∙◌}
use Rattle.std.specs.Ordering.{nat_cmp}
use Rattle.grb_core.specs.Entries.{built_from}
use Rattle.grb_kernels.specs.Typed.{entries_of}
use Rattle.grb_lists.specs.Cells.{decoded}
use Rattle.grb_sums.specs.ColumnSums.{as_entries}
use Rattle.grb_push.specs.Pushes.{pushed, pushed_of, at_numbers}
use Rattle.grb_push.specs.Wanted.{is_wanted}
use Rattle.grb_push.proofs.Bounded.{made-same}
use Rattle.grb_push.proofs.PushedColumns.{built_from-pushed, holds}
use Rattle.grb_push.proofs.push.push.Goals as goal

pub returns-then-u-eq1 : goal.returns-then-u-eq1
returns-then-u-eq1 g c =
    let tv = g.T.Scalar.value in
    let m = g.M.MonoidOver.monoid in
    let f = g.S.Side.makes g.O.Operator.op in
    let u = c.args.u.now in
    let a = decoded c.args.rows.now.lists.now.entries in
    inl (c.in_ok-made.ensures ∙ built_from-pushed f m (entries_of tv u.indices.now u.values.now) a (holds _ u.rising) (holds _ c.args.rows.now.ordered))

pub returns-then-is_worth_a_place_each : goal.returns-then-is_worth_a_place_each
returns-then-is_worth_a_place_each g c =
    let tv = g.T.Scalar.value in
    let m = g.M.MonoidOver.monoid in
    let f = g.S.Side.makes g.O.Operator.op in
    let u = c.args.u.now in
    let w = c.args.wanted.now in
    let a = decoded c.args.rows.now.lists.now.entries in
    let made = c.in_ok-made-2.made in
    made-same made.1 (is_wanted w.among w.names.now) (built_from nat_cmp m (pushed f (entries_of tv u.indices.now u.values.now) a)) (pushed_of m f (entries_of tv u.indices.now u.values.now) a)
    (entries_of tv made.0.indices.items made.0.values.items)
    (built_from-pushed f m (entries_of tv u.indices.now u.values.now) a (holds _ u.rising) (holds _ c.args.rows.now.ordered))
    c.in_ok-made-2.ensures

pub returns-then-is_worth_a_place_each-2 : goal.returns-then-is_worth_a_place_each-2
returns-then-is_worth_a_place_each-2 g c =
    let tv = g.T.Scalar.value in
    let m = g.M.MonoidOver.monoid in
    let f = g.S.Side.makes g.O.Operator.op in
    let u = c.args.u.now in
    let w = c.args.wanted.now in
    let a = decoded c.args.rows.now.lists.now.entries in
    let rows = c.args.rows.now.lists.now.rows in
    let made = c.in_ok-made-3.made in
    let picked = pushed f (at_numbers rows (as_entries tv c.as_slice-picks.result.now)) a in
    made-same made.1 (is_wanted w.among w.names.now) (built_from nat_cmp m picked) (pushed_of m f (entries_of tv u.indices.now u.values.now) a)
    (entries_of tv made.0.indices.items made.0.values.items)
    (ap (built_from nat_cmp m) (ap (λ (ps : List (ℕ × g.row.T.Denot)). pushed f (at_numbers rows (as_entries tv ps)) a) c.as_slice-picks.ensures.value ∙ c.in_ok-picked.ensures.picked f)
    ∙ built_from-pushed f m (entries_of tv u.indices.now u.values.now) a (holds _ u.rising) (holds _ c.args.rows.now.ordered))
    c.in_ok-made-3.ensures

pub returns : goal.returns
returns g c =
    let tv = g.T.Scalar.value in
    let m = g.M.MonoidOver.monoid in
    let f = g.S.Side.makes g.O.Operator.op in
    let u = c.args.u.now in
    let w = c.args.wanted.now in
    let a = decoded c.args.rows.now.lists.now.entries in
    let made = c.in_ok-made-4.made in
    let rows = c.args.rows.now.lists.now.rows in
    let picked = pushed f (at_numbers rows (as_entries tv c.as_slice-picks.result.now)) a in
    made-same made.1 (is_wanted w.among w.names.now) (built_from nat_cmp m picked) (pushed_of m f (entries_of tv u.indices.now u.values.now) a)
    (entries_of tv made.0.indices.items made.0.values.items)
    (ap (built_from nat_cmp m) (ap (λ (ps : List (ℕ × g.row.T.Denot)). pushed f (at_numbers rows (as_entries tv ps)) a) c.as_slice-picks.ensures.value ∙ c.in_ok-picked.ensures.picked f)
    ∙ built_from-pushed f m (entries_of tv u.indices.now u.values.now) a (holds _ u.rising) (holds _ c.args.rows.now.ordered))
    c.in_ok-made-4.ensures
