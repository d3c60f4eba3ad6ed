use Rattle.std.proofs.Common.{◌≡◌, ℕ, List, get_or, ap, sym, subst, ◌∙◌}
use Rattle.std.specs.List.{All}
use Rattle.std.specs.Ordering.{nat_cmp}
use Rattle.std.proofs.lemmas.List.Elements.{recursion_from_All}
use Rattle.grb_core.specs.Value.{IsValueOf}
use Rattle.grb_core.specs.Monoid.{monoid_domain}
use Rattle.grb_core.specs.Entries.{VectorEntries, built_from}
use Rattle.grb_core.specs.Results.{row_of}
use Rattle.grb_kernels.specs.Typed.{entries_of}
use Rattle.grb_lists.specs.Cells.{decoded}
use Rattle.grb_lists.proofs.Places.{holds}
use Rattle.grb_sums.specs.ColumnSums.{with_values}
use Rattle.grb_push.specs.Pushes.{pushed}
use Rattle.grb_push.proofs.LoneRows.{built-in_order, entries-one, pushed-one, values_of-entries}
use Rattle.grb_push.proofs.push.push_one.Goals as goal

pub returns-in_ok-made-in-Some : goal.returns-in_ok-made-in-Some
returns-in_ok-made-in-Some g c =
    let tv = g.T.Scalar.value in
    let m = g.M.MonoidOver.monoid in
    let f = g.S.Side.makes g.O.Operator.op in
    let u = c.args.u.now in
    let a = decoded c.args.lists.now.entries in
    let x = c.index-u-0.result in
    let made = c.in_ok-made-in-Some.made in
    let es = entries_of tv made.indices.items made.values.items in
    let here = ap (λ (rs : List ℕ). get_or rs c.in-Some.place 0) (sym c.rows.ensures.list) ∙ c.in-Some.ensures.found.1 in
    let pushes : pushed f (entries_of tv u.indices.now u.values.now) a ≡ es =
    ap (λ (v : VectorEntries). pushed f v a) (entries-one tv u.indices.now u.values.now x c.requires.one u.same c.index-u-0.is)
    ∙ pushed-one f (get_or u.indices.now 0 0) (tv x) a
    ∙ ap (λ j. with_values (f (tv x)) (row_of j a)) (sym here)
    ∙ ap (λ (v : g.row.T.Denot). with_values (f (tv v)) (row_of (get_or c.args.lists.now.rows c.in-Some.place 0) a)) c.index-u-0.is
    ∙ sym c.in_ok-made-in-Some.ensures.products in
    sym
    (ap (built_from nat_cmp m) pushes
    ∙ built-in_order m es (holds made.rising)
    (values_of-entries tv (IsValueOf (monoid_domain m)) made.indices.items made.values.items
    (recursion_from_All (λ v. IsValueOf (monoid_domain m) (tv v)) made.values.items
    (subst (λ d. All (λ v. IsValueOf d (tv v)) made.values.items) (sym g.met.M.MonoidOver.same_domain) c.in_ok-made-in-Some.ensures.of_domain))))
