use Rattle.std.proofs.Common.{ap, ◌∙◌}
use Rattle.std.specs.Ordering.{nat_cmp}
use Rattle.grb_core.specs.Entries.{built_from}
use Rattle.grb_sums.specs.ColumnSums.{as_entries}
use Rattle.grb_push.proofs.push.sum_named.Goals as goal

pub returns : goal.returns
returns g c =
    let tv = g.T.Scalar.value in
    c.in_ok-made.ensures
    ∙ ap (built_from nat_cmp g.M.MonoidOver.monoid) (ap (as_entries tv) c.as_mut_slice.ensures.value ∙ c.in_ok-products.ensures.pushed)
