use Rattle.std.proofs.Common.{◌<◌, arith, length, get_or}
use Rattle.std.proofs.lemmas.List.Elements.{recursion_from_All}
use Rattle.grb_core.specs.Results.{row_of}
use Rattle.grb_lists.specs.Cells.{decoded}
use Rattle.grb_ewise.proofs.RowEntries.{row_in_order}
use Rattle.grb_sums.specs.Naming.{name_in}
use Rattle.grb_sums.proofs.RowSpans.{ranks-long, ranked-entries, ranked-same, ranked-rising}
use Rattle.grb_sums.proofs.ranked.row_at.Goals as goal

pub part-requires-clause-within : goal.part-requires-clause-within
part-requires-clause-within g c = omega (arith, c.span_at-start.ensures.within, ranks-long (name_in c.args.names.now) c.args.ranks.now c.args.lists.now.entries c.requires.named)

pub invariant_of-result : goal.invariant_of-result
invariant_of-result g c =
    let tv = g.T.Scalar.value in
    let lists = c.args.lists.now in
    let names = c.args.names.now in
    let ranks = c.args.ranks.now in
    let rs = c.part.result.now in
    let vs = c.of_row.result.now in
    let span = c.span_at-start in
    let row = row_of (get_or lists.rows c.args.k 0) (decoded lists.entries) in
    record {
      same = ranked-same tv (length names) (name_in names) ranks rs vs lists.entries row span.result.0 span.result.1 c.requires.named c.part.ensures span.ensures.row c.of_row.ensures;
      rising = ranked-rising tv (length names) (name_in names) ranks rs vs lists.entries row span.result.0 span.result.1 c.requires.named c.part.ensures span.ensures.row c.of_row.ensures
          c.requires.rising (recursion_from_All (λ r. r < length names) ranks c.requires.in_range) (row_in_order _ (decoded lists.entries) c.requires.ordered);
    }

pub returns-clause-entries : goal.returns-clause-entries
returns-clause-entries g c =
    let lists = c.args.lists.now in
    let names = c.args.names.now in
    let span = c.span_at-start in
    ranked-entries g.T.Scalar.value (length names) (name_in names) c.args.ranks.now c.part.result.now c.of_row.result.now lists.entries (row_of (get_or lists.rows c.args.k 0) (decoded lists.entries))
    span.result.0 span.result.1 c.requires.named c.part.ensures span.ensures.row c.of_row.ensures
