use Rattle.std.proofs.Common.{◌≡◌, ◌<◌, arith, length, map}
use Rattle.std.proofs.lemmas.List.Elements.{recursion_from_All}
use Rattle.grb_core.specs.Entries.{values_of}
use Rattle.grb_core.specs.Results.{row_of}
use Rattle.grb_lists.specs.Cells.{decoded}
use Rattle.grb_ewise.proofs.RowEntries.{row_in_order}
use Rattle.grb_sums.specs.Naming.{name_in}
use Rattle.grb_sums.proofs.RowSpans.{ranks-long, values-long, row-values, ranked-entries, ranked-same, ranked-rising}
use Rattle.grb_sums.proofs.ranked.RankedRows.row.Goals as goal

pub part-requires-clause-within : goal.part-requires-clause-within
part-requires-clause-within g c =
    let self = c.args.self.now in
    omega (arith, c.span_of-start.ensures.within, ranks-long (name_in self.names.now) self.ranks.now self.lists.now.entries self.named)

pub part-requires-2-clause-within : goal.part-requires-2-clause-within
part-requires-2-clause-within g c =
    let self = c.args.self.now in
    omega (arith, c.span_of-start.ensures.within, values-long g.T.Scalar.value self.values.now self.lists.now.entries self.valued)

pub invariant_of-result : goal.invariant_of-result
invariant_of-result g c =
    let tv = g.T.Scalar.value in
    let self = c.args.self.now in
    let lists = self.lists.now in
    let names = self.names.now in
    let ranks = self.ranks.now in
    let rs = c.part.result.now in
    let vs = c.part-2.result.now in
    let span = c.span_of-start in
    let row = row_of c.args.number (decoded lists.entries) in
    let values : map tv vs ≡ values_of row = row-values tv self.values.now vs lists.entries row span.result.0 span.result.1 self.valued c.part-2.ensures span.ensures.row in
    record {
      same = ranked-same tv (length names) (name_in names) ranks rs vs lists.entries row span.result.0 span.result.1 self.named c.part.ensures span.ensures.row values;
      rising = ranked-rising tv (length names) (name_in names) ranks rs vs lists.entries row span.result.0 span.result.1 self.named c.part.ensures span.ensures.row values
          self.rising (recursion_from_All (λ r. r < length names) ranks self.in_range) (row_in_order _ (decoded lists.entries) self.ordered);
    }

pub returns-clause-entries : goal.returns-clause-entries
returns-clause-entries g c =
    let tv = g.T.Scalar.value in
    let self = c.args.self.now in
    let lists = self.lists.now in
    let names = self.names.now in
    let span = c.span_of-start in
    let row = row_of c.args.number (decoded lists.entries) in
    ranked-entries tv (length names) (name_in names) self.ranks.now c.part.result.now c.part-2.result.now lists.entries row span.result.0 span.result.1 self.named c.part.ensures span.ensures.row
    (row-values tv self.values.now c.part-2.result.now lists.entries row span.result.0 span.result.1 self.valued c.part-2.ensures span.ensures.row)
