use Rattle.std.proofs.Common.{arith}
use Rattle.grb_sums.specs.Numbers.{numbers_below-length, numbers_below-at}
use Rattle.grb_sums.proofs.column_sums.AllColumnsColumns.place.Goals as goal

pub returns-clause-found : goal.returns-clause-found
returns-clause-found c =
    let long = numbers_below-length c.args.self.now.ncols in
    (omega (arith, long), numbers_below-at c.args.self.now.ncols c.args.column c.requires)
