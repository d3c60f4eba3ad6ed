use Rattle.std.proofs.Common.{◌≡◌, length, sym, arith}
use Rattle.grb_sums.specs.ColumnSums.{numbers_below}
use Rattle.grb_sums.specs.Numbers.{numbers_below-length, numbers_below-at}
use Rattle.grb_sums.proofs.column_sums.AllColumnsColumns.name.Goals as goal

pub overflow_cast-result : goal.overflow_cast-result
overflow_cast-result c =
    let long = numbers_below-length c.args.self.now.ncols in
    let few = c.args.self.now.few in
    omega (arith, long, few)

pub returns : goal.returns
returns c =
    let long : length (numbers_below c.args.self.now.ncols) ≡ c.args.self.now.ncols = numbers_below-length c.args.self.now.ncols in
    sym (numbers_below-at c.args.self.now.ncols c.args.place (omega (arith, long)))
