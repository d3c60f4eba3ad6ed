use Rattle.std.proofs.Common.{sym}
use Rattle.grb_sums.specs.Numbers.{numbers_below-length}
use Rattle.grb_sums.proofs.column_sums.AllColumnsColumns.count.Goals as goal

pub returns : goal.returns
returns c = sym (numbers_below-length c.args.self.now.ncols)
