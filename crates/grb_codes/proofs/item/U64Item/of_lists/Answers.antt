use Rattle.std.proofs.Common.{◌∙◌, ap, sym}
use Rattle.std.specs.Prelude.{map}
use Rattle.grb_codes.specs.Arrays.{number_in}
use Rattle.grb_codes.proofs.RowsWritten.{numbers_back}
use Rattle.grb_codes.proofs.item.U64Item.of_lists.Goals as goal

pub returns : goal.returns
returns c = sym (numbers_back c.numbers.result.now) ∙ ap (map number_in) c.numbers.ensures
