use Rattle.std.proofs.Common.{◌∙◌, ap, sym}
use Rattle.std.specs.Prelude.{map}
use Rattle.grb_codes.specs.Arrays.{bool_in}
use Rattle.grb_codes.proofs.RowsWritten.{bools_back}
use Rattle.grb_codes.proofs.item.BoolItem.of_lists.Goals as goal

pub returns : goal.returns
returns c = sym (bools_back c.bools.result.now) ∙ ap (map bool_in) c.bools.ensures
