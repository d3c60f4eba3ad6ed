use Rattle.std.proofs.Common.{Bool, ap, sym, ◌∙◌}
use Rattle.grb_core.specs.declared.value.Value.TheVariants as value
use Rattle.grb_lists.specs.Cells.{codes_of, decoded}
use Rattle.grb_ewise.proofs.Lent.{entries-paired}
use Rattle.grb_ewise.proofs.RowEntries.{codes_in_order}
use Rattle.grb_ewise.proofs.stored.BoolStored.keep.Goals as goal

pub from_bools-requires-clause-ordered : goal.from_bools-requires-clause-ordered
from_bools-requires-clause-ordered c =
    codes_in_order (λ (x : Bool). value.Bool x) c.args.rows.items c.args.starts.items c.args.columns.items c.args.values.items c.requires.ordered

pub returns-clause-entries : goal.returns-clause-entries
returns-clause-entries c =
    ap decoded (c.from_bools.ensures.entries ∙ sym (entries-paired (λ (x : Bool). value.Bool x) (codes_of c.args.rows.items c.args.starts.items c.args.columns.items) c.args.values.items))
