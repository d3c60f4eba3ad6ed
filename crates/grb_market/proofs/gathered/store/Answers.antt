use Rattle.std.proofs.Common.{◌∙◌}
use Rattle.grb_market.proofs.Prelude.{cell_cmp}
use Rattle.grb_market.proofs.EntryMaps.{insert_entry-put}
use Rattle.grb_market.proofs.gathered.store.Goals as goal

pub returns-in-Ok-clause-stored : goal.returns-in-Ok-clause-stored
returns-in-Ok-clause-stored c = c.in-Ok.ensures.entries ∙ insert_entry-put cell_cmp c.args.cell c.args.value c.args.entries.now.entries
