use Rattle.std.proofs.Common.{Bool}
use Rattle.std.specs.Prelude.{map}
use Rattle.grb_core.specs.declared.value.Value.TheVariants as value
use Rattle.grb_lists.proofs.Places.{both_if_ok}
use Rattle.grb_codes.proofs.Arrays.{apart_entries}
use Rattle.grb_codes.proofs.item.BoolItem.apart_of.Goals as goal

pub returns : goal.returns
returns c = record {
  tuples = both_if_ok c.of_bools.result (λ made t w. apart_entries c.args.rows.now c.args.columns.now (map (λ (x : Bool). value.Bool x) c.args.items.now) made t w) c.of_bools.ensures.tuples c.of_bools.ensures.within;
}
