use Rattle.std.proofs.Common.{ℕ}
use Rattle.std.specs.Prelude.{map}
use Rattle.grb_core.specs.declared.value.Value.TheVariants as value
use Rattle.grb_lists.proofs.Places.{both_if_ok}
use Rattle.grb_codes.proofs.Arrays.{apart_entries}
use Rattle.grb_codes.proofs.item.U64Item.apart_of.Goals as goal

pub returns : goal.returns
returns c = record {
  tuples = both_if_ok c.of_numbers.result (λ made t w. apart_entries c.args.rows.now c.args.columns.now (map (λ (x : ℕ). value.Uint64 x) c.args.items.now) made t w) c.of_numbers.ensures.tuples c.of_numbers.ensures.within;
}
