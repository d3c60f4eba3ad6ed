use Rattle.std.proofs.Common.{sym, ap, ◌∙◌}
use Rattle.grb_market.proofs.Prelude.{cells_of}
use Rattle.grb_market.proofs.MarketLemmas.{next_head}
use Rattle.grb_market.proofs.SpellsLemmas.{spells-read, sorted-read}
use Rattle.grb_market.proofs.SideLemmas.{lower_read}
use Rattle.grb_market.proofs.WholeLemmas.{spell_matrices}
use Rattle.grb_market.proofs.reader.read.Goals as goal

pub read_size-requires-clause-stands : goal.read_size-requires-clause-stands
read_size-requires-clause-stands c =
    next_head c.args.text.now c.in-Some.line.now c.in-Some.behind.now c.in-Some-head_of.head c.in-Some.ensures.ended (sym c.in-Some-head_of.ensures)

pub written_out-requires : goal.written_out-requires
written_out-requires c = record {
  rising = sorted-read c.args.text.now c.in-Some-head_of.head c.in_ok-size.size (cells_of c.in_ok-lower.lower.items) c.in_ok-lower.ensures.read;
  lower = lower_read c.args.text.now c.in-Some-head_of.head c.in_ok-size.size (cells_of c.in_ok-lower.lower.items) c.in_ok-lower.ensures.read;
}

pub returns-clause-spells : goal.returns-clause-spells
returns-clause-spells c =
    spells-read c.args.text.now c.in-Some-head_of.head c.in_ok-size.size (cells_of c.in_ok-lower.lower.items) (cells_of c.from_vec.result) c.in_ok-lower.ensures.read
    (ap cells_of c.from_vec.ensures ∙ c.in_ok-tuples.ensures)

pub returns-clause-whole : goal.returns-clause-whole
returns-clause-whole c = spell_matrices c.args.text.now _ (returns-clause-spells c)
