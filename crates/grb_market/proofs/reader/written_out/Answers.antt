use Rattle.std.proofs.Common.{refl, sym}
use Rattle.grb_market.proofs.Prelude.{not-false, cells_of, holds}
use Rattle.grb_market.proofs.EntryMaps.{written_out-general}
use Rattle.grb_market.proofs.SideLemmas.{written_out-sides}
use Rattle.grb_market.proofs.reader.written_out.Goals as goal

pub returns-then-not-head : goal.returns-then-not-head
returns-then-not-head c = written_out-general c.args.head (cells_of c.args.lower.items) c.if-not-head.true (holds c.requires.rising)

pub whole-requires : goal.whole-requires
whole-requires c = record { rising = rw c.deref.ensures.value c.requires.rising; lower = rw c.deref.ensures.value (c.requires.lower (not-false _ c.if-not-head.false)) }

pub returns : goal.returns
returns c =
    rw (sym (written_out-sides c.args.head (cells_of c.args.lower.items) _ c.if-not-head.false refl)) (rw (sym c.deref.ensures.value) c.whole.ensures)
