use Rattle.std.proofs.Common.{OnOk, IfErr, subst}
use Rattle.grb_market.proofs.Prelude.{Appends}
use Rattle.grb_market.specs.Written.{TakenAtFault}
use Rattle.grb_market.proofs.CanonicalLemmas.{canonical-parts}
use Rattle.grb_market.proofs.writing.write.Goals as goal

pub returns-clause-ok : goal.returns-clause-ok
returns-clause-ok g c =
    subst (λ t. OnOk c.write_entries.result (Appends (g.W.Sink.taken c.args.sink.now) (g.W.Sink.taken c.write_entries.new.sink) t))
    (canonical-parts c.args.matrix.now.matrix _ _ c.in_ok-text.ensures c.entries.ensures.entries) c.write_entries.ensures.ok

pub returns-clause-err : goal.returns-clause-err
returns-clause-err g c =
    subst (λ t. IfErr c.write_entries.result (TakenAtFault t (g.W.Sink.taken c.args.sink.now) (g.W.Sink.taken c.write_entries.new.sink)))
    (canonical-parts c.args.matrix.now.matrix _ _ c.in_ok-text.ensures c.entries.ensures.entries) c.write_entries.ensures.err
