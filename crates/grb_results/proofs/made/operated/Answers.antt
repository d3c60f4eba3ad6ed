use Rattle.std.proofs.Common.{◌∙◌, sym, subst}
use Rattle.grb_results.proofs.Prelude.{Store, IsThere}
use Rattle.grb_results.proofs.Making.{operation_made}
use Rattle.grb_results.proofs.made.operated.Goals as goal

pub returns : goal.returns
returns g c r agree =
    operation_made (g.O.Operates.on c.args.bench.now) c.args.call.now c.requires.operates c.requires.accepted c.in-Some.output c.take.result (sym c.output.ensures ∙ c.in-Some.is)
    (subst (λ (s : Store). IsThere s c.in-Some.output c.take.result) c.in_ok-operate.ensures.ok c.take.ensures) r agree
