use Rattle.std.proofs.Common.{length, sym, ap, ◌∙◌}
use Rattle.grb_pass.proofs.Prelude.{Knowing, known}
use Rattle.grb_pass.proofs.Succeeding.{begins_whole}
use Rattle.grb_pass.proofs.shared.Shared.tell.Goals as goal

pub returns-clause-known : goal.returns-clause-known
returns-clause-known g c =
    ap known c.begin.ensures.same
    ∙ begins_whole (known c.args.first.now) (known c.adopt.new.pass) c.in-Ok.ensures.met.met.0
    (sym c.known.ensures ∙ c.if-known.false ∙ c.known-2.ensures ∙ ap (λ (p : Knowing). length (known p)) c.adopt.ensures.other)
