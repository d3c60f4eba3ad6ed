use Rattle.std.proofs.Common.{◌≡◌, ◌+◌, ℕ, length, ap, subst, ◌∙◌}
use Rattle.grb_records.specs.Token.{HasRows}
use Rattle.grb_pass.proofs.shared.Shared.begin_beside.Goals as goal

pub returns-clause-records : goal.returns-clause-records
returns-clause-records g c =
    let count : c.len.result ≡ length c.args.rebuild.calls.items = c.len.ensures ∙ c.args.rebuild.calls.ok.0 in
    subst (λ (n : ℕ). HasRows c.args.passes n c.in-Ok.next.records) (ap (λ (n : ℕ). n + c.args.room) (count ∙ ap length c.requires.rebuild.calls_are)) c.in-Ok.ensures.records
