use Rattle.std.proofs.Common.{◌∙◌, ap₂}
use Rattle.grb_run.proofs.Prelude.{IfOk-weaker, with_rule}
use Rattle.grb_run.specs.CommandLine.{command_line}
use Rattle.grb_run.proofs.command_line.command.Goals as goal

pub returns : goal.returns
unfolding command_line
returns c =
    let room = c.room_option.ensures in
    let threads = c.threads_option.ensures in
    let script = c.script_argument.ensures in
    let first = c.in_ok-roomy.ensures.shape room.local ∙ ap₂ with_rule c.named.ensures room.rule in
    let second = c.in_ok-threaded.ensures.shape threads.local ∙ ap₂ with_rule first threads.rule in
    IfOk-weaker c.arg-3.result _ _ (λ x added. added.shape script.local ∙ ap₂ with_rule second script.rule) c.arg-3.ensures
