use Rattle.std.proofs.Common.{rules}
use Rattle.grb_run.proofs.command_line.script_argument.Goals as goal

pub returns-clause-rule : goal.returns-clause-rule
returns-clause-rule c = search rules

pub returns-clause-local : goal.returns-clause-local
returns-clause-local c = search rules
