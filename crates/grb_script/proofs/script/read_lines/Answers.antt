use Rattle.std.proofs.Common.{◌∙◌, arith}
use Rattle.std.proofs.lemmas.Bool.Decides.{nat_tests}
use Rattle.std.proofs.lemmas.Result.{err_from_is_err_and}
use Rattle.grb_script.proofs.Prelude.{ended, lines_of, seen, listed}
use Rattle.grb_script.proofs.ScriptLemmas.{unread, Reached-next, Reached-end}
use Rattle.grb_script.proofs.script.read_lines.Goals as goal

pub returns-in_err-take_line-clause-fault : goal.returns-in_err-take_line-clause-fault
returns-in_err-take_line-clause-fault c =
    let now = c.loop-rest in
    let p = err_from_is_err_and c.from_residual.result c.from_residual.ensures.1 in
    rw (p.1, p.2)
    (unread c.args.text.now now.rest.now now.number (seen now.scope) (listed now.script) now.commands.items now.invariant.reached (ended c.in-Some.line.now) (lines_of c.in-Some.after.now) c.in-Some.ensures.ended _ c.in_err-take_line.ensures.fault)

pub loop-rest-preserved : goal.loop-rest-preserved
loop-rest-preserved c =
    let now = c.loop-rest in
    let line = c.in_ok-take_line.ensures in
    record {
      reached =
          Reached-next c.args.text.now now.rest.now now.number (seen now.scope) (listed now.script) now.commands.items now.invariant.reached c.in-Some.after.now c.in-Some.line.now
          c.in-Some.ensures.ended line.faultless _ line.taken.read.behind line.taken.meaning _ _ line.taken.read.says line.taken.taken;
      kept = line.kept;
      numbered = omega (arith, now.invariant.numbered, c.in-Some.ensures.shorter);
    }

pub returns-clause-read : goal.returns-clause-read
returns-clause-read c =
    let now = c.loop-rest in
    let p = Reached-end c.args.text.now now.rest.now now.number (seen now.scope) (listed now.script) now.commands.items (grind (arith, nat_tests)) now.invariant.reached in
    (p.0, c.in_ok-end_section.ensures.added ∙ p.1)
