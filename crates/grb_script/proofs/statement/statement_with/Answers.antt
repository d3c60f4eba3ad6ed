use Rattle.std.proofs.Common.{sym}
use Rattle.grb_script.proofs.FormLemmas.{names_behind-other}
use Rattle.grb_script.proofs.Prelude.{now_of}
use Rattle.grb_script.proofs.statement.statement_with.Goals as goal

pub returns-in_ok-statement_on-in_default-clause-read : goal.returns-in_ok-statement_on-in_default-clause-read
returns-in_ok-statement_on-in_default-clause-read c = record {
  says = sym c.in_ok-statement_on-in_default.ensures;
  behind =
      sym (
      names_behind-other c.args.names.now c.args.version c.args.keyword c.args.name.now (now_of c.args.others.now) c.in_default.not-Matrix c.in_default.not-Vector c.in_default.not-Dup
      c.in_default.not-Diag
      );
}
