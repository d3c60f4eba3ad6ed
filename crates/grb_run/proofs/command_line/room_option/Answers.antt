use Rattle.std.proofs.Common.{◌≡◌, ◌∙◌, ap, rules}
use Rattle.grb_run.proofs.Prelude.{pos, MOST_ROOM, room_option}
use Rattle.std.specs.Prelude.{Some}
use Rattle.clap.specs.declared.builder.value_parser.ValueParser.{ValueParser}
use Rattle.clap.specs.declared.builder.value_parser.ValueParser.TheVariants as parser
use Rattle.grb_run.proofs.command_line.room_option.Goals as goal

pub returns-clause-rule : goal.returns-clause-rule
returns-clause-rule c =
    let given = c.value_parser-2.ensures.given in
    let made : c.range.result ≡ parser.Signed (pos 1) (pos MOST_ROOM) =
    rw (c.value_parser.ensures, c.new-2.ensures.start, c.new-2.ensures.end, c.from.ensures) at c.range.ensures in
    let is_q : given.0 ≡ parser.Signed (pos 1) (pos MOST_ROOM) = given.2 ∙ made in
    let is_parser : c.value_parser-2.result.value_parser ≡ Some (parser.Signed (pos 1) (pos MOST_ROOM)) = given.1 ∙ ap (λ (q : ValueParser). Some q) is_q in
    search (rules, is_parser)

pub returns-clause-local : goal.returns-clause-local
returns-clause-local c = search rules
