use Prim.{search}
use Rattle.std.proofs.Common.{◌≡◌, false, rules}
use Rattle.grb_script.proofs.Prelude.{is_section, now_of, says_nothing}
use Rattle.grb_script.proofs.ScopeLemmas.{silent-IsRead, commands-IsRead, commands-IsKept}
use Rattle.grb_script.proofs.line.read_words.Goals as goal

pub returns-then-is_silent-clause-read : goal.returns-then-is_silent-clause-read
returns-then-is_silent-clause-read c =
    silent-IsRead c.args.scope.now (now_of c.args.words.now) c.version_by-version.result c.version_by-version.ensures (search rules)

pub returns-clause-read : goal.returns-clause-read
returns-clause-read c =
    let words = now_of c.args.words.now in
    let stays : says_nothing c.args.scope.now.version words ≡ false = search rules in
    let begins : is_section words ≡ false = search rules in
    commands-IsRead c.args.scope.now words c.version_by-version.result c.version_by-version.ensures stays begins c.in_ok-command.command c.read_command.new.names c.requires.kept c.in_ok-command.ensures.read

pub returns-clause-kept : goal.returns-clause-kept
returns-clause-kept c =
    let words = now_of c.args.words.now in
    let stays : says_nothing c.args.scope.now.version words ≡ false = search rules in
    let begins : is_section words ≡ false = search rules in
    commands-IsKept c.args.scope.now words c.version_by-version.result c.version_by-version.ensures stays begins c.in_ok-command.command c.read_command.new.names c.requires.kept c.in_ok-command.ensures.read
