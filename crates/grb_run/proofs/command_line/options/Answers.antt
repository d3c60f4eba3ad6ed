use Rattle.std.proofs.Common.{◌≡◌, ◌∙◌, ℕ, List, Option, ap, arith, refl, sym}
use Rattle.grb_run.proofs.Prelude.{Ok, unwrap_or, Bor}
use Rattle.std.specs.Prelude.{option_map}
use Rattle.grb_run.proofs.CommandLineReads.{fails_as, fails_up, path_given, room_given, threads_given}
use Rattle.grb_run.proofs.command_line.options.Goals as goal

pub returns-in_err-matches-clause-faults : goal.returns-in_err-matches-clause-faults
returns-in_err-matches-clause-faults c =
    fails_up c.args.program.now c.in_ok-command.field-0 _ c.from_residual-in_err-matches.result c.in_err-matches.field-0.0 c.in_ok-command.ensures
    c.in_err-matches.ensures.kinds c.from_residual-in_err-matches.ensures.1

pub unwrap-room-requires : goal.unwrap-room-requires
unwrap-room-requires c =
    let given = room_given c.args.program.now c.in_ok-command.field-0 c.in_ok-matches.matches _ c.get_one.result c.in_ok-command.ensures c.in_ok-matches.ensures.parsed
    c.in_ok-matches.ensures.matches c.get_one.ensures.value in
    rw given.1 refl

pub unwrap-threads-requires : goal.unwrap-threads-requires
unwrap-threads-requires c =
    let given = threads_given c.args.program.now c.in_ok-command.field-0 c.in_ok-matches.matches _ c.get_one-2.result c.in_ok-command.ensures c.in_ok-matches.ensures.parsed
    c.in_ok-matches.ensures.matches c.get_one-2.ensures.value in
    rw given.1 refl

pub unwrap-path-requires : goal.unwrap-path-requires
unwrap-path-requires c =
    (path_given c.args.program.now c.in_ok-command.field-0 c.in_ok-matches.matches _ c.get_str.result c.in_ok-command.ensures c.in_ok-matches.ensures.parsed
    c.in_ok-matches.ensures.matches c.get_str.ensures).0

pub returns-clause-room : goal.returns-clause-room
returns-clause-room c =
    let given = room_given c.args.program.now c.in_ok-command.field-0 c.in_ok-matches.matches _ c.get_one.result c.in_ok-command.ensures c.in_ok-matches.ensures.parsed
    c.in_ok-matches.ensures.matches c.get_one.ensures.value in
    let same : given.0 ≡ c.unwrap-room.result = ap (λ (o : Option ℕ). unwrap_or o 0) (sym given.1 ∙ c.unwrap-room.ensures) in
    (omega arith, omega arith)

pub returns-clause-threads : goal.returns-clause-threads
returns-clause-threads c =
    let given = threads_given c.args.program.now c.in_ok-command.field-0 c.in_ok-matches.matches _ c.get_one-2.result c.in_ok-command.ensures c.in_ok-matches.ensures.parsed
    c.in_ok-matches.ensures.matches c.get_one-2.ensures.value in
    let same : given.0 ≡ c.unwrap-threads.result = ap (λ (o : Option ℕ). unwrap_or o 0) (sym given.1 ∙ c.unwrap-threads.ensures) in
    (omega arith, omega arith)

pub returns-clause-given : goal.returns-clause-given
returns-clause-given c =
    let room = room_given c.args.program.now c.in_ok-command.field-0 c.in_ok-matches.matches _ c.get_one.result c.in_ok-command.ensures c.in_ok-matches.ensures.parsed
    c.in_ok-matches.ensures.matches c.get_one.ensures.value in
    let threads = threads_given c.args.program.now c.in_ok-command.field-0 c.in_ok-matches.matches _ c.get_one-2.result c.in_ok-command.ensures c.in_ok-matches.ensures.parsed
    c.in_ok-matches.ensures.matches c.get_one-2.ensures.value in
    let path = path_given c.args.program.now c.in_ok-command.field-0 c.in_ok-matches.matches _ c.get_str.result c.in_ok-command.ensures c.in_ok-matches.ensures.parsed
    c.in_ok-matches.ensures.matches c.get_str.ensures in (
      room.4 ∙ (sym room.1 ∙ c.unwrap-room.ensures),
      threads.4 ∙ (sym threads.1 ∙ c.unwrap-threads.ensures),
      path.1 ∙ ap (option_map (λ (s : Bor (List ℕ)). s.now)) c.unwrap-path.ensures,
    )

pub returns-clause-faults : goal.returns-clause-faults
returns-clause-faults c =
    fails_as c.args.program.now c.in_ok-command.field-0 _ (Ok c.in_ok-matches.matches) c.in_ok-command.ensures c.in_ok-matches.ensures.kinds
