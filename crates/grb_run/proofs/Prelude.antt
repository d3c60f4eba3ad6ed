-- What the proofs of this crate import: names of std, of lower crates and of its own definitions.
pub use Rattle.clap.specs.Words.{Shape, new_app, with_rule}
pub use Rattle.grb_context.specs.Answered.{Answered, Promise}
pub use Rattle.grb_context.specs.Explains.{Answer, ExplainsAnswer, IsGrounded, IsUnshown, MayLackMemory, ground_of, history_after}
pub use Rattle.grb_context.specs.Known.{AreNew, IsAlone, IsPassOf, Knowing, Making, Shared, known, none_made}
pub use Rattle.grb_market.specs.declared.loaded.Loaded.{Loaded}
pub use Rattle.grb_order.specs.Order.{room_of}
pub use Rattle.grb_order.specs.declared.limits.TheConstants.{MOST_ROOM, MOST_SEATS}
pub use Rattle.grb_run.specs.Calls.{call_of}
pub use Rattle.grb_run.specs.CommandLine.{faults_of, number_spelled, room_option, script_argument, threads_option}
pub use Rattle.grb_run.specs.declared.progress.TheConstants.{MOST_THREADS}
pub use Rattle.grb_run.specs.Loads.{AreScriptSteps, AreSteps, AreThreadSteps, Files, IsReadInto, IsStep, IsStepFault, IsWhyNotLoaded, Steps, StopsWith, all_of, steps_listed}
pub use Rattle.grb_run.specs.Printed.{IsAnswer, IsDone, IsFilled, IsLoadDone, IsRun, IsSaid, Standing, WasServed, answer_in, answers_in, done, filled, filling, load_done, making, printed, standing_after, start, statement_done, with_asked}
pub use Rattle.grb_replies.specs.ReplyLine.{reply_line}
pub use Rattle.grb_run.specs.Run.{EndsWith, Wrote, WroteBeginning, seats_of}
pub use Rattle.grb_run.specs.SectionSteps.{commands_of, loads_among, steps_with}
pub use Rattle.grb_run.specs.Sections.{Answers, AreAnswers, AreThreadsTold, AreTold, IsFillTold, IsLoadTold, IsScriptRun, IsStatementTold, IsStepTold, IsTold, MeetsAll, Stage, in_order}
pub use Rattle.grb_run.specs.Threads.{AreAsked, AreEnded, AreGathered, AreJobs, AreThreadsRun, IsEnded, IsGathered, IsJob, IsStopOf}
pub use Rattle.grb_run.specs.declared.fault.RunFault.{RunFault}
pub use Rattle.grb_run.specs.declared.loads.Step.{Step}
pub use Rattle.grb_run.specs.Told.{IsToldBy, asked, entries_named, told_by}
pub use Rattle.grb_replies.specs.declared.step_answer.StepAnswer.{StepAnswer}
pub use Rattle.grb_run.specs.declared.threads.FinishedSection.{FinishedSection}
pub use Rattle.grb_run.specs.declared.threads.Job.{Job}
pub use Rattle.grb_script.specs.Script.{Sections, listed, sections_of}
pub use Rattle.grb_script.specs.ScriptFault.{script_fault}
pub use Rattle.grb_script.specs.declared.command.NumberedCommand.{NumberedCommand}
pub use Rattle.grb_script.specs.declared.statement.Statement.{Statement}
pub use Rattle.std.proofs.lemmas.Grind.{common_steps, flat_map-append}
pub use Rattle.std.proofs.lemmas.List.{get_or-map, length-map, length-take, length_push, map-append, take-append-drop, take_all, take_more}
pub use Rattle.std.proofs.lemmas.List.Elements.{All-cons, All-get_or, All-head, All-nil, All-tail}
pub use Rattle.std.proofs.lemmas.Result.{IfOk-weaker, err_from_is_err_and, on_ok_weaker}
pub use Rattle.std.specs.Borrow.{Bor}
pub use Rattle.std.specs.List.{flat_map, list_all, remove, slice_index_or}
pub use Rattle.std.specs.Prelude.{Err, IfOk, IfSome, IsErrAnd, IsSome, Ok, OnOk, Result, find, is_none, is_ok, pos, slice_get, unwrap_or}
pub use Rattle.std.specs.declared.alloc.AllocError.{AllocError}
