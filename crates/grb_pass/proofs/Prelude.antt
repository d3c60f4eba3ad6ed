-- What the proofs of this crate import: names of std, of lower crates and of its own definitions.
pub use Rattle.grb_call.specs.After.{after, refused, reply_of}
pub use Rattle.grb_call.specs.History.{Entry, History, after_all, calls_of, store_of}
pub use Rattle.grb_call.specs.Kinds.{enters, is_build, is_size}
pub use Rattle.grb_call.specs.Refused.{check_of, refused_by_shapes}
pub use Rattle.grb_call.specs.Shapes.{MatrixShape, ObjectShapes, VectorShape, is_live, object_at}
pub use Rattle.grb_call.specs.Statuses.{no_rows, status_at}
pub use Rattle.grb_call.specs.Store.{IsStore, Store, empty_store, matrix_at, shapes_of, vector_at}
pub use Rattle.grb_call.specs.declared.call.Call.{Call}
pub use Rattle.grb_call.specs.declared.ids.Object.{Object}
pub use Rattle.grb_core.specs.declared.refusal.Refusal.TheVariants.{OrderFull, OutOfMemory}
pub use Rattle.grb_order.specs.Holding.{Holding, TableId}
pub use Rattle.grb_order.specs.Order.{AreFresh, room_of}
pub use Rattle.grb_order.specs.View.{LookedLast, fresh}
pub use Rattle.grb_pass.specs.Evaluated.{IsEvaluatedFor, IsInStep, IsPassState, IsSettledTable, LiesReady, LiesReadyAfter}
pub use Rattle.grb_pass.specs.Succeeding.{AreBegun, BeginsWith, IsOpened, IsOpenedWith}
pub use Rattle.grb_reader.proofs.Alike.{IsAtEnd, at_end_after, caught_up_alike, counts_alike, explains_alike, known_alike, ready_after, refused_after, steady_alike, with_rest}
pub use Rattle.grb_reader.proofs.Answering.{explains_before, explains_evaluated, explains_refused, explains_won, known_entered, known_evaluated, learns_lost, memory_explained, refused_before, refused_by_check, refused_by_room, refused_checked, refused_put}
pub use Rattle.grb_reader.proofs.Cells.{fresh_put, own_learns, own_lost, own_tried, own_wider, small_put}
pub use Rattle.grb_reader.proofs.Checking.{checked_build, checked_err, checked_plain, count_accepted, count_reads, count_replied, unrefused_by_shapes}
pub use Rattle.grb_reader.proofs.Counted.{AreLost, counts_begun, counts_looked, counts_lost, counts_same, counts_then, counts_tried, counts_won, explains_begun, looks_once, lost_again, steps_lost, steps_near}
pub use Rattle.grb_reader.proofs.Learnt.{learns_refl, learns_then, pass_push, pass_same}
pub use Rattle.grb_reader.proofs.Rising.{looks_ready, tried_none}
pub use Rattle.grb_reader.proofs.Spelling.{calls_of-append, length-calls_of, spelled_more, spelled_push}
pub use Rattle.grb_reader.specs.Cells.{OwnBelow}
pub use Rattle.grb_reader.specs.Counting.{Counts, CountsCall, CountsTries, LooksOnce}
pub use Rattle.grb_reader.specs.Explains.{Answer, ExplainsAnswer, ExplainsCall, IsCaughtUp, ground_of, is_entered}
pub use Rattle.grb_reader.specs.Known.{AreNew, HasNoStatus, IsPassOf, Knowing, Making, Shared, known, new_pass, none_made, spelled}
pub use Rattle.grb_reader.specs.Laws.{Begins}
pub use Rattle.grb_reader.specs.Learning.{Enters, Finds, IsRefused, IsSteady, Learns, LooksAtEnd}
pub use Rattle.grb_reader.specs.Made.{MakesNone, ReadsNone}
pub use Rattle.grb_reader.specs.Replying.{ReadsStore, statuses_with}
pub use Rattle.grb_reader.specs.Settled.{IsLeftReady, LeavesReady, is_materialize, settled_after, waited_for}
pub use Rattle.grb_rebuild.specs.Rebuilt.{AreTaken, rebuilt}
pub use Rattle.grb_records.specs.Token.{IsOf, Shown}
pub use Rattle.grb_results.specs.Kept.{IsKept, IsTableOf, KeepsAll, MayReply, ReadsObject}
pub use Rattle.grb_results.specs.Results.{AreOneHistory, IsTable}
pub use Rattle.grb_results.specs.declared.table.Table.{Table}
pub use Rattle.std.proofs.lemmas.List.{append-nil, length_push, map-append, take-append-le, take_more}
pub use Rattle.std.proofs.lemmas.Option.{get_or_from_slice_get, same_Some, slice_get_within}
pub use Rattle.std.proofs.lemmas.Result.{err_from_is_err_and}
pub use Rattle.std.specs.List.{All, insert, remove}
pub use Rattle.std.specs.Prelude.{Err, IfNone, IfSome, MatchOption, Ok, OnErr, OnOk, Result, slice_get, slice_index_or}
pub use Rattle.std.specs.Result.{IsErr, is_ok, result_or}
