-- What the proofs of this crate import: names of std, of lower crates and of its own definitions.
pub use Rattle.grb_call.specs.History.{Entry, History, after_all, calls_of, store_of}
pub use Rattle.grb_call.specs.Refused.{check_of, is_in_bounds, is_one_domain, refused_by_shapes, shapes_after}
pub use Rattle.grb_call.specs.Shapes.{ObjectShapes, is_live}
pub use Rattle.grb_call.specs.Statuses.{StatusRows, status_at}
pub use Rattle.grb_call.specs.Store.{Store, empty_store, shapes_of}
pub use Rattle.grb_call.specs.declared.call.Call.{Call}
pub use Rattle.grb_core.specs.declared.refusal.Refusal.{Refusal}
pub use Rattle.grb_order.specs.Order.{room_of}
pub use Rattle.grb_order.specs.View.{IsOthers, IsSound, LookedLast, enters_word, finds_vacant, is_told, learns}
pub use Rattle.grb_order.specs.Word.{IsWord, StartsWith, index_of, number_of, order_word}
pub use Rattle.grb_order.specs.declared.view.View.{View}
pub use Rattle.grb_reader.specs.Counting.{AreRising, Counts, CountsCall, CountsTries, LooksLast, LooksOnce, LooksRise, look_steps, others_end, steps_of}
pub use Rattle.grb_reader.specs.Explains.{Answer, ByMemory, ByRecords, ByRoom, ByStore, ExplainsAnswer, Ground, IsCaughtUp, IsGrounded, IsOutOfMemory, IsUnshown, MayLackMemory, entered_calls, ground_of, history_after, is_entered}
pub use Rattle.grb_reader.specs.Known.{AreRecords, IsKnown, IsOfOthers, IsOfPasses, IsPassOf, Knowing, Making, Shared, calls_by, known, none_made, spelled}
pub use Rattle.grb_reader.specs.Laws.{Begins, HistoriesAgree, ShareCalls}
pub use Rattle.grb_reader.specs.Learning.{Finds, IsNextUnshown, IsReady, IsRefused, IsSteady, Learns, LooksAtEnd}
pub use Rattle.grb_reader.specs.Meeting.{IsMet, IsSameRecordAt, Met, SharesCallAt}
pub use Rattle.grb_reader.specs.Reading.{IsBuildChecked, IsChecked, IsReaderWith, count_call, count_of_output, knowing}
pub use Rattle.grb_records.specs.Token.{IsOf, IsSameRecord, Shown}
pub use Rattle.std.proofs.lemmas.List.{append-nil, drop-append-le, drop_all, drop_more, get_or_at, length-drop, length_push}
pub use Rattle.std.proofs.lemmas.List.Elements.{All-append, All-cons, All-get_or, All-head, All-nil, All-push, All-same, All-tail, Contains-append_left, Contains-append_right, Contains-push}
pub use Rattle.std.specs.Option.{option_map, option_map_or, option_or}
pub use Rattle.std.specs.Prelude.{Err, IfOk, Ok, OnErr, OnOk, Result, filter, not, slice_get, ◌⊎◌}
