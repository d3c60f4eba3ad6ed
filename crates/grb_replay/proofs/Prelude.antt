-- What proofs of slices import: names of std, of lower crates and of its own definitions.
pub use Rattle.grb_call.proofs.ShapesAfter.{shapes_of-after}
pub use Rattle.grb_call.specs.After.{after}
pub use Rattle.grb_call.specs.History.{after_all}
pub use Rattle.grb_call.specs.Operands.{masks, objects_read, operands}
pub use Rattle.grb_call.specs.Output.{output_of}
pub use Rattle.grb_call.specs.Refused.{refused_by_shapes, reshaped, shapes_after}
pub use Rattle.grb_call.specs.Shapes.{ObjectShapes, is_live, object_at}
pub use Rattle.grb_call.specs.Status.{is_same_object}
pub use Rattle.grb_call.specs.Store.{Store, shapes_of, with_place}
pub use Rattle.grb_call.specs.declared.call.Call.{Call}
pub use Rattle.grb_call.specs.declared.ids.Object.{Object}
pub use Rattle.grb_core.specs.declared.refusal.Refusal.{Refusal}
pub use Rattle.grb_replay.specs.Followed.{Follows, GoesOn, HasGoneOver, HasPlaceIn, LacksPlaceIn, part_after}
pub use Rattle.grb_replay.specs.Wanted.{HasPlace, HavePlaces, KeepsPlaces, Marks, is_chosen, is_wanted, wants_before_entry}
pub use Rattle.grb_slices.specs.Content.{Contents, MatrixContent, VectorContent, content_at, effective_target, outcome, target_of}
pub use Rattle.grb_slices.specs.Slice.{Entry, Make, Step, Wants, choices, entries, evaluated, is_among, sliced, wants_before, with_content}
pub use Rattle.grb_slices.specs.Steps.{AgreeOn, steps_of}
pub use Rattle.grb_replay.specs.Targets.{targets_of}
pub use Rattle.std.proofs.lemmas.List.{get_or-drop, length_push, take_more}
pub use Rattle.std.specs.Option.{option_map_or}
pub use Rattle.std.specs.Prelude.{slice_get}
pub use lib.ListN.{length-drop, length-map}
