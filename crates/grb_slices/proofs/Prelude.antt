-- What the proofs of this crate import: names of std, of lower crates and of its own definitions.
pub use Rattle.grb_call.proofs.ShapesAfter.{object_at-map, shapes_of-after}
pub use Rattle.grb_call.specs.After.{after, changed, has_old_entries, output_changed, refused_build}
pub use Rattle.grb_call.specs.History.{after_all}
pub use Rattle.grb_call.specs.Operands.{given_domains, masks, named, objects_read, operands}
pub use Rattle.grb_call.specs.Output.{objects_in, matrix_after, matrix_left, matrix_made, output_of, vector_after, vector_left, vector_made}
pub use Rattle.grb_call.specs.Refused.{are_of_domain, check_of, ewise_fits, fitting_of, has_fitting_dims, has_one_domain, has_valid_index, has_valid_values, is_in_bounds, is_initialized, is_one_domain, kind_of, mask_fits, operation_fits, product_fits, refused_by_shapes, reshaped, rows_fit, same_domain, shapes_after, turned_ncols, turned_nrows}
pub use Rattle.grb_call.specs.Shapes.{MatrixShape, ObjectShapes, VectorShape, domain_at, is_live, matrix_shape_at, ncols_at, nrows_at, object_at, size_at, vector_shape_at}
pub use Rattle.grb_call.specs.Status.{is_same_object}
pub use Rattle.grb_call.specs.Store.{Store, matrix_at, matrix_shape, shapes_of, vector_at, vector_shape, with_place}
pub use Rattle.grb_call.specs.declared.call.Call.{Call}
pub use Rattle.grb_call.specs.declared.ids.MatrixId.{MatrixId}
pub use Rattle.grb_call.specs.declared.ids.Object.{Object}
pub use Rattle.grb_call.specs.declared.ids.VectorId.{VectorId}
pub use Rattle.grb_core.specs.declared.refusal.Refusal.{Refusal}
pub use Rattle.grb_core.specs.declared.refusal.Refusal.TheVariants.{DimensionMismatch, DomainMismatch, IndexOutOfBounds, InvalidIndex, InvalidValue, OutputNotEmpty, UninitializedObject}
pub use Rattle.grb_slices.specs.Content.{Content, Contents, MatrixContent, VectorContent, can_fill_matrix, can_fill_vector, content_at, content_made, effective_target, objects_held, filled_matrix, filled_vector, matrix_held, vector_held, outcome, output_made, target_of}
pub use Rattle.grb_slices.specs.Slice.{Element, Entry, Known, Make, Origin, Recall, Sliced, Step, Wants, choices, chosen, entries, evaluated, is_among, needs, result_of, sliced, sliced_step, wants_before, with_content}
pub use Rattle.grb_slices.specs.Steps.{AgreeOn, AreSteps, steps_of}
pub use Rattle.std.specs.List.{list_all, list_any}
pub use Rattle.std.specs.Option.{option_map_or, option_or}
pub use Rattle.std.specs.Prelude.{slice_get, ◌==◌}
pub use lib.ListN.{length-map}
