-- What the proofs of this crate import: names of std, of lower crates and of its own definitions.
pub use Rattle.grb_call.specs.History.{after_all}
pub use Rattle.grb_call.specs.Operands.{objects_read}
pub use Rattle.grb_call.specs.Output.{output_of}
pub use Rattle.grb_call.specs.Refused.{has_valid_values, refused_by_shapes}
pub use Rattle.grb_call.specs.Shapes.{ObjectShapes, is_live, object_at}
pub use Rattle.grb_call.specs.Store.{Store, empty_store, matrix_at, matrix_shape, shapes_of, vector_at, vector_shape}
pub use Rattle.grb_call.specs.declared.call.Call.{Call}
pub use Rattle.grb_call.specs.declared.ids.Object.{Object}
pub use Rattle.grb_core.specs.Contents.{Matrix, Vector, is_dimension}
pub use Rattle.grb_links.proofs.Frame.{after_these, is_accepted, link_there, made_here, node_there, none_since, same_calls, same_target, since_at, since_long, since_of, some_target, store_before, the_target, there}
pub use Rattle.grb_links.proofs.Links.{EditsOne, dups_one, edits_one, needs_all, needs_inputs}
pub use Rattle.grb_links.proofs.Lists.{end_none, some_same, take_suc, within_of}
pub use Rattle.grb_links.specs.Lasts.{last_of}
pub use Rattle.grb_links.specs.Learnt.{AreOneHistory, Follows, IsLearnt, contents_after, target_in}
pub use Rattle.grb_links.specs.Overwrites.{blank_of, forgets, inputs_of, is_clear, objects_needed, shape_at, shape_noted, shape_of_any}
pub use Rattle.grb_links.specs.declared.learnt.Learnt.{Learnt}
pub use Rattle.grb_results.specs.Exchanged.{AreLeft, AreMatricesOf, AreVectorsOf, Begins, IsLastKept, IsTakenFrom, OfEach}
pub use Rattle.grb_results.specs.Kept.{AreKept, AreReady, IsKept, IsKeptAt, IsKeptOf, IsLast, IsReady, IsReadyIfThere, IsSameBut, IsTableOf, KeepsAll, KeepsAlso, ReadsObject}
pub use Rattle.grb_results.specs.Results.{AreHeld, AreResults, AreSettled, AreTaken, IsApart, IsBlankAt, IsFrom, IsReadyAfter, IsReadyAt, IsResult, IsTable, IsToMake, LinksTo, MayMake, Mine, Theirs}
pub use Rattle.grb_results.specs.Settling.{IsSettledAt}
pub use Rattle.grb_results.specs.Value.{IsEdit, content_of}
pub use Rattle.grb_results.specs.declared.table.Table.{Table}
pub use Rattle.grb_slices.specs.Content.{Content, Contents, MatrixContent, VectorContent, content_at, outcome, target_of}
pub use Rattle.grb_slices.specs.Slice.{is_among}
pub use Rattle.grb_slices.specs.Steps.{AgreeOn}
pub use Rattle.grb_sparse.specs.Matrix.{SparseMatrixView}
pub use Rattle.grb_sparse.specs.Vector.{SparseVectorView}
pub use Rattle.grb_objects.specs.SharedContent.{AreElse, IsAt, IsThere, MayEdit, MayRead, is_assembled_content, matrix_in, vector_in}
pub use Rattle.grb_objects.specs.Stored.{stored_matrices, stored_matrix, stored_vector, stored_vectors}
pub use Rattle.grb_objects.specs.declared.shared_content.SharedContent.{SharedContent}
pub use Rattle.std.proofs.lemmas.List.{length_push, map_push}
pub use Rattle.std.proofs.lemmas.Result.{on_ok_weaker}
pub use Rattle.std.specs.Option.{option_map, option_map_or, option_or}
pub use Rattle.std.specs.Prelude.{Err, IfNone, IfOk, IfSome, Ok, OnErr, OnOk, Result, slice_get}
