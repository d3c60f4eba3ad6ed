-- What the proofs of this crate import: names of std, of lower crates and of its own definitions.
pub use Rattle.grb_core.specs.Contents.{IsDimension, is_cell_in, is_index_in, resized_vector}
pub use Rattle.grb_core.specs.Entries.{Cell, MatrixEntries, VectorEntries, before_entries, built_from, cell_cmp, cells_of, map_from, map_on, places_of, restricted, values_at, values_of, without_entry}
pub use Rattle.grb_core.specs.Fold.{fold_of, fold_of_some}
pub use Rattle.grb_core.specs.Laws.{AreOf, BringValuesOf, BuildIsSets, BuildStoresFolds, BuildsInAnyOrder, FoldsInAnyOrder, FoldsInParts, HavePlacesApart, MatrixResizedTwice, RemoveThenGet, SetThenGet, VectorResizedTwice, set_all}
pub use Rattle.grb_core.specs.Monoid.{IsCommutativeMonoid, identity_of, monoid_domain, monoid_op}
pub use Rattle.grb_core.specs.Operator.{on_bools, on_numbers, op_domain, value_of_op}
pub use Rattle.grb_core.specs.ResultLaws.{AreEntries, ClearsOutside, Commutes, ComplementParts, EwiseInEitherOrder, EwiseMakesEntries, IsBelow, IsCellBelow, LeavesOutside, MonoidsCommute, MxmMakesEntries, MxvMakesEntries, ReduceMakesValue, ReduceRowsMakesEntries, WritesInside, WrittenMakesEntries}
pub use Rattle.grb_core.specs.Results.{cells_between, column_of, columns_of, each_column, each_row, ewise_add, ewise_mult, mxm_of, mxv_of, product_of, reduce_of, reduce_rows_of, row_of, rows_of, transposed, turned_entry, vxm_of}
pub use Rattle.grb_core.specs.Semiring.{SemiringParts}
pub use Rattle.grb_core.specs.Value.{IsValueOf}
pub use Rattle.grb_core.specs.Written.{AccumulatesIn, accumulated, both_values, either_value, masked, pointwise, written, written_value}
pub use Rattle.grb_core.specs.declared.monoid.Monoid.{Monoid}
pub use Rattle.grb_core.specs.declared.operator.BinaryOp.{BinaryOp}
pub use Rattle.grb_core.specs.declared.value.Value.{Value}
pub use Rattle.std.proofs.lemmas.List.Elements.{All-cons, All-from_recursion, All-nil, recursion_from_All}
pub use Rattle.std.specs.Cmp.{IsTotalOrder, nat_cmp_is, nat_cmp_total, on_total, then_total, tied_itself}
pub use Rattle.std.specs.FinMap.{IsAntisymmetric, find, is_sorted, nat_cmp-IsAntisymmetric, put}
pub use Rattle.std.specs.FinMap.Entries.{below_all, by_order, find-put, find-where_key, find_tied, is_some-find, is_sorted-put, same_entries}
pub use Rattle.std.specs.List.{AllByRecursion}
pub use Rattle.std.specs.List.Sorted.{IsPermutation}
pub use Rattle.std.specs.Option.{option_or}
pub use Rattle.std.specs.Ordering.{eq_by_cmp, is_eq, is_lt, nat_cmp, ordering_then}
pub use Rattle.std.specs.Prelude.{All, AllPairs, IsTrue, None, Option, Some, filter, if◌then◌else◌, is_some, map, swap, ⊤, ◌&&◌, ◌==◌, ◌≢◌}
pub use Rattle.std.specs.declared.cmp.Ordering.{Ordering}
pub use Rattle.std.specs.declared.cmp.Ordering.TheVariants.{Equal, Greater, Less}
