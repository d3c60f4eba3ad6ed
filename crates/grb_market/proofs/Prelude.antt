-- What the proofs of this crate import: names of std, of lower crates and of its own definitions.
pub use Rattle.grb_core.proofs.Maps.{below-trans, cell_cmp-IsAntisymmetric, cell_cmp_total, find-append_maps, find-map_from, find-tied_below, is_sorted-map_from}
pub use Rattle.grb_core.specs.Contents.{IsDimension, IsMatrix, Matrix, is_dimension}
pub use Rattle.grb_core.specs.Entries.{Cell, MatrixEntries, cell_cmp, cells_of, map_from, restricted, values_at, values_of}
pub use Rattle.grb_core.specs.declared.domain.Domain.{Domain}
pub use Rattle.grb_core.specs.declared.value.Value.{Value}
pub use Rattle.grb_lists.proofs.Places.{below_at, first, holds, passes, second}
pub use Rattle.grb_market.specs.Canonical.{canonical, canonical_lines, entry_lines, entry_text, first_line, is_false, line_text, size_text, spaced}
pub use Rattle.grb_market.specs.Fault.{AtEntry, AtHeader, AtSize, Lost, Stage, behind_comments, bytes_fault, entries_on, fault_at, first_fault, line_fault, market_fault, missing_at, repeated, stage_behind_header, stage_behind_size, stage_of, stage_with, stands_in}
pub use Rattle.grb_market.specs.Front.{IsBlankFront, IsNumberBefore, IsNumberFront, IsNumberLine, before, begins_digit, behind, has_number}
pub use Rattle.grb_market.specs.Gathered.{AreAllGathered, AreGathered, AreSpelled, IsAtEnd, IsEntryLine, are_apart, comes_before, count_apart, has_place, wrong_at}
pub use Rattle.grb_market.specs.Laws.{CanonicalTextsAreReadBack, CanonicalTextsSpell, FaultlessTextsSpell, SpellAtMostOne, SpellMatrices, SpellingTextsAreFaultless}
pub use Rattle.grb_market.specs.Line.{Line, ended, is_comment, lines_from, lines_of, unended}
pub use Rattle.grb_market.specs.Numbers.{Number, begins_blank, ends_blank, is_blank, is_digit, number_of, numbers_from, numbers_of, numeral_of, words_of}
pub use Rattle.grb_market.specs.Reading.{entry_at, entry_from, entry_of, entry_with, head, head_of, is_in, size_from, size_of, size_with}
pub use Rattle.grb_market.specs.Sides.{AreFound, AreLower, both_sides, off_diagonal}
pub use Rattle.grb_market.specs.Spells.{HasNumbers, IsStated, Spells, SpellsEntry, SpellsSize, mirrored, numbers_stated, value_stated, written_out}
pub use Rattle.grb_market.specs.Stands.{IsRead, Stands, StandsBehind}
pub use Rattle.grb_market.specs.declared.fault.FaultKind.{FaultKind}
pub use Rattle.grb_market.specs.declared.fault.FaultKind.TheVariants.{Header, Repeated, TooFew, TooMany, UnendedLine}
pub use Rattle.grb_market.specs.declared.head.Head.{Head}
pub use Rattle.grb_market.specs.declared.head.Size.{Size}
pub use Rattle.std.proofs.Math.Seq.{get_or-append_seam, take-add, take-append-add}
pub use Rattle.std.proofs.lemmas.Bool.{and_parts, eqb-true, false_from_ne_true, false≢true, ne_eqb, not-false, not-true}
pub use Rattle.std.proofs.lemmas.Bool.Decides.{nat_tests}
pub use Rattle.std.proofs.lemmas.List.{at_drop_more, get_or-append-add, get_or-take, get_or_append_left, get_or_default, length-drop, length-map, length-take, length-take-le, map-append, take-append-drop, take-append-le, take_all, take_more, take_rest}
pub use Rattle.std.proofs.lemmas.List.Elements.{All-append, All-cons, All-head, All-map, All-nil, All-rest, All-tail, filter_agree}
pub use Rattle.std.proofs.lemmas.List.Splits.{length-slice_split, slice_split_at, slice_split_none}
pub use Rattle.std.specs.FinMap.{find, is_sorted, put}
pub use Rattle.std.specs.FinMap.Entries.{below_all, by_order, find-put, is_sorted-put, length-put, same_entries}
pub use Rattle.std.specs.Io.KnownBytes.{Appends}
pub use Rattle.std.specs.List.{AllByRecursion, AllZip, flat_map, list_all, list_any, onto_first, slice_split}
pub use Rattle.std.specs.Option.{option_and_then, option_map, option_map_or, option_or, option_to_list}
pub use Rattle.std.specs.Ordering.{eq_by_cmp, is_eq, is_lt, match_ordering, nat_cmp, ordering_reverse, ordering_then}
pub use Rattle.std.specs.Prelude.{◌&&◌}
pub use Rattle.std.specs.Result.{result_err, result_ok}
pub use Rattle.std.specs.Str.Parse.{digits_value}
pub use Rattle.std.specs.declared.cmp.Ordering.{Ordering}
pub use Rattle.std.specs.declared.cmp.Ordering.TheVariants.{Equal, Greater, Less}
pub use Rattle.std.specs.declared.result.Result.{Result}
pub use lib.Dec.{T}
