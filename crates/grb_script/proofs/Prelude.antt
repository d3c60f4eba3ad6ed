-- What the proofs of this crate import: names of std, of lower crates and of its own definitions.
pub use Rattle.grb_market.specs.Line.{Line, ended, lines_of}
pub use Rattle.grb_script.specs.Command.{IsAsked, asking, asks_load, asks_statement, commands_in, loading, names_behind_load, names_behind_words, names_made}
pub use Rattle.grb_script.specs.Names.{Name, name_found, number_in, same_sort, sort_of, stands}
pub use Rattle.grb_script.specs.Reading.{apply_on, are_of, are_of_product, build_of, diag_of, ewise_on, get_at, kronecker_on, left_sort, made, mask_found, mask_is_of, masked, names_behind, output_sort, product_on, reading, reduction_on, remove_at, resize_to, right_sort, same_fit, saying, select_on, set_at, transpose_on, turn_fits, used, where_found}
pub use Rattle.grb_script.specs.Scope.{IsKept, Scope, at_start, begun, main_behind, main_kept, may_follow, most_threads, scope_behind_line, scope_behind_lines, scope_behind_words, scope_of, section_on, seen, with_names, with_version}
pub use Rattle.grb_script.specs.Script.{Sections, finally_in, finally_part, joined, line_commands, listed, main_part, numbered_on, part_of, section_commands, sections_of, thread_part, threads_in, with_before}
pub use Rattle.grb_script.specs.ScriptFault.{IsWhyLineUnread, IsWhyTextUnread, first_fault, line_fault, saying_fault, script_fault, section_fault, wording_fault}
pub use Rattle.grb_script.specs.Version.{says_nothing, version_by}
pub use Rattle.grb_script.specs.declared.command.NumberedCommand.{NumberedCommand}
pub use Rattle.grb_script.specs.declared.names.Sort.{Sort}
pub use Rattle.grb_words.proofs.TupleLemmas.{now_of}
pub use Rattle.grb_words.specs.Form.{ApplyForm, BuildForm, ClearForm, DiagForm, DupForm, EwiseForm, Form, FreeForm, GetForm, KroneckerForm, MatrixForm, NvalsForm, ProductForm, ReduceForm, RemoveForm, ResizeForm, SelectForm, SetForm, SizeForm, TotalForm, TransposeForm, TuplesForm, VectorForm, WaitForm, apply_form, build_form, diag_form, ewise_form, form_of, form_of_placed, form_with, indices_and_value_of, indices_of, kronecker_form, load_of, matrix_form, placed_form, product_form, reduce_form, select_form, set_form, total_form, transpose_form, values_in, vector_form, wait_form, whole_form}
pub use Rattle.grb_words.specs.Function.{function_first}
pub use Rattle.grb_words.specs.Line.{Word, has_allowed_bytes, is_load, is_section, is_skipped, words_of}
pub use Rattle.grb_words.specs.Options.{OptionWords, function_turns, options_in, product_turns, spelled}
pub use Rattle.grb_words.specs.Section.{section_of}
pub use Rattle.grb_words.specs.Test.{test_first}
pub use Rattle.grb_words.specs.Version.{version_named}
pub use Rattle.grb_words.specs.Word.{is_name, keyword_in, monoid_of, numeral_value, operator_of, semiring_of, wait_mode_of}
pub use Rattle.grb_words.specs.declared.fault.FaultKind.{FaultKind}
pub use Rattle.grb_words.specs.declared.fault.FaultKind.TheVariants.{BadByte, NameTaken, Semiring, UnendedLine, UnknownName, WrongKind}
pub use Rattle.grb_words.specs.declared.version.Version.{Version}
pub use Rattle.std.proofs.lemmas.Bool.{and_parts, cases_eq, eqb-true, false_from_ne_true, or_cases, or_parts}
pub use Rattle.std.proofs.lemmas.List.{append-nil, take-append-le, take-map, take_all}
pub use Rattle.std.specs.List.{flat_map, list_all, position_or_len, take_while}
pub use Rattle.std.specs.Option.{ok_or, option_and_then, option_map, option_map_or, option_to_list}
pub use Rattle.std.specs.Prelude.{codes, ◌⊎◌}
pub use Rattle.std.specs.Str.{bytes_eq}
