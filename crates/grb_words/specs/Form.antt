-- believed: The forms of statements (own): what the words of a line say in a script of a version, whatever its names stand for.
use Rattle.std.specs.Prelude.{ℕ, ◌&&◌, if◌then◌else◌, List, [], ◌∷◌, Option, Some, None}
use Rattle.std.specs.Option.{option_and_then, option_map}
use Rattle.std.specs.Str.{is_utf8}
use Rattle.grb_core.specs.declared.domain.Domain.{Domain}
use Rattle.grb_core.specs.declared.monoid.Monoid.{Monoid}
use Rattle.grb_core.specs.declared.operator.BinaryOp.{BinaryOp}
use Rattle.grb_core.specs.declared.value.Value.{Value}
use Rattle.grb_words.specs.declared.keyword.Ewise.{Ewise}
use Rattle.grb_words.specs.declared.keyword.Keyword.{Keyword}
use Rattle.grb_words.specs.declared.keyword.Keyword.TheVariants as keyword
use Rattle.grb_call.specs.declared.wait_mode.WaitMode.{WaitMode}
use Rattle.grb_words.specs.declared.keyword.Multiply.{Multiply}
use Rattle.grb_words.specs.declared.keyword.Placed.{Placed}
use Rattle.grb_words.specs.declared.keyword.Placed.TheVariants as placed
use Rattle.grb_words.specs.declared.keyword.Whole.{Whole}
use Rattle.grb_words.specs.declared.keyword.Whole.TheVariants as whole
use Rattle.grb_core.specs.declared.functions.Function.{Function}
use Rattle.grb_core.specs.declared.tests.Diagonal.{Diagonal}
use Rattle.grb_core.specs.declared.tests.Test.{Test}
use Rattle.grb_words.specs.declared.indices.Indices.{Indices}
use Rattle.grb_words.specs.declared.indices.Indices.TheVariants as indices
use Rattle.grb_words.specs.declared.options.Turns.TheVariants as turn
use Rattle.grb_words.specs.declared.version.Version.{Version}
use Rattle.grb_words.specs.Diagonal.{diagonal_of}
use Rattle.grb_words.specs.Function.{function_first}
use Rattle.grb_words.specs.Line.{Word}
use Rattle.grb_words.specs.Options.{OptionWords, function_turns, options_in, product_turns}
use Rattle.grb_words.specs.Test.{test_first}
use Rattle.grb_words.specs.Word.{is_name, numeral_value, domain_of, value_of, monoid_of, operator_of, semiring_of, wait_mode_of, keyword_in}

-- 'matrix NAME DOMAIN R C', 'vector NAME DOMAIN N', 'dup NAME NAME', 'free NAME', 'nvals NAME', 'size NAME', 'clear NAME',
-- 'remove NAME INDICES', 'get NAME INDICES', 'resize NAME INDICES', 'set NAME INDICES VALUE', 'build NAME MONOID ..',
-- 'ewiseadd NAME NAME NAME OP OPTIONS', 'ewisemult NAME NAME NAME OP OPTIONS', 'mxv NAME NAME NAME SEMIRING OPTIONS',
-- 'vxm NAME NAME NAME SEMIRING OPTIONS' and 'mxm NAME NAME NAME SEMIRING OPTIONS' with output, first input and second input,
-- 'reduce NAME NAME MONOID OPTIONS' with output and input, 'total NAME MONOID' and 'wait NAME MODE'; and those of version 3:
-- 'transpose NAME NAME OPTIONS', 'apply NAME NAME FUNCTION OPTIONS' and 'select NAME NAME TEST OPTIONS' with output and input,
-- 'kronecker NAME NAME NAME OP OPTIONS' with output, first input and second input, 'diag NAME NAME D' and 'tuples NAME'
pub data Form : Type 0 where
  MatrixForm : Word → Domain → ℕ → ℕ → Form
  VectorForm : Word → Domain → ℕ → Form
  DupForm : Word → Word → Form
  FreeForm : Word → Form
  NvalsForm : Word → Form
  SizeForm : Word → Form
  ClearForm : Word → Form
  RemoveForm : Word → Indices → Form
  GetForm : Word → Indices → Form
  ResizeForm : Word → Indices → Form
  SetForm : Word → Indices → Value → Form
  BuildForm : Word → Monoid → List Value → Form
  EwiseForm : Ewise → Word → Word → Word → BinaryOp → OptionWords → Form
  ProductForm : Multiply → Word → Word → Word → Monoid × BinaryOp → OptionWords → Form
  ReduceForm : Word → Word → Monoid → OptionWords → Form
  TotalForm : Word → Monoid → Form
  WaitForm : Word → WaitMode → Form
  TransposeForm : Word → Word → OptionWords → Form
  ApplyForm : Word → Word → Function → OptionWords → Form
  SelectForm : Word → Word → Test → OptionWords → Form
  KroneckerForm : Word → Word → Word → BinaryOp → OptionWords → Form
  DiagForm : Word → Word → Diagonal → Form
  TuplesForm : Word → Form

-- the form, where the word is a name
abbrev pub where_name : Word → Option Form → Option Form
where_name word form = if is_name word then form else None

-- the indices that these words spell: one number, or two
abbrev pub indices_of : List Word → Option Indices
indices_of (i ∷ []) = option_map indices.One (numeral_value i)
indices_of (i ∷ j ∷ []) = option_and_then (λ n. option_map (indices.Two n) (numeral_value j)) (numeral_value i)
indices_of _ = None

-- the indices and the value that these words spell
abbrev pub indices_and_value_of : List Word → Option (Indices × Value)
indices_and_value_of (i ∷ x ∷ []) = option_and_then (λ n. option_map (λ v. (indices.One n, v)) (value_of x)) (numeral_value i)
indices_and_value_of (i ∷ j ∷ x ∷ []) =
    option_and_then (λ n. option_and_then (λ m. option_map (λ v. (indices.Two n m, v)) (value_of x)) (numeral_value j)) (numeral_value i)
indices_and_value_of _ = None

-- the values that these words are, if each is one
abbrev pub values_in : List Word → Option (List Value)
values_in [] = Some []
values_in (word ∷ words) = option_and_then (λ v. option_map (λ vs. v ∷ vs) (values_in words)) (value_of word)

-- each form by its name and the words behind that
abbrev pub matrix_form : Word → List Word → Option Form
matrix_form name (domain ∷ nrows ∷ ncols ∷ []) =
    option_and_then (λ d. option_and_then (λ r. option_map (λ c. MatrixForm name d r c) (numeral_value ncols)) (numeral_value nrows)) (domain_of domain)
matrix_form name _ = None

abbrev pub vector_form : Word → List Word → Option Form
vector_form name (domain ∷ size ∷ []) = option_and_then (λ d. option_map (λ n. VectorForm name d n) (numeral_value size)) (domain_of domain)
vector_form name _ = None

abbrev pub dup_form : Word → List Word → Option Form
dup_form name (source ∷ []) = where_name source (Some (DupForm name source))
dup_form name _ = None

abbrev pub form_of_whole : Whole → Word → Form
form_of_whole whole.Free name = FreeForm name
form_of_whole whole.Nvals name = NvalsForm name
form_of_whole whole.Size name = SizeForm name
form_of_whole whole.Clear name = ClearForm name
form_of_whole whole.Tuples name = TuplesForm name

abbrev pub whole_form : Whole → Word → List Word → Option Form
whole_form w name [] = Some (form_of_whole w name)
whole_form w name _ = None

abbrev pub form_of_placed : Placed → Word → Indices → Form
form_of_placed placed.Remove name p = RemoveForm name p
form_of_placed placed.Get name p = GetForm name p
form_of_placed placed.Resize name p = ResizeForm name p

abbrev pub placed_form : Placed → Word → List Word → Option Form
placed_form w name others = option_map (form_of_placed w name) (indices_of others)

abbrev pub set_form : Word → List Word → Option Form
set_form name others = option_map (λ p. SetForm name p.0 p.1) (indices_and_value_of others)

abbrev pub build_form : Word → List Word → Option Form
build_form name [] = None
build_form name (monoid ∷ values) = option_and_then (λ dup. option_map (BuildForm name dup) (values_in values)) (monoid_of monoid)

abbrev pub ewise_form : Version → Ewise → Word → List Word → Option Form
ewise_form version w output (left ∷ right ∷ op ∷ options) =
    where_name left (where_name right (option_and_then (λ f. option_map (EwiseForm w output left right f) (options_in version turn.Both options)) (operator_of op)))
ewise_form version w output _ = None

abbrev pub product_form : Version → Multiply → Word → List Word → Option Form
product_form version w output (left ∷ right ∷ semiring ∷ options) =
    where_name left (where_name right (option_and_then (λ s. option_map (ProductForm w output left right s) (options_in version (product_turns w) options)) (semiring_of semiring)))
product_form version w output _ = None

abbrev pub reduce_form : Version → Word → List Word → Option Form
reduce_form version output (input ∷ monoid ∷ options) =
    where_name input (option_and_then (λ m. option_map (ReduceForm output input m) (options_in version turn.First options)) (monoid_of monoid))
reduce_form version output _ = None

abbrev pub total_form : Word → List Word → Option Form
total_form name (monoid ∷ []) = option_map (TotalForm name) (monoid_of monoid)
total_form name _ = None

abbrev pub wait_form : Word → List Word → Option Form
wait_form name (mode ∷ []) = option_map (WaitForm name) (wait_mode_of mode)
wait_form name _ = None

abbrev pub transpose_form : Version → Word → List Word → Option Form
transpose_form version output (input ∷ options) = where_name input (option_map (TransposeForm output input) (options_in version turn.First options))
transpose_form version output _ = None

abbrev pub apply_form : Version → Word → List Word → Option Form
apply_form version output (input ∷ others) =
    where_name input (option_and_then (λ f. option_map (ApplyForm output input f.0) (options_in version (function_turns f.0) f.1)) (function_first others))
apply_form version output _ = None

abbrev pub select_form : Version → Word → List Word → Option Form
select_form version output (input ∷ others) =
    where_name input (option_and_then (λ t. option_map (SelectForm output input t.0) (options_in version turn.First t.1)) (test_first others))
select_form version output _ = None

abbrev pub kronecker_form : Version → Word → List Word → Option Form
kronecker_form version output (left ∷ right ∷ op ∷ options) =
    where_name left (where_name right (option_and_then (λ f. option_map (KroneckerForm output left right f) (options_in version turn.Both options)) (operator_of op)))
kronecker_form version output _ = None

abbrev pub diag_form : Word → List Word → Option Form
diag_form name (vector ∷ diagonal ∷ []) = where_name vector (option_map (DiagForm name vector) (diagonal_of diagonal))
diag_form name _ = None

-- the form that a keyword, a name and the words behind them have in a script of this version, if they have one
abbrev pub form_with : Version → Keyword → Word → List Word → Option Form
form_with version keyword.Matrix name others = matrix_form name others
form_with version keyword.Vector name others = vector_form name others
form_with version keyword.Dup name others = dup_form name others
form_with version (keyword.Whole w) name others = whole_form w name others
form_with version (keyword.Placed w) name others = placed_form w name others
form_with version keyword.Set name others = set_form name others
form_with version keyword.Build name others = build_form name others
form_with version (keyword.Ewise w) name others = ewise_form version w name others
form_with version (keyword.Multiply w) name others = product_form version w name others
form_with version keyword.Reduce name others = reduce_form version name others
form_with version keyword.Total name others = total_form name others
form_with version keyword.Wait name others = wait_form name others
form_with version keyword.Transpose name others = transpose_form version name others
form_with version keyword.Apply name others = apply_form version name others
form_with version keyword.Select name others = select_form version name others
form_with version keyword.Kronecker name others = kronecker_form version name others
form_with version keyword.Diag name others = diag_form name others

-- the form that these words have in a script of this version, if they have one
abbrev pub form_of : Version → List Word → Option Form
form_of version (word ∷ name ∷ others) = where_name name (option_and_then (λ k. form_with version k name others) (keyword_in version word))
form_of version _ = None

-- the name and the path of 'load NAME PATH', where PATH is any word that is UTF-8: on a line of allowed bytes each word is
abbrev pub load_of : List Word → Option (Word × Word)
load_of (word ∷ name ∷ path ∷ []) = if is_name name && is_utf8 path then Some (name, path) else None
load_of _ = None
