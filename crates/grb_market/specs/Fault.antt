-- believed: The first fault of a Matrix Market text (own): of the lines in order the first that is faulty, and of its faults the
-- first of this order: an unended line; the header; the size line; a dimension; not square; an entry line that is missing; an entry
-- line; an index; a value; the upper triangle; a repeated pair; a line after the last entry line. A missing line has the number of
-- the last line plus 1.
use Rattle.std.specs.Prelude.{◌≡◌, ℕ, ◌+◌, Bool, nat_lt, if◌then◌else◌, List, [], ◌∷◌, ◌++◌, length, Option, Some, None}
use Rattle.std.specs.declared.result.Result.{Result}
use Rattle.std.specs.declared.result.Result.TheVariants.{Ok, Err}
use Rattle.std.specs.List.{flat_map, list_any}
use Rattle.std.specs.Option.{option_map, option_map_or, option_to_list}
use Rattle.std.specs.Ordering.{eq_by_cmp}
use Rattle.std.specs.Result.{result_ok, result_err}
use Rattle.grb_core.specs.declared.value.Value.{Value}
use Rattle.grb_core.specs.Entries.{Cell, cell_cmp}
use Rattle.grb_market.specs.declared.fault.FaultKind.{FaultKind}
use Rattle.grb_market.specs.declared.fault.FaultKind.TheVariants.{UnendedLine, Header, SizeLine, TooFew, Repeated, TooMany}
use Rattle.grb_market.specs.declared.fault.MarketFault.{MarketFault}
use Rattle.grb_market.specs.declared.fault.ReadError.{ReadError}
use Rattle.grb_market.specs.declared.fault.ReadError.TheVariants as read
use Rattle.grb_market.specs.declared.head.Head.{Head}
use Rattle.grb_market.specs.declared.head.Size.{Size}
use Rattle.grb_market.specs.Line.{Line, lines_of, is_comment}
use Rattle.grb_market.specs.Reading.{head_of, size_of, entry_of}

-- lines without the comments at their front
abbrev pub behind_comments : List Line → List Line
behind_comments [] = []
behind_comments (line ∷ more) = if is_comment line.bytes then behind_comments more else line ∷ more

-- what some first lines of a file leave to be read: the header; comments and the size line; entry lines, of which these stand already;
-- or nothing, where the header or the size line among them is faulty
pub data Stage : Type 0 where
  AtHeader : Stage
  AtSize : Head → Stage
  AtEntry : Head → Size → List Line → Stage
  Lost : Stage

abbrev pub stage_behind_size : Head → List Line → Result Size FaultKind → Stage
stage_behind_size h entries (Ok size) = AtEntry h size entries
stage_behind_size h entries (Err kind) = Lost

abbrev pub stage_behind_header : Head → List Line → Stage
stage_behind_header h [] = AtSize h
stage_behind_header h (size ∷ entries) = stage_behind_size h entries (size_of h size.bytes)

abbrev pub stage_with : List Line → Option Head → Stage
stage_with more (Some h) = stage_behind_header h (behind_comments more)
stage_with more None = Lost

abbrev pub stage_of : List Line → Stage
stage_of [] = AtHeader
stage_of (first ∷ more) = stage_with more (head_of first.bytes)

-- the entries that these entry lines spell
abbrev pub entries_on : Head → Size → List Line → List (Cell × Value)
entries_on h s lines = flat_map (λ line. option_to_list (result_ok (entry_of h s line.bytes))) lines

-- the pair stands in one of these entry lines
abbrev pub stands_in : Head → Size → List Line → Cell → Bool
stands_in h s lines cell = list_any (λ e. eq_by_cmp cell_cmp cell e.0) (entries_on h s lines)

-- an entry, behind these entry lines
abbrev pub repeated : Head → Size → List Line → Result (Cell × Value) FaultKind → Option FaultKind
repeated h s earlier (Ok e) = if stands_in h s earlier e.0 then Some Repeated else None
repeated h s earlier (Err kind) = Some kind

-- what is wrong with the bytes of an ended line
abbrev pub bytes_fault : Stage → List ℕ → Option FaultKind
bytes_fault AtHeader bytes = option_map_or (λ _. None) (head_of bytes) (Some Header)
bytes_fault (AtSize h) bytes = if is_comment bytes then None else result_err (size_of h bytes)
bytes_fault (AtEntry h s earlier) bytes = if nat_lt (length earlier) s.count then repeated h s earlier (entry_of h s bytes) else Some TooMany
bytes_fault Lost bytes = None

-- what is wrong with a line, behind these lines
abbrev pub line_fault : List Line → Line → Option FaultKind
line_fault before line = if line.is_ended then bytes_fault (stage_of before) line.bytes else Some UnendedLine

-- what is wrong where no line stands, behind these lines
abbrev pub missing_at : Stage → Option FaultKind
missing_at AtHeader = Some Header
missing_at (AtSize h) = Some SizeLine
missing_at (AtEntry h s earlier) = if nat_lt (length earlier) s.count then Some TooFew else None
missing_at Lost = None

abbrev pub fault_at : ℕ → FaultKind → MarketFault
fault_at number kind = record { line = number; kind = kind }

-- the first fault of these lines, the first of which has this number, behind those before them
abbrev pub first_fault : ℕ → List Line → List Line → Option MarketFault
first_fault number before [] = option_map (fault_at number) (missing_at (stage_of before))
first_fault number before (line ∷ more) =
    option_map_or (λ kind. Some (fault_at number kind)) (line_fault before line) (first_fault (number + 1) (before ++ line ∷ []) more)

-- the first fault of a text, whose lines count from 1
abbrev pub market_fault : List ℕ → Option MarketFault
market_fault text = first_fault 1 [] (lines_of text)

-- why a line of this number is not read: this is found to be wrong with it, or memory was refused
abbrev pub IsWhyLineUnread : ℕ → Option FaultKind → ReadError → Type 0
IsWhyLineUnread number found (read.Fault f) = (f.line ≡ number) × (found ≡ Some f.kind)
IsWhyLineUnread number found read.OutOfMemory = Unit {0}

-- why a text is not read: it has this first fault, or memory was refused
abbrev pub IsWhyUnread : List ℕ → ReadError → Type 0
IsWhyUnread text (read.Fault f) = market_fault text ≡ Some f
IsWhyUnread text read.OutOfMemory = Unit {0}
