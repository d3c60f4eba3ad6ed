-- believed: Which matrix a Matrix Market text spells: the coordinate format of "The Matrix Market Exchange Formats: Initial Design"
-- (Boisvert, Pozo and Remington), with whole numbers below 2^64 or a pattern for its values, general or symmetric. That each line
-- is ended, and that nothing else may stand anywhere, are rules of our own.
use Rattle.std.specs.Prelude.{◌≡◌, ℕ, ◌+◌, ◌<◌, ◌≤◌, true, false, if◌then◌else◌, List, [], ◌∷◌, ◌++◌, length, map, All, Some, ⊤}
use Rattle.std.specs.List.{AllZip}
use Rattle.grb_core.specs.declared.domain.Domain.{Domain}
use Rattle.grb_core.specs.declared.domain.Domain.TheVariants as domain
use Rattle.grb_core.specs.declared.value.Value.{Value}
use Rattle.grb_core.specs.declared.value.Value.TheVariants as value
use Rattle.grb_core.specs.Entries.{Cell, cell_cmp, MatrixEntries, map_from}
use Rattle.grb_core.specs.Contents.{Matrix, IsDimension}
use Rattle.grb_core.specs.Laws.{HavePlacesApart}
use Rattle.grb_market.specs.declared.head.Head.{Head}
use Rattle.grb_market.specs.declared.head.Size.{Size}
use Rattle.grb_market.specs.Line.{lines_of, ended, is_comment}
use Rattle.grb_market.specs.Numbers.{numbers_of}
use Rattle.grb_market.specs.Reading.{head_of}

-- a line that has these numbers, each below 2^64, and nothing else
abbrev pub HasNumbers : List ℕ → List ℕ → Type 0
HasNumbers bytes numbers = numbers_of bytes ≡ Some (map (λ n. Some n) numbers)

-- a size line: rows, columns and the number of entry lines. The rows and columns of a symmetric file are equal
pub record SpellsSize (h : Head) (bytes : List ℕ) (s : Size) : Type 0 where
  pub numbers : HasNumbers bytes (s.nrows ∷ s.ncols ∷ s.count ∷ [])
  pub rows : IsDimension s.nrows
  pub columns : IsDimension s.ncols
  pub square : h.is_symmetric ≡ true → s.nrows ≡ s.ncols

-- what an entry line says of the value: the number, and in a pattern file nothing
abbrev pub value_stated : Value → List ℕ
value_stated (value.Uint64 n) = n ∷ []
value_stated (value.Bool b) = []

-- the numbers that state an entry: row and column are counted from 1
abbrev pub numbers_stated : Cell × Value → List ℕ
numbers_stated e = (e.0.0 + 1) ∷ (e.0.1 + 1) ∷ value_stated e.1

-- the values that a file can state: each number, and in a pattern file true alone
abbrev pub IsStated : Domain → Value → Type 0
IsStated domain.Uint64 (value.Uint64 n) = ⊤
IsStated domain.Bool (value.Bool b) = b ≡ true
IsStated _ _ = ⊥

-- an entry line: the entry lies within the dimensions, and in a symmetric file on or below the diagonal
pub record SpellsEntry (h : Head) (s : Size) (bytes : List ℕ) (e : Cell × Value) : Type 0 where
  pub numbers : HasNumbers bytes (numbers_stated e)
  pub value : IsStated h.domain e.1
  pub row : e.0.0 < s.nrows
  pub column : e.0.1 < s.ncols
  pub lower : h.is_symmetric ≡ true → e.0.1 ≤ e.0.0

-- the entry on the other side of the diagonal
abbrev pub mirrored : Cell × Value → Cell × Value
mirrored e = ((e.0.1, e.0.0), e.1)

-- the entries that these entry lines stand for: in a symmetric file each with the one on the other side of the diagonal
abbrev pub written_out : Head → MatrixEntries → MatrixEntries
written_out h es = if h.is_symmetric then es ++ map mirrored es else es

-- the lines of the text, each ended: one of the four first lines, comments, the size line, and one line for each entry. No two state
-- one place, and the matrix has just the entries that they stand for
pub record Spells (text : List ℕ) (m : Matrix) : Type 0 where
  pub first : List ℕ
  pub comments : List (List ℕ)
  pub size_line : List ℕ
  pub entry_lines : List (List ℕ)
  pub head : Head
  pub size : Size
  pub entries : List (Cell × Value)
  pub lines : lines_of text ≡ map ended (first ∷ comments ++ size_line ∷ entry_lines)
  pub first_is : head_of first ≡ Some head
  pub comments_are : All (λ line. is_comment line ≡ true) comments
  pub no_comment : is_comment size_line ≡ false
  pub size_is : SpellsSize head size_line size
  pub count : length entry_lines ≡ size.count
  pub entries_are : AllZip (SpellsEntry head size) entry_lines entries
  pub apart : HavePlacesApart entries
  pub matrix : m ≡ record { domain = head.domain; nrows = size.nrows; ncols = size.ncols; entries = map_from cell_cmp (written_out head entries) }
