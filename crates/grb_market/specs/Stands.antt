-- inside: no public contract names it. How far a text is read.
use Rattle.std.specs.Prelude.{◌≡◌, ℕ, ◌+◌, List, ◌++◌, length, None}
use Rattle.grb_core.specs.Entries.{MatrixEntries, cell_cmp, map_from}
use Rattle.grb_market.specs.declared.head.Head.{Head}
use Rattle.grb_market.specs.declared.head.Size.{Size}
use Rattle.grb_market.specs.Line.{Line, lines_of}
use Rattle.grb_market.specs.Fault.{Stage, AtEntry, stage_of, first_fault, market_fault, entries_on}

-- the lines before `rest`, whose first line has this number, have no fault, and leave this to be read
pub record Stands (text : List ℕ) (stage : Stage) (number : ℕ) (rest : List ℕ) : Type 0 where
  pub before : List Line
  pub whole : lines_of text ≡ before ++ lines_of rest
  pub fault : first_fault number before (lines_of rest) ≡ market_fault text
  pub behind : stage_of before ≡ stage

-- the same behind some entry lines, which store these entries, with `left` of the stated ones to come
pub record StandsBehind (text : List ℕ) (h : Head) (s : Size) (number left : ℕ) (rest : List ℕ) (m : MatrixEntries) : Type 0 where
  pub lines : List Line
  pub stands : Stands text (AtEntry h s lines) number rest
  pub count : length lines + left ≡ s.count
  pub entries : m ≡ map_from cell_cmp (entries_on h s lines)

-- the text has no fault, and its entry lines store these entries
pub record IsRead (text : List ℕ) (h : Head) (s : Size) (m : MatrixEntries) : Type 0 where
  pub lines : List Line
  pub faultless : market_fault text ≡ None
  pub behind : stage_of (lines_of text) ≡ AtEntry h s lines
  pub entries : m ≡ map_from cell_cmp (entries_on h s lines)
