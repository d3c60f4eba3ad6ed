-- inside: no public contract names it. Entries as their lines come: each line by itself, and then their places together.
use Rattle.std.specs.Prelude.{◌≡◌, ℕ, ◌+◌, ◌<◌, ◌≤◌, Bool, false, nat_lt, ◌==◌, ◌&&◌, ◌||◌, if◌then◌else◌, List, [], ◌∷◌, ◌++◌, length, map, Option, Some, None, ⊤}
use Rattle.std.specs.declared.result.Result.{Result}
use Rattle.std.specs.declared.result.Result.TheVariants.{Ok}
use Rattle.grb_core.specs.declared.value.Value.{Value}
use Rattle.std.specs.List.{list_any}
use Rattle.std.specs.Ordering.{eq_by_cmp}
use Rattle.std.specs.Result.{result_err}
use Rattle.grb_core.specs.Entries.{Cell, MatrixEntries, cell_cmp}
use Rattle.grb_market.specs.declared.fault.FaultKind.{FaultKind}
use Rattle.grb_market.specs.declared.fault.FaultKind.TheVariants.{UnendedLine, TooFew, TooMany}
use Rattle.grb_market.specs.declared.head.Head.{Head}
use Rattle.grb_market.specs.declared.head.Size.{Size}
use Rattle.grb_market.specs.Line.{Line, lines_of, ended}
use Rattle.grb_market.specs.Reading.{entry_of}

-- by row, and in a row by column
abbrev pub comes_before : Cell → Cell → Bool
comes_before p q = nat_lt p.0 q.0 || ((p.0 == q.0) && nat_lt p.1 q.1)

-- one of these entries stands at the place
abbrev pub has_place : MatrixEntries → Cell → Bool
has_place es q = list_any (λ e. eq_by_cmp cell_cmp q e.0) es

-- how many of these entries come before the first whose place an earlier one has, where those before them count as earlier
abbrev pub count_apart : MatrixEntries → MatrixEntries → ℕ
count_apart earlier [] = 0
count_apart earlier (e ∷ es) = if has_place earlier e.0 then 0 else count_apart (earlier ++ e ∷ []) es + 1

-- no two of these entries stand at one place
abbrev pub are_apart : MatrixEntries → Bool
are_apart es = count_apart [] es == length es

-- the first line of a text states this, or has this wrong with it by itself, and `rest` is behind its end
pub record IsEntryLine (h : Head) (s : Size) (text : List ℕ) (stated : Result (Cell × Value) FaultKind) (rest : List ℕ) : Type 0 where
  pub line : List ℕ
  pub first : lines_of text ≡ ended line ∷ lines_of rest
  pub is : stated ≡ entry_of h s line
  pub shorter : length rest < length text

-- each of these lines spells its entry
abbrev pub AreSpelled : Head → Size → List (List ℕ) → MatrixEntries → Type 0
AreSpelled h s [] [] = ⊤
AreSpelled h s (line ∷ lines) (e ∷ es) = (entry_of h s line ≡ Ok e) × AreSpelled h s lines es
AreSpelled h s _ _ = ⊥

-- what is wrong with the first of these lines, or with their end, where so many entries are to come: of the line by itself
abbrev pub wrong_at : Head → Size → ℕ → List Line → Option FaultKind
wrong_at h s left [] = if left == 0 then None else Some TooFew
wrong_at h s left (line ∷ more) = if line.is_ended then (if left == 0 then Some TooMany else result_err (entry_of h s line.bytes)) else Some UnendedLine

-- where nothing is wrong no line is left
abbrev pub IsAtEnd : List Line → Option FaultKind → Type 0
IsAtEnd lines None = lines ≡ []
IsAtEnd lines (Some kind) = ⊤

-- the lines of `behind` begin with lines that spell these entries, and `rest` is behind them, with `left` of the stated ones to come
pub record AreGathered (h : Head) (s : Size) (behind : List ℕ) (es : MatrixEntries) (left : ℕ) (rest : List ℕ) : Type 0 where
  pub lines : List (List ℕ)
  pub whole : lines_of behind ≡ map ended lines ++ lines_of rest
  pub spelled : AreSpelled h s lines es
  pub count : length lines + left ≡ s.count
  pub short : length es + length rest ≤ length behind

-- the same up to the first line that is wrong by itself, or to the end of the text
pub record AreAllGathered (h : Head) (s : Size) (behind : List ℕ) (es : MatrixEntries) (wrong : Option FaultKind) : Type 0 where
  pub left : ℕ
  pub rest : List ℕ
  pub front : AreGathered h s behind es left rest
  pub is_wrong : wrong_at h s left (lines_of rest) ≡ wrong
  pub ends : IsAtEnd (lines_of rest) wrong

-- some of the entries that are gathered stand at one place
abbrev pub IsTwice : Head → Size → List ℕ → Type 0
IsTwice h s behind = (es : MatrixEntries) × (wrong : Option FaultKind) × AreAllGathered h s behind es wrong × (are_apart es ≡ false)
