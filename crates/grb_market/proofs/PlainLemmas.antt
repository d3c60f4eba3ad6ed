-- A line of numbers with one space between them.
use Rattle.std.proofs.Common.{◌≡◌, ℕ, ◌<◌, eqb, true, false, List, [], ◌∷◌, ◌++◌, length, Some, refl, sym, ap, ◌∙◌, append_assoc, append-nil, length-append, arith}
use Rattle.grb_market.proofs.Prelude.{list_all, nat_tests, All-nil, All-cons, All-append, slice_split_at, length-slice_split, Result, and_parts, Value, Cell, FaultKind, Head, Size, entry_from, entry_with, IsEntryLine, lines_from, lines_of, is_digit, begins_blank, Number, numbers_of, before, IsNumberFront, IsBlankFront, IsNumberBefore, IsNumberLine}
use Rattle.std.specs.Prelude.{All}
use Rattle.grb_core.specs.declared.domain.Domain.TheVariants as domain
use Rattle.grb_core.specs.declared.value.Value.TheVariants as value
use Rattle.grb_market.proofs.NextLineLemmas.{lines_from-more}
use Rattle.grb_market.proofs.FrontLemmas.{digit_no_blank, first_front, next_front}

no_end : (b : ℕ) → is_digit b ≡ true → eqb b 10 ≡ false
no_end b h = grind (arith, nat_tests)

abbrev InLine : List ℕ → Type 0
InLine line = All (λ b. eqb b 10 ≡ false) line

digits_in_line : (ds : List ℕ) → list_all is_digit ds ≡ true → InLine ds
digits_in_line [] a = All-nil (λ b. eqb b 10 ≡ false)
digits_in_line (d ∷ ds) a =
    let p = and_parts (is_digit d) (list_all is_digit ds) a in All-cons (λ b. eqb b 10 ≡ false) d ds (no_end d p.0) (digits_in_line ds p.1)

before_blank : (ds rest : List ℕ) → InLine ds → InLine rest → InLine (ds ++ 32 ∷ rest)
before_blank ds rest a b = All-append (λ b. eqb b 10 ≡ false) ds (32 ∷ rest) a (All-cons (λ b. eqb b 10 ≡ false) 32 rest refl b)

digits_front : (ds rest : List ℕ) → 0 < length ds → list_all is_digit ds ≡ true → begins_blank (ds ++ rest) ≡ false
digits_front [] rest l a = absurd (omega arith)
digits_front (d ∷ ds) rest l a = digit_no_blank d (and_parts (is_digit d) (list_all is_digit ds) a).0

-- the first line of a text
line_is : (text line rest : List ℕ) (numbers : List Number) → text ≡ line ++ 10 ∷ rest → InLine line → numbers_of line ≡ Some numbers → IsNumberLine text numbers rest
line_is text line rest numbers are a n =
    record {
      line = line;
      first = ap lines_of are ∙ ap lines_from (slice_split_at (λ b. eqb b 10) line 10 rest a refl) ∙ lines_from-more line _ (omega (arith, length-slice_split (λ b. eqb b 10) rest));
      numbers_are = n;
      shorter = let long = ap length are ∙ length-append line (10 ∷ rest) in omega (arith, long);
    }

-- the last number of a line
last_number : (text rest : List ℕ) (n : ℕ) (p : IsNumberBefore text 10 n rest) → IsNumberFront p.digits (Some n) []
last_number text rest n p = record { digits = p.digits; are = sym (append-nil p.digits); long = p.long; all = p.all; number = p.number; ends = refl }

-- a number before a blank
blank_number : (text rest : List ℕ) (n : ℕ) (p : IsNumberBefore text 32 n rest) (more : List ℕ) → IsNumberFront (p.digits ++ 32 ∷ more) (Some n) (32 ∷ more)
blank_number text rest n p more = record { digits = p.digits; are = refl; long = p.long; all = p.all; number = p.number; ends = refl }

one_blank : (ds rest : List ℕ) → 0 < length ds → list_all is_digit ds ≡ true → IsBlankFront (32 ∷ ds ++ rest) (ds ++ rest)
one_blank ds rest l a = record { blanks = 32 ∷ []; are = refl; all = refl; ends = digits_front ds rest l a }

last_blank : (ds : List ℕ) → 0 < length ds → list_all is_digit ds ≡ true → IsBlankFront (32 ∷ ds) ds
last_blank ds l a = record { blanks = 32 ∷ []; are = refl; all = refl; ends = ap begins_blank (sym (append-nil ds)) ∙ digits_front ds [] l a }

pub two_line : (text mid rest : List ℕ) (i j : ℕ) → IsNumberBefore text 32 i mid → IsNumberBefore mid 10 j rest → IsNumberLine text (Some i ∷ Some j ∷ []) rest
two_line text mid rest i j p q =
    line_is text (p.digits ++ 32 ∷ q.digits) rest (Some i ∷ Some j ∷ [])
    (p.are ∙ ap (λ t. p.digits ++ 32 ∷ t) q.are ∙ sym (append_assoc p.digits (32 ∷ q.digits) (10 ∷ rest)))
    (before_blank p.digits q.digits (digits_in_line p.digits p.all) (digits_in_line q.digits q.all))
    (first_front (p.digits ++ 32 ∷ q.digits) (32 ∷ q.digits) (Some i) (blank_number text mid i p q.digits)
    ∙ ap (before (Some i)) (next_front (32 ∷ q.digits) q.digits [] (Some j) (last_blank q.digits q.long q.all) (last_number mid rest j q)))

pub three_line : (text mid late rest : List ℕ) (i j k : ℕ) → IsNumberBefore text 32 i mid → IsNumberBefore mid 32 j late → IsNumberBefore late 10 k rest → IsNumberLine text (Some i ∷ Some j ∷ Some k ∷ []) rest
three_line text mid late rest i j k p q r =
    let tail : List ℕ = q.digits ++ (32 ∷ r.digits) in
    let inner : mid ≡ tail ++ (10 ∷ rest) = q.are ∙ ap (λ t. q.digits ++ (32 ∷ t)) r.are ∙ sym (append_assoc q.digits (32 ∷ r.digits) (10 ∷ rest)) in
    line_is text (p.digits ++ (32 ∷ tail)) rest (Some i ∷ Some j ∷ Some k ∷ [])
    (p.are ∙ ap (λ t. p.digits ++ (32 ∷ t)) inner ∙ sym (append_assoc p.digits (32 ∷ tail) (10 ∷ rest)))
    (before_blank p.digits tail (digits_in_line p.digits p.all) (before_blank q.digits r.digits (digits_in_line q.digits q.all) (digits_in_line r.digits r.all)))
    (first_front (p.digits ++ (32 ∷ tail)) (32 ∷ tail) (Some i) (blank_number text mid i p tail)
    ∙ ap (before (Some i)) (next_front (32 ∷ tail) tail (32 ∷ r.digits) (Some j) (one_blank q.digits (32 ∷ r.digits) q.long q.all) (blank_number mid late j q r.digits)
    ∙ ap (before (Some j)) (next_front (32 ∷ r.digits) r.digits [] (Some k) (last_blank r.digits r.long r.all) (last_number late rest k r))))

-- what such a line states
module _ (h : Head) (s : Size) (text rest : List ℕ) (i j : ℕ) (stated : Result (Cell × Value) FaultKind) where
  pub integer_line : (v : ℕ) → h.domain ≡ domain.Uint64 → IsNumberLine text (Some i ∷ Some j ∷ Some v ∷ []) rest → stated ≡ entry_from h s (Some i) (Some j) (Some (value.Uint64 v)) → IsEntryLine h s text stated rest
  integer_line v d p is = record { line = p.line; first = p.first; is = is ∙ sym (λ k. entry_with h (d k) s (p.numbers_are k)); shorter = p.shorter }

  pub pattern_line : h.domain ≡ domain.Bool → IsNumberLine text (Some i ∷ Some j ∷ []) rest → stated ≡ entry_from h s (Some i) (Some j) (Some (value.Bool true)) → IsEntryLine h s text stated rest
  pattern_line d p is = record { line = p.line; first = p.first; is = is ∙ sym (λ k. entry_with h (d k) s (p.numbers_are k)); shorter = p.shorter }
