-- What a text spells is a whole matrix.
use Rattle.std.proofs.Common.{◌≡◌, ℕ, ◌+◌, ◌^◌, ◌<◌, ltb, map, IsTrue, rules, Bool, true, false, if◌then◌else◌, List, [], ◌∷◌, ◌++◌, Option, Some, None, refl, sym, subst, arith}
use Rattle.std.specs.Prelude.{All, ◌||◌}
use Rattle.grb_market.proofs.Prelude.{AllZip, list_all, option_map, option_and_then, digits_value, T, nat_tests, All-nil, All-cons, All-head, All-tail, All-append, Domain, Value, Cell, cell_cmp, MatrixEntries, map_from, Matrix, IsMatrix, cell_cmp_total, is_sorted-map_from, Head, Size, Number, number_of, numbers_from, numbers_of, is_digit, words_of, begins_blank, ends_blank, Spells, SpellsEntry, IsStated, value_stated, mirrored, written_out, SpellMatrices}
use Rattle.grb_core.specs.declared.domain.Domain.TheVariants as domain
use Rattle.grb_core.specs.declared.value.Value.TheVariants as value
use Rattle.grb_core.specs.Value.{IsValueOf}
use Rattle.grb_sparse.proofs.Inside.{All-put_keys, All-put_values}

-- a number that is read is below 2^64
abbrev Small : Number → Type 0
Small None = Unit {0}
Small (Some n) = n < 2 ^ 64

abbrev AllSmall : Option (List Number) → Type 0
AllSmall None = Unit {0}
AllSmall (Some ns) = All Small ns

small_number : (w : List ℕ) → Small (number_of w)
small_number w = by (ltb (digits_value 10 w) (2 ^ 64)) refl
  where
    by : (b : Bool) → ltb (digits_value 10 w) (2 ^ 64) ≡ b → Small (if b then Some (digits_value 10 w) else None)
    by true t = grind (arith, nat_tests)
    by false t = tt

small_behind : (n : Number) (ns : Option (List Number)) → Small n → AllSmall ns → AllSmall (option_map (λ ns. n ∷ ns) ns)
small_behind n None h r = tt
small_behind n (Some ns) h r = All-cons Small n ns h r

small_words : (words : List (List ℕ)) → AllSmall (numbers_from words)
small_words [] = All-nil Small
small_words (w ∷ words) = by (list_all is_digit w) (small_words words)
  where
    by : (b : Bool) → AllSmall (numbers_from words) → AllSmall (option_and_then (λ n. option_map (λ ns. n ∷ ns) (numbers_from words)) (if b then Some (number_of w) else None))
    by true r = small_behind (number_of w) (numbers_from words) (small_number w) r
    by false r = tt

small_line : (bytes : List ℕ) → AllSmall (numbers_of bytes)
small_line bytes = by (begins_blank bytes || ends_blank bytes)
  where
    by : (b : Bool) → AllSmall (if b then None else numbers_from (words_of bytes))
    by true = tt
    by false = small_words (words_of bytes)

value_small : (i j : ℕ) (d : Domain) (v : Value) → IsStated d v → AllSmall (Some (Some i ∷ Some j ∷ map (λ n. Some n) (value_stated v))) → IsValueOf d v
value_small i j domain.Uint64 (value.Uint64 n) q h = All-head Small (Some n) [] (All-tail Small (Some j) (Some n ∷ []) (All-tail Small (Some i) (Some j ∷ Some n ∷ []) h))
value_small i j domain.Bool (value.Bool b) q h = tt
value_small i j domain.Uint64 (value.Bool b) q h = absurd q
value_small i j domain.Bool (value.Uint64 n) q h = absurd q

-- an entry of the list is inside
record Inside (d : Domain) (nrows ncols : ℕ) (e : Cell × Value) : Type 0 where
  pub row : e.0.0 < nrows
  pub column : e.0.1 < ncols
  pub value : IsValueOf d e.1

entry_inside : (h : Head) (s : Size) (bytes : List ℕ) (e : Cell × Value) → SpellsEntry h s bytes e → Inside h.domain s.nrows s.ncols e
entry_inside h s bytes e p = record { row = p.row; column = p.column; value = value_small (e.0.0 + 1) (e.0.1 + 1) h.domain e.1 p.value (subst AllSmall p.numbers (small_line bytes)) }

entries_inside : (h : Head) (s : Size) (lines : List (List ℕ)) (es : List (Cell × Value)) → AllZip (SpellsEntry h s) lines es → All (Inside h.domain s.nrows s.ncols) es
entries_inside h s [] [] a = All-nil (Inside h.domain s.nrows s.ncols)
entries_inside h s [] (e ∷ es) a = absurd a
entries_inside h s (line ∷ lines) [] a = absurd a
entries_inside h s (line ∷ lines) (e ∷ es) a = All-cons (Inside h.domain s.nrows s.ncols) e es (entry_inside h s line e a.0) (entries_inside h s lines es a.1)

mirrored_inside : (d : Domain) (r c : ℕ) (es : List (Cell × Value)) → r ≡ c → All (Inside d r c) es → All (Inside d r c) (map mirrored es)
mirrored_inside d r c [] q a = All-nil (Inside d r c)
mirrored_inside d r c (e ∷ es) q a =
    let p = All-head (Inside d r c) e es a in
    let row = p.row in
    let column = p.column in
    All-cons (Inside d r c) (mirrored e) (map mirrored es) (record { row = omega arith; column = omega arith; value = p.value }) (mirrored_inside d r c es q (All-tail (Inside d r c) e es a))

written_inside : (h : Head) (s : Size) (es : List (Cell × Value)) → (h.is_symmetric ≡ true → s.nrows ≡ s.ncols) → All (Inside h.domain s.nrows s.ncols) es → All (Inside h.domain s.nrows s.ncols) (written_out h es)
written_inside h s es q a = by h.is_symmetric q
  where
    by : (b : Bool) → (b ≡ true → s.nrows ≡ s.ncols) → All (Inside h.domain s.nrows s.ncols) (if b then es ++ map mirrored es else es)
    by true q = All-append (Inside h.domain s.nrows s.ncols) es (map mirrored es) a (mirrored_inside h.domain s.nrows s.ncols es (q refl) a)
    by false q = a

map_places : (r c : ℕ) (d : Domain) (es : MatrixEntries) → All (Inside d r c) es → All (λ e. (e.0.0 < r) × (e.0.1 < c)) (map_from cell_cmp es)
map_places r c d [] a = All-nil (λ e. (e.0.0 < r) × (e.0.1 < c))
map_places r c d (e ∷ es) a =
    let p = All-head (Inside d r c) e es a in
    All-put_keys cell_cmp (λ q. (q.0 < r) × (q.1 < c)) e.0 e.1 (map_from cell_cmp es) (p.row, p.column) (map_places r c d es (All-tail (Inside d r c) e es a))

map_values : (r c : ℕ) (d : Domain) (es : MatrixEntries) → All (Inside d r c) es → All (λ e. IsValueOf d e.1) (map_from cell_cmp es)
map_values r c d [] a = All-nil (λ e. IsValueOf d e.1)
map_values r c d (e ∷ es) a =
    All-put_values cell_cmp (IsValueOf d) e.0 e.1 (map_from cell_cmp es) (All-head (Inside d r c) e es a).value (map_values r c d es (All-tail (Inside d r c) e es a))

is_true : (b : Bool) → T b → IsTrue b
is_true true t = search rules
is_true false t = absurd t

whole : (h : Head) (s : Size) (text : List ℕ) (m : Matrix) (p : Spells text m) → IsMatrix (record { domain = p.head.domain; nrows = p.size.nrows; ncols = p.size.ncols; entries = map_from cell_cmp (written_out p.head p.entries) })
whole h s text m p =
    let inside = written_inside p.head p.size p.entries p.size_is.square (entries_inside p.head p.size p.entry_lines p.entries p.entries_are) in
    record {
      nrows = p.size_is.rows;
      ncols = p.size_is.columns;
      ordered = is_true _ (is_sorted-map_from cell_cmp cell_cmp_total (written_out p.head p.entries));
      within = map_places p.size.nrows p.size.ncols p.head.domain (written_out p.head p.entries) inside;
      of_domain = map_values p.size.nrows p.size.ncols p.head.domain (written_out p.head p.entries) inside;
    }

pub spell_matrices : SpellMatrices
spell_matrices text m p = subst IsMatrix (sym p.matrix) (whole p.head p.size text m p)
