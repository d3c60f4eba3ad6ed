-- A text has no fault exactly where it spells a matrix, and it spells one alone.
use Rattle.std.proofs.Common.{◌≡◌, ◌≢◌, ℕ, zero, suc, ◌+◌, ◌<◌, ◌≤◌, ltb, map, Bool, true, false, ◌||◌, if◌then◌else◌, List, [], ◌∷◌, ◌++◌, length, get_or, Option, Some, None, Ok, Err, refl, sym, ap, subst, ◌∙◌, append_assoc, append-nil, length-append, arith}
use Rattle.std.specs.Prelude.{All, IsTrue}
use Rattle.grb_market.proofs.Prelude.{is_sorted, list_any, AllZip, option_map, option_map_or, option_to_list, eq_by_cmp, result_ok, result_err, Result, nat_tests, get_or-append_seam, map-append, get_or_append_left, All-nil, All-cons, All-head, All-tail, All-map, Value, Cell, cell_cmp, MatrixEntries, map_from, Matrix, FaultKind, Header, TooFew, TooMany, Repeated, Head, Size, Line, ended, lines_of, is_comment, head_of, size_of, entry_of, Stage, AtHeader, AtSize, AtEntry, Lost, behind_comments, stage_behind_size, stage_behind_header, stage_with, stage_of, entries_on, stands_in, repeated, bytes_fault, line_fault, missing_at, fault_at, first_fault, market_fault, Spells, SpellsEntry, written_out, FaultlessTextsSpell, SpellingTextsAreFaultless, SpellAtMostOne, IsRead}
use Rattle.std.proofs.lemmas.List.Quantifiers.{all_pairs_push}
use Rattle.grb_core.specs.Laws.{HavePlacesApart}
use Rattle.grb_market.proofs.EntryMaps.{same_place, apart_cells, written_out-map_from, sorted-map_from}
use Rattle.grb_market.proofs.ReadingLemmas.{size_of-is, spells_size, entry_of-is, spells_entry}
use Rattle.grb_market.proofs.MarketLemmas.{advanced, stage_of-push, entries_on-push, is_at_entries, leads_to_matrix, none_of_map, none_here}

-- what these entry lines make of the head and the size
abbrev pub matrix_from : Head → Size → List Line → Matrix
matrix_from h s lines = record { domain = h.domain; nrows = s.nrows; ncols = s.ncols; entries = map_from cell_cmp (written_out h (entries_on h s lines)) }

abbrev pub bytes_of : List Line → List (List ℕ)
bytes_of lines = map (λ line. line.bytes) lines

-- a text without a fault, in its parts

-- the lines of a text that leads to its entry lines
record Parts (lines : List Line) (h : Head) (s : Size) (entries : List Line) : Type 0 where
  pub first : Line
  pub comments : List Line
  pub size : Line
  pub are : lines ≡ first ∷ comments ++ size ∷ entries
  pub head_is : head_of first.bytes ≡ Some h
  pub comments_are : All (λ line. is_comment line.bytes ≡ true) comments
  pub no_comment : is_comment size.bytes ≡ false
  pub size_is : size_of h size.bytes ≡ Ok s

record Comments (lines : List Line) (size : Line) (entries : List Line) : Type 0 where
  pub comments : List Line
  pub are : lines ≡ comments ++ size ∷ entries
  pub all : All (λ line. is_comment line.bytes ≡ true) comments
  pub none : is_comment size.bytes ≡ false

comments_by : (line : Line) (more : List Line) (size : Line) (entries : List Line) → (behind_comments more ≡ size ∷ entries → Comments more size entries) → (b : Bool) → is_comment line.bytes ≡ b → (if b then behind_comments more else line ∷ more) ≡ size ∷ entries → Comments (line ∷ more) size entries
comments_by line more size entries r true c h =
    let p = r h in
    record { comments = line ∷ p.comments; are = ap (λ l. line ∷ l) p.are; all = All-cons (λ line. is_comment line.bytes ≡ true) line p.comments c p.all; none = p.none }
comments_by line more size entries r false c h =
    let same : line ≡ size = cc in
    let rest : more ≡ entries = cc in
    record { comments = []; are = (λ j. same j ∷ rest j); all = All-nil (λ line. is_comment line.bytes ≡ true); none = subst (λ l. is_comment l.bytes ≡ false) same c }

comments_of : (lines : List Line) (size : Line) (entries : List Line) → behind_comments lines ≡ size ∷ entries → Comments lines size entries
comments_of [] size entries h = cc
comments_of (line ∷ more) size entries h = comments_by line more size entries (comments_of more size entries) (is_comment line.bytes) refl h

parts_of_size : (first : Line) (more : List Line) (g h : Head) (s : Size) (size : Line) (rest entries : List Line) → head_of first.bytes ≡ Some g → behind_comments more ≡ size ∷ rest → (r : Result Size FaultKind) → size_of g size.bytes ≡ r → stage_behind_size g rest r ≡ AtEntry h s entries → Parts (first ∷ more) h s entries
parts_of_size first more g h s size rest entries i b (Err kind) z e = cc
parts_of_size first more g h s size rest entries i b (Ok t) z e =
    let heads : g ≡ h = cc in
    let sizes : t ≡ s = cc in
    let rests : rest ≡ entries = cc in
    let p = comments_of more size rest b in
    record {
      first = first;
      comments = p.comments;
      size = size;
      are = ap (λ l. first ∷ l) p.are ∙ ap (λ l. first ∷ p.comments ++ size ∷ l) rests;
      head_is = i ∙ ap (λ h. Some h) heads;
      comments_are = p.all;
      no_comment = p.none;
      size_is = ap (λ g. size_of g size.bytes) (sym heads) ∙ z ∙ ap (λ s. Ok s) sizes;
    }

parts_of_header : (first : Line) (more : List Line) (g h : Head) (s : Size) (entries : List Line) → head_of first.bytes ≡ Some g → (rest : List Line) → behind_comments more ≡ rest → stage_behind_header g rest ≡ AtEntry h s entries → Parts (first ∷ more) h s entries
parts_of_header first more g h s entries i [] b e = cc
parts_of_header first more g h s entries i (size ∷ rest) b e = parts_of_size first more g h s size rest entries i b (size_of g size.bytes) refl e

parts_of_first : (first : Line) (more : List Line) (h : Head) (s : Size) (entries : List Line) (o : Option Head) → head_of first.bytes ≡ o → stage_with more o ≡ AtEntry h s entries → Parts (first ∷ more) h s entries
parts_of_first first more h s entries None i e = cc
parts_of_first first more h s entries (Some g) i e = parts_of_header first more g h s entries i (behind_comments more) refl e

parts_of : (lines : List Line) (h : Head) (s : Size) (entries : List Line) → stage_of lines ≡ AtEntry h s entries → Parts lines h s entries
parts_of [] h s entries e = cc
parts_of (first ∷ more) h s entries e = parts_of_first first more h s entries (head_of first.bytes) refl e

-- faultless lines are ended
ended_by : (number : ℕ) (before more : List Line) (bytes : List ℕ) (b : Bool) → (None ≡ first_fault (number + 1) (before ++ record { bytes = bytes; is_ended = b } ∷ []) more → more ≡ map ended (bytes_of more))
    → None ≡ first_fault number before (record { bytes = bytes; is_ended = b } ∷ more) → ◌≡◌ {A = List Line} (record { bytes = bytes; is_ended = b } ∷ more) (map ended (bytes ∷ bytes_of more))
ended_by number before more bytes false r e = cc
ended_by number before more bytes true r e =
    let p = none_here number (bytes_fault (stage_of before) bytes) (first_fault (number + 1) (before ++ ended bytes ∷ []) more) e in ap (λ l. ended bytes ∷ l) (r p.1)

ended_lines : (number : ℕ) (before lines : List Line) → None ≡ first_fault number before lines → lines ≡ map ended (bytes_of lines)
ended_lines number before [] e = refl
ended_lines number before (line ∷ more) e = ended_by number before more line.bytes line.is_ended (ended_lines (number + 1) (before ++ line ∷ []) more) e

-- what holds of all lines holds of the last ones
faultless_rest : (number : ℕ) (before xs ys : List Line) → None ≡ first_fault number before (xs ++ ys) → (k : ℕ) × (None ≡ first_fault k (before ++ xs) ys)
faultless_rest number before [] ys e = (number, e ∙ ap (λ b. first_fault number b ys) (sym (append-nil before)))
faultless_rest number before (x ∷ xs) ys e =
    let p = none_here number (line_fault before x) (first_fault (number + 1) (before ++ x ∷ []) (xs ++ ys)) e in
    let q = faultless_rest (number + 1) (before ++ x ∷ []) xs ys p.1 in
    (q.0, q.1 ∙ ap (λ b. first_fault q.0 b ys) (append_assoc before (x ∷ []) xs))

-- no entry of a list stands at a place, by the test and by its places
none_at : (q : Cell) (es : List (Cell × Value)) → list_any (λ e. eq_by_cmp cell_cmp q e.0) es ≡ false → (k : ℕ) (d : Cell × Value) → k < length es → (get_or es k d).0 ≢ q
none_at q [] h k d l = absurd (omega arith)
none_at q (e ∷ es) h k d l = by (none_at q es) (eq_by_cmp cell_cmp q e.0) refl h k l
  where
    by : (list_any (λ e. eq_by_cmp cell_cmp q e.0) es ≡ false → (k : ℕ) (d : Cell × Value) → k < length es → (get_or es k d).0 ≢ q) → (b : Bool) → eq_by_cmp cell_cmp q e.0 ≡ b → (b || list_any (λ e. eq_by_cmp cell_cmp q e.0) es) ≡ false → (k : ℕ) → k < length (e ∷ es) → (get_or (e ∷ es) k d).0 ≢ q
    by r true t h k l = cc
    by r false t h zero l = λ same. let tie : eq_by_cmp cell_cmp q e.0 ≡ true = ap (eq_by_cmp cell_cmp q) same ∙ same_place q in cc
    by r false t h (suc k) l = r h k d (omega arith)

any_none : (q : Cell) (es : List (Cell × Value)) → ((k : ℕ) (d : Cell × Value) → k < length es → (get_or es k d).0 ≢ q) → list_any (λ e. eq_by_cmp cell_cmp q e.0) es ≡ false
any_none q [] h = refl
any_none q (e ∷ es) h =
    let here : eq_by_cmp cell_cmp q e.0 ≡ false = apart_cells q e.0 (λ same. h 0 e (omega arith) (sym same)) in
    let rest : list_any (λ e. eq_by_cmp cell_cmp q e.0) es ≡ false = any_none q es (λ k d l. h (suc k) d (omega arith)) in
    (λ j. here j || rest j)

-- what an entry line without a fault is
record EntryRead (h : Head) (s : Size) (earlier : List Line) (bytes : List ℕ) : Type 0 where
  pub entry : Cell × Value
  pub is : entry_of h s bytes ≡ Ok entry
  pub apart : stands_in h s earlier entry.0 ≡ false
  pub counted : length earlier < s.count

entry_read : (h : Head) (s : Size) (earlier : List Line) (bytes : List ℕ) → None ≡ bytes_fault (AtEntry h s earlier) bytes → EntryRead h s earlier bytes
entry_read h s earlier bytes e = by (ltb (length earlier) s.count) refl e
  where
    apart : (entry : Cell × Value) (b : Bool) → stands_in h s earlier entry.0 ≡ b → None ≡ (if b then Some Repeated else None) → b ≡ false
    apart entry true q e = cc
    apart entry false q e = refl

    own : (r : Result (Cell × Value) FaultKind) → entry_of h s bytes ≡ r → length earlier < s.count → None ≡ repeated h s earlier r → EntryRead h s earlier bytes
    own (Ok entry) q l e = record { entry = entry; is = q; apart = apart entry (stands_in h s earlier entry.0) refl e; counted = l }
    own (Err kind) q l e = cc

    by : (b : Bool) → ltb (length earlier) s.count ≡ b → None ≡ (if b then repeated h s earlier (entry_of h s bytes) else Some TooMany) → EntryRead h s earlier bytes
    by true t e = own (entry_of h s bytes) refl (grind (arith, nat_tests)) e
    by false t e = cc

-- what entry lines without a fault are
record EntriesRead (h : Head) (s : Size) (earlier rest : List Line) : Type 0 where
  pub count : length (earlier ++ rest) ≡ s.count
  pub each : AllZip (λ line e. entry_of h s line.bytes ≡ Ok e) rest (entries_on h s rest)
  pub apart : HavePlacesApart (entries_on h s (earlier ++ rest))

few_none : (h : Head) (s : Size) (earlier : List Line) → length earlier ≤ s.count → (b : Bool) → ltb (length earlier) s.count ≡ b → None ≡ (if b then Some TooFew else None) → length earlier ≡ s.count
few_none h s earlier l true t e = cc
few_none h s earlier l false t e = grind (arith, nat_tests)

entries_read : (h : Head) (s : Size) (number : ℕ) (before earlier : List Line) (rest : List (List ℕ)) → stage_of before ≡ AtEntry h s earlier → length earlier ≤ s.count → HavePlacesApart (entries_on h s earlier)
    → None ≡ first_fault number before (map ended rest) → EntriesRead h s earlier (map ended rest)
entries_read h s number before earlier [] at most apart e = record {
  count = ap length (append-nil earlier) ∙ few_none h s earlier most (ltb (length earlier) s.count) refl (none_of_map (fault_at number) (missing_at (AtEntry h s earlier)) (e ∙ ap (λ st. option_map (fault_at number) (missing_at st)) at));
  each = tt;
  apart = subst (λ l. HavePlacesApart (entries_on h s l)) (sym (append-nil earlier)) apart;
}
entries_read h s number before earlier (bytes ∷ rest) at most apart e =
    let p = none_here number (bytes_fault (stage_of before) bytes) (first_fault (number + 1) (before ++ ended bytes ∷ []) (map ended rest)) e in
    let r = entry_read h s earlier bytes (p.0 ∙ ap (λ st. bytes_fault st bytes) at) in
    let on : entries_on h s (earlier ++ ended bytes ∷ []) ≡ entries_on h s earlier ++ r.entry ∷ [] = entries_on-push h s earlier bytes r.entry r.is in
    let counted = r.counted in
    let q = entries_read h s (number + 1) (before ++ ended bytes ∷ []) (earlier ++ ended bytes ∷ []) rest (stage_of-push before bytes ∙ ap (λ st. advanced st bytes) at)
    (omega (arith, length-append earlier (ended bytes ∷ [])))
    (subst HavePlacesApart (sym on) (all_pairs_push (λ d e. d.0 ≢ e.0) (entries_on h s earlier) r.entry apart (none_at r.entry.0 (entries_on h s earlier) r.apart)))
    p.1 in
    let whole : (earlier ++ ended bytes ∷ []) ++ map ended rest ≡ earlier ++ ended bytes ∷ map ended rest = append_assoc earlier (ended bytes ∷ []) (map ended rest) in
    let front : entries_on h s (ended bytes ∷ map ended rest) ≡ r.entry ∷ entries_on h s (map ended rest) = ap (λ t. option_to_list (result_ok t) ++ entries_on h s (map ended rest)) r.is in
    record {
      count = ap length (sym whole) ∙ q.count;
      each = subst (AllZip (λ line e. entry_of h s line.bytes ≡ Ok e) (ended bytes ∷ map ended rest)) (sym front) (r.is, q.each);
      apart = subst (λ l. HavePlacesApart (entries_on h s l)) whole q.apart;
    }

each_spells : (h : Head) (s : Size) (lines : List (List ℕ)) (es : List (Cell × Value)) → AllZip (λ line e. entry_of h s line.bytes ≡ Ok e) (map ended lines) es → AllZip (SpellsEntry h s) lines es
each_spells h s [] [] a = tt
each_spells h s [] (e ∷ es) a = a
each_spells h s (line ∷ lines) [] a = a
each_spells h s (line ∷ lines) (e ∷ es) a = (spells_entry h s line e a.0, each_spells h s lines es a.1)

length_ended : (lines : List (List ℕ)) → length (map ended lines) ≡ length lines
length_ended [] = refl
length_ended (line ∷ lines) = ap suc (length_ended lines)

all_bytes : (lines : List Line) → All (λ line. is_comment line.bytes ≡ true) lines → All (λ line. is_comment line ≡ true) (bytes_of lines)
all_bytes lines h = All-map (λ line. is_comment line ≡ true) (λ line. line.bytes) lines h

behind_comments-parts : (comments : List Line) (size : Line) (entries : List Line) → All (λ line. is_comment line.bytes ≡ true) comments → is_comment size.bytes ≡ false → behind_comments (comments ++ size ∷ entries) ≡ size ∷ entries
behind_comments-parts [] size entries a c = ap (λ b. if b then behind_comments entries else size ∷ entries) c
behind_comments-parts (line ∷ comments) size entries a c =
    ap (λ b. if b then behind_comments (comments ++ size ∷ entries) else line ∷ (comments ++ size ∷ entries)) (All-head (λ line. is_comment line.bytes ≡ true) line comments a)
    ∙ behind_comments-parts comments size entries (All-tail (λ line. is_comment line.bytes ≡ true) line comments a) c

stage_of-parts : (first : Line) (comments : List Line) (size : Line) (h : Head) (s : Size) (entries : List Line) → head_of first.bytes ≡ Some h → All (λ line. is_comment line.bytes ≡ true) comments → is_comment size.bytes ≡ false
    → size_of h size.bytes ≡ Ok s → stage_of (first ∷ comments ++ size ∷ entries) ≡ AtEntry h s entries
stage_of-parts first comments size h s entries i a c z =
    ap (stage_with (comments ++ size ∷ entries)) i ∙ ap (stage_behind_header h) (behind_comments-parts comments size entries a c) ∙ ap (stage_behind_size h entries) z

-- a faultless text spells the matrix of its entry lines
pub spells_from_stage : (text : List ℕ) (h : Head) (s : Size) (entries : List Line) → market_fault text ≡ None → stage_of (lines_of text) ≡ AtEntry h s entries → Spells text (matrix_from h s entries)
spells_from_stage text h s entries faultless at =
    let p = parts_of (lines_of text) h s entries at in
    let none : None ≡ first_fault 1 [] (p.first ∷ p.comments ++ p.size ∷ entries) = sym faultless ∙ ap (first_fault 1 []) p.are in
    let are_ended = ended_lines 1 [] (p.first ∷ p.comments ++ p.size ∷ entries) none in
    let front : List Line = p.first ∷ p.comments ++ p.size ∷ [] in
    let parted : p.first ∷ p.comments ++ p.size ∷ entries ≡ front ++ entries = ap (λ l. p.first ∷ l) (sym (append_assoc p.comments (p.size ∷ []) entries)) in
    let behind = faultless_rest 1 [] front entries (none ∙ ap (first_fault 1 []) parted) in
    let entries_ended : entries ≡ map ended (bytes_of entries) = ended_lines behind.0 front entries behind.1 in
    let front_stage : stage_of front ≡ AtEntry h s [] = stage_of-parts p.first p.comments p.size h s [] p.head_is p.comments_are p.no_comment p.size_is in
    let read = entries_read h s behind.0 front [] (bytes_of entries) front_stage (omega arith) (λ i j d l m. absurd (omega arith)) (behind.1 ∙ ap (first_fault behind.0 front) entries_ended) in
    record {
      first = p.first.bytes;
      comments = bytes_of p.comments;
      size_line = p.size.bytes;
      entry_lines = bytes_of entries;
      head = h;
      size = s;
      entries = entries_on h s entries;
      lines = p.are ∙ are_ended ∙ ap (λ l. map ended (p.first.bytes ∷ l)) (map-append (λ line. line.bytes) p.comments (p.size ∷ entries));
      first_is = p.head_is;
      comments_are = all_bytes p.comments p.comments_are;
      no_comment = p.no_comment;
      size_is = spells_size h p.size.bytes s p.size_is;
      count = sym (length_ended (bytes_of entries)) ∙ read.count;
      entries_are = subst (AllZip (SpellsEntry h s) (bytes_of entries)) (ap (entries_on h s) (sym entries_ended)) (each_spells h s (bytes_of entries) (entries_on h s (map ended (bytes_of entries))) read.each);
      apart = subst (λ l. HavePlacesApart (entries_on h s l)) (sym entries_ended) read.apart;
      matrix = refl;
    }

faultless_spells_by : (text : List ℕ) → market_fault text ≡ None → (stage : Stage) → stage_of (lines_of text) ≡ stage → is_at_entries stage ≡ true → (m : Matrix) × Spells text m
faultless_spells_by text f AtHeader at h = cc
faultless_spells_by text f (AtSize head) at h = cc
faultless_spells_by text f (AtEntry head s lines) at h = (matrix_from head s lines, spells_from_stage text head s lines f at)
faultless_spells_by text f Lost at h = cc

pub faultless_texts_spell : FaultlessTextsSpell
faultless_texts_spell text f = faultless_spells_by text f (stage_of (lines_of text)) refl (leads_to_matrix 1 [] (lines_of text) (λ l. l) (sym f))

-- a text that spells a matrix, in its parts

entries_on-read : (h : Head) (s : Size) (lines : List (List ℕ)) (es : List (Cell × Value)) → AllZip (SpellsEntry h s) lines es → entries_on h s (map ended lines) ≡ es
entries_on-read h s [] [] a = refl
entries_on-read h s [] (e ∷ es) a = absurd a
entries_on-read h s (line ∷ lines) [] a = absurd a
entries_on-read h s (line ∷ lines) (e ∷ es) a = (λ j. option_to_list (result_ok (entry_of-is h s line e a.0 j)) ++ entries_on-read h s lines es a.1 j)

spelled_lines : (first : List ℕ) (comments : List (List ℕ)) (size : List ℕ) (entries : List (List ℕ)) → map ended (first ∷ comments ++ size ∷ entries) ≡ ended first ∷ map ended comments ++ ended size ∷ map ended entries
spelled_lines first comments size entries = ap (λ l. ended first ∷ l) (map-append ended comments (size ∷ entries))

all_ended : (comments : List (List ℕ)) → All (λ line. is_comment line ≡ true) comments → All (λ line. is_comment line.bytes ≡ true) (map ended comments)
all_ended comments h = All-map (λ line. is_comment line.bytes ≡ true) ended comments h

pub stage_of-spelled : (text : List ℕ) (m : Matrix) (p : Spells text m) → stage_of (lines_of text) ≡ AtEntry p.head p.size (map ended p.entry_lines)
stage_of-spelled text m p =
    ap stage_of (p.lines ∙ spelled_lines p.first p.comments p.size_line p.entry_lines)
    ∙ stage_of-parts (ended p.first) (map ended p.comments) (ended p.size_line) p.head p.size (map ended p.entry_lines) p.first_is (all_ended p.comments p.comments_are) p.no_comment (size_of-is p.head p.size_line p.size p.size_is)

abbrev matrix_at : Stage → Option Matrix
matrix_at AtHeader = None
matrix_at (AtSize h) = None
matrix_at (AtEntry h s lines) = Some (matrix_from h s lines)
matrix_at Lost = None

matrix_at-spelled : (text : List ℕ) (m : Matrix) → Spells text m → matrix_at (stage_of (lines_of text)) ≡ Some m
matrix_at-spelled text m p =
    ap matrix_at (stage_of-spelled text m p)
    ∙ ap (λ es. Some (record { domain = p.head.domain; nrows = p.size.nrows; ncols = p.size.ncols; entries = map_from cell_cmp (written_out p.head es) })) (entries_on-read p.head p.size p.entry_lines p.entries p.entries_are)
    ∙ ap (λ m. Some m) (sym p.matrix)

pub spell_at_most_one : SpellAtMostOne
spell_at_most_one text m n p q = let a = matrix_at-spelled text m p in let b = matrix_at-spelled text n q in cc

-- it has no fault
module _ (h : Head) (s : Size) where
  entries_none : (number : ℕ) (before earlier : List Line) (lines : List (List ℕ)) (es : List (Cell × Value)) → stage_of before ≡ AtEntry h s earlier → AllZip (SpellsEntry h s) lines es
      → length earlier + length lines ≡ s.count → HavePlacesApart (entries_on h s earlier ++ es) → None ≡ first_fault number before (map ended lines)
  entries_none number before earlier [] es at a c apart =
      let full : ltb (length earlier) s.count ≡ false = grind (arith, nat_tests) in
      sym (ap (λ st. option_map (fault_at number) (missing_at st)) at ∙ ap (λ b. option_map (fault_at number) (if b then Some TooFew else None)) full)
  entries_none number before earlier (line ∷ lines) [] at a c apart = absurd a
  entries_none number before earlier (line ∷ lines) (e ∷ es) at a c apart =
      let more : ltb (length earlier) s.count ≡ true = grind (arith, nat_tests) in
      let is = entry_of-is h s line e a.0 in
      let new : stands_in h s earlier e.0 ≡ false = any_none e.0 (entries_on h s earlier) (front_apart (entries_on h s earlier) e es apart) in
      let none : bytes_fault (stage_of before) line ≡ None =
      ap (λ st. bytes_fault st line) at ∙ ap (λ b. if b then repeated h s earlier (entry_of h s line) else Some TooMany) more ∙ ap (repeated h s earlier) is ∙ ap (λ b. if b then Some Repeated else None) new in
      let rest = entries_none (number + 1) (before ++ ended line ∷ []) (earlier ++ ended line ∷ []) lines es (stage_of-push before line ∙ ap (λ st. advanced st line) at) a.1
      (omega (arith, length-append earlier (ended line ∷ [])))
      (subst HavePlacesApart (sym (append_assoc (entries_on h s earlier) (e ∷ []) es) ∙ ap (λ l. l ++ es) (sym (entries_on-push h s earlier line e is))) apart) in
      rest ∙ sym (ap (λ o. option_map_or (λ kind. Some (fault_at number kind)) o (first_fault (number + 1) (before ++ ended line ∷ []) (map ended lines))) none)
    where
      front_apart : (xs : List (Cell × Value)) (e : Cell × Value) (es : List (Cell × Value)) → HavePlacesApart (xs ++ e ∷ es) → (k : ℕ) (d : Cell × Value) → k < length xs → (get_or xs k d).0 ≢ e.0
      front_apart xs e es h k d l =
          let a : get_or (xs ++ e ∷ es) k d ≡ get_or xs k d = get_or_append_left xs (e ∷ es) d k l in
          let b : get_or (xs ++ e ∷ es) (length xs) d ≡ e = get_or-append_seam xs e es d in
          subst (λ w. w.0 ≢ e.0) a (subst (λ w. (get_or (xs ++ e ∷ es) k d).0 ≢ w.0) b (h k (length xs) d l (omega (arith, length-append xs (e ∷ es)))))

  comments_none : (number : ℕ) (before : List Line) (comments : List (List ℕ)) (size : List ℕ) (lines : List (List ℕ)) (es : List (Cell × Value)) → stage_of before ≡ AtSize h → All (λ line. is_comment line ≡ true) comments → is_comment size ≡ false
      → size_of h size ≡ Ok s → AllZip (SpellsEntry h s) lines es → length lines ≡ s.count → HavePlacesApart es → None ≡ first_fault number before (map ended (comments ++ size ∷ lines))
  comments_none number before [] size lines es at all c z a n apart =
      let none : bytes_fault (stage_of before) size ≡ None = ap (λ st. bytes_fault st size) at ∙ ap (λ b. if b then None else result_err (size_of h size)) c ∙ ap result_err z in
      let next : stage_of (before ++ ended size ∷ []) ≡ AtEntry h s [] =
      stage_of-push before size ∙ ap (λ st. advanced st size) at ∙ ap (λ b. if b then AtSize h else stage_behind_size h [] (size_of h size)) c ∙ ap (stage_behind_size h []) z in
      entries_none (number + 1) (before ++ ended size ∷ []) [] lines es next a (omega arith) apart
      ∙ sym (ap (λ o. option_map_or (λ kind. Some (fault_at number kind)) o (first_fault (number + 1) (before ++ ended size ∷ []) (map ended lines))) none)
  comments_none number before (line ∷ comments) size lines es at all c z a n apart =
      let is = All-head (λ line. is_comment line ≡ true) line comments all in
      let none : bytes_fault (stage_of before) line ≡ None = ap (λ st. bytes_fault st line) at ∙ ap (λ b. if b then None else result_err (size_of h line)) is in
      let next : stage_of (before ++ ended line ∷ []) ≡ AtSize h = stage_of-push before line ∙ ap (λ st. advanced st line) at ∙ ap (λ b. if b then AtSize h else stage_behind_size h [] (size_of h line)) is in
      comments_none (number + 1) (before ++ ended line ∷ []) comments size lines es next (All-tail (λ line. is_comment line ≡ true) line comments all) c z a n apart
      ∙ sym (ap (λ o. option_map_or (λ kind. Some (fault_at number kind)) o (first_fault (number + 1) (before ++ ended line ∷ []) (map ended (comments ++ size ∷ lines)))) none)

pub spelling_texts_are_faultless : SpellingTextsAreFaultless
spelling_texts_are_faultless text m p =
    let lines : List (List ℕ) = p.comments ++ p.size_line ∷ p.entry_lines in
    let none : bytes_fault AtHeader p.first ≡ None = ap (λ o. option_map_or (λ _. None) o (Some Header)) p.first_is in
    let next : stage_of (ended p.first ∷ []) ≡ AtSize p.head = ap (stage_with []) p.first_is in
    let rest = comments_none p.head p.size 2 (ended p.first ∷ []) p.comments p.size_line p.entry_lines p.entries next p.comments_are p.no_comment (size_of-is p.head p.size_line p.size p.size_is) p.entries_are p.count p.apart in
    ap (first_fault 1 []) p.lines
    ∙ ap (λ o. option_map_or (λ kind. Some (fault_at 1 kind)) o (first_fault 2 (ended p.first ∷ []) (map ended lines))) none
    ∙ sym rest

-- a text that was read spells what is written out of its entries
pub spells-read : (text : List ℕ) (h : Head) (s : Size) (m all : MatrixEntries) → IsRead text h s m → all ≡ map_from cell_cmp (written_out h m) → Spells text (record { domain = h.domain; nrows = s.nrows; ncols = s.ncols; entries = all })
spells-read text h s m all r made =
    let entries : map_from cell_cmp (written_out h (entries_on h s r.lines)) ≡ all =
    sym (made ∙ ap (λ m. map_from cell_cmp (written_out h m)) r.entries ∙ written_out-map_from h (entries_on h s r.lines)) in
    subst (λ es. Spells text (record { domain = h.domain; nrows = s.nrows; ncols = s.ncols; entries = es })) entries (spells_from_stage text h s r.lines r.faultless r.behind)

pub sorted-read : (text : List ℕ) (h : Head) (s : Size) (m : MatrixEntries) → IsRead text h s m → IsTrue (is_sorted cell_cmp m)
sorted-read text h s m r = subst (λ es. IsTrue (is_sorted cell_cmp es)) (sym r.entries) (sorted-map_from (entries_on h s r.lines))
