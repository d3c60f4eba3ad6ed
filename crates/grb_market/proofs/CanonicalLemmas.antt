-- The canonical text of a matrix, in its parts, and that it spells the matrix.
use Rattle.std.proofs.Common.{◌≡◌, ◌≢◌, ℕ, suc, ◌+◌, ◌-◌, ◌*◌, ◌^◌, ◌<◌, ◌≤◌, eqb, not, cond, Bool, true, false, if◌then◌else◌, List, [], ◌∷◌, ◌++◌, length, get_or, map, filter, decimal, Option, Some, None, refl, sym, ap, subst, ◌∙◌, append_assoc, append-nil, length-append, arith}
use Rattle.std.specs.Prelude.{All, ◌||◌}
use Rattle.grb_market.proofs.Prelude.{flat_map, list_all, list_any, slice_split, AllZip, AllByRecursion, option_map, option_and_then, digits_value, Ordering, Less, Equal, Greater, nat_cmp, ordering_then, is_sorted, T, nat_tests, get_or_default, get_or-append-add, length-map, All-nil, All-cons, All-head, All-tail, All-append, slice_split_at, slice_split_none, length-slice_split, Domain, Value, Cell, cell_cmp, MatrixEntries, Matrix, IsDimension, cell_cmp_total, holds, below_at, first, second, Size, ended, lines_from, lines_of, is_comment, Number, is_blank, is_digit, words_of, begins_blank, ends_blank, number_of, numeral_of, numbers_from, head, head_of, SpellsEntry, HasNumbers, IsStated, value_stated, numbers_stated, first_line, spaced, size_text, entry_text, line_text, canonical, canonical_lines, entry_lines, is_false, CanonicalTextsSpell, CanonicalTextsAreReadBack}
use Rattle.std.proofs.lemmas.Fmt.{digits_decimal, decimal_is_IsNumeral, decimal_nonempty}
use Rattle.std.proofs.lemmas.List.Kept.{AllPairs-cons}
use Rattle.std.proofs.lemmas.List.Folds.{flat_map-map}
use Rattle.grb_core.specs.declared.domain.Domain.TheVariants as domain
use Rattle.grb_core.specs.declared.value.Value.TheVariants as value
use Rattle.grb_core.specs.Value.{IsValueOf}
use Rattle.grb_core.proofs.Dimensions.{dimension-fits}
use Rattle.grb_core.specs.Laws.{HavePlacesApart}
use Rattle.grb_market.proofs.EntryMaps.{map_from-sorted, same_cell}
use Rattle.grb_market.proofs.ListLemmas.{ends_blank-last}
use Rattle.grb_market.proofs.NextLineLemmas.{lines_from-more}
use Rattle.grb_market.proofs.NumberLemmas.{numerals, digit_at, number_of-fits}
use Rattle.grb_market.proofs.SpellsLemmas.{spell_at_most_one}

pub canonical-parts : (m : Matrix) (text : List ℕ) (es : List (Cell × Value)) → text ≡ line_text (first_line m.domain) ++ line_text (size_text m) → es ≡ m.entries → text ++ entry_lines es ≡ canonical m
canonical-parts m text es t e =
    (λ j. t j ++ entry_lines (e j))
    ∙ append_assoc (line_text (first_line m.domain)) (line_text (size_text m)) (entry_lines m.entries)
    ∙ ap (λ l. line_text (first_line m.domain) ++ (line_text (size_text m) ++ l)) (sym (flat_map-map line_text entry_text m.entries))

-- a decimal

module _ (n : ℕ) (fits : n < 2 ^ 64) where
  pub decimal_digits : list_all is_digit (decimal n) ≡ true
  decimal_digits = digits_decimal numerals n fits

  pub decimal_value : digits_value 10 (decimal n) ≡ n
  decimal_value = (decimal_is_IsNumeral n fits).1

  pub decimal_long : 0 < length (decimal n)
  decimal_long = decimal_nonempty n fits

  pub decimal_read : numeral_of (decimal n) ≡ Some (Some n)
  decimal_read =
      let value = decimal_value in
      ap (λ b. if b then Some (number_of (decimal n)) else None) decimal_digits
      ∙ ap (λ o. Some o) (number_of-fits (decimal n) (omega arith) ∙ ap (λ v. Some v) value)

digit_not_blank : (b : ℕ) → 48 ≤ b → is_blank b ≡ false
digit_not_blank b l = grind (arith, nat_tests)

digit_no_end : (b : ℕ) → 48 ≤ b → eqb b 10 ≡ false
digit_no_end b l = grind (arith, nat_tests)

-- what holds of each digit holds of each byte of a word of digits
pub each_digit : (P : ℕ → Type 0) → ((b : ℕ) → 48 ≤ b → b ≤ 57 → P b) → (w : List ℕ) → list_all is_digit w ≡ true → All P w
each_digit P all w h = λ k d l. let p = digit_at w k h l in subst P (get_or_default w k 0 d l) (all (get_or w k 0) p.0 p.1)

unblank : (n : ℕ) → n < 2 ^ 64 → All (λ b. is_blank b ≡ false) (decimal n)
unblank n h = each_digit (λ b. is_blank b ≡ false) (λ b l m. digit_not_blank b l) (decimal n) (decimal_digits n h)

keep_word : (w : List ℕ) (ws : List (List ℕ)) → 0 < length w → filter (λ word. not (eqb (length word) 0)) (w ∷ ws) ≡ w ∷ filter (λ word. not (eqb (length word) 0)) ws
keep_word w ws l = let long : eqb (length w) 0 ≡ false = grind (arith, nat_tests) in ap (λ b. cond (not b) (w ∷ filter (λ word. not (eqb (length word) 0)) ws) (filter (λ word. not (eqb (length word) 0)) ws)) long

pub words_of-spaced : (n : ℕ) (ns : List ℕ) → All (λ n. n < 2 ^ 64) (n ∷ ns) → words_of (spaced (n ∷ ns)) ≡ map decimal (n ∷ ns)
words_of-spaced n [] a =
    let h = All-head (λ n. n < 2 ^ 64) n [] a in
    ap (filter (λ word. not (eqb (length word) 0))) (slice_split_none is_blank (decimal n) (unblank n h)) ∙ keep_word (decimal n) [] (decimal_long n h)
words_of-spaced n (m ∷ ns) a =
    let h = All-head (λ n. n < 2 ^ 64) n (m ∷ ns) a in
    ap (filter (λ word. not (eqb (length word) 0))) (slice_split_at is_blank (decimal n) 32 (spaced (m ∷ ns)) (unblank n h) refl)
    ∙ keep_word (decimal n) (slice_split is_blank (spaced (m ∷ ns))) (decimal_long n h)
    ∙ ap (λ ws. decimal n ∷ ws) (words_of-spaced m ns (All-tail (λ n. n < 2 ^ 64) n (m ∷ ns) a))

pub numbers_from-decimals : (ns : List ℕ) → All (λ n. n < 2 ^ 64) ns → numbers_from (map decimal ns) ≡ Some (map (λ n. Some n) ns)
numbers_from-decimals [] a = refl
numbers_from-decimals (n ∷ ns) a =
    let h = All-head (λ n. n < 2 ^ 64) n ns a in
    let rest = numbers_from-decimals ns (All-tail (λ n. n < 2 ^ 64) n ns a) in
    ap (λ (o : Option (Option ℕ)). option_and_then (λ (w : Number). option_map (λ (ws : List Number). w ∷ ws) (numbers_from (map decimal ns))) o) (decimal_read n h)
    ∙ ap (λ (o : Option (List Number)). option_map (λ (ws : List Number). Some n ∷ ws) o) rest

begins_with : (test : ℕ → Bool) (begins : List ℕ → Bool) → ((b : ℕ) (bytes : List ℕ) → begins (b ∷ bytes) ≡ test b) → (w rest : List ℕ) → 0 < length w → All (λ b. test b ≡ false) w → begins (w ++ rest) ≡ false
begins_with test begins is [] rest l a = absurd (omega arith)
begins_with test begins is (b ∷ w) rest l a = is b (w ++ rest) ∙ All-head (λ b. test b ≡ false) b w a

spaced-front : (n : ℕ) (ns : List ℕ) → (rest : List ℕ) × (spaced (n ∷ ns) ≡ decimal n ++ rest)
spaced-front n [] = ([], sym (append-nil (decimal n)))
spaced-front n (m ∷ ns) = (32 ∷ spaced (m ∷ ns), refl)

pub begins_blank-spaced : (n : ℕ) (ns : List ℕ) → n < 2 ^ 64 → begins_blank (spaced (n ∷ ns)) ≡ false
begins_blank-spaced n ns h =
    let p = spaced-front n ns in
    ap begins_blank p.1 ∙ begins_with is_blank begins_blank (λ b bytes. refl) (decimal n) p.0 (decimal_long n h) (unblank n h)

pub is_comment-spaced : (n : ℕ) (ns : List ℕ) → n < 2 ^ 64 → is_comment (spaced (n ∷ ns)) ≡ false
is_comment-spaced n ns h =
    let p = spaced-front n ns in
    ap is_comment p.1 ∙ begins_with (λ b. eqb b 37) is_comment (λ b bytes. refl) (decimal n) p.0 (decimal_long n h)
    (each_digit (λ b. eqb b 37 ≡ false) (λ b l m. grind (arith, nat_tests)) (decimal n) (decimal_digits n h))

pub ends_blank-append : (xs ys : List ℕ) (k : ℕ) → suc k ≡ length ys → ends_blank (xs ++ ys) ≡ ends_blank ys
ends_blank-append xs ys k e =
    sym (ends_blank-last (xs ++ ys) (length xs + k) (omega (arith, length-append xs ys))) ∙ ap is_blank (get_or-append-add xs ys k 0) ∙ ends_blank-last ys k e

pub length-spaced : (n : ℕ) (ns : List ℕ) → n < 2 ^ 64 → 0 < length (spaced (n ∷ ns))
length-spaced n ns h =
    let p = spaced-front n ns in
    let l = decimal_long n h in
    omega (arith, ap length p.1, length-append (decimal n) p.0)

pub ends_blank-spaced : (n : ℕ) (ns : List ℕ) → All (λ n. n < 2 ^ 64) (n ∷ ns) → ends_blank (spaced (n ∷ ns)) ≡ false
ends_blank-spaced n [] a =
    let h = All-head (λ n. n < 2 ^ 64) n [] a in
    let l = decimal_long n h in
    let p = digit_at (decimal n) (length (decimal n) - 1) (decimal_digits n h) (omega arith) in
    sym (ends_blank-last (decimal n) (length (decimal n) - 1) (omega arith)) ∙ digit_not_blank (get_or (decimal n) (length (decimal n) - 1) 0) p.0
ends_blank-spaced n (m ∷ ns) a =
    let more = All-tail (λ n. n < 2 ^ 64) n (m ∷ ns) a in
    let l = length-spaced m ns (All-head (λ n. n < 2 ^ 64) m ns more) in
    ap ends_blank (sym (append_assoc (decimal n) (32 ∷ []) (spaced (m ∷ ns))))
    ∙ ends_blank-append (decimal n ++ 32 ∷ []) (spaced (m ∷ ns)) (length (spaced (m ∷ ns)) - 1) (omega arith)
    ∙ ends_blank-spaced m ns more

-- numbers that are written are read back
pub spaced_is_read : (n : ℕ) (ns : List ℕ) → All (λ n. n < 2 ^ 64) (n ∷ ns) → HasNumbers (spaced (n ∷ ns)) (n ∷ ns)
spaced_is_read n ns a =
    (λ j. if begins_blank-spaced n ns (All-head (λ n. n < 2 ^ 64) n ns a) j || ends_blank-spaced n ns a j then None else numbers_from (words_of (spaced (n ∷ ns))))
    ∙ ap numbers_from (words_of-spaced n ns a) ∙ numbers_from-decimals (n ∷ ns) a

-- no line end stands among them
pub spaced_in_line : (n : ℕ) (ns : List ℕ) → All (λ n. n < 2 ^ 64) (n ∷ ns) → All (λ b. eqb b 10 ≡ false) (spaced (n ∷ ns))
spaced_in_line n [] a = each_digit (λ b. eqb b 10 ≡ false) (λ b l m. digit_no_end b l) (decimal n) (decimal_digits n (All-head (λ n. n < 2 ^ 64) n [] a))
spaced_in_line n (m ∷ ns) a =
    All-append (λ b. eqb b 10 ≡ false) (decimal n) (32 ∷ spaced (m ∷ ns))
    (each_digit (λ b. eqb b 10 ≡ false) (λ b l m. digit_no_end b l) (decimal n) (decimal_digits n (All-head (λ n. n < 2 ^ 64) n (m ∷ ns) a)))
    (All-cons (λ b. eqb b 10 ≡ false) 32 (spaced (m ∷ ns)) refl (spaced_in_line m ns (All-tail (λ n. n < 2 ^ 64) n (m ∷ ns) a)))

-- lines that are written one behind another are the lines of the text
pub lines_of-lines : (lines : List (List ℕ)) → AllByRecursion (All (λ b. eqb b 10 ≡ false)) lines → lines_of (flat_map line_text lines) ≡ map ended lines
lines_of-lines [] a = refl
lines_of-lines (line ∷ lines) a =
    ap lines_of (append_assoc line (10 ∷ []) (flat_map line_text lines))
    ∙ ap lines_from (slice_split_at (λ b. eqb b 10) line 10 (flat_map line_text lines) a.0 refl)
    ∙ lines_from-more line _ (omega (arith, length-slice_split (λ b. eqb b 10) (flat_map line_text lines)))
    ∙ ap (λ l. ended line ∷ l) (lines_of-lines lines a.1)

-- a first line is one line
unequal : (xs : List ℕ) → list_any (λ b. eqb b 10) xs ≡ false → All (λ b. eqb b 10 ≡ false) xs
unequal [] h = All-nil (λ b. eqb b 10 ≡ false)
unequal (x ∷ xs) h = by (unequal xs) (eqb x 10) refl h
  where
    by : (list_any (λ b. eqb b 10) xs ≡ false → All (λ b. eqb b 10 ≡ false) xs) → (b : Bool) → eqb x 10 ≡ b → (b || list_any (λ b. eqb b 10) xs) ≡ false → All (λ b. eqb b 10 ≡ false) (x ∷ xs)
    by r true e h = cc
    by r false e h = All-cons (λ b. eqb b 10 ≡ false) x xs e (r h)

first_in_line : (d : Domain) → All (λ b. eqb b 10 ≡ false) (first_line d)
first_in_line domain.Uint64 = unequal (first_line domain.Uint64) refl
first_in_line domain.Bool = unequal (first_line domain.Bool) refl

first_is_head : (d : Domain) → head_of (first_line d) ≡ Some (head d false)
first_is_head domain.Uint64 = refl
first_is_head domain.Bool = refl

-- a value that a file can state
stated : (d : Domain) (v : Value) → IsValueOf d v → is_false v ≡ false → IsStated d v
stated domain.Uint64 (value.Uint64 n) h f = tt
stated domain.Uint64 (value.Bool b) h f = absurd h
stated domain.Bool (value.Bool true) h f = refl
stated domain.Bool (value.Bool false) h f = cc
stated domain.Bool (value.Uint64 n) h f = absurd h

-- the numbers of an entry
value_numbers : (d : Domain) (v : Value) → IsValueOf d v → All (λ n. n < 2 ^ 64) (value_stated v)
value_numbers domain.Uint64 (value.Uint64 n) h = All-cons (λ n. n < 2 ^ 64) n [] h (All-nil (λ n. n < 2 ^ 64))
value_numbers domain.Uint64 (value.Bool b) h = absurd h
value_numbers domain.Bool (value.Bool b) h = All-nil (λ n. n < 2 ^ 64)
value_numbers domain.Bool (value.Uint64 n) h = absurd h

-- what the canonical text needs of each entry
record Plain (m : Matrix) (e : Cell × Value) : Type 0 where
  pub row : e.0.0 < m.nrows
  pub column : e.0.1 < m.ncols
  pub value : IsValueOf m.domain e.1
  pub no_false : is_false e.1 ≡ false

plain_all : (m : Matrix) (es : MatrixEntries) → All (λ e. (e.0.0 < m.nrows) × (e.0.1 < m.ncols)) es → All (λ e. IsValueOf m.domain e.1) es → list_any (λ e. is_false e.1) es ≡ false → AllByRecursion (Plain m) es
plain_all m [] w v f = tt
plain_all m (e ∷ es) w v f = by (plain_all m es (All-tail (λ e. (e.0.0 < m.nrows) × (e.0.1 < m.ncols)) e es w) (All-tail (λ e. IsValueOf m.domain e.1) e es v)) (is_false e.1) refl f
  where
    by : (list_any (λ e. is_false e.1) es ≡ false → AllByRecursion (Plain m) es) → (b : Bool) → is_false e.1 ≡ b → (b || list_any (λ e. is_false e.1) es) ≡ false → AllByRecursion (Plain m) (e ∷ es)
    by r true q f = cc
    by r false q f =
        let p = All-head (λ e. (e.0.0 < m.nrows) × (e.0.1 < m.ncols)) e es w in
        (record { row = p.0; column = p.1; value = All-head (λ e. IsValueOf m.domain e.1) e es v; no_false = q }, r f)

entry_small : (m : Matrix) (e : Cell × Value) → IsDimension m.nrows → IsDimension m.ncols → Plain m e → All (λ n. n < 2 ^ 64) (numbers_stated e)
entry_small m e r c p =
    let row = p.row in
    let column = p.column in
    let nrows = dimension-fits m.nrows r in
    let ncols = dimension-fits m.ncols c in
    All-cons (λ n. n < 2 ^ 64) (e.0.0 + 1) ((e.0.1 + 1) ∷ value_stated e.1) (omega arith) (All-cons (λ n. n < 2 ^ 64) (e.0.1 + 1) (value_stated e.1) (omega arith) (value_numbers m.domain e.1 p.value))

module _ (m : Matrix) (r : IsDimension m.nrows) (c : IsDimension m.ncols) where
  entries_stated : (s : Size) → s.nrows ≡ m.nrows → s.ncols ≡ m.ncols → (es : MatrixEntries) → AllByRecursion (Plain m) es → AllZip (SpellsEntry (head m.domain false) s) (map entry_text es) es
  entries_stated s sr sc [] a = tt
  entries_stated s sr sc (e ∷ es) a =
      let row = a.0.row in
      let column = a.0.column in (
        record {
          numbers = spaced_is_read (e.0.0 + 1) ((e.0.1 + 1) ∷ value_stated e.1) (entry_small m e r c a.0);
          value = stated m.domain e.1 a.0.value a.0.no_false;
          row = omega arith;
          column = omega arith;
          lower = λ t. cc;
        },
        entries_stated s sr sc es a.1,
      )

  entries_in_line : (es : MatrixEntries) → AllByRecursion (Plain m) es → AllByRecursion (All (λ b. eqb b 10 ≡ false)) (map entry_text es)
  entries_in_line [] a = tt
  entries_in_line (e ∷ es) a = (spaced_in_line (e.0.0 + 1) ((e.0.1 + 1) ∷ value_stated e.1) (entry_small m e r c a.0), entries_in_line es a.1)

-- places in order are apart
places_apart : (es : MatrixEntries) → T (is_sorted cell_cmp es) → HavePlacesApart es
places_apart [] h = λ i j d l k. absurd (omega arith)
places_apart (e ∷ es) h =
    AllPairs-cons (λ d e. d.0 ≢ e.0) e es
    (λ k d l same. let less = below_at cell_cmp_total e.0 es k d (first _ _ h) l in let tie = ap (cell_cmp e.0) (sym same) ∙ same_cell e.0 in cc)
    (places_apart es (second _ _ h))

-- so many entries fit: places in order have rising numbers
abbrev HeadFrom : ℕ → MatrixEntries → Type 0
HeadFrom k [] = Unit {0}
HeadFrom k (e ∷ es) = k ≤ e.0.0 * 4294967296 + e.0.1

less_column : (p q : Cell) → (o : Ordering) → nat_cmp p.0 q.0 ≡ o → ordering_then o (nat_cmp p.1 q.1) ≡ Less → p.1 < 4294967296 → p.0 * 4294967296 + p.1 < q.0 * 4294967296 + q.1
less_column p q Less e h l = let row : p.0 < q.0 = grind (arith, nat_tests) in omega arith
less_column p q Equal e h l = let row : p.0 ≡ q.0 = grind (arith, nat_tests) in let column : p.1 < q.1 = grind (arith, nat_tests) in omega arith
less_column p q Greater e h l = cc

entries_fit : (r c : ℕ) (es : MatrixEntries) (k : ℕ) → r < 4294967296 → c < 4294967296 → T (is_sorted cell_cmp es) → All (λ e. (e.0.0 < r) × (e.0.1 < c)) es → HeadFrom k es → k ≤ 18446744069414584320 → length es + k ≤ 18446744069414584320
entries_fit r c [] k lr lc s w h m = omega arith
entries_fit r c (e ∷ []) k lr lc s w h m = let p = All-head (λ e. (e.0.0 < r) × (e.0.1 < c)) e [] w in omega arith
entries_fit r c (e ∷ f ∷ es) k lr lc s w h m =
    let p = All-head (λ e. (e.0.0 < r) × (e.0.1 < c)) e (f ∷ es) w in
    let less = below_at cell_cmp_total e.0 (f ∷ es) 0 f (first _ _ s) (omega arith) in
    let next = less_column e.0 f.0 (nat_cmp e.0.0 f.0.0) refl less (omega arith) in
    let rest = entries_fit r c (f ∷ es) (e.0.0 * 4294967296 + e.0.1 + 1) lr lc (second _ _ s) (All-tail (λ e. (e.0.0 < r) × (e.0.1 < c)) e (f ∷ es) w) (omega arith) (omega arith) in
    omega arith

pub canonical_texts_spell : CanonicalTextsSpell
canonical_texts_spell m is none =
    let plain = plain_all m m.entries is.within is.of_domain none in
    let rows = dimension-fits m.nrows is.nrows in
    let columns = dimension-fits m.ncols is.ncols in
    let fit = entries_fit m.nrows m.ncols m.entries 0 (omega arith) (omega arith) (holds is.ordered) is.within (from_zero m.entries) (omega arith) in
    let size_small : All (λ n. n < 2 ^ 64) (m.nrows ∷ m.ncols ∷ length m.entries ∷ []) =
    All-cons (λ n. n < 2 ^ 64) m.nrows (m.ncols ∷ length m.entries ∷ []) (omega arith) (All-cons (λ n. n < 2 ^ 64) m.ncols (length m.entries ∷ []) (omega arith) (All-cons (λ n. n < 2 ^ 64) (length m.entries) [] (omega arith) (All-nil (λ n. n < 2 ^ 64)))) in
    record {
      first = first_line m.domain;
      comments = [];
      size_line = size_text m;
      entry_lines = map entry_text m.entries;
      head = head m.domain false;
      size = record { nrows = m.nrows; ncols = m.ncols; count = length m.entries };
      entries = m.entries;
      lines = lines_of-lines (canonical_lines m) (first_in_line m.domain, (spaced_in_line m.nrows (m.ncols ∷ length m.entries ∷ []) size_small, entries_in_line m is.nrows is.ncols m.entries plain));
      first_is = first_is_head m.domain;
      comments_are = All-nil (λ line. is_comment line ≡ true);
      no_comment = is_comment-spaced m.nrows (m.ncols ∷ length m.entries ∷ []) (omega arith);
      size_is = record { numbers = spaced_is_read m.nrows (m.ncols ∷ length m.entries ∷ []) size_small; rows = is.nrows; columns = is.ncols; square = λ t. cc };
      count = length-map m.entries entry_text;
      entries_are = entries_stated m is.nrows is.ncols (record { nrows = m.nrows; ncols = m.ncols; count = length m.entries }) refl refl m.entries plain;
      apart = places_apart m.entries (holds is.ordered);
      matrix = (λ j. record { domain = m.domain; nrows = m.nrows; ncols = m.ncols; entries = sym (map_from-sorted m.entries (holds is.ordered)) j });
    }
  where
    from_zero : (es : MatrixEntries) → HeadFrom 0 es
    from_zero [] = tt
    from_zero (e ∷ es) = omega arith

pub canonical_texts_are_read_back : CanonicalTextsAreReadBack
canonical_texts_are_read_back m n is none p = spell_at_most_one (canonical m) n m p (canonical_texts_spell m is none)
