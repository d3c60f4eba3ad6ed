-- The numbers of a line are read one behind another.
use Rattle.std.proofs.Common.{◌≡◌, ◌≢◌, ℕ, ◌<◌, eqb, not, cond, Bool, true, false, if◌then◌else◌, List, [], ◌∷◌, ◌++◌, length, filter, Option, Some, None, refl, sym, ap, ◌∙◌, append-nil, length-append, arith}
use Rattle.grb_market.proofs.Prelude.{◌&&◌, list_all, slice_split, onto_first, option_map, option_and_then, nat_tests, is_digit, is_blank, words_of, begins_blank, ends_blank, Number, number_of, numeral_of, numbers_from, numbers_of, begins_digit, behind, before, has_number, IsNumberFront, IsBlankFront, and_parts, Head, Size, size_with, size_of, entry_with, entry_of}
use Rattle.std.specs.Prelude.{◌||◌}
use Rattle.std.specs.Prelude.{Err}
use Rattle.grb_core.specs.declared.domain.Domain.TheVariants as domain
use Rattle.grb_market.specs.declared.fault.FaultKind.TheVariants as kind
use Rattle.grb_market.proofs.CanonicalLemmas.{ends_blank-append}

abbrev keep : List (List ℕ) → List (List ℕ)
keep words = filter (λ word. not (eqb (length word) 0)) words

pub digit_no_blank : (b : ℕ) → is_digit b ≡ true → is_blank b ≡ false
digit_no_blank b h = grind (arith, nat_tests)

-- the parts of a text, of which the first is there
record Parts (text : List ℕ) : Type 0 where
  pub word : List ℕ
  pub words : List (List ℕ)
  pub are : slice_split is_blank text ≡ word ∷ words

parts_by : (b : ℕ) (text : List ℕ) (t : Bool) → is_blank b ≡ t → Parts text → Parts (b ∷ text)
parts_by b text true e p = record { word = []; words = slice_split is_blank text; are = ap (λ t. cond t ([] ∷ slice_split is_blank text) (onto_first b (slice_split is_blank text))) e }
parts_by b text false e p =
    record { word = b ∷ p.word; words = p.words; are = ap (λ t. cond t ([] ∷ slice_split is_blank text) (onto_first b (slice_split is_blank text))) e ∙ ap (onto_first b) p.are }

parts : (text : List ℕ) → Parts text
parts [] = record { word = []; words = []; are = refl }
parts (b ∷ text) = parts_by b text (is_blank b) refl (parts text)

-- digits stand before the first part
digits_onto : (ds rest word : List ℕ) (words : List (List ℕ)) → list_all is_digit ds ≡ true → slice_split is_blank rest ≡ word ∷ words → slice_split is_blank (ds ++ rest) ≡ (ds ++ word) ∷ words
digits_onto [] rest word words a e = e
digits_onto (d ∷ ds) rest word words a e =
    let p = and_parts (is_digit d) (list_all is_digit ds) a in
    ap (λ t. cond t ([] ∷ slice_split is_blank (ds ++ rest)) (onto_first d (slice_split is_blank (ds ++ rest)))) (digit_no_blank d p.0) ∙ ap (onto_first d) (digits_onto ds rest word words p.1 e)

keep_long : (d : ℕ) (w : List ℕ) (ws : List (List ℕ)) → keep ((d ∷ w) ∷ ws) ≡ (d ∷ w) ∷ keep ws
keep_long d w ws = let long : eqb (length (d ∷ w)) 0 ≡ false = grind (arith, nat_tests) in ap (λ b. cond (not b) ((d ∷ w) ∷ keep ws) (keep ws)) long

-- a numeral, and a word that is none
numeral_is : (ds : List ℕ) → list_all is_digit ds ≡ true → numeral_of ds ≡ Some (number_of ds)
numeral_is ds a = ap (λ b. if b then Some (number_of ds) else None) a

no_numeral : (ds : List ℕ) (c : ℕ) (w : List ℕ) → is_digit c ≡ false → list_all is_digit (ds ++ c ∷ w) ≡ false
no_numeral [] c w h = ap (λ b. b && list_all is_digit w) h
no_numeral (d ∷ ds) c w h = by (is_digit d) (no_numeral ds c w h)
  where
    by : (b : Bool) → list_all is_digit (ds ++ c ∷ w) ≡ false → (b && list_all is_digit (ds ++ c ∷ w)) ≡ false
    by true r = r
    by false r = refl

-- the words of a text that begins with digits
words_front : (d : ℕ) (ds rest word : List ℕ) (words : List (List ℕ)) → list_all is_digit (d ∷ ds) ≡ true → slice_split is_blank rest ≡ word ∷ words → words_of ((d ∷ ds) ++ rest) ≡ ((d ∷ ds) ++ word) ∷ keep words
words_front d ds rest word words a e = ap keep (digits_onto (d ∷ ds) rest word words a e) ∙ keep_long d (ds ++ word) words

numbers_front : (d : ℕ) (ds : List ℕ) (words : List (List ℕ)) → list_all is_digit (d ∷ ds) ≡ true → numbers_from ((d ∷ ds) ∷ words) ≡ before (number_of (d ∷ ds)) (numbers_from words)
numbers_front d ds words a = ap (λ (o : Option Number). option_and_then (λ (n : Number). option_map (λ (ns : List Number). n ∷ ns) (numbers_from words)) o) (numeral_is (d ∷ ds) a)

numbers_stuck : (word : List ℕ) (words : List (List ℕ)) → list_all is_digit word ≡ false → numbers_from (word ∷ words) ≡ None
numbers_stuck word words a =
    ap (λ b. option_and_then (λ (n : Number). option_map (λ (ns : List Number). n ∷ ns) (numbers_from words)) (if b then Some (number_of word) else None)) a

-- no blank ends a text of digits
digits_end : (ds : List ℕ) → list_all is_digit ds ≡ true → ends_blank ds ≡ false
digits_end [] a = refl
digits_end (d ∷ []) a = digit_no_blank d (and_parts (is_digit d) true a).0
digits_end (d ∷ e ∷ ds) a = digits_end (e ∷ ds) (and_parts (is_digit d) (list_all is_digit (e ∷ ds)) a).1

if_none : (b : Bool) → ◌≡◌ {A = Option (List Number)} (if b then None else None) None
if_none true = refl
if_none false = refl

before_if : (b : Bool) (n : Number) (o : Option (List Number)) → (if b then None else before n o) ≡ before n (if b then None else o)
before_if true n o = refl
before_if false n o = refl

-- the numbers of a text that begins with digits
number_front : (d : ℕ) (ds rest : List ℕ) → list_all is_digit (d ∷ ds) ≡ true → begins_digit rest ≡ false → behind ((d ∷ ds) ++ rest) ≡ before (number_of (d ∷ ds)) (behind rest)
number_front d ds [] a e =
    ap (λ b. if b then None else numbers_from (words_of ((d ∷ ds) ++ []))) (ap ends_blank (append-nil (d ∷ ds)) ∙ digits_end (d ∷ ds) a)
    ∙ ap numbers_from (words_front d ds [] [] [] a refl ∙ ap (λ w. w ∷ []) (append-nil (d ∷ ds))) ∙ numbers_front d ds [] a
number_front d ds (c ∷ rest) a e = by (is_blank c) refl
  where
    ends : ends_blank ((d ∷ ds) ++ c ∷ rest) ≡ ends_blank (c ∷ rest)
    ends = ends_blank-append (d ∷ ds) (c ∷ rest) (length rest) (omega arith)

    by : (t : Bool) → is_blank c ≡ t → behind ((d ∷ ds) ++ c ∷ rest) ≡ before (number_of (d ∷ ds)) (behind (c ∷ rest))
    by true t =
        let split : slice_split is_blank (c ∷ rest) ≡ [] ∷ slice_split is_blank rest = ap (λ t. cond t ([] ∷ slice_split is_blank rest) (onto_first c (slice_split is_blank rest))) t in
        let words : words_of ((d ∷ ds) ++ c ∷ rest) ≡ (d ∷ ds) ∷ words_of rest = words_front d ds (c ∷ rest) [] (slice_split is_blank rest) a split ∙ ap (λ w. w ∷ words_of rest) (append-nil (d ∷ ds)) in
        (λ j. if ends j then None else numbers_from (words j))
        ∙ ap (λ o. if ends_blank (c ∷ rest) then None else o) (numbers_front d ds (words_of rest) a)
        ∙ before_if (ends_blank (c ∷ rest)) (number_of (d ∷ ds)) (numbers_from (words_of rest))
        ∙ ap (λ ws. before (number_of (d ∷ ds)) (if ends_blank (c ∷ rest) then None else numbers_from (keep ws))) (sym split)
    by false t =
        let p = parts rest in
        let split : slice_split is_blank (c ∷ rest) ≡ (c ∷ p.word) ∷ p.words = ap (λ t. cond t ([] ∷ slice_split is_blank rest) (onto_first c (slice_split is_blank rest))) t ∙ ap (onto_first c) p.are in
        let words : words_of ((d ∷ ds) ++ c ∷ rest) ≡ ((d ∷ ds) ++ c ∷ p.word) ∷ keep p.words = words_front d ds (c ∷ rest) (c ∷ p.word) p.words a split in
        let stuck : numbers_from (words_of ((d ∷ ds) ++ c ∷ rest)) ≡ None = ap numbers_from words ∙ numbers_stuck ((d ∷ ds) ++ c ∷ p.word) (keep p.words) (no_numeral (d ∷ ds) c p.word e) in
        let alone : numbers_from (words_of (c ∷ rest)) ≡ None = ap numbers_from (ap keep split ∙ keep_long c p.word p.words) ∙ numbers_stuck (c ∷ p.word) (keep p.words) (no_numeral [] c p.word e) in
        ap (λ o. if ends_blank ((d ∷ ds) ++ c ∷ rest) then None else o) stuck ∙ if_none (ends_blank ((d ∷ ds) ++ c ∷ rest))
        ∙ ap (before (number_of (d ∷ ds))) (sym (if_none (ends_blank (c ∷ rest))) ∙ ap (λ o. if ends_blank (c ∷ rest) then None else o) (sym alone))

pub behind_front : (text rest : List ℕ) (n : Number) → IsNumberFront text n rest → behind text ≡ before n (behind rest)
behind_front text rest n p = by p.digits p.long p.all p.are p.number
  where
    by : (ds : List ℕ) → 0 < length ds → list_all is_digit ds ≡ true → text ≡ ds ++ rest → n ≡ number_of ds → behind text ≡ before n (behind rest)
    by [] l a e i = absurd (omega arith)
    by (d ∷ ds) l a e i = ap behind e ∙ number_front d ds rest a p.ends ∙ ap (λ n. before n (behind rest)) (sym i)

-- the first number of a line
pub first_front : (line rest : List ℕ) (n : Number) → IsNumberFront line n rest → numbers_of line ≡ before n (behind rest)
first_front line rest n p = by p.digits p.long p.all p.are
  where
    by : (ds : List ℕ) → 0 < length ds → list_all is_digit ds ≡ true → line ≡ ds ++ rest → numbers_of line ≡ before n (behind rest)
    by [] l a e = absurd (omega arith)
    by (d ∷ ds) l a e =
        let first : begins_blank line ≡ false = ap begins_blank e ∙ digit_no_blank d (and_parts (is_digit d) (list_all is_digit ds) a).0 in
        ap (λ b. if b || ends_blank line then None else numbers_from (words_of line)) first ∙ behind_front line rest n p

-- a text that begins with neither a digit nor a blank has no number
none_front : (text : List ℕ) → begins_digit text ≡ false → begins_blank text ≡ false → has_number (behind text) ≡ false
none_front [] d b = refl
none_front (c ∷ text) d b =
    let p = parts text in
    let split : slice_split is_blank (c ∷ text) ≡ (c ∷ p.word) ∷ p.words = ap (λ t. cond t ([] ∷ slice_split is_blank text) (onto_first c (slice_split is_blank text))) b ∙ ap (onto_first c) p.are in
    let alone : numbers_from (words_of (c ∷ text)) ≡ None = ap numbers_from (ap keep split ∙ keep_long c p.word p.words) ∙ numbers_stuck (c ∷ p.word) (keep p.words) (no_numeral [] c p.word d) in
    ap has_number (ap (λ o. if ends_blank (c ∷ text) then None else o) alone ∙ if_none (ends_blank (c ∷ text)))

pub none_first : (line : List ℕ) → begins_digit line ≡ false → has_number (numbers_of line) ≡ false
none_first line d = by (begins_blank line) refl
  where
    by : (b : Bool) → begins_blank line ≡ b → has_number (if b || ends_blank line then None else numbers_from (words_of line)) ≡ false
    by true e = refl
    by false e = none_front line d e

-- blanks are passed over
ends_front : (b : ℕ) (bytes : List ℕ) → 0 < length bytes → ends_blank (b ∷ bytes) ≡ ends_blank bytes
ends_front b [] l = absurd (omega arith)
ends_front b (c ∷ bytes) l = refl

words_blank : (b : ℕ) (bytes : List ℕ) → is_blank b ≡ true → words_of (b ∷ bytes) ≡ words_of bytes
words_blank b bytes h = ap (λ t. keep (cond t ([] ∷ slice_split is_blank bytes) (onto_first b (slice_split is_blank bytes)))) h

behind_blanks : (bl rest : List ℕ) → list_all is_blank bl ≡ true → 0 < length rest → behind (bl ++ rest) ≡ behind rest
behind_blanks [] rest a l = refl
behind_blanks (b ∷ bl) rest a l =
    let p = and_parts (is_blank b) (list_all is_blank bl) a in
    (λ j. if ends_front b (bl ++ rest) (omega (arith, length-append bl rest)) j then None else numbers_from (words_blank b (bl ++ rest) p.0 j)) ∙ behind_blanks bl rest p.1 l

blanks_alone : (bl : List ℕ) → list_all is_blank bl ≡ true → has_number (behind bl) ≡ false
blanks_alone [] a = refl
blanks_alone (b ∷ []) a = ap (λ t. has_number (if t then None else numbers_from (words_of (b ∷ [])))) (and_parts (is_blank b) true a).0
blanks_alone (b ∷ c ∷ bl) a =
    let p = and_parts (is_blank b) (list_all is_blank (c ∷ bl)) a in
    ap (λ ws. has_number (if ends_blank (c ∷ bl) then None else numbers_from ws)) (words_blank b (c ∷ bl) p.0) ∙ blanks_alone (c ∷ bl) p.1

pub next_front : (text mid rest : List ℕ) (n : Number) → IsBlankFront text mid → IsNumberFront mid n rest → behind text ≡ before n (behind rest)
next_front text mid rest n b p =
    let long = p.long in
    ap behind b.are ∙ behind_blanks b.blanks mid b.all (omega (arith, ap length p.are, length-append p.digits rest)) ∙ behind_front mid rest n p

pub none_next : (text mid : List ℕ) → IsBlankFront text mid → begins_digit mid ≡ false → has_number (behind text) ≡ false
none_next text mid b d = ap (λ t. has_number (behind t)) b.are ∙ by mid d b.ends
  where
    by : (mid : List ℕ) → begins_digit mid ≡ false → begins_blank mid ≡ false → has_number (behind (b.blanks ++ mid)) ≡ false
    by [] d e = ap (λ t. has_number (behind t)) (append-nil b.blanks) ∙ blanks_alone b.blanks b.all
    by (c ∷ mid) d e = ap has_number (behind_blanks b.blanks (c ∷ mid) b.all (omega arith)) ∙ none_front (c ∷ mid) d e

-- what is left is not nothing
number_there : (word : List ℕ) (words : List (List ℕ)) (b t : Bool) → (if b then None else option_and_then (λ (n : Number). option_map (λ (ns : List Number). n ∷ ns) (numbers_from words)) (if t then Some (number_of word) else None)) ≢ Some []
number_there word words true t e = cc
number_there word words false false e = cc
number_there word words false true e = none_or (numbers_from words) e
  where
    none_or : (o : Option (List Number)) → option_map (λ (ns : List Number). number_of word ∷ ns) o ≢ Some []
    none_or None e = cc
    none_or (Some ns) e = cc

word_there : (c : ℕ) (rest : List ℕ) → is_blank c ≡ false → (b : Bool) → (if b then None else numbers_from (words_of (c ∷ rest))) ≢ Some []
word_there c rest q b e =
    let p = parts rest in
    let split : slice_split is_blank (c ∷ rest) ≡ (c ∷ p.word) ∷ p.words = ap (λ t. cond t ([] ∷ slice_split is_blank rest) (onto_first c (slice_split is_blank rest))) q ∙ ap (onto_first c) p.are in
    let words : words_of (c ∷ rest) ≡ (c ∷ p.word) ∷ keep p.words = ap keep split ∙ keep_long c p.word p.words in
    number_there (c ∷ p.word) (keep p.words) b (list_all is_digit (c ∷ p.word)) (sym (ap (λ ws. if b then None else numbers_from ws) words) ∙ e)

more_left : (c : ℕ) (rest : List ℕ) → behind (c ∷ rest) ≢ Some []
more_left c [] e = by (is_blank c) refl e
  where
    by : (t : Bool) → is_blank c ≡ t → (if t then None else numbers_from (words_of (c ∷ []))) ≡ Some [] → ⊥
    by true q e = cc
    by false q e = word_there c [] q false e
more_left c (d ∷ rest) e = by (more_left d rest) (is_blank c) refl
  where
    by : (behind (d ∷ rest) ≡ Some [] → ⊥) → (t : Bool) → is_blank c ≡ t → ⊥
    by r true q = r (ap (λ ws. if ends_blank (d ∷ rest) then None else numbers_from ws) (sym (words_blank c (d ∷ rest) q)) ∙ e)
    by r false q = word_there c (d ∷ rest) q (ends_blank (d ∷ rest)) e

-- how many numbers a line has
module _ (line : List ℕ) where
  two_by : (o : Option (List Number)) (i j x y : Number) → o ≢ Some [] → before i (before j o) ≢ Some (x ∷ y ∷ [])
  two_by None i j x y h e = cc
  two_by (Some []) i j x y h e = h refl
  two_by (Some (n ∷ ns)) i j x y h e = cc

  three_by : (o : Option (List Number)) (i j k x y z : Number) → o ≢ Some [] → before i (before j (before k o)) ≢ Some (x ∷ y ∷ z ∷ [])
  three_by None i j k x y z h e = cc
  three_by (Some []) i j k x y z h e = h refl
  three_by (Some (n ∷ ns)) i j k x y z h e = cc

  pub two_more : (rest : List ℕ) (i j : Number) → numbers_of line ≡ before i (before j (behind rest)) → 0 < length rest → (x y : Number) → numbers_of line ≢ Some (x ∷ y ∷ [])
  two_more [] i j e l x y f = absurd (omega arith)
  two_more (c ∷ rest) i j e l x y f = two_by (behind (c ∷ rest)) i j x y (more_left c rest) (sym e ∙ f)

  pub three_more : (rest : List ℕ) (i j k : Number) → numbers_of line ≡ before i (before j (before k (behind rest))) → 0 < length rest → (x y z : Number) → numbers_of line ≢ Some (x ∷ y ∷ z ∷ [])
  three_more [] i j k e l x y z f = absurd (omega arith)
  three_more (c ∷ rest) i j k e l x y z f = three_by (behind (c ∷ rest)) i j k x y z (more_left c rest) (sym e ∙ f)

  none_by : (o : Option (List Number)) → has_number o ≡ false → (x : Number) (ns : List Number) → o ≢ Some (x ∷ ns)
  none_by None h x ns e = cc
  none_by (Some []) h x ns e = cc
  none_by (Some (n ∷ ms)) h x ns e = cc

  one_by : (o : Option (List Number)) → has_number o ≡ false → (i x y : Number) (ns : List Number) → before i o ≢ Some (x ∷ y ∷ ns)
  one_by None h i x y ns e = cc
  one_by (Some []) h i x y ns e = cc
  one_by (Some (n ∷ ms)) h i x y ns e = cc

  pub none_of_two : has_number (numbers_of line) ≡ false → (x y : Number) (ns : List Number) → numbers_of line ≢ Some (x ∷ y ∷ ns)
  none_of_two h x y ns e = none_by (numbers_of line) h x (y ∷ ns) e

  pub one_of_two : (rest : List ℕ) (i : Number) → numbers_of line ≡ before i (behind rest) → has_number (behind rest) ≡ false → (x y : Number) (ns : List Number) → numbers_of line ≢ Some (x ∷ y ∷ ns)
  one_of_two rest i e h x y ns f = one_by (behind rest) h i x y ns (sym e ∙ f)

-- what a line with other numbers is not
size_short : (h : Head) (o : Option (List Number)) → ((i j k : Number) → o ≢ Some (i ∷ j ∷ k ∷ [])) → size_with h o ≡ Err kind.SizeLine
size_short h None n = refl
size_short h (Some []) n = refl
size_short h (Some (i ∷ [])) n = by i
  where
    by : (i : Number) → size_with h (Some (i ∷ [])) ≡ Err kind.SizeLine
    by None = refl
    by (Some i) = refl
size_short h (Some (i ∷ j ∷ [])) n = by i j
  where
    by : (i j : Number) → size_with h (Some (i ∷ j ∷ [])) ≡ Err kind.SizeLine
    by None j = refl
    by (Some i) None = refl
    by (Some i) (Some j) = refl
size_short h (Some (i ∷ j ∷ k ∷ [])) n = absurd (n i j k refl)
size_short h (Some (i ∷ j ∷ k ∷ l ∷ ns)) n = by i j k
  where
    by : (i j k : Number) → size_with h (Some (i ∷ j ∷ k ∷ l ∷ ns)) ≡ Err kind.SizeLine
    by None j k = refl
    by (Some i) None k = refl
    by (Some i) (Some j) None = refl
    by (Some i) (Some j) (Some k) = refl

pub no_size : (h : Head) (line : List ℕ) → ((i j k : Number) → numbers_of line ≢ Some (i ∷ j ∷ k ∷ [])) → Err kind.SizeLine ≡ size_of h line
no_size h line n = sym (size_short h (numbers_of line) n)

integer_short : (h : Head) (s : Size) (o : Option (List Number)) → ((i j k : Number) → o ≢ Some (i ∷ j ∷ k ∷ [])) → entry_with h domain.Uint64 s o ≡ Err kind.EntryLine
integer_short h s None n = refl
integer_short h s (Some []) n = refl
integer_short h s (Some (i ∷ [])) n = refl
integer_short h s (Some (i ∷ j ∷ [])) n = refl
integer_short h s (Some (i ∷ j ∷ k ∷ [])) n = absurd (n i j k refl)
integer_short h s (Some (i ∷ j ∷ k ∷ l ∷ ns)) n = refl

pattern_short : (h : Head) (s : Size) (o : Option (List Number)) → ((i j : Number) → o ≢ Some (i ∷ j ∷ [])) → entry_with h domain.Bool s o ≡ Err kind.EntryLine
pattern_short h s None n = refl
pattern_short h s (Some []) n = refl
pattern_short h s (Some (i ∷ [])) n = refl
pattern_short h s (Some (i ∷ j ∷ [])) n = absurd (n i j refl)
pattern_short h s (Some (i ∷ j ∷ k ∷ ns)) n = refl

pub no_integer : (h : Head) (s : Size) (line : List ℕ) → h.domain ≡ domain.Uint64 → ((i j k : Number) → numbers_of line ≢ Some (i ∷ j ∷ k ∷ [])) → Err kind.EntryLine ≡ entry_of h s line
no_integer h s line d n = sym (ap (λ d. entry_with h d s (numbers_of line)) d ∙ integer_short h s (numbers_of line) n)

pub no_pattern : (h : Head) (s : Size) (line : List ℕ) → h.domain ≡ domain.Bool → ((i j : Number) → numbers_of line ≢ Some (i ∷ j ∷ [])) → Err kind.EntryLine ≡ entry_of h s line
no_pattern h s line d n = sym (ap (λ d. entry_with h d s (numbers_of line)) d ∙ pattern_short h s (numbers_of line) n)

-- what is not empty is long
pub not_empty : (b : Bool) (n : ℕ) → b ≡ eqb n 0 → b ≡ false → 0 < n
not_empty true n e h = cc
not_empty false n e h = grind (arith, nat_tests)
