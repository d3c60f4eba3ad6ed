-- Options and the words that spell them.
use Rattle.std.proofs.Common.{◌≡◌, Bool, true, false, if◌then◌else◌, cond, List, [], ◌∷◌, ◌++◌, Option, Some, None, refl, ap, ◌∙◌}
use Rattle.std.specs.Prelude.{codes}
use Rattle.std.specs.Map.{lookup}
use Rattle.std.specs.Option.{option_and_then, option_map}
use Rattle.std.specs.Str.{bytes_eq}
use Rattle.std.proofs.lemmas.Slice.Eq.{bytes_eq-Decides}
use Rattle.std.proofs.lemmas.Option.{same_Some}
use Rattle.grb_core.specs.declared.operator.BinaryOp.{BinaryOp}
use Rattle.grb_core.specs.declared.operator.BinaryOp.TheVariants.{Lor}
use Rattle.grb_words.specs.Line.{Word}
use Rattle.grb_words.specs.Word.{is_name, operators, operator_of, operator_word}
use Rattle.grb_words.specs.Options.{OptionWords, word_if, mask_words, accum_words, last_flags, options_words, IsNamed, flag, name_first, operator_first, mask_option, accum_option, where_none_left, options_of}

-- what comes of a value, where there is one
pub and_then-some : {X Y : Type 0} (f : X → Option Y) (o : Option X) (y : Y) → option_and_then f o ≡ Some y → (x : X) × (o ≡ Some x) × (f x ≡ Some y)
and_then-some f None y e = cc
and_then-some f (Some x) y e = (x, refl, e)

-- the word of an operator is the one that names it
abbrev AreWords : List (Word × BinaryOp) → Type 0
AreWords [] = Unit {0}
AreWords (entry ∷ more) = (entry.0 ≡ operator_word entry.1) × AreWords more

found-here : (b : Bool) (word key : Word) (found op : BinaryOp) (later : Option BinaryOp) → (b ≡ true → word ≡ key) → key ≡ operator_word found → (later ≡ Some op → word ≡ operator_word op)
    → cond b (Some found) later ≡ Some op → word ≡ operator_word op
found-here true word key found op later same is more e = let same_op : found ≡ op = cc in same refl ∙ is ∙ ap operator_word same_op
found-here false word key found op later same is more e = more e

found-word : (word : Word) (entries : List (Word × BinaryOp)) → AreWords entries → (op : BinaryOp) → lookup (bytes_eq word) entries ≡ Some op → word ≡ operator_word op
found-word word [] are op e = cc
found-word word (entry ∷ more) are op e =
    found-here (bytes_eq word entry.0) word entry.0 entry.1 op (lookup (bytes_eq word) more) (bytes_eq-Decides word entry.0).0 are.0 (found-word word more are.1 op) e

pub operator_of-some : (word : Word) (op : BinaryOp) → operator_of word ≡ Some op → word ≡ operator_word op
operator_of-some word op e = found-word word operators (refl, (refl, (refl, (refl, (refl, (refl, (refl, (refl, (refl, (refl, (refl, (refl, (refl, tt))))))))))))) op e

pub operator_of-word : (op : BinaryOp) → operator_of (operator_word op) ≡ Some op
operator_of-word Lor = refl
operator_of-word _ = refl

-- words by the option that they begin with
abbrev flagged : Bool → Word → List Word → Bool × List Word
flagged b first others = if b then (true, others) else (false, first ∷ others)

flagged-words : (b : Bool) (first key : Word) (others : List Word) → (b ≡ true → first ≡ key) → first ∷ others ≡ word_if (flagged b first others).0 key ++ (flagged b first others).1
flagged-words true first key others same = ap (λ word. word ∷ others) (same refl)
flagged-words false first key others same = refl

flag-words : (words : List Word) (key : Word) → words ≡ word_if (flag words key).0 key ++ (flag words key).1
flag-words [] key = refl
flag-words (first ∷ others) key = flagged-words (bytes_eq first key) first key others (bytes_eq-Decides first key).0

abbrev named : Bool → Word → List Word → Option (Option Word × List Word)
named b name others = if b then Some (Some name, others) else None

named-words : (b : Bool) (name : Word) (others : List Word) (mask : Option Word) (rest : List Word) → named b name others ≡ Some (mask, rest) → codes "mask" ∷ name ∷ others ≡ mask_words mask ++ rest
named-words true name others mask rest e =
    let is = same_Some {A = Option Word × List Word} (Some name, others) (mask, rest) e in λ j. mask_words (is j).0 ++ (is j).1
named-words false name others mask rest e = cc

abbrev masked : Bool → List Word → Option (Option Word × List Word)
masked b words = if b then name_first words else Some (None, words)

masked-words : (b : Bool) (words : List Word) (mask : Option Word) (rest : List Word) → masked b words ≡ Some (mask, rest) → word_if b (codes "mask") ++ words ≡ mask_words mask ++ rest
masked-words true [] mask rest e = cc
masked-words true (name ∷ others) mask rest e = named-words (is_name name) name others mask rest e
masked-words false words mask rest e =
    let is = same_Some {A = Option Word × List Word} (None, words) (mask, rest) e in λ j. mask_words (is j).0 ++ (is j).1

mask-words : (words : List Word) (mask : Option Word) (rest : List Word) → mask_option words ≡ Some (mask, rest) → words ≡ mask_words mask ++ rest
mask-words words mask rest e =
    let f = flag words (codes "mask") in flag-words words (codes "mask") ∙ masked-words f.0 f.1 mask rest e

abbrev operated : Option BinaryOp → List Word → Option (Option BinaryOp × List Word)
operated found others = option_map (λ op. (Some op, others)) found

operated-words : (found : Option BinaryOp) (word : Word) (others : List Word) (accum : Option BinaryOp) (rest : List Word) → ((op : BinaryOp) → found ≡ Some op → word ≡ operator_word op)
    → operated found others ≡ Some (accum, rest) → codes "accum" ∷ word ∷ others ≡ accum_words accum ++ rest
operated-words None word others accum rest is e = cc
operated-words (Some op) word others accum rest is e =
    let same = same_Some {A = Option BinaryOp × List Word} (Some op, others) (accum, rest) e in ap (λ w. codes "accum" ∷ w ∷ others) (is op refl) ∙ (λ j. accum_words (same j).0 ++ (same j).1)

abbrev accumulated : Bool → List Word → Option (Option BinaryOp × List Word)
accumulated b words = if b then operator_first words else Some (None, words)

accumulated-words : (b : Bool) (words : List Word) (accum : Option BinaryOp) (rest : List Word) → accumulated b words ≡ Some (accum, rest) → word_if b (codes "accum") ++ words ≡ accum_words accum ++ rest
accumulated-words true [] accum rest e = cc
accumulated-words true (word ∷ others) accum rest e = operated-words (operator_of word) word others accum rest (operator_of-some word) e
accumulated-words false words accum rest e =
    let is = same_Some {A = Option BinaryOp × List Word} (None, words) (accum, rest) e in λ j. accum_words (is j).0 ++ (is j).1

accum-words : (words : List Word) (accum : Option BinaryOp) (rest : List Word) → accum_option words ≡ Some (accum, rest) → words ≡ accum_words accum ++ rest
accum-words words accum rest e =
    let f = flag words (codes "accum") in flag-words words (codes "accum") ∙ accumulated-words f.0 f.1 accum rest e

-- no word is left
left-none : (words : List Word) (flags : Bool × Bool × Bool) (f : Bool × Bool × Bool → OptionWords) (o : OptionWords) → option_map f (where_none_left words flags) ≡ Some o → (words ≡ []) × (f flags ≡ o)
left-none [] flags f o e = (refl, (cc))
left-none (word ∷ more) flags f o e = cc

-- the options behind the accumulator, and those behind the mask
abbrev with_flags : Option Word → Bool → Bool → Option BinaryOp → Bool × Bool × Bool → OptionWords
with_flags mask structure comp accum last = record { mask = mask; accum = accum; descriptor = record { structure = structure; comp = comp; replace = last.0; tran = last.1; tran1 = last.2 } }

abbrev behind_accum : Option Word → Bool → Bool → Option BinaryOp × List Word → Option OptionWords
behind_accum mask structure comp accum = option_map (with_flags mask structure comp accum.0) (last_flags accum.1)

abbrev behind_mask : Option Word × List Word → Option OptionWords
behind_mask mask =
    let structure = flag mask.1 (codes "structure") in
    let comp = flag structure.1 (codes "comp") in
    option_and_then (behind_accum mask.0 structure.0 comp.0) (accum_option comp.1)

pub options_are_spelled : (words : List Word) (o : OptionWords) → options_of words ≡ Some o → words ≡ options_words o
options_are_spelled words o e =
    let mask = and_then-some behind_mask (mask_option words) o e in
    let structure = flag mask.0.1 (codes "structure") in
    let comp = flag structure.1 (codes "comp") in
    let accum = and_then-some (behind_accum mask.0.0 structure.0 comp.0) (accum_option comp.1) o mask.2 in
    let replace = flag accum.0.1 (codes "replace") in
    let tran = flag replace.1 (codes "tran") in
    let tran1 = flag tran.1 (codes "tran1") in
    let end = left-none tran1.1 (replace.0, tran.0, tran1.0) (with_flags mask.0.0 structure.0 comp.0 accum.0.0) o accum.2 in
    mask-words words mask.0.0 mask.0.1 mask.1
    ∙ ap (λ rest. mask_words mask.0.0 ++ rest)
    (flag-words mask.0.1 (codes "structure")
    ∙ ap (λ rest. word_if structure.0 (codes "structure") ++ rest)
    (flag-words structure.1 (codes "comp")
    ∙ ap (λ rest. word_if comp.0 (codes "comp") ++ rest)
    (accum-words comp.1 accum.0.0 accum.0.1 accum.1
    ∙ ap (λ rest. accum_words accum.0.0 ++ rest) (flag-words accum.0.1 (codes "replace") ∙ ap (λ rest. word_if replace.0 (codes "replace") ++ rest)
    (flag-words replace.1 (codes "tran") ∙ ap (λ rest. word_if tran.0 (codes "tran") ++ rest)
    (flag-words tran.1 (codes "tran1") ∙ ap (λ rest. word_if tran1.0 (codes "tran1") ++ rest) end.0 ∙ last_word tran1.0 (codes "tran1")))))))
    ∙ ap options_words end.1
  where
    last_word : (b : Bool) (word : Word) → word_if b word ++ [] ≡ word_if b word
    last_word true word = refl
    last_word false word = refl

-- the words of one option and of those behind it, as they are read
same_word : (word : Word) → bytes_eq word word ≡ true
same_word word = (bytes_eq-Decides word word).1 refl

flag-given : (b : Bool) (key : Word) (rest : List Word) → flag rest key ≡ (false, rest) → flag (word_if b key ++ rest) key ≡ (b, rest)
flag-given true key rest absent = ap (λ b. if b then (true, rest) else (false, key ∷ rest)) (same_word key)
flag-given false key rest absent = absent

module _ (replace tran tran1 : Bool) where
  abbrev last : List Word
  last = word_if replace (codes "replace") ++ (word_if tran (codes "tran") ++ word_if tran1 (codes "tran1"))

  module _ (accum : Option BinaryOp) where
    abbrev from_accum : List Word
    from_accum = accum_words accum ++ last

    module _ (comp : Bool) where
      abbrev from_comp : List Word
      from_comp = word_if comp (codes "comp") ++ from_accum

      module _ (structure : Bool) where
        abbrev from_structure : List Word
        from_structure = word_if structure (codes "structure") ++ from_comp

no_comp : (replace tran tran1 : Bool) (accum : Option BinaryOp) → flag (from_accum replace tran tran1 accum) (codes "comp") ≡ (false, from_accum replace tran tran1 accum)
no_comp true tran tran1 None = refl
no_comp false true tran1 None = refl
no_comp false false true None = refl
no_comp false false false None = refl
no_comp replace tran tran1 (Some op) = refl

no_structure : (replace tran tran1 : Bool) (accum : Option BinaryOp) (comp : Bool) → flag (from_comp replace tran tran1 accum comp) (codes "structure") ≡ (false, from_comp replace tran tran1 accum comp)
no_structure true tran tran1 None false = refl
no_structure false true tran1 None false = refl
no_structure false false true None false = refl
no_structure false false false None false = refl
no_structure replace tran tran1 (Some op) false = refl
no_structure replace tran tran1 accum true = refl

mask-read : (mask : Option Word) (replace tran tran1 : Bool) (accum : Option BinaryOp) (comp structure : Bool) → IsNamed mask
    → mask_option (mask_words mask ++ from_structure replace tran tran1 accum comp structure) ≡ Some (mask, from_structure replace tran tran1 accum comp structure)
mask-read (Some name) replace tran tran1 accum comp structure is =
    ap (λ b. if b then Some (Some name, from_structure replace tran tran1 accum comp structure) else None) is
mask-read None replace tran tran1 accum comp true is = refl
mask-read None replace tran tran1 accum true false is = refl
mask-read None replace tran tran1 (Some op) false false is = refl
mask-read None true tran tran1 None false false is = refl
mask-read None false true tran1 None false false is = refl
mask-read None false false true None false false is = refl
mask-read None false false false None false false is = refl

accum-read : (replace tran tran1 : Bool) (accum : Option BinaryOp) → accum_option (from_accum replace tran tran1 accum) ≡ Some (accum, last replace tran tran1)
accum-read replace tran tran1 (Some op) = ap (option_map (λ op. (Some op, last replace tran tran1))) (operator_of-word op)
accum-read true tran tran1 None = refl
accum-read false true tran1 None = refl
accum-read false false true None = refl
accum-read false false false None = refl

flag-replace : (replace tran tran1 : Bool) → flag (last replace tran tran1) (codes "replace") ≡ (replace, word_if tran (codes "tran") ++ word_if tran1 (codes "tran1"))
flag-replace true tran tran1 = refl
flag-replace false true tran1 = refl
flag-replace false false true = refl
flag-replace false false false = refl

flag-tran : (tran tran1 : Bool) → flag (word_if tran (codes "tran") ++ word_if tran1 (codes "tran1")) (codes "tran") ≡ (tran, word_if tran1 (codes "tran1"))
flag-tran true tran1 = refl
flag-tran false true = refl
flag-tran false false = refl

flag-tran1 : (tran1 : Bool) → flag (word_if tran1 (codes "tran1")) (codes "tran1") ≡ (tran1, [])
flag-tran1 true = refl
flag-tran1 false = refl

-- the options by the words behind the last flags, behind 'tran' and behind 'replace'
module _ (with : Bool × Bool × Bool → OptionWords) where
  abbrev with_last : List Word → Bool × Bool × Bool → Option OptionWords
  with_last words last = option_map with (where_none_left words last)

  abbrev behind_tran : Bool → Bool × List Word → Option OptionWords
  behind_tran replace t = let tran1 = flag t.1 (codes "tran1") in with_last tran1.1 (replace, t.0, tran1.0)

  abbrev behind_replace : Bool × List Word → Option OptionWords
  behind_replace r = behind_tran r.0 (flag r.1 (codes "tran"))

pub spelled_options_are_read : (o : OptionWords) → IsNamed o.mask → options_of (options_words o) ≡ Some o
spelled_options_are_read o is =
    let structure = o.descriptor.structure in
    let comp = o.descriptor.comp in
    let replace = o.descriptor.replace in
    let tran = o.descriptor.tran in
    let tran1 = o.descriptor.tran1 in
    ap (option_and_then behind_mask) (mask-read o.mask replace tran tran1 o.accum comp structure is)
    ∙ ap (λ (s : Bool × List Word). option_and_then (behind_accum o.mask s.0 (flag s.1 (codes "comp")).0) (accum_option (flag s.1 (codes "comp")).1))
    (flag-given structure (codes "structure") (from_comp replace tran tran1 o.accum comp) (no_structure replace tran tran1 o.accum comp))
    ∙ ap (λ (c : Bool × List Word). option_and_then (behind_accum o.mask structure c.0) (accum_option c.1))
    (flag-given comp (codes "comp") (from_accum replace tran tran1 o.accum) (no_comp replace tran tran1 o.accum))
    ∙ ap (option_and_then (behind_accum o.mask structure comp)) (accum-read replace tran tran1 o.accum)
    ∙ ap (behind_replace (with_flags o.mask structure comp o.accum)) (flag-replace replace tran tran1)
    ∙ ap (behind_tran (with_flags o.mask structure comp o.accum) replace) (flag-tran tran tran1)
    ∙ ap (λ (t : Bool × List Word). with_last (with_flags o.mask structure comp o.accum) t.1 (replace, tran, t.0)) (flag-tran1 tran1)
