-- Semirings and the words that spell them.
use Rattle.std.proofs.Common.{◌≡◌, ℕ, ◌+◌, ◌<◌, zero, suc, add-one, eqb, Bool, true, false, if◌then◌else◌, cond, List, [], ◌∷◌, ◌++◌, length, take, drop, get_or, Option, Some, None, refl, sym, ap, ◌∙◌, arith}
use Rattle.std.specs.Map.{lookup}
use Rattle.std.specs.Option.{option_and_then, option_map}
use Rattle.std.specs.Str.{bytes_eq}
use Rattle.std.proofs.lemmas.Bool.{false_from_ne_true, eqb-true}
use Rattle.std.proofs.lemmas.Slice.Eq.{bytes_eq-Decides}
use Rattle.std.proofs.lemmas.Option.{same_Some}
use Rattle.memchr.specs.Find.{IsFirstByte, is_byte}
use Rattle.grb_core.specs.declared.monoid.Monoid.{Monoid}
use Rattle.grb_core.specs.declared.monoid.Monoid.TheVariants.{Lor}
use Rattle.grb_core.specs.declared.operator.BinaryOp.{BinaryOp}
use Rattle.grb_words.specs.Line.{Word}
use Rattle.grb_words.specs.Word.{monoids, monoid_of, monoid_word, operator_of, operator_word, at_dot, semiring_of, semiring_word}
use Rattle.grb_words.proofs.OptionLemmas.{and_then-some, operator_of-some, operator_of-word}

-- the parts of a word behind one more byte
abbrev parts_behind : ℕ → Bool → Word → Option (Word × Word) → Option (Word × Word)
parts_behind b is_dot bs parts = if is_dot then Some ([], bs) else option_map (λ parts. (b ∷ parts.0, parts.1)) parts

-- the parts at a place where the first '.' stands
pub at_dot-some : (word : Word) (dot : ℕ) → dot < length word → eqb (get_or word dot 0) 46 ≡ true → ((k : ℕ) → k < dot → eqb (get_or word k 0) 46 ≡ false)
    → at_dot word ≡ Some (take dot word, drop (suc dot) word)
at_dot-some [] dot l e before = absurd (omega arith)
at_dot-some (b ∷ bs) zero l e before = ap (λ t. parts_behind b t bs (at_dot bs)) e
at_dot-some (b ∷ bs) (suc dot) l e before =
    ap (λ t. parts_behind b t bs (at_dot bs)) (before 0 (omega arith))
    ∙ ap (parts_behind b false bs) (at_dot-some bs dot (omega arith) e (λ k h. before (suc k) (omega arith)))

-- a word without a '.' has no parts
pub at_dot-none : (word : Word) → ((k : ℕ) → k < length word → eqb (get_or word k 0) 46 ≡ false) → at_dot word ≡ None
at_dot-none [] none = refl
at_dot-none (b ∷ bs) none =
    ap (λ t. parts_behind b t bs (at_dot bs)) (none 0 (omega arith)) ∙ ap (parts_behind b false bs) (at_dot-none bs (λ k h. none (suc k) (omega arith)))

-- the same of what a search finds
pub at_dot-found : (word : Word) (dot : ℕ) → IsFirstByte (is_byte 46) word (Some dot) → at_dot word ≡ Some (take dot word, drop (dot + 1) word)
at_dot-found word dot h =
    at_dot-some word dot h.0.high h.1 (λ k l. false_from_ne_true _ (h.0.before k (omega arith) l)) ∙ ap (λ n. Some (take dot word, drop n word)) (sym (add-one dot))

pub at_dot-absent : (word : Word) → IsFirstByte (is_byte 46) word None → at_dot word ≡ None
at_dot-absent word h = at_dot-none word (λ k l. false_from_ne_true _ (h k (omega arith) l))

-- a word by its parts
joined-behind : (b : ℕ) (is_dot : Bool) (bs : Word) (found : Option (Word × Word)) (parts : Word × Word) → (is_dot ≡ true → b ≡ 46)
    → ((behind : Word × Word) → found ≡ Some behind → bs ≡ behind.0 ++ 46 ∷ behind.1) → parts_behind b is_dot bs found ≡ Some parts → b ∷ bs ≡ parts.0 ++ 46 ∷ parts.1
joined-behind b true bs found parts is behind e =
    let same = same_Some {A = Word × Word} ([], bs) parts e in ap (λ b. b ∷ bs) (is refl) ∙ ap (λ (p : Word × Word). p.0 ++ 46 ∷ p.1) same
joined-behind b false bs None parts is behind e = cc
joined-behind b false bs (Some found) parts is behind e =
    let same = same_Some {A = Word × Word} (b ∷ found.0, found.1) parts e in ap (λ bs. b ∷ bs) (behind found refl) ∙ ap (λ (p : Word × Word). p.0 ++ 46 ∷ p.1) same

joined : (word : Word) (parts : Word × Word) → at_dot word ≡ Some parts → word ≡ parts.0 ++ 46 ∷ parts.1
joined [] parts e = cc
joined (b ∷ bs) parts e = joined-behind b (eqb b 46) bs (at_dot bs) parts (eqb-true b 46) (joined bs) e

-- the word of a monoid is the one that names it
abbrev AreWords : List (Word × Monoid) → Type 0
AreWords [] = Unit {0}
AreWords (entry ∷ more) = (entry.0 ≡ monoid_word entry.1) × AreWords more

found-here : (b : Bool) (word key : Word) (found m : Monoid) (later : Option Monoid) → (b ≡ true → word ≡ key) → key ≡ monoid_word found → (later ≡ Some m → word ≡ monoid_word m)
    → cond b (Some found) later ≡ Some m → word ≡ monoid_word m
found-here true word key found m later same is more e = let same_monoid : found ≡ m = cc in same refl ∙ is ∙ ap monoid_word same_monoid
found-here false word key found m later same is more e = more e

found-word : (word : Word) (entries : List (Word × Monoid)) → AreWords entries → (m : Monoid) → lookup (bytes_eq word) entries ≡ Some m → word ≡ monoid_word m
found-word word [] are m e = cc
found-word word (entry ∷ more) are m e =
    found-here (bytes_eq word entry.0) word entry.0 entry.1 m (lookup (bytes_eq word) more) (bytes_eq-Decides word entry.0).0 are.0 (found-word word more are.1 m) e

monoid_of-some : (word : Word) (m : Monoid) → monoid_of word ≡ Some m → word ≡ monoid_word m
monoid_of-some word m e = found-word word monoids (refl, (refl, (refl, (refl, (refl, (refl, (refl, (refl, tt)))))))) m e

paired : (m : Monoid) (found : Option BinaryOp) (n : Monoid) (f : BinaryOp) → option_map {U = Monoid × BinaryOp} (λ f. (m, f)) found ≡ Some (n, f) → (m ≡ n) × (found ≡ Some f)
paired m None n f e = cc
paired m (Some g) n f e =
    let same = same_Some {A = Monoid × BinaryOp} (m, g) (n, f) e in (ap (λ (p : Monoid × BinaryOp). p.0) same, ap (λ (p : Monoid × BinaryOp). Some p.1) same)

abbrev of_parts : Word × Word → Option (Monoid × BinaryOp)
of_parts parts = option_and_then (λ m. option_map (λ f. (m, f)) (operator_of parts.1)) (monoid_of parts.0)

pub semirings_are_spelled : (word : Word) (m : Monoid) (f : BinaryOp) → semiring_of word ≡ Some (m, f) → word ≡ semiring_word m f
semirings_are_spelled word m f e =
    let parts = and_then-some of_parts (at_dot word) (m, f) e in
    let add = and_then-some (λ m. option_map {U = Monoid × BinaryOp} (λ f. (m, f)) (operator_of parts.0.1)) (monoid_of parts.0.0) (m, f) parts.2 in
    let both = paired add.0 (operator_of parts.0.1) m f add.2 in
    joined word parts.0 parts.1
    ∙ (λ j. monoid_of-some parts.0.0 add.0 add.1 j ++ 46 ∷ operator_of-some parts.0.1 f both.1 j) ∙ ap (λ m. semiring_word m f) both.0

-- the parts of the word of a semiring
at_dot-word : (m : Monoid) (word : Word) → at_dot (monoid_word m ++ 46 ∷ word) ≡ Some (monoid_word m, word)
at_dot-word Lor word = refl
at_dot-word _ word = refl

monoid_of-word : (m : Monoid) → monoid_of (monoid_word m) ≡ Some m
monoid_of-word Lor = refl
monoid_of-word _ = refl

pub spelled_semirings_are_read : (m : Monoid) (f : BinaryOp) → semiring_of (semiring_word m f) ≡ Some (m, f)
spelled_semirings_are_read m f =
    ap (option_and_then of_parts) (at_dot-word m (operator_word f)) ∙ ap (option_and_then (λ m. option_map {U = Monoid × BinaryOp} (λ f. (m, f)) (operator_of (operator_word f)))) (monoid_of-word m)
    ∙ ap (option_map {U = Monoid × BinaryOp} (λ f. (m, f))) (operator_of-word f)
