-- When words tell a name and a path.
use Rattle.std.proofs.Common.{◌≡◌, Bool, true, false, ◌&&◌, if◌then◌else◌, List, [], ◌∷◌, length, get_or, Some, None, Bor, ℕ, refl, sym, arith}
use Rattle.std.proofs.lemmas.Str.{IsUtf8-from_is_utf8, is_utf8-from_IsUtf8}
use Rattle.std.specs.Str.{IsUtf8, is_utf8}
use Rattle.grb_words.specs.Word.{is_name}
use Rattle.grb_words.specs.Form.{load_of}
use Rattle.grb_words.proofs.IndicesLemmas.{no_word}
use Rattle.grb_words.proofs.TupleLemmas.{now_of}

without_text : {X : Type 0} (name text : Bool) (x : X) → (text ≡ true → ⊥) → None ≡ (if name && text then Some x else None)
without_text true true x not_text = absurd (not_text refl)
without_text true false x not_text = refl
without_text false text x not_text = refl

-- three words of which the second is a name and the third a text
pub load_of-read : (words : List (Bor (List ℕ))) → length words ≡ 3 → is_name (get_or words 1 no_word).now ≡ true → IsUtf8 (get_or words 2 no_word).now
    → Some ((get_or words 1 no_word).now, (get_or words 2 no_word).now) ≡ load_of (now_of words)
load_of-read [] l n u = absurd (omega arith)
load_of-read (a ∷ []) l n u = absurd (omega arith)
load_of-read (a ∷ b ∷ []) l n u = absurd (omega arith)
load_of-read (a ∷ b ∷ c ∷ []) l n u = λ j. if sym n j && sym (is_utf8-from_IsUtf8 c.now u) j then Some (b.now, c.now) else None
load_of-read (a ∷ b ∷ c ∷ d ∷ more) l n u = absurd (omega arith)

-- three words of which the third is no text
pub load_of-unread : (words : List (Bor (List ℕ))) → length words ≡ 3 → (IsUtf8 (get_or words 2 no_word).now → ⊥) → None ≡ load_of (now_of words)
load_of-unread [] l not_text = absurd (omega arith)
load_of-unread (a ∷ []) l not_text = absurd (omega arith)
load_of-unread (a ∷ b ∷ []) l not_text = absurd (omega arith)
load_of-unread (a ∷ b ∷ c ∷ []) l not_text = without_text (is_name b.now) (is_utf8 c.now) (b.now, c.now) (λ text. not_text (IsUtf8-from_is_utf8 c.now text))
load_of-unread (a ∷ b ∷ c ∷ d ∷ more) l not_text = absurd (omega arith)
