-- The first line of a text.
use Rattle.std.proofs.Common.{◌≡◌, ℕ, ◌+◌, ◌<◌, eqb, false, List, [], ◌∷◌, ◌++◌, length, take, drop, get_or, Some, None, refl, sym, ap, ◌∙◌, arith, suc, add-one, drop-cons, if◌then◌else◌}
use Rattle.std.specs.List.{All}
use Rattle.grb_market.proofs.Prelude.{false_from_ne_true, eqb-true, ne_eqb, take-append-drop, length-take, get_or-take, get_or_default, slice_split_at, slice_split_none, length-slice_split, ended, unended, lines_from, lines_of}
use Rattle.memchr.specs.Find.{IsFirstByte, is_byte}

pub lines_from-more : (piece : List ℕ) (pieces : List (List ℕ)) → 0 < length pieces → lines_from (piece ∷ pieces) ≡ ended piece ∷ lines_from pieces
lines_from-more piece [] h = absurd (omega arith)
lines_from-more piece (next ∷ more) h = refl

at_line_end : (text : List ℕ) (end : ℕ) → end < length text → get_or text end 0 ≡ 10 → text ≡ take end text ++ 10 ∷ drop (end + 1) text
at_line_end text end l e =
    sym (take-append-drop end text)
    ∙ ap (λ l. take end text ++ l) (drop-cons text end 0 l ∙ ap (λ b. b ∷ drop (suc end) text) e ∙ ap (λ n. 10 ∷ drop n text) (sym (add-one end)))

-- the first line of a text with a line end
pub lines_of-next : (text : List ℕ) (end : ℕ) → IsFirstByte (is_byte 10) text (Some end) → lines_of text ≡ ended (take end text) ∷ lines_of (drop (end + 1) text)
lines_of-next text end h =
    let front : All (λ b. eqb b 10 ≡ false) (take end text) = λ k d l.
    let below : k < end = omega (arith, length-take end text) in
    ap (λ b. eqb b 10) (get_or-take end text k d below ∙ get_or_default text k d 0 (omega (arith, h.0.high)))
    ∙ false_from_ne_true _ (h.0.before k (omega arith) below) in
    ap lines_of (at_line_end text end h.0.high (eqb-true _ _ h.1))
    ∙ ap lines_from (slice_split_at (λ b. eqb b 10) (take end text) 10 (drop (end + 1) text) front refl)
    ∙ lines_from-more (take end text) _ (omega (arith, length-slice_split (λ b. eqb b 10) (drop (end + 1) text)))

-- the lines of a text without a line end
pub lines_of-last : (text : List ℕ) → 0 < length text → IsFirstByte (is_byte 10) text None → lines_of text ≡ unended text ∷ []
lines_of-last text long h =
    let whole : All (λ b. eqb b 10 ≡ false) text = λ k d l.
    ap (λ b. eqb b 10) (get_or_default text k d 0 l) ∙ false_from_ne_true _ (h k (omega arith) l) in
    ap lines_from (slice_split_none (λ b. eqb b 10) text whole)
    ∙ ap (λ b. if b then [] else unended text ∷ []) (ne_eqb (length text) 0 (λ z. omega arith))
