-- What ties the parts of a seat stays so at each step.
use Rattle.std.proofs.Common.{◌≡◌, ℕ, ◌+◌, ◌^◌, ◌<◌, ◌≤◌, List, [], ◌∷◌, ◌++◌, length, get_or, drop, append_assoc, sym, refl, ap, ◌∙◌, subst, arith, length-append}
use mathlib.Core.Logic.{dite}
use native.Mathlib.Decide.{dec_le}
use Rattle.std.specs.List.{All}
use Rattle.std.proofs.lemmas.List.{get_or_at, append-nil, drop_all, drop_more, length_push}
use Rattle.std.proofs.lemmas.List.Prefix.{front_rest}
use Rattle.std.proofs.lemmas.List.Elements.{All-push}
use Rattle.grb_order.specs.Word.{order_word, IsWord, StartsWith}
use Rattle.grb_order.specs.View.{learns, finds_vacant, enters_word, is_told, IsOthers, IsSound, LookedLast}
use Rattle.grb_order.specs.Seat.{IsSeatWith}
use Rattle.grb_order.specs.declared.view.View.{View}
use Rattle.grb_order.specs.declared.standing.Standing.{Standing}
use Rattle.grb_order.proofs.Rows.{positions-others, positions-own, own_word}

pub sound_learns : (room : ℕ) (v : View) (x : ℕ) → length v.words < room → IsSound room v → IsOthers v x → IsSound room (learns v x)
sound_learns room v x near s other = record {
  number = s.number;
  few = omega (arith, length-append v.words (x ∷ []));
  words = All-push (IsWord v.passes) v.words x s.words other.0;
  own = positions-others v.number x v.words other.1 ∙ s.own;
  looks = s.looks;
}

pub sound_vacant : (room : ℕ) (v : View) → length v.words < room → IsSound room v → IsSound room (finds_vacant v)
sound_vacant room v near s = record {
  number = s.number;
  few = s.few;
  words = s.words;
  own = s.own;
  looks = All-push (λ n. n < room) v.looks (length v.words) s.looks near;
}

pub sound_enters : (room : ℕ) (v : View) (index : ℕ) → index < 2 ^ 48 → length v.words < room → IsSound room v → IsSound room (enters_word v (order_word v.number index))
sound_enters room v index small near s =
    let x : ℕ = order_word v.number index in let own = own_word v.passes v.number index s.number small in record {
      number = s.number;
      few = omega (arith, length-append v.words (x ∷ []));
      words = All-push (IsWord v.passes) v.words x s.words own.0;
      own = positions-own v.number x v.words own.1 ∙ ap (λ (l : List ℕ). l ++ length v.words ∷ []) s.own;
      looks = s.looks;
    }

-- the last look was within the row
pub within : (room : ℕ) (v : View) → All (λ n. n < room) v.looks → LookedLast v → length v.words < room
within room v all last =
    let earlier : List ℕ = last.0 in
    let at : length earlier < length (earlier ++ length v.words ∷ []) = omega (arith, length-append earlier (length v.words ∷ [])) in
    let all' : All (λ n. n < room) (earlier ++ length v.words ∷ []) = subst (All (λ n. n < room)) last.1 all in
    subst (λ (n : ℕ). n < room) (get_or_at earlier (length v.words) [] 0 (length earlier) refl) (all' (length earlier) 0 at)

module _ (tag size room : ℕ) (words : List ℕ) (capacity : ℕ) (v : Standing) (p : IsSeatWith tag size room words capacity v) (near : length v.view.words < room) where
  pub seated_vacant : IsSeatWith tag size room words capacity (record v { view = finds_vacant v.view })
  seated_vacant = record {
    role = p.role;
    number_is = p.number_is;
    size_is = p.size_is;
    small = p.small;
    passes = p.passes;
    words_are = p.words_are;
    roomy = p.roomy;
    sound = sound_vacant room v.view near p.sound;
  }

  pub seated_learns : (x : ℕ) → IsOthers v.view x → IsSeatWith tag size room (words ++ x ∷ []) capacity (record v { view = learns v.view x })
  seated_learns x other = record {
    role = p.role;
    number_is = p.number_is;
    size_is = p.size_is;
    small = p.small;
    passes = p.passes;
    words_are = ap (λ (l : List ℕ). l ++ x ∷ []) p.words_are;
    roomy = p.roomy;
    sound = sound_learns room v.view x near p.sound other;
  }

  pub seated_enters : (index : ℕ) → index < 2 ^ 48 → IsSeatWith tag size room (words ++ order_word v.view.number index ∷ []) capacity (record v { view = enters_word v.view (order_word v.view.number index) })
  seated_enters index small = let x : ℕ = order_word v.view.number index in record {
    role = p.role;
    number_is = p.number_is;
    size_is = p.size_is;
    small = p.small;
    passes = p.passes;
    words_are = ap (λ (l : List ℕ). l ++ x ∷ []) p.words_are;
    roomy = p.roomy;
    sound = sound_enters room v.view index small near p.sound;
  }

pub moved : (tag size room room' : ℕ) (words words' : List ℕ) (capacity capacity' : ℕ) (v v' : Standing) → room' ≡ room → words' ≡ words → capacity' ≡ capacity → v' ≡ v → IsSeatWith tag size room words capacity v → IsSeatWith tag size room' words' capacity' v'
moved tag size room room' words words' capacity capacity' v v' same_room same_words same_capacity same p =
    subst (λ (y : ℕ × List ℕ × ℕ × Standing). IsSeatWith tag size y.0 y.1 y.2 y.3) (λ k. (sym same_room k, sym same_words k, sym same_capacity k, sym same k)) p

under : (m n : ℕ) → ¬ (m ≤ n) → n ≤ m
under m n more = omega arith

abbrev with_words : View → List ℕ → View
with_words v words = record v { words = words }

-- a word that was told is learnt, and what is still to be told is less by it
pub is_told-learns : (v : View) (words : List ℕ) (x : ℕ) → length v.words < length words → x ≡ get_or words (length v.words) 0 → is_told (learns v x) words ≡ is_told v words
is_told-learns v words x lt is =
    let n : ℕ = length v.words in
    let all : (v.words ++ x ∷ []) ++ drop (length (v.words ++ x ∷ [])) words ≡ v.words ++ drop n words
    = (λ k. (v.words ++ x ∷ []) ++ drop (length_push v.words x k) words) ∙ append_assoc v.words (x ∷ []) (drop (n + 1) words)
    ∙ ap (λ (y : ℕ). v.words ++ y ∷ drop (n + 1) words) is ∙ ap (λ (l : List ℕ). v.words ++ l) (sym (drop_more words n 0 lt)) in
    ap (λ (l : List ℕ). with_words v l) all

-- nothing is left to be told
pub is_told-all : (v : View) (words : List ℕ) → length words ≤ length v.words → is_told v words ≡ v
is_told-all v words le = ap (λ (l : List ℕ). with_words v l) (ap (λ (l : List ℕ). v.words ++ l) (drop_all (length v.words) words le) ∙ append-nil v.words)

pub known_told : (v : View) (words : List ℕ) → (length words ≤ length v.words → StartsWith v.words words) → (length v.words ≤ length words → StartsWith words v.words) → StartsWith (is_told v words).words words
known_told v words long short =
    dite (dec_le (length words) (length v.words))
    (λ (le : length words ≤ length v.words).
    let t : StartsWith v.words words = long le in
    (t.0, ap (λ (l : List ℕ). v.words ++ l) (drop_all (length v.words) words le) ∙ append-nil v.words ∙ t.1))
    (λ (more : ¬ (length words ≤ length v.words)).
    let t : StartsWith words v.words = short (under (length words) (length v.words) more) in
    ([], ap (λ (l : List ℕ). v.words ++ l) (front_rest words v.words t.0 t.1) ∙ sym t.1 ∙ sym (append-nil words)))
