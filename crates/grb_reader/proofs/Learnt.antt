-- One piece of learning after another.
use Rattle.std.proofs.Common.{◌≡◌, ◌≢◌, ℕ, ◌<◌, ◌≤◌, List, [], ◌∷◌, ◌++◌, length, drop, refl, sym, ap, ◌∙◌, subst, arith, append_assoc}
use Rattle.grb_reader.proofs.Prelude.{append-nil, All-append, All-cons, All-nil, All-push, number_of, StartsWith, learns, finds_vacant, enters_word, is_told, View, Shown, IsOf, Entry, History, Shared, Knowing, known, spelled, IsOfOthers, IsOfPasses, IsPassOf, Learns, IsNextUnshown}
use Rattle.std.specs.List.{All}
use Rattle.grb_reader.specs.Point.{Grows}
use Rattle.grb_reader.proofs.Spelling.{spelled_push, spelled_more, length_spelled}

starts_refl : (xs : List ℕ) → StartsWith xs xs
starts_refl xs = ([], sym (append-nil xs))

starts_then : (xs ys zs : List ℕ) → StartsWith ys xs → StartsWith zs ys → StartsWith zs xs
starts_then xs ys zs a b = (a.0 ++ b.0, b.1 ∙ ap (λ (l : List ℕ). l ++ b.0) a.1 ∙ append_assoc xs a.0 b.0)

pub grows_refl : (v : View) → Grows v v
grows_refl v = record { number = refl; passes = refl; words = starts_refl v.words; own = starts_refl v.own; looks = starts_refl v.looks }

pub grows_then : (u v w : View) → Grows u v → Grows v w → Grows u w
grows_then u v w a b = record {
  number = b.number ∙ a.number;
  passes = b.passes ∙ a.passes;
  words = starts_then u.words v.words w.words a.words b.words;
  own = starts_then u.own v.own w.own a.own b.own;
  looks = starts_then u.looks v.looks w.looks a.looks b.looks;
}

grows_is : (u v w : View) → w ≡ v → Grows u v → Grows u w
grows_is u v w is grown = subst (Grows u) (sym is) grown

grows_learns : (v : View) (word : ℕ) → Grows v (learns v word)
grows_learns v word = record { number = refl; passes = refl; words = (word ∷ [], refl); own = starts_refl v.own; looks = starts_refl v.looks }

grows_told : (v : View) (words : List ℕ) → Grows v (is_told v words)
grows_told v words = record { number = refl; passes = refl; words = (drop (length v.words) words, refl); own = starts_refl v.own; looks = starts_refl v.looks }

grows_vacant : (v : View) → Grows v (finds_vacant v)
grows_vacant v = record { number = refl; passes = refl; words = starts_refl v.words; own = starts_refl v.own; looks = (length v.words ∷ [], refl) }

pub grows_enters : (v w : View) (word : ℕ) → w ≡ enters_word v word → Grows v w
grows_enters v w word is = grows_is v (enters_word v word) w is (record { number = refl; passes = refl; words = (word ∷ [], refl); own = (length v.words ∷ [], refl); looks = starts_refl v.looks })

-- nothing more is known, since no record was shown
module _ (p q : Knowing) (few : length p.shown ≤ length p.view.words) (shown : q.shown ≡ p.shown) (statuses : q.statuses ≡ p.statuses) (settled : q.settled ≡ p.settled) where
  unshown : (v : View) → q.view ≡ v → Grows p.view v → v.own ≡ p.view.own → spelled v.words p.shown ≡ known p → Learns p q
  unshown v is grown own same = record {
    grown = grows_is p.view v q.view is grown;
    own = ap (λ (w : View). w.own) is ∙ own;
    learnt = [];
    known_is = (λ i. spelled (is i).words (shown i)) ∙ same ∙ sym (append-nil (known p));
    others = All-nil (λ e. e.0 ≢ p.view.number);
    passes = All-nil (λ e. e.0 < p.view.passes);
    statuses = statuses;
    settled = settled;
  }

  -- a word of others was learnt, whose record was not shown yet
  pub learns_word : (word : ℕ) → q.view ≡ learns p.view word → Learns p q
  learns_word word is = unshown (learns p.view word) is (grows_learns p.view word) refl (spelled_more p.view.words (word ∷ []) p.shown few)

  -- the words of another seat were told, whose records were not shown yet
  pub learns_told : (words : List ℕ) → q.view ≡ is_told p.view words → Learns p q
  learns_told words is = unshown (is_told p.view words) is (grows_told p.view words) refl (spelled_more p.view.words (drop (length p.view.words) words) p.shown few)

  pub learns_vacant : q.view ≡ finds_vacant p.view → Learns p q
  learns_vacant is = unshown (finds_vacant p.view) is (grows_vacant p.view) refl refl

  pub learns_same : q.view ≡ p.view → Learns p q
  learns_same is = unshown p.view is (grows_refl p.view) refl refl

pub learns_refl : (p : Knowing) → Learns p p
learns_refl p = record {
  grown = grows_refl p.view;
  own = refl;
  learnt = [];
  known_is = sym (append-nil (known p));
  others = All-nil (λ e. e.0 ≢ p.view.number);
  passes = All-nil (λ e. e.0 < p.view.passes);
  statuses = refl;
  settled = refl;
}

pub learns_then : (a b c : Knowing) → Learns a b → Learns b c → Learns a c
learns_then a b c first next = record {
  grown = grows_then a.view b.view c.view first.grown next.grown;
  own = next.own ∙ first.own;
  learnt = first.learnt ++ next.learnt;
  known_is = next.known_is ∙ ap (λ (h : History). h ++ next.learnt) first.known_is ∙ append_assoc (known a) first.learnt next.learnt;
  others = All-append (λ e. e.0 ≢ a.view.number) first.learnt next.learnt first.others (subst (λ (n : ℕ). IsOfOthers n next.learnt) first.grown.number next.others);
  passes = All-append (λ e. e.0 < a.view.passes) first.learnt next.learnt first.passes (subst (λ (n : ℕ). IsOfPasses n next.learnt) first.grown.passes next.passes);
  statuses = next.statuses ∙ first.statuses;
  settled = next.settled ∙ first.settled;
}

-- the record of the next word was shown
pub learns_shown : (p q : Knowing) (token : Shown) (word : ℕ) → IsNextUnshown p word → q ≡ record p { shown = p.shown ++ token ∷ [] } → Learns p q
learns_shown p q token word next is =
    let e : Entry = (number_of word, token.call) in
    subst (λ (y : Knowing). Learns p y) (sym is) record {
      grown = grows_refl p.view;
      own = refl;
      learnt = e ∷ [];
      known_is = spelled_push p.view.words p.shown token next.within ∙ ap (λ (w : ℕ). known p ++ (number_of w, token.call) ∷ []) (sym next.word_is);
      others = All-cons (λ e. e.0 ≢ p.view.number) e [] next.others.1 (All-nil (λ e. e.0 ≢ p.view.number));
      passes = All-cons (λ e. e.0 < p.view.passes) e [] next.others.0.1 (All-nil (λ e. e.0 < p.view.passes));
      statuses = refl;
      settled = refl;
    }

-- the pass stays one of the context's
pub pass_same : (context : Shared) (p q : Knowing) → q.order ≡ p.order → q.shown ≡ p.shown → IsPassOf context p → IsPassOf context q
pass_same context p q order shown is = record {
  order = order ∙ is.order;
  records = subst (λ (l : List Shown). All (IsOf context.records) l) (sym shown) is.records;
}

pub pass_push : (context : Shared) (p q : Knowing) (token : Shown) → q.order ≡ p.order → q.shown ≡ p.shown ++ token ∷ [] → IsOf context.records token → IsPassOf context p → IsPassOf context q
pass_push context p q token order shown one is = record {
  order = order ∙ is.order;
  records = subst (λ (l : List Shown). All (IsOf context.records) l) (sym shown) (All-push (IsOf context.records) p.shown token is.records one);
}

pub unshown_few : (p : Knowing) → length p.shown < length p.view.words → length (known p) < length p.view.words
unshown_few p lt = let same : length (known p) ≡ length p.shown = length_spelled p.view.words p.shown (omega arith) in omega arith
