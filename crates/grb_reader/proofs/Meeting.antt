-- What a meeting leaves follows from what its parts do.
use Rattle.std.proofs.Common.{◌≡◌, ℕ, zero, suc, Some, ◌+◌, ◌<◌, ◌≤◌, List, [], ◌∷◌, ◌++◌, length, refl, sym, ap, subst, ◌∙◌, arith, length-append}
use Rattle.grb_reader.proofs.Prelude.{number_of, StartsWith, Shown, IsSameRecord, History, Result, Refusal, is_told, View, Shared, Knowing, known, none_made, spelled, AreRecords, IsPassOf, Begins, IsSteady, Learns, IsSameRecordAt, SharesCallAt, IsMet, Met}
use Rattle.grb_reader.proofs.Counted.{begun}
use Rattle.grb_reader.proofs.Learnt.{learns_then, learns_told}
use Rattle.grb_reader.proofs.Owning.{is_known, own_learns}
use Rattle.grb_reader.proofs.Spelling.{nothing}

one_token : (t u : Shown) → Some t ≡ Some u → t ≡ u
one_token t u e = cc

-- the records of the same words are the same
same_records : (words rest : List ℕ) (mine theirs : List Shown) → AreRecords (words ++ rest) mine → AreRecords words theirs → (at : ℕ) → IsSameRecordAt mine theirs at
same_records words rest [] theirs of_mine of_theirs at t u e f = cc
same_records words rest (m ∷ mine) [] of_mine of_theirs at t u e f = cc
same_records [] rest (m ∷ mine) (n ∷ theirs) of_mine of_theirs at t u e f = absurd of_theirs
same_records (word ∷ words) rest (m ∷ mine) (n ∷ theirs) of_mine of_theirs zero t u e f =
    let is_m : m ≡ t = one_token m t e in let is_n : n ≡ u = one_token n u f in
    subst (λ (x : Shown). IsSameRecord x u) is_m (subst (λ (x : Shown). IsSameRecord m x) is_n (of_mine.0 ∙ sym of_theirs.0, of_mine.1 ∙ sym of_theirs.1))
same_records (word ∷ words) rest (m ∷ mine) (n ∷ theirs) of_mine of_theirs (suc at) t u e f = same_records words rest mine theirs of_mine.2 of_theirs.2 at t u e f

-- where the records of the same words have the same calls, the shorter history begins the longer
spelled_front : (words rest : List ℕ) (mine theirs : List Shown) → AreRecords (words ++ rest) mine → AreRecords words theirs → length theirs ≤ length mine
    → ((at : ℕ) → at < length theirs → SharesCallAt mine theirs at) → Begins (spelled words theirs) (spelled (words ++ rest) mine)
spelled_front words rest mine [] of_mine of_theirs le share = (spelled (words ++ rest) mine, ap (λ (h : History). h ++ spelled (words ++ rest) mine) (sym (nothing words)))
spelled_front [] rest mine (t ∷ theirs) of_mine of_theirs le share = absurd of_theirs
spelled_front (word ∷ words) rest [] (t ∷ theirs) of_mine of_theirs le share = absurd (omega arith)
spelled_front (word ∷ words) rest (m ∷ mine) (t ∷ theirs) of_mine of_theirs le share =
    let one : m.call ≡ t.call = share 0 (omega arith) m t refl refl (of_mine.0 ∙ sym of_theirs.0, of_mine.1 ∙ sym of_theirs.1) in
    let next : Begins (spelled words theirs) (spelled (words ++ rest) mine) = spelled_front words rest mine theirs of_mine.2 of_theirs.2 (omega arith) (λ at lt. share (suc at) (omega arith)) in
    (next.0, λ i. (number_of word, one i) ∷ next.1 i)

module _ (p q : Knowing) (of_p : IsSteady p) (of_q : IsSteady q) (starts : StartsWith p.view.words q.view.words) (all : length p.shown ≡ length p.view.words) where
  pub fewer_shown : length q.shown ≤ length p.shown
  fewer_shown =
      let words : length p.view.words ≡ length q.view.words + length starts.0 = ap length starts.1 ∙ length-append q.view.words starts.0 in
      let few : length q.shown ≤ length q.view.words = of_q.few in omega arith

  pub one_record : (at : ℕ) → IsSameRecordAt p.shown q.shown at
  one_record at = same_records q.view.words starts.0 p.shown q.shown (subst (λ (l : List ℕ). AreRecords l p.shown) starts.1 of_p.records) of_q.records at

  pub begins_known : ((at : ℕ) → at < length q.shown → SharesCallAt p.shown q.shown at) → Begins (known q) (known p)
  begins_known share =
      subst (λ (l : List ℕ). Begins (known q) (spelled l p.shown)) (sym starts.1)
      (spelled_front q.view.words starts.0 p.shown q.shown (subst (λ (l : List ℕ). AreRecords l p.shown) starts.1 of_p.records) of_q.records fewer_shown share)

-- the words were told, and then records were shown
pub met : (context : Shared) (old told new other : Knowing) (r : Result (Unit {0}) Refusal) → length old.shown ≤ length old.view.words → told.shown ≡ old.shown → told.statuses ≡ old.statuses → told.settled ≡ old.settled → told.view ≡ is_told old.view other.view.words
    → told.steps + length old.view.words ≡ length told.view.words → Learns told new → new.view ≡ told.view → new.steps ≡ told.steps → IsPassOf context new → IsSteady new → new.made ≡ none_made → IsMet new other r → Met context old new other r
met context old told new other r few shown statuses settled is steps next view same of steady made answer =
    let l : Learns old new = learns_then old told new (learns_told old told few shown statuses settled other.view.words is) next in
    let n : length new.view.words ≡ length told.view.words = ap (λ (v : View). length v.words) view in record {
      pass = of;
      met = answer;
      learns = l;
      knows = is_known context new of steady;
      own = own_learns old new l;
      steps = omega (arith, steps, n, same);
      looks = ap (λ (v : View). v.looks) view ∙ ap (λ (v : View). v.looks) is;
      made = made;
    }

-- the count of steps before plays no part
pub met_begun : (context : Shared) (old now new other : Knowing) (r : Result (Unit {0}) Refusal) → now ≡ begun old → Met context now new other r → Met context old new other r
met_begun context old now new other r is m =
    let k : Met context (begun old) new other r = subst (λ (p : Knowing). Met context p new other r) is m in let l = k.learns in record {
      pass = k.pass;
      met = k.met;
      learns = record { grown = l.grown; own = l.own; learnt = l.learnt; known_is = l.known_is; others = l.others; passes = l.passes; statuses = l.statuses; settled = l.settled };
      knows = k.knows;
      own = k.own;
      steps = k.steps;
      looks = k.looks;
      made = k.made;
    }
