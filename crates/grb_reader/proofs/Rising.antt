-- The looks of a call rise strictly.
use Rattle.std.proofs.Common.{◌≡◌, ℕ, ◌+◌, ◌<◌, ◌≤◌, List, [], ◌∷◌, ◌++◌, length, inl, inr, refl, sym, ap, ◌∙◌, subst, arith, append_assoc, length-append}
use Rattle.grb_reader.proofs.Prelude.{append-nil, length_push, enters_word, View, Call, Knowing, known, AreRising, others_end, LooksLast, LooksRise, LooksAtEnd, IsReady}
use Rattle.grb_reader.proofs.Answering.{length_known}

-- places that rise are no more than those between the bounds
pub rising_few : (first end : ℕ) (places : List ℕ) → first ≤ end → AreRising first end places → length places + first ≤ end
rising_few first end [] few is = omega arith
rising_few first end (at ∷ rest) few is =
    let below : at < end = is.1 in let from : first ≤ at = is.0 in
    let n : length rest + (at + 1) ≤ end = rising_few (at + 1) end rest (omega arith) is.2 in omega arith

pub rising_wider : (first end more : ℕ) (places : List ℕ) → end ≤ more → AreRising first end places → AreRising first more places
rising_wider first end more [] le is = tt
rising_wider first end more (at ∷ rest) le is = let below : at < end = is.1 in (is.0, omega arith, rising_wider (at + 1) end more rest le is.2)

rising_from : (lower first end : ℕ) (places : List ℕ) → lower ≤ first → AreRising first end places → AreRising lower end places
rising_from lower first end [] le is = tt
rising_from lower first end (at ∷ rest) le is = let from : first ≤ at = is.0 in (omega arith, is.1, is.2)

-- one more place after them
rising_push : (first end more : ℕ) (places : List ℕ) (at : ℕ) → first ≤ at → end ≤ at → at < more → AreRising first end places → AreRising first more (places ++ at ∷ [])
rising_push first end more [] at from le lt is = (from, lt, tt)
rising_push first end more (x ∷ rest) at from le lt is =
    let below : x < end = is.1 in (is.0, omega arith, rising_push (x + 1) end more rest at (omega arith) le lt is.2)

-- the same looks and end, spelled otherwise
last_is : (room n m : ℕ) (before looks : List ℕ) (new : Knowing) → before ≡ looks → n ≡ m → LooksLast room before n new → LooksLast room looks m new
last_is room n m before looks new e f is = subst (λ (y : List ℕ × ℕ). LooksLast room y.0 y.1 new) (λ i. (e i, f i)) is

-- a pass that learnt to the end
pub rise_looked : (room : ℕ) (old new : Knowing) → new.view.own ≡ old.view.own → LooksAtEnd room old new → LooksRise room old.view.looks old new
rise_looked room old new own is =
    let o : length new.view.own ≡ length old.view.own = ap length own in record {
      lost = [];
      rising = tt;
      looks = last_is room (length new.view.words) (others_end old.view new.view) old.view.looks (old.view.looks ++ []) new (sym (append-nil old.view.looks)) (omega arith) is;
    }

-- Before a try: the looks since `earlier` are those of tries that were lost, and a last one at the end of the words
pub record LooksTried (earlier : List ℕ) (old mid : View) : Type 0 where
  pub lost : List ℕ
  pub rising : AreRising (length old.words) (length mid.words) lost
  pub looks : mid.looks ≡ (earlier ++ lost) ++ length mid.words ∷ []

pub tried_none : (earlier : List ℕ) (v : View) → v.looks ≡ earlier ++ length v.words ∷ [] → LooksTried earlier v v
tried_none earlier v is = record { lost = []; rising = tt; looks = is ∙ ap (λ (l : List ℕ). l ++ length v.words ∷ []) (sym (append-nil earlier)) }

module _ (earlier : List ℕ) (old mid : View) (learnt : length old.words ≤ length mid.words) (tried : LooksTried earlier old mid) where
  -- their number
  pub tried_few : mid.own ≡ old.own → old.looks ≡ earlier ++ length old.words ∷ [] → length mid.looks + length old.words ≤ length old.looks + length mid.words
  tried_few own is =
      let n : length old.looks ≡ length earlier + 1 = ap length is ∙ length_push earlier (length old.words) in
      let m : length mid.looks ≡ length (earlier ++ tried.lost) + 1 = ap length tried.looks ∙ length_push (earlier ++ tried.lost) (length mid.words) in
      let k : length (earlier ++ tried.lost) ≡ length earlier + length tried.lost = length-append earlier tried.lost in
      let few : length tried.lost + length old.words ≤ length mid.words = rising_few (length old.words) (length mid.words) tried.lost learnt tried.rising in omega arith

  -- the try was lost: its look is among those of lost tries
  lost_more : (n : ℕ) → length mid.words < n → AreRising (length old.words) n (tried.lost ++ length mid.words ∷ [])
  lost_more n lt = rising_push (length old.words) (length mid.words) n tried.lost (length mid.words) learnt (omega arith) lt tried.rising

  lost_looks : mid.looks ≡ earlier ++ (tried.lost ++ length mid.words ∷ [])
  lost_looks = tried.looks ∙ append_assoc earlier tried.lost (length mid.words ∷ [])

  -- and the pass learnt to the end, and looked there
  pub tried_again : (new : View) → length mid.words < length new.words → new.looks ≡ mid.looks ++ length new.words ∷ [] → LooksTried earlier old new
  tried_again new lt is = record {
    lost = tried.lost ++ length mid.words ∷ [];
    rising = lost_more (length new.words) lt;
    looks = is ∙ ap (λ (l : List ℕ). l ++ length new.words ∷ []) lost_looks;
  }

-- or it ended there
pub rise_lost : (room : ℕ) (earlier : List ℕ) (old mid new : Knowing) → length old.view.words ≤ length mid.view.words → length mid.view.words < length new.view.words → new.view.own ≡ old.view.own
    → LooksTried earlier old.view mid.view → LooksLast room mid.view.looks (length new.view.words) new → LooksRise room earlier old new
rise_lost room earlier old mid new learnt lt own tried is =
    let o : length new.view.own ≡ length old.view.own = ap length own in record {
      lost = tried.lost ++ length mid.view.words ∷ [];
      rising = lost_more earlier old.view mid.view learnt tried (others_end old.view new.view) (omega arith);
      looks = last_is room (length new.view.words) (others_end old.view new.view) mid.view.looks (earlier ++ (tried.lost ++ length mid.view.words ∷ [])) new (lost_looks earlier old.view mid.view learnt tried) (omega arith) is;
    }

-- the try was won
pub rise_won : (room : ℕ) (earlier : List ℕ) (old mid new : Knowing) (word : ℕ) → mid.view.own ≡ old.view.own → LooksTried earlier old.view mid.view → length mid.view.words < room → new.view ≡ enters_word mid.view word → length (known new) ≡ length new.view.words → LooksRise room earlier old new
rise_won room earlier old mid new word own tried left is shown =
    let o : length mid.view.own ≡ length old.view.own = ap length own in
    let more : length new.view.own ≡ length mid.view.own + 1 = ap (λ (x : View). length x.own) is ∙ length_push mid.view.own (length mid.view.words) in
    let n : length new.view.words ≡ length mid.view.words + 1 = ap (λ (x : View). length x.words) is ∙ length_push mid.view.words word in
    let e : length mid.view.words ≡ others_end old.view new.view = omega arith in record {
      lost = tried.lost;
      rising = rising_wider (length old.view.words) (length mid.view.words) (others_end old.view new.view) tried.lost (omega arith) tried.rising;
      looks = inl (ap (λ (x : View). x.looks) is ∙ tried.looks ∙ ap (λ (k : ℕ). (earlier ++ tried.lost) ++ k ∷ []) e, omega arith, shown);
    }

-- the pass learnt to the end first
pub rise_before : (room : ℕ) (earlier : List ℕ) (old mid new : Knowing) → length old.view.words ≤ length mid.view.words → mid.view.own ≡ old.view.own → LooksRise room earlier mid new → LooksRise room earlier old new
rise_before room earlier old mid new learnt own is =
    let o : length mid.view.own ≡ length old.view.own = ap length own in
    let e : others_end mid.view new.view ≡ others_end old.view new.view = omega arith in record {
      lost = is.lost;
      rising = rising_wider (length old.view.words) (others_end mid.view new.view) (others_end old.view new.view) is.lost (omega arith) (rising_from (length old.view.words) (length mid.view.words) (others_end mid.view new.view) is.lost learnt is.rising);
      looks = last_is room (others_end mid.view new.view) (others_end old.view new.view) (earlier ++ is.lost) (earlier ++ is.lost) new refl e is.looks;
    }

-- how many looks those are
pub looks_number : (room : ℕ) (earlier : List ℕ) (end : ℕ) (new : Knowing) → LooksLast room earlier end new → length new.view.looks ≤ length earlier + 1
looks_number room earlier end new (inl is) = let n : length new.view.looks ≡ length earlier + 1 = ap length is.0 ∙ length_push earlier end in omega arith
looks_number room earlier end new (inr e) = let n : length new.view.looks ≡ length earlier = ap length e.0 in omega arith

pub looks_exact : (room : ℕ) (earlier : List ℕ) (end : ℕ) (new : Knowing) → length (known new) ≡ length new.view.words → end < room → LooksLast room earlier end new → length new.view.looks ≡ length earlier + 1
looks_exact room earlier end new shown left (inl is) = ap length is.0 ∙ length_push earlier end
looks_exact room earlier end new shown left (inr (e, inl unshown)) = absurd (omega arith)
looks_exact room earlier end new shown left (inr (e, inr full)) = absurd (omega arith)

pub looks_full : (room : ℕ) (earlier : List ℕ) (end : ℕ) (new : Knowing) → end ≡ room → LooksLast room earlier end new → length new.view.looks ≡ length earlier
looks_full room earlier end new full (inl (e, left, shown)) = absurd (omega arith)
looks_full room earlier end new full (inr (e, why)) = ap length e

pub looks_unshown : (room : ℕ) (earlier : List ℕ) (end : ℕ) (new : Knowing) → length (known new) < length new.view.words → LooksLast room earlier end new → length new.view.looks ≡ length earlier
looks_unshown room earlier end new unshown (inl (e, left, shown)) = absurd (omega arith)
looks_unshown room earlier end new unshown (inr (e, why)) = ap length e

-- a pass that has a call ready looked at the end
pub looks_ready : (room : ℕ) (old new : Knowing) (c : Call) → LooksAtEnd room old new → IsReady room new c → new.view.looks ≡ old.view.looks ++ length new.view.words ∷ []
looks_ready room old new c (inl is) ready = is.0
looks_ready room old new c (inr (e, inl unshown)) ready = let n : length (known new) ≡ length new.view.words = length_known new ready.all in absurd (omega arith)
looks_ready room old new c (inr (e, inr full)) ready = let left = ready.room_left in absurd (omega (arith, left))
