-- A pass puts each of its records into a further cell of its row.
use Rattle.std.proofs.Common.{◌≡◌, ℕ, zero, suc, ◌+◌, ◌^◌, ◌<◌, ◌≤◌, List, [], ◌∷◌, ◌++◌, length, refl, sym, subst, arith}
use Rattle.grb_reader.proofs.Prelude.{Result, Ok, Err, IfOk, OnOk, slice_get, Refusal, Call, index_of, order_word, StartsWith, learns, View, Shown, Knowing, Learns}
use Rattle.std.specs.Prelude.{Option, Some, None}
use Rattle.std.proofs.lemmas.Option.{slice_get_within}
use Rattle.grb_reader.specs.Learning.{Enters}
use Rattle.grb_reader.specs.Cells.{NameRising, OwnBelow}

get_more : (xs ys : List ℕ) (at word : ℕ) → slice_get xs at ≡ Some word → slice_get (xs ++ ys) at ≡ Some word
get_more [] ys at word is = let lt : at < 0 = slice_get_within [] at word is in absurd (omega arith)
get_more (x ∷ xs) ys zero word is = is
get_more (x ∷ xs) ys (suc at) word is = get_more xs ys at word is

get_pushed : (xs : List ℕ) (word : ℕ) → slice_get (xs ++ word ∷ []) (length xs) ≡ Some word
get_pushed [] word = refl
get_pushed (x ∷ xs) word = get_pushed xs word

-- the words are more, and the bound is higher
rising_in : (first end next : ℕ) (words more own : List ℕ) → end ≤ next → NameRising first end words own → NameRising first next (words ++ more) own
rising_in first end next words more [] le is = tt
rising_in first end next words more (at ∷ rest) le is =
    let word : ℕ = is.0 in let below : index_of word < end = is.3 in
    (word, get_more words more at word is.1, is.2, omega arith, rising_in (index_of word + 1) end next words more rest le is.4)

-- one more word, after them
rising_entered : (first end next : ℕ) (words own : List ℕ) (word : ℕ) → first ≤ index_of word → end ≤ index_of word → index_of word < next → NameRising first end words own → NameRising first next (words ++ word ∷ []) (own ++ length words ∷ [])
rising_entered first end next words [] word from le lt is = (word, get_pushed words word, from, lt, tt)
rising_entered first end next words (at ∷ rest) word from le lt is =
    let other : ℕ = is.0 in let below : index_of other < end = is.3 in
    (other, get_more words (word ∷ []) at other is.1, is.2, omega arith, rising_entered (index_of other + 1) end next words rest word (omega arith) le lt is.4)

pub own_wider : (end next : ℕ) (v : View) → end ≤ next → OwnBelow end v → OwnBelow next v
own_wider end next v le is = wider 0 v.own is where
  wider : (first : ℕ) (own : List ℕ) → NameRising first end v.words own → NameRising first next v.words own
  wider first [] at = tt
  wider first (x ∷ rest) at = let word : ℕ = at.0 in let below : index_of word < end = at.3 in (word, at.1, at.2, omega arith, wider (index_of word + 1) rest at.4)

own_more : (end next : ℕ) (v w : View) → end ≤ next → StartsWith w.words v.words → w.own ≡ v.own → OwnBelow end v → OwnBelow next w
own_more end next v w le words own is =
    subst (λ (y : List ℕ × List ℕ). NameRising 0 next y.0 y.1) (λ i. (sym words.1 i, sym own i)) (rising_in 0 end next v.words words.0 v.own le is)

-- it learnt words of others
pub own_learns : (end : ℕ) (old new : Knowing) → Learns old new → OwnBelow end old.view → OwnBelow end new.view
own_learns end old new l is = own_more end end old.view new.view (omega arith) l.grown.words l.own is

pub own_lost : (end : ℕ) (v w : View) (word : ℕ) → w ≡ learns v word → OwnBelow end v → OwnBelow end w
own_lost end v w word learnt is = subst (OwnBelow end) (sym learnt) (own_more end end v (learns v word) (omega arith) (word ∷ [], refl) refl is)

index_of-order_word : (number index : ℕ) → index < 2 ^ 48 → index_of (order_word number index) ≡ index
index_of-order_word number index small = omega arith

-- after a try the pass goes on after the token's record, if it did not before
pub own_tried : (room : ℕ) (old new : Knowing) (token : Shown) (back : Option Shown) (next : ℕ) → Enters room token old back new → token.index < 2 ^ 48 → token.index < next → OwnBelow token.index old.view → OwnBelow next new.view
own_tried room old new token None next is small lt fresh =
    let v : View = old.view in let word : ℕ = order_word v.number token.index in let e : index_of word ≡ token.index = index_of-order_word v.number token.index small in
    subst (OwnBelow next) (sym is.0) (rising_entered 0 token.index next v.words v.own word (omega arith) (omega arith) (omega arith) fresh)
own_tried room old new token (Some back) next is small lt fresh =
    let word : ℕ = is.2 in own_wider token.index next new.view (omega arith) (own_lost token.index old.view new.view word is.3 fresh)

-- the record that was put goes after them
pub fresh_put : (r : Result Shown Refusal) (pass next : ℕ) (c : Call) (v : View) → IfOk r (λ token. (token.pass ≡ pass) × (token.index ≡ next) × (token.call ≡ c)) → OwnBelow next v → IfOk r (λ token. OwnBelow token.index v)
fresh_put (Ok token) pass next c v is own = subst (λ (n : ℕ). OwnBelow n v) (sym is.1) own
fresh_put (Err refusal) pass next c v is own = tt

pub small_put : (r : Result Shown Refusal) (pass next room : ℕ) (c : Call) → IfOk r (λ token. (token.pass ≡ pass) × (token.index ≡ next) × (token.call ≡ c)) → OnOk r (next < room) → room < 2 ^ 48 → IfOk r (λ token. token.index < 2 ^ 48)
small_put (Ok token) pass next room c is within few = omega (arith, is.1, within)
small_put (Err refusal) pass next room c is within few = tt
