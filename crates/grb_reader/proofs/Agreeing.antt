-- Two passes whose words begin one another, and whose records have one call each, know histories that begin one another.
use Rattle.std.proofs.Common.{◌≡◌, ℕ, zero, suc, ◌≤◌, List, [], ◌∷◌, ◌++◌, length, refl, sym, subst, ◌∙◌, arith, inl, inr}
use Rattle.grb_reader.proofs.Prelude.{◌⊎◌, Contains-append_left, Contains-append_right, Contains-push, number_of, StartsWith, Shown, IsSameRecord, Call, History, Knowing, known, spelled, AreRecords, Begins, ShareCalls, HistoriesAgree}
use Rattle.grb_order.specs.Laws.{SeatsAgree}

with_entry : (n : ℕ) (c d : Call) → c ≡ d → (g h : History) → Begins g h ⊎ Begins h g → Begins ((n, c) ∷ g) ((n, d) ∷ h) ⊎ Begins ((n, d) ∷ h) ((n, c) ∷ g)
with_entry n c d is g h (inl b) = inl (b.0, λ i. (n, sym is i) ∷ b.1 i)
with_entry n c d is g h (inr b) = inr (b.0, λ i. (n, is i) ∷ b.1 i)

share_rest : (t u : Shown) (a b : List Shown) → ShareCalls (t ∷ a) (u ∷ b) → ShareCalls a b
share_rest t u a b share = λ x y in_a in_b same. share x y (Contains-append_right (t ∷ []) a x in_a) (Contains-append_right (u ∷ []) b y in_b) same

share_first : (t u : Shown) (a b : List Shown) → ShareCalls (t ∷ a) (u ∷ b) → IsSameRecord t u → t.call ≡ u.call
share_first t u a b share same = share t u (Contains-append_left (t ∷ []) a t (Contains-push [] t)) (Contains-append_left (u ∷ []) b u (Contains-push [] u)) same

-- the records of more words, and those of the first of them
spell_agree : (words rest : List ℕ) (a b : List Shown) → AreRecords (words ++ rest) a → AreRecords words b → ShareCalls a b
    → Begins (spelled (words ++ rest) a) (spelled words b) ⊎ Begins (spelled words b) (spelled (words ++ rest) a)
spell_agree [] rest a b of_a of_b share = inr (spelled rest a, refl)
spell_agree (word ∷ words) rest [] b of_a of_b share = inl (spelled (word ∷ words) b, refl)
spell_agree (word ∷ words) rest (t ∷ a) [] of_a of_b share = inr (spelled (word ∷ (words ++ rest)) (t ∷ a), refl)
spell_agree (word ∷ words) rest (t ∷ a) (u ∷ b) of_a of_b share =
    with_entry (number_of word) t.call u.call (share_first t u a b share (of_a.0 ∙ sym of_b.0, of_a.1 ∙ sym of_b.1)) (spelled (words ++ rest) a) (spelled words b) (spell_agree words rest a b of_a.2 of_b.2 (share_rest t u a b share))

one_begins : (p q : Knowing) → StartsWith p.view.words q.view.words → AreRecords p.view.words p.shown → AreRecords q.view.words q.shown → ShareCalls p.shown q.shown → Begins (known p) (known q) ⊎ Begins (known q) (known p)
one_begins p q starts of_p of_q share =
    let words : List ℕ = q.view.words in let rest : List ℕ = starts.0 in
    subst (λ (l : List ℕ). Begins (spelled l p.shown) (known q) ⊎ Begins (known q) (spelled l p.shown)) (sym starts.1)
    (spell_agree words rest p.shown q.shown (subst (λ (l : List ℕ). AreRecords l p.shown) starts.1 of_p) of_q share)

swapped : (p q : Knowing) → ShareCalls p.shown q.shown → ShareCalls q.shown p.shown
swapped p q share = λ t u in_q in_p same. sym (share u t in_p in_q (sym same.0, sym same.1))

other_way : (g h : History) → Begins g h ⊎ Begins h g → Begins h g ⊎ Begins g h
other_way g h (inl b) = inr b
other_way g h (inr b) = inl b

step : (m n : ℕ) → (m ≤ n) ⊎ (n ≤ m) → (suc m ≤ suc n) ⊎ (suc n ≤ suc m)
step m n (inl le) = inl (omega (arith, le))
step m n (inr le) = inr (omega (arith, le))

le_or : (m n : ℕ) → (m ≤ n) ⊎ (n ≤ m)
le_or zero n = inl (omega arith)
le_or (suc m) zero = inr (omega arith)
le_or (suc m) (suc n) = step m n (le_or m n)

by_length : (p q : Knowing) → (length q.view.words ≤ length p.view.words → StartsWith p.view.words q.view.words) → (length p.view.words ≤ length q.view.words → StartsWith q.view.words p.view.words)
    → (length q.view.words ≤ length p.view.words) ⊎ (length p.view.words ≤ length q.view.words) → AreRecords p.view.words p.shown → AreRecords q.view.words q.shown → ShareCalls p.shown q.shown
    → Begins (known p) (known q) ⊎ Begins (known q) (known p)
by_length p q first second (inl le) of_p of_q share = one_begins p q (first le) of_p of_q share
by_length p q first second (inr le) of_p of_q share = other_way (known q) (known p) (one_begins q p (second le) of_q of_p (swapped p q share))

pub histories : SeatsAgree → HistoriesAgree
histories agree size s orderly i j context p q at_p at_q is_p is_q share =
    by_length p q (λ le. agree size s orderly i j p.view q.view at_p at_q le) (λ le. agree size s orderly j i q.view p.view at_q at_p le) (le_or (length q.view.words) (length p.view.words)) is_p.records is_q.records share
