-- Each step keeps the rule of the row, and tells what its play says.
use Rattle.std.proofs.Common.{◌≡◌, ◌≢◌, ℕ, zero, suc, ◌+◌, ◌-◌, ◌^◌, ◌<◌, ◌≤◌, Bool, cond, eqb, eq-eqb, ne_eqb, List, [], ◌∷◌, ◌++◌, length, get_or, set, replicate, sym, refl, ap, ◌∙◌, subst, ⊎_elim, inl, inr, ◌⊎◌, arith, length-set}
use mathlib.Core.Option.{some, none, some-injective, some-ne-none}
use mathlib.Core.Logic.{dite}
use prog.Atomic.{either}
use native.Mathlib.Decide.{ℕ_discrete}
use lib.ListN.{get_elem?}
use Rattle.std.proofs.lemmas.List.{set-get_or, append-nil, length-replicate}
use Rattle.std.proofs.lemmas.List.Elements.{All-push, All-weaker, All-nil}
use Rattle.atomic_table.specs.Table.{State, Act, Valid, stepped, carried_after, step, keeps, Allows, Splits, Joins, opening}
use Rattle.atomic_table.proofs.Lists.{at_set, set_else, set_again, at_longer, at_last, exchanged}
use Rattle.grb_order.specs.Word.{order_word, number_of, IsWord, positions, StartsWith}
use Rattle.grb_order.specs.View.{learns, finds_vacant, enters_word, IsOthers}
use Rattle.grb_order.specs.Rule.{IsSeated, Fits, Orderly}
use Rattle.grb_order.specs.Steps.{Sat, dealing, seated, noted, joined, spent, looked, tried, compared, heard}
use Rattle.grb_order.specs.declared.rule.Size.{Size}
use Rattle.grb_order.specs.declared.standing.Standing.{Standing}
use Rattle.grb_order.specs.declared.standing.Role.{Role}
use Rattle.grb_order.specs.declared.standing.Role.TheVariants.{Dealer, Seated, Note, Spent}
use Rattle.grb_order.proofs.Rows.{positions-others, positions-own, positions-absent, own_word, next_vacant, next_word, last_word, others_word, starts_more, shorter, fill, told_word, not_vacant}

abbrev Row : Type 0
Row = State (Unit {0}) Standing

at_in : {A : Type 0} (l : List A) (i : ℕ) (a b : A) → get_elem? l i ≡ some a → get_elem? (set l i b) i ≡ some b
at_in [] i a b e = absurd (some-ne-none a (sym e))
at_in (x ∷ xs) zero a b e = refl
at_in (x ∷ xs) (suc i) a b e = at_in xs i a b e

one_at : {A : Type 0} (l : List A) (i j : ℕ) (a b : A) → get_elem? l i ≡ some a → get_elem? l j ≡ some b → j ≡ i → a ≡ b
one_at l i j a b e f same = some-injective a b (sym e ∙ ap (get_elem? l) (sym same) ∙ f)

at_end : {A : Type 0} (l : List A) (a b : A) (j : ℕ) → get_elem? (l ++ a ∷ []) j ≡ some b → (get_elem? l j ≡ some b) ⊎ ((j ≡ length l) × (a ≡ b))
at_end [] a b zero e = inr (refl, some-injective a b e)
at_end [] a b (suc j) e = absurd (some-ne-none b (sym e))
at_end (x ∷ xs) a b zero e = inl e
at_end (x ∷ xs) a b (suc j) e = ⊎_elim inl (λ t. inr (ap suc t.0, t.1)) (at_end xs a b j e)

note_apart : Note ≢ Seated
note_apart e = cc

dealer_apart : Dealer ≢ Seated
dealer_apart e = cc

below_more : (a b : ℕ) → a < b → a < b + 1
below_more a b lt = omega arith

below_else : (a b : ℕ) → a < b + 1 → a ≢ b → a < b
below_else a b lt ne = omega arith

none_below : (a : ℕ) → ¬ (a < 0)
none_below a lt = omega arith

-- a seat of this number, among these views
abbrev Sits : List Standing → (ℕ → ℕ) → ℕ → Type 0
Sits views seat_of number = (v : Standing) × (get_elem? views (seat_of number) ≡ some v) × (v.role ≡ Seated) × (v.view.number ≡ number)

-- a seat stays where it is
still_sits : (views : List Standing) (seat_of : ℕ → ℕ) (id : ℕ) (v w : Standing) → get_elem? views id ≡ some v → w.role ≡ Seated → w.view.number ≡ v.view.number → (number : ℕ) → Sits views seat_of number → Sits (set views id w) seat_of number
still_sits views seat_of id v w at role same number p =
    dite (ℕ_discrete (seat_of number) id)
    (λ (e : seat_of number ≡ id).
    let mine : v ≡ p.0 = one_at views id (seat_of number) v p.0 at p.1 e in
    (w, ap (get_elem? (set views id w)) e ∙ at_in views id v w at, role, same ∙ ap (λ (u : Standing). u.view.number) mine ∙ p.3))
    (λ (ne : seat_of number ≢ id). (p.0, set_else views id (seat_of number) w ne ∙ p.1, p.2, p.3))

module _ (size : Size) (s : Row) (h : Orderly size s) where
  abbrev FitsNow : ℕ → Standing → Type 0
  FitsNow j u = Fits size.passes h.entered h.dealt h.dealer h.seat_of j u u.role

  pub is_seated : (id : ℕ) (v : Standing) → get_elem? s.views id ≡ some v → v.role ≡ Seated → IsSeated size.passes h.entered h.dealt h.seat_of id v
  is_seated id v at role = subst (Fits size.passes h.entered h.dealt h.dealer h.seat_of id v) role (h.each id v at)

  -- the view of a seat changes, and the row does not
  pub changes : (id : ℕ) (v w : Standing) → get_elem? s.views id ≡ some v → w.role ≡ Seated → w.view.number ≡ v.view.number
      → IsSeated size.passes h.entered h.dealt h.seat_of id w → (ws : List ℕ) → ws ≡ s.words
      → Orderly size record { words = ws; homes = s.homes; views = set s.views id w }
  changes id v w at role same fits ws row_same = record {
    entered = h.entered;
    vacant = h.vacant;
    dealt = h.dealt;
    dealer = h.dealer;
    seat_of = h.seat_of;
    row = row_same ∙ h.row;
    wide = ap length row_same ∙ h.wide;
    few = h.few;
    words = h.words;
    each = λ j u e. ⊎_elim
        (λ (x : (j ≡ id) × (w ≡ u)). subst (λ (y : ℕ × Standing). FitsNow y.0 y.1) (λ k. (sym x.0 k, x.1 k)) (subst (Fits size.passes h.entered h.dealt h.dealer h.seat_of id w) (sym role) fits))
        (λ (x : (j ≢ id) × (get_elem? s.views j ≡ some u)). h.each j u x.1)
        (at_set s.views id j w u e);
    seated = λ number below. still_sits s.views h.seat_of id v w at role same number (h.seated number below);
  }

  -- a seat learns the next word
  learns_next : (id : ℕ) (v : Standing) → get_elem? s.views id ≡ some v → v.role ≡ Seated → get_or s.words (length v.view.words) 0 ≢ 0
      → Orderly size record { words = set s.words (length v.view.words) (get_or s.words (length v.view.words) 0); homes = s.homes; views = set s.views id (record v { view = learns v.view (get_or s.words (length v.view.words) 0) }) }
      × IsOthers v.view (get_or s.words (length v.view.words) 0)
  learns_next id v at role ne =
      let words : List ℕ = v.view.words in let n : ℕ = length words in let x : ℕ = get_or s.words n 0 in
      let p : IsSeated size.passes h.entered h.dealt h.seat_of id v = is_seated id v at role in
      let starts : StartsWith h.entered (words ++ x ∷ [])
      = subst (λ (l : List ℕ). get_or l n 0 ≢ 0 → StartsWith h.entered (words ++ get_or l n 0 ∷ [])) (sym h.row) (next_word h.vacant h.entered words p.words) ne in
      let word : IsWord h.dealt x = last_word h.dealt h.entered words x starts h.words in
      let other : number_of x ≢ v.view.number = others_word v.view.number h.entered words x starts (p.own ∙ sym p.learnt) in
      let few : h.dealt ≤ size.passes = h.few in let all : v.view.passes ≡ size.passes = p.passes in let below : number_of x < h.dealt = word.1 in
      let near : number_of x < v.view.passes = omega arith in (
        changes id v (record v { view = learns v.view x }) at role refl
            record { number = p.number; passes = p.passes; seat = p.seat; words = starts; told = p.told; own = p.own; learnt = positions-others v.view.number x words other ∙ p.learnt }
            (set s.words n x) (set-get_or s.words n 0),
        ((word.0, near), other),
      )

pub looks : (size : Size) (slots id n : ℕ) (me : Sat) → me.0.role ≡ Seated → length me.0.view.words ≡ n → Allows (Orderly size) slots id me n (λ x. x) (looked (step slots n 0 0 none) me)
looks size slots id n me role here = subst (λ (k : ℕ). Allows (Orderly size) slots id me k (λ x. x) (looked (step slots k 0 0 none) me)) here (λ s h wide at small.
    let v : Standing = me.0 in let k : ℕ = length v.view.words in let p = is_seated size s h id v at role in
    dite (ℕ_discrete (get_or s.words k 0) 0)
    (λ (is : get_or s.words k 0 ≡ 0). (
      record v { view = finds_vacant v.view },
      keeps,
      tt,
      changes size s h id v (record v { view = finds_vacant v.view }) at role refl
          record { number = p.number; passes = p.passes; seat = p.seat; words = p.words; told = p.told; own = p.own; learnt = p.learnt }
          (set s.words k (get_or s.words k 0)) (set-get_or s.words k 0),
      ((λ _. refl), (λ ne. absurd (ne is))),
    ))
    (λ (ne : get_or s.words k 0 ≢ 0).
    let t = learns_next size s h id v at role ne in
    (record v { view = learns v.view (get_or s.words k 0) }, keeps, tt, t.0, ((λ is. absurd (ne is)), (λ _. (refl, t.1))))))

-- a load of a word that the note has finds that word
pub hears : (size : Size) (slots id n : ℕ) (me : Sat) → me.0.role ≡ Seated → length me.0.view.words ≡ n → n < length me.0.told → Allows (Orderly size) slots id me n (λ x. x) (heard (step slots n 0 0 none) me)
hears size slots id n me role here told = subst (λ (k : ℕ). k < length me.0.told → Allows (Orderly size) slots id me k (λ x. x) (heard (step slots k 0 0 none) me)) here (λ lt s h wide at small.
    let v : Standing = me.0 in let k : ℕ = length v.view.words in let p = is_seated size s h id v at role in
    let found : get_or s.words k 0 ≡ get_or v.told k 0 = ap (λ (l : List ℕ). get_or l k 0) h.row ∙ told_word h.dealt h.vacant k h.entered v.told p.told lt in
    let some_word : get_or v.told k 0 ≢ 0 = not_vacant h.dealt k h.entered v.told p.told h.words lt in
    let t = learns_next size s h id v at role (λ is. some_word (sym found ∙ is)) in
    (record v { view = learns v.view (get_or s.words k 0) }, keeps, tt, t.0, ((refl, t.1), found))) told

-- what was learnt and what was told begin the same row
pub compares : (size : Size) (slots id : ℕ) (me : Sat) → me.0.role ≡ Seated → Allows (Orderly size) slots id me 0 (λ x. x) (compared (step slots 0 0 0 none) me)
compares size slots id me role s h wide at small =
    let v : Standing = me.0 in let p = is_seated size s h id v at role in (
      v,
      keeps,
      tt,
      changes size s h id v v at role refl p (set s.words 0 (get_or s.words 0 0)) (set-get_or s.words 0 0),
      (refl, shorter h.entered v.view.words v.told p.words p.told, shorter h.entered v.told v.view.words p.told p.words),
    )

module _ (entered : List ℕ) (dealt dealer : ℕ) (seat_of : ℕ → ℕ) (passes x : ℕ) where
  -- another seat stays as it was when a seat enters a word
  grows_beside : (j : ℕ) (u : Standing) → ((number : ℕ) → seat_of number ≡ j → number_of x ≢ number) → (r : Role)
      → Fits passes entered dealt dealer seat_of j u r → Fits passes (entered ++ x ∷ []) dealt dealer seat_of j u r
  grows_beside j u other Dealer t = t
  grows_beside j u other Seated t = record {
    number = t.number;
    passes = t.passes;
    seat = t.seat;
    words = starts_more entered u.view.words x t.words;
    told = starts_more entered u.told x t.told;
    own = positions-others u.view.number x entered (other u.view.number t.seat) ∙ t.own;
    learnt = t.learnt;
  }
  grows_beside j u other Note t = starts_more entered u.view.words x t
  grows_beside j u other Spent t = tt

-- a seat enters its word after all words of the row
enters_next : (size : Size) (s : Row) (h : Orderly size s) (id index : ℕ) (v : Standing) → get_elem? s.views id ≡ some v → v.role ≡ Seated → index < 2 ^ 48
    → length v.view.words < size.room → get_or s.words (length v.view.words) 0 ≡ 0
    → Orderly size record { words = set s.words (length v.view.words) (order_word v.view.number index); homes = s.homes; views = set s.views id (record v { view = enters_word v.view (order_word v.view.number index) }) }
enters_next size s h id index v at role small room is =
    let words : List ℕ = v.view.words in let n : ℕ = length words in let x : ℕ = order_word v.view.number index in
    let w : Standing = record v { view = enters_word v.view x } in
    let p : IsSeated size.passes h.entered h.dealt h.seat_of id v = is_seated size s h id v at role in
    let all : h.entered ≡ words = next_vacant h.dealt h.vacant h.entered words p.words h.words (subst (λ (l : List ℕ). get_or l n 0 ≡ 0) h.row is) in
    let own = own_word h.dealt v.view.number index p.number small in
    let long : length h.entered ≡ n = ap length all in
    let whole : List ℕ = h.entered ++ replicate {A = ℕ} h.vacant 0 in
    let wide' : length whole ≡ size.room = sym (ap length h.row) ∙ h.wide in
    let lt : n < length whole = omega arith in
    let entered' : List ℕ = h.entered ++ x ∷ [] in
    let own_more : positions v.view.number entered' ≡ v.view.own ++ n ∷ []
    = positions-own v.view.number x h.entered own.1 ∙ (λ k. p.own k ++ long k ∷ []) in
    let mine : IsSeated size.passes entered' h.dealt h.seat_of id w = record {
      number = p.number;
      passes = p.passes;
      seat = p.seat;
      words = ([], ap (λ (l : List ℕ). l ++ x ∷ []) all ∙ sym (append-nil (words ++ x ∷ [])));
      told = starts_more h.entered v.told x p.told;
      own = own_more;
      learnt = sym (ap (λ (l : List ℕ). positions v.view.number (l ++ x ∷ [])) all) ∙ own_more;
    } in record {
      entered = entered';
      vacant = h.vacant - 1;
      dealt = h.dealt;
      dealer = h.dealer;
      seat_of = h.seat_of;
      row = ap (λ (l : List ℕ). set l n x) h.row ∙ fill h.entered h.vacant n x long lt;
      wide = length-set s.words n x ∙ h.wide;
      few = h.few;
      words = All-push (IsWord h.dealt) h.entered x h.words own.0;
      each = λ j u e. ⊎_elim
          (λ (t : (j ≡ id) × (w ≡ u)). subst (λ (y : ℕ × Standing). Fits size.passes entered' h.dealt h.dealer h.seat_of y.0 y.1 y.1.role) (λ k. (sym t.0 k, t.1 k)) (subst (Fits size.passes entered' h.dealt h.dealer h.seat_of id w) (sym role) mine))
          (λ (t : (j ≢ id) × (get_elem? s.views j ≡ some u)). grows_beside h.entered h.dealt h.dealer h.seat_of size.passes x j u
          (λ number there same. t.0 (sym there ∙ ap h.seat_of (sym same ∙ own.1) ∙ p.seat)) u.role (h.each j u t.1))
          (at_set s.views id j w u e);
      seated = λ number below. still_sits s.views h.seat_of id v w at role refl number (h.seated number below);
    }

pub tries : (size : Size) (slots id n index : ℕ) (me : Sat) → me.0.role ≡ Seated → length me.0.view.words ≡ n → index < 2 ^ 48 → n < size.room
    → Allows (Orderly size) slots id me n (λ x. either (eqb x 0) (order_word me.0.view.number index) x) (tried (step slots n 0 (order_word me.0.view.number index) none) me)
tries size slots id n index me role here few room =
    let own : ℕ = order_word me.0.view.number index in
    subst (λ (k : ℕ). k < size.room → Allows (Orderly size) slots id me k (λ x. either (eqb x 0) own x) (tried (step slots k 0 own none) me)) here (λ lt s h wide at small.
    let v : Standing = me.0 in let k : ℕ = length v.view.words in let found : ℕ = get_or s.words k 0 in
    exchanged found 0 own
    (λ x. (w : Standing) × (a : Act (Unit {0})) × Valid s.homes me.1 a × Orderly size (stepped s k x id me.1 w a) × tried (step slots k 0 own none) me found (w, carried_after me.1 a))
    (λ (is : found ≡ 0). (record v { view = enters_word v.view own }, keeps, tt, enters_next size s h id index v at role few lt is, ((λ _. refl), (λ ne. absurd (ne is)))))
    (λ (ne : found ≢ 0).
    let t = learns_next size s h id v at role ne in
    (record v { view = learns v.view found }, keeps, tt, t.0, ((λ is. absurd (ne is)), (λ _. (refl, t.1)))))) room

-- a seat of the table comes that is no pass's
comes : (size : Size) (s : Row) (h : Orderly size s) (u : Standing) → Fits size.passes h.entered h.dealt h.dealer h.seat_of (length s.views) u u.role
    → Orderly size record { words = s.words; homes = s.homes; views = s.views ++ u ∷ [] }
comes size s h u fits = record {
  entered = h.entered;
  vacant = h.vacant;
  dealt = h.dealt;
  dealer = h.dealer;
  seat_of = h.seat_of;
  row = h.row;
  wide = h.wide;
  few = h.few;
  words = h.words;
  each = λ j y e. ⊎_elim (h.each j y)
      (λ (t : (j ≡ length s.views) × (u ≡ y)). subst (λ (z : ℕ × Standing). Fits size.passes h.entered h.dealt h.dealer h.seat_of z.0 z.1 z.1.role) (λ k. (sym t.0 k, t.1 k)) fits)
      (at_end s.views u y j e);
  seated = λ number below. let p = h.seated number below in (p.0, at_longer s.views (u ∷ []) (h.seat_of number) p.0 p.1, p.2, p.3);
}

pub writes : (size : Size) (id : ℕ) (v : Standing) → v.role ≡ Seated → Splits (Orderly size) id v v (noted v)
writes size id v role s h at =
    let p = is_seated size s h id v at role in
    subst (λ (l : List Standing). Orderly size record { words = s.words; homes = s.homes; views = l ++ noted v ∷ [] }) (sym (set_again s.views id v at)) (comes size s h (noted v) p.words)

-- a note is spent
ends : (size : Size) (s : Row) (h : Orderly size s) (id : ℕ) (v : Standing) → get_elem? s.views id ≡ some v → v.role ≡ Note
    → Orderly size record { words = s.words; homes = s.homes; views = set s.views id spent }
ends size s h id v at role = record {
  entered = h.entered;
  vacant = h.vacant;
  dealt = h.dealt;
  dealer = h.dealer;
  seat_of = h.seat_of;
  row = h.row;
  wide = h.wide;
  few = h.few;
  words = h.words;
  each = λ j u e. ⊎_elim
      (λ (x : (j ≡ id) × (spent ≡ u)). subst (λ (y : Standing). Fits size.passes h.entered h.dealt h.dealer h.seat_of j y y.role) x.1 tt)
      (λ (x : (j ≢ id) × (get_elem? s.views j ≡ some u)). h.each j u x.1)
      (at_set s.views id j spent u e);
  seated = λ number below. let p = h.seated number below in
      let other : h.seat_of number ≢ id = λ e. let same : v ≡ p.0 = one_at s.views id (h.seat_of number) v p.0 at p.1 e in note_apart (sym role ∙ ap (λ (u : Standing). u.role) same ∙ p.2) in
      (p.0, set_else s.views id (h.seat_of number) spent other ∙ p.1, p.2, p.3);
}

pub reads : (size : Size) (id other : ℕ) (v w : Standing) → v.role ≡ Seated → w.role ≡ Note → Joins (Orderly size) id v other w (joined v w) spent
reads size id other v w role note s h at apart there =
    let p = is_seated size s h id v at role in
    let there' : get_elem? s.views other ≡ some w = sym (set_else s.views id other (joined v w) apart) ∙ there in
    let words : StartsWith h.entered w.view.words = subst (Fits size.passes h.entered h.dealt h.dealer h.seat_of other w) note (h.each other w there') in
    let told = changes size s h id v (joined v w) at role refl record { number = p.number; passes = p.passes; seat = p.seat; words = p.words; told = words; own = p.own; learnt = p.learnt } s.words refl in
    ends size record { words = s.words; homes = s.homes; views = set s.views id (joined v w) } told other w there note

-- another seat stays as it was when the dealer deals a seat
deals_beside : (passes : ℕ) (entered : List ℕ) (dealt' dealer seat j : ℕ) (seat_of : ℕ → ℕ) (u : Standing) → j ≢ dealer → (r : Role)
    → Fits passes entered dealt' dealer seat_of j u r → Fits passes entered (dealt' + 1) dealer (λ k. cond (eqb k dealt') seat (seat_of k)) j u r
deals_beside passes entered dealt' dealer seat j seat_of u other Dealer t = absurd (other t.0)
deals_beside passes entered dealt' dealer seat j seat_of u other Seated t =
    let below : u.view.number < dealt' = t.number in
    let old : u.view.number ≢ dealt' = omega arith in
    record {
      number = omega arith;
      passes = t.passes;
      seat = ap (λ (b : Bool). cond b seat (seat_of u.view.number)) (ne_eqb u.view.number dealt' old) ∙ t.seat;
      words = t.words;
      told = t.told;
      own = t.own;
      learnt = t.learnt;
    }
deals_beside passes entered dealt' dealer seat j seat_of u other Note t = t
deals_beside passes entered dealt' dealer seat j seat_of u other Spent t = tt

word_below_more : (dealt' x : ℕ) → IsWord dealt' x → IsWord (dealt' + 1) x
word_below_more dealt' x word = let below : number_of x < dealt' = word.1 in let more : number_of x < dealt' + 1 = below_more (number_of x) dealt' below in (word.0, more)

pub deals : (size : Size) (id number : ℕ) → number < size.passes → Splits (Orderly size) id (dealing number size.passes) (dealing (number + 1) size.passes) (seated number size.passes)
deals size id number few s h at =
    let mine : (id ≡ h.dealer) × (number ≡ h.dealt) = h.each id (dealing number size.passes) at in
    let vs : List Standing = set s.views id (dealing (number + 1) size.passes) in
    let seat_of' : ℕ → ℕ = λ k. cond (eqb k h.dealt) (length vs) (h.seat_of k) in
    let F : ℕ → Standing → Type 0 = λ j u. Fits size.passes h.entered (h.dealt + 1) h.dealer seat_of' j u u.role in
    let new : IsSeated size.passes h.entered (h.dealt + 1) seat_of' (length vs) (seated number size.passes) = record {
      number = omega (arith, mine.1);
      passes = refl;
      seat = ap (λ (b : Bool). cond b (length vs) (h.seat_of number)) (eq-eqb number h.dealt mine.1);
      words = (h.entered, refl);
      told = (h.entered, refl);
      own = positions-absent number h.dealt 0 h.entered (omega (arith, mine.1)) h.words;
      learnt = refl;
    } in record {
      entered = h.entered;
      vacant = h.vacant;
      dealt = h.dealt + 1;
      dealer = h.dealer;
      seat_of = seat_of';
      row = h.row;
      wide = h.wide;
      few = omega (arith, mine.1);
      words = All-weaker (IsWord h.dealt) (IsWord (h.dealt + 1)) (word_below_more h.dealt) h.entered h.words;
      each = λ j u e. ⊎_elim
          (λ (old : get_elem? vs j ≡ some u). ⊎_elim
          (λ (x : (j ≡ id) × (dealing (number + 1) size.passes ≡ u)). subst (F j) x.1 (x.0 ∙ mine.0, ap (λ (k : ℕ). k + 1) mine.1))
          (λ (x : (j ≢ id) × (get_elem? s.views j ≡ some u)). deals_beside size.passes h.entered h.dealt h.dealer (length vs) j h.seat_of u (λ same. x.0 (same ∙ sym mine.0)) u.role (h.each j u x.1))
          (at_set s.views id j (dealing (number + 1) size.passes) u old))
          (λ (x : (j ≡ length vs) × (seated number size.passes ≡ u)). subst (λ (y : ℕ × Standing). F y.0 y.1) (λ k. (sym x.0 k, x.1 k)) new)
          (at_end vs (seated number size.passes) u j e);
      seated = λ k below. dite (ℕ_discrete k h.dealt)
          (λ (is : k ≡ h.dealt).
          let there : seat_of' k ≡ length vs = ap (λ (b : Bool). cond b (length vs) (h.seat_of k)) (eq-eqb k h.dealt is) in
          (seated number size.passes, ap (get_elem? (vs ++ seated number size.passes ∷ [])) there ∙ at_last vs (seated number size.passes) (length vs) refl, refl, mine.1 ∙ sym is))
          (λ (ne : k ≢ h.dealt).
          let p = h.seated k (below_else k h.dealt below ne) in
          let there : seat_of' k ≡ h.seat_of k = ap (λ (b : Bool). cond b (length vs) (h.seat_of k)) (ne_eqb k h.dealt ne) in
          let other : h.seat_of k ≢ id = λ e. let same : dealing number size.passes ≡ p.0 = one_at s.views id (h.seat_of k) (dealing number size.passes) p.0 at p.1 e in dealer_apart (ap (λ (u : Standing). u.role) same ∙ p.2) in
          (p.0, ap (get_elem? (vs ++ seated number size.passes ∷ [])) there ∙ at_longer vs (seated number size.passes ∷ []) (h.seat_of k) p.0 (set_else s.views id (h.seat_of k) (dealing (number + 1) size.passes) other ∙ p.1), p.2, p.3));
    }

pub opens : (size : Size) (ws : List ℕ) → ws ≡ replicate {A = ℕ} size.room 0 → Orderly size (opening ws [] (dealing 0 size.passes))
opens size ws row = record {
  entered = [];
  vacant = size.room;
  dealt = 0;
  dealer = 0;
  seat_of = λ _. 0;
  row = row;
  wide = ap length row ∙ length-replicate size.room 0;
  few = omega arith;
  words = All-nil (IsWord 0);
  each = λ j u e. ⊎_elim
      (λ (x : get_elem? {A = Standing} [] j ≡ some u). absurd (some-ne-none u (sym x)))
      (λ (x : (j ≡ 0) × (dealing 0 size.passes ≡ u)). subst (λ (y : Standing). Fits size.passes [] 0 0 (λ _. 0) j y y.role) x.1 (x.0, refl))
      (at_end [] (dealing 0 size.passes) u j e);
  seated = λ number below. absurd (none_below number below);
}
