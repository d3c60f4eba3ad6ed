-- A row and changes, both in order, put together run by run: of the entries at changes none is left.
use Rattle.std.proofs.Common.{◌≡◌, ℕ, zero, suc, ◌+◌, ◌<◌, ◌≤◌, true, not, cond, List, [], ◌∷◌, ◌++◌, length, get_or, take, drop, Some, None, Option, refl, sym, ap, subst, ◌∙◌, arith, inl, inr}
use Rattle.std.specs.List.{AllByRecursion}
use Rattle.std.specs.Ordering.{nat_cmp, eq_by_cmp}
use Rattle.std.specs.FinMap.{is_sorted, put}
use Rattle.std.specs.FinMap.Entries.{by_order}
use Rattle.std.proofs.lemmas.Bool.{cases_eq, cases_lt}
use Rattle.std.proofs.lemmas.List.{append-nil, append_assoc, take-append-drop, take-take, take_more, get_or_default}
use lib.Dec.{T}
use Rattle.grb_core.specs.declared.value.Value.{Value}
use Rattle.grb_core.specs.declared.value.Value.TheVariants as value
use Rattle.grb_core.specs.Entries.{VectorEntries, without_entry}
use Rattle.grb_rows.specs.Pending.{Change, changed_at, changed}
use Rattle.grb_rows.proofs.Changes.{changed-push, keys_changed, changed-front}
use Rattle.grb_lists.proofs.Ends.{above, tie, itself, keys_rise, below_taken}

pub none_between : {A : Type 0} (s e : ℕ) (m : List A) → e ≤ s → drop s (take e m) ≡ []
none_between zero zero m l = refl
none_between zero (suc e) m l = absurd (omega arith)
none_between (suc s) zero m l = refl
none_between (suc s) (suc e) [] l = refl
none_between (suc s) (suc e) (x ∷ m) l = none_between s e m (omega arith)

-- up to a later place: those up to an earlier one, and those between
take_part : (s e : ℕ) (m : VectorEntries) → s ≤ e → take e m ≡ take s m ++ drop s (take e m)
take_part s e m l = sym (take-append-drop s (take e m)) ∙ ap (λ (r : VectorEntries). r ++ drop s (take e m)) (take-take s e m l)

pub all-part : (P : ℕ × Value → Type 0) (s e : ℕ) (m : VectorEntries) → ((q : ℕ) (d : ℕ × Value) → s ≤ q → q < e → q < length m → P (get_or m q d)) → AllByRecursion P (drop s (take e m))
all-part P zero zero m h = tt
all-part P zero (suc e) [] h = tt
all-part P zero (suc e) (x ∷ m) h = (h 0 x (omega arith) (omega arith) (omega arith), all-part P zero e m (λ q d a b c. h (suc q) d (omega arith) (omega arith) (omega arith)))
all-part P (suc s) zero m h = tt
all-part P (suc s) (suc e) [] h = tt
all-part P (suc s) (suc e) (x ∷ m) h = all-part P s e m (λ q d a b c. h (suc q) d (omega arith) (omega arith) (omega arith))

upto : (m : VectorEntries) (d : ℕ × Value) → T (is_sorted nat_cmp m) → (i j : ℕ) → i ≤ j → j < length m → (get_or m i d).0 ≤ (get_or m j d).0
upto m d h i j l n = elim (cases_eq i j) [
  | inl t ↦ let e = ap (λ x. (get_or m x d).0) t in omega (arith, e)
  | inr t ↦ let r = keys_rise m d h i j (omega (arith, l, t)) n in omega (arith, r)
]

-- entries above all changes stay at the end
changed-run : (cs : List Change) (run m : VectorEntries) → AllByRecursion (λ e. AllByRecursion (λ c. c.0 < e.0) cs) run → changed (m ++ run) cs ≡ changed m cs ++ run
changed-run cs [] m h = ap (λ (x : VectorEntries). changed x cs) (append-nil m) ∙ sym (append-nil (changed m cs))
changed-run cs (e ∷ run) m h =
    ap (λ (x : VectorEntries). changed x cs) (sym (append_assoc m (e ∷ []) run))
    ∙ changed-run cs run (m ++ e ∷ []) h.1
    ∙ ap (λ (x : VectorEntries). x ++ run) (changed-front cs e m h.0)
    ∙ append_assoc (changed m cs) (e ∷ []) run

-- a change at the last index leaves nothing of the entry there
without-last : (k : ℕ) (v : Value) (m : VectorEntries) → AllByRecursion (λ e. e.0 < k) m → without_entry nat_cmp k (m ++ (k, v) ∷ []) ≡ without_entry nat_cmp k m
without-last k v [] h = ap (λ b. cond (not b) ((k, v) ∷ []) []) (itself k)
without-last k v (e ∷ m) h =
    ap (λ (s : VectorEntries). cond (not (eq_by_cmp nat_cmp k e.0)) (e ∷ s) s) (without-last k v m h.1)

put-over : (k : ℕ) (v w : Value) (m : VectorEntries) → AllByRecursion (λ e. e.0 < k) m → put nat_cmp k w (m ++ (k, v) ∷ []) ≡ put nat_cmp k w m
put-over k v w [] h = ap (λ r. by_order r ((k, w) ∷ (k, v) ∷ []) ((k, w) ∷ []) ((k, v) ∷ (k, w) ∷ [])) (tie k k refl)
put-over k v w (e ∷ m) h =
    ap (λ r. by_order r ((k, w) ∷ e ∷ (m ++ (k, v) ∷ [])) ((e.0, w) ∷ (m ++ (k, v) ∷ [])) (e ∷ put nat_cmp k w (m ++ (k, v) ∷ []))) (above e.0 k h.0)
    ∙ ap (λ (s : VectorEntries). e ∷ s) (put-over k v w m h.1)
    ∙ sym (ap (λ r. by_order r ((k, w) ∷ e ∷ m) ((e.0, w) ∷ m) (e ∷ put nat_cmp k w m)) (above e.0 k h.0))

changed_at-last : (k : ℕ) (c : Option Value) (v : Value) (m : VectorEntries) → AllByRecursion (λ e. e.0 < k) m → changed_at k c (m ++ (k, v) ∷ []) ≡ changed_at k c m
changed_at-last k None v m h = without-last k v m h
changed_at-last k (Some w) v m h = put-over k v w m h

module _ (m : VectorEntries) (cs : List Change) (i j : ℕ) where
  -- what is made of the first i entries and the first j changes
  abbrev pub so_far : VectorEntries
  so_far = changed (take i m) (take j cs)

  -- the next change comes after each entry so far, and the next entry after each change so far
  abbrev pub RowBelow : Type 0
  RowBelow = (a : ℕ) (d : ℕ × Value) (e : Change) → a < i → j < length cs → (get_or m a d).0 < (get_or cs j e).0

  abbrev pub ChangesBelow : Type 0
  ChangesBelow = (b : ℕ) (d : ℕ × Value) (e : Change) → b < j → i < length m → (get_or cs b e).0 < (get_or m i d).0

  module _ (hm : T (is_sorted nat_cmp m)) (hc : T (is_sorted nat_cmp cs)) where
    pub entry_above : (d : ℕ × Value) → i < length m → ChangesBelow → AllByRecursion (λ e. e.0 < (get_or m i d).0) so_far
    entry_above d inside below =
        keys_changed (get_or m i d).0 (take j cs) (take i m)
        (below_taken (get_or m i d).0 m i (λ a f l n. subst (λ (x : ℕ × Value). x.0 < (get_or m i d).0) (get_or_default m a d f n) (keys_rise m d hm a i l inside)))
        (below_taken (get_or m i d).0 cs j (λ b e l n. below b d e l inside))

    pub change_above : (c : Change) → ((e : Change) → c ≡ get_or cs j e) → j < length cs → RowBelow → AllByRecursion (λ e. e.0 < c.0) so_far
    change_above c is inside below =
        keys_changed c.0 (take j cs) (take i m)
        (below_taken c.0 m i (λ a d l n. subst (λ (x : Change). (get_or m a d).0 < x.0) (sym (is c)) (below a d c l inside)))
        (below_taken c.0 cs j (λ b e l n. subst (λ (x : Change). (get_or cs b e).0 < x.0) (sym (is e)) (keys_rise cs e hc b j l inside)))

    pub change_more : (c : Change) → ((e : Change) → c ≡ get_or cs j e) → j < length cs → changed_at c.0 c.1 so_far ≡ changed (take i m) (take (j + 1) cs)
    change_more c is inside =
        sym (changed-push c.0 c.1 (take j cs) (take i m))
        ∙ ap (λ x. changed (take i m) (take j cs ++ x ∷ [])) (is c)
        ∙ ap (changed (take i m)) (sym (take_more cs j c inside))

module _ (m : VectorEntries) (cs : List Change) (i j e : ℕ) (hm : T (is_sorted nat_cmp m)) (order : i ≤ e) (within : e ≤ length m) (below : ChangesBelow m cs i j) where
  -- a run of entries that come after each change so far
  pub run_more : so_far m cs i j ++ drop i (take e m) ≡ so_far m cs e j
  run_more =
      sym (changed-run (take j cs) (drop i (take e m)) (take i m) all)
      ∙ ap (λ (x : VectorEntries). changed x (take j cs)) (sym (take_part i e m order))
    where
      all : AllByRecursion (λ e. AllByRecursion (λ c. c.0 < e.0) (take j cs)) (drop i (take e m))
      all =
          all-part (λ e. AllByRecursion (λ c. c.0 < e.0) (take j cs)) i e m (λ q d a b n. below_taken (get_or m q d).0 cs j (λ k c l o.
          let x = below k d c l (omega (arith, a, n)) in
          let y = upto m d hm i q a n in
          omega (arith, x, y)))

-- the next change after a run, and the entry at its index, if there is one: those before `next` come before the change, at most the one
-- there is at its index, and those from `i` on come after it
module _ (m : VectorEntries) (cs : List Change) (next j i : ℕ) (hm : T (is_sorted nat_cmp m)) (hc : T (is_sorted nat_cmp cs)) (c : Change) (is : (e : Change) → c ≡ get_or cs j e) (inside : j < length cs)
    (row_below : RowBelow m cs next j) (order : next ≤ i) (within : i ≤ length m)
    (passed : (q : ℕ) (d : ℕ × Value) → next ≤ q → q < i → (q ≡ next) × ((get_or m q d).0 ≡ c.0))
    (after : (q : ℕ) (d : ℕ × Value) → i ≤ q → q < length m → c.0 < (get_or m q d).0) where
  pub change_passed : changed_at c.0 c.1 (so_far m cs next j) ≡ so_far m cs i (j + 1)
  change_passed = elim (cases_eq i next) [
    | inl t ↦ change_more m cs next j hm hc c is inside ∙ ap (λ x. so_far m cs x (j + 1)) (sym t)
    | inr t ↦
        let d : ℕ × Value = (0, value.Bool true) in
        let e = get_or m next d in
        let there : next < i = omega (arith, order, t) in
        let here = passed next d (omega arith) there in
        let one : i ≡ next + 1 = elim (cases_lt (next + 1) i) [
          | inl l ↦ let x = (passed (next + 1) d (omega arith) l).0 in absurd (omega (arith, x))
          | inr l ↦ omega (arith, l, there)
        ] in
        let key : (c.0, e.1) ≡ e = λ z. (sym here.1 z, e.1) in
        let low : AllByRecursion (λ f. f.0 < c.0) (so_far m cs next j) = change_above m cs next j hm hc c is inside row_below in
        let changes_low : AllByRecursion (λ f. f.0 < e.0) (take j cs) = below_taken e.0 cs j (λ b f l n. subst (λ (x : ℕ). (get_or cs b f).0 < x) (ap (λ (x : Change). x.0) (sym (is f)) ∙ sym here.1) (keys_rise cs f hc b j l inside)) in
        let grown : so_far m cs i j ≡ so_far m cs next j ++ (c.0, e.1) ∷ [] =
        ap (λ x. so_far m cs x j) one
        ∙ ap (λ (x : VectorEntries). changed x (take j cs)) (take_more m next d (omega (arith, there, within)))
        ∙ changed-front (take j cs) e (take next m) changes_low
        ∙ ap (λ (x : ℕ × Value). so_far m cs next j ++ x ∷ []) (sym key) in
        sym (changed_at-last c.0 c.1 e.1 (so_far m cs next j) low)
        ∙ ap (changed_at c.0 c.1) (sym grown)
        ∙ change_more m cs i j hm hc c is inside
  ]

  pub row_below_passed : RowBelow m cs i (j + 1)
  row_below_passed a d e l n =
      let up = keys_rise cs e hc j (j + 1) (omega arith) n in
      let same = ap (λ (x : Change). x.0) (is e) in
      elim (cases_lt a next) [
        | inl low ↦ let b = row_below a d e low inside in omega (arith, b, up)
        | inr high ↦ let b = (passed a d high l).1 in omega (arith, b, up, same)
      ]

  pub changes_below_passed : ChangesBelow m cs i (j + 1)
  changes_below_passed b d e l n =
      let first = after i d (omega arith) n in
      let same = ap (λ (x : Change). x.0) (is e) in
      elim (cases_lt b j) [
        | inl low ↦ let up = keys_rise cs e hc b j low inside in omega (arith, up, same, first)
        | inr high ↦
            let last : b ≡ j = omega (arith, high, l) in
            let key = ap (λ x. (get_or cs x e).0) last in
            omega (arith, key, same, first)
      ]

-- at the end of both nothing is left out
take_all : {A : Type 0} (xs : List A) → take (length xs) xs ≡ xs
take_all [] = refl
take_all {A} (x ∷ xs) = ap (λ (s : List A). x ∷ s) (take_all xs)

pub so_far-all : (m : VectorEntries) (cs : List Change) (i j : ℕ) → i ≡ length m → j ≡ length cs → so_far m cs i j ≡ changed m cs
so_far-all m cs i j is js =
    ap (λ n. so_far m cs n j) is
    ∙ ap (λ n. so_far m cs (length m) n) js
    ∙ ap (λ (x : VectorEntries). changed x (take (length cs) cs)) (take_all m)
    ∙ ap (changed m) (take_all cs)
