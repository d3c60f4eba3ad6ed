-- Rows by their numbers: starts by number, and the entries between two places.
use Rattle.std.proofs.Common.{◌≡◌, ℕ, zero, suc, ◌+◌, ◌<◌, ◌≤◌, ◌%◌, List, [], ◌∷◌, length, get_or, take, drop, refl, ap, sym, subst, ◌∙◌, arith, inl, inr}
use Rattle.std.specs.Prelude.{IsTrue, map}
use Rattle.std.specs.List.{AllByRecursion}
use Rattle.std.specs.Ordering.{nat_cmp}
use Rattle.std.specs.FinMap.{is_sorted}
use Rattle.std.proofs.lemmas.Bool.{cases_eq, cases_lt}
use Rattle.std.proofs.lemmas.List.{get_or_default, get_or_past, length-map}
use Rattle.grb_core.specs.declared.value.Value.{Value}
use Rattle.grb_core.specs.Entries.{VectorEntries, values_of}
use Rattle.grb_core.specs.Results.{row_of}
use Rattle.grb_kernels.specs.Typed.{entries_of}
use Rattle.grb_lists.specs.Cells.{decoded, in_row}
use Rattle.grb_ewise.specs.Ranks.{Rise}
use Rattle.grb_ewise.proofs.RankLemmas.{rise_weakly}
use Rattle.grb_ewise.proofs.Lent.{lent-same}
use Rattle.grb_sums.specs.Spans.{AreSpans}
use Rattle.grb_sums.specs.Naming.{renamed}
use Rattle.grb_sums.proofs.Renamed.{RiseBelow, holds, passes, sorted-unnamed, row-named, row-renamed, all-part, map-part, columns-decoded, columns-in_row}

-- the first k rows are those below a number
pub record AreBelow (rows : List ℕ) (k r : ℕ) : Type 0 where
  pub some : k ≤ length rows
  pub below : (j : ℕ) → j < k → get_or rows j 0 < r
  pub above : k < length rows → r ≤ get_or rows k 0

pub none_below : (rows : List ℕ) → AreBelow rows 0 0
none_below rows = record { some = omega arith; below = λ j h. absurd (omega (arith, h)); above = λ h. omega arith }

module _ (rows : List ℕ) (rise : Rise rows) where
  -- one number on
  pub below_next : (k k2 r : ℕ) → AreBelow rows k r → (k < length rows → get_or rows k 0 ≡ r → k2 ≡ k + 1) → ((k < length rows → get_or rows k 0 ≡ r → ⊥) → k2 ≡ k) → AreBelow rows k2 (r + 1)
  below_next k k2 r was more same =
      elim (cases_lt k (length rows)) [
        | inl lt ↦ elim (cases_eq (get_or rows k 0) r) [
          | inl e ↦ subst (λ m. AreBelow rows m (r + 1)) (sym (more lt e)) (record {
            some = omega (arith, lt);
            below = λ j h. elim (cases_eq j k) [
              | inl is ↦ let at : get_or rows j 0 ≡ r = ap (λ i. get_or rows i 0) is ∙ e in omega (arith, at)
              | inr n ↦ let b = was.below j (omega (arith, h, n)) in omega (arith, b)
            ];
            above = λ h. let up = rise k (k + 1) (omega arith) h in omega (arith, up, e);
          })
          | inr n ↦ subst (λ m. AreBelow rows m (r + 1)) (sym (same (λ _ e. n e))) (record {
            some = was.some;
            below = λ j h. let b = was.below j h in omega (arith, b);
            above = λ h. let a = was.above h in omega (arith, a, n);
          })
        ]
        | inr past ↦ subst (λ m. AreBelow rows m (r + 1)) (sym (same (λ h _. absurd (omega (arith, h, past))))) (record {
          some = was.some;
          below = λ j h. let b = was.below j h in omega (arith, b);
          above = λ h. absurd (omega (arith, h, past));
        })
      ]

  module _ (n m r : ℕ) (here : AreBelow rows n r) (next : AreBelow rows m (r + 1)) where
    -- a row of the number is passed
    pub passed : n < length rows → get_or rows n 0 ≡ r → m ≡ n + 1
    passed lt e =
        elim (cases_lt m (n + 1)) [
          | inl under ↦
              let a = next.above (omega (arith, under, lt)) in
              let w = rise_weakly rows rise m n (omega (arith, under)) lt in
              absurd (omega (arith, a, w, e))
          | inr from ↦ elim (cases_lt (n + 1) m) [
            | inl over ↦
                let s = next.some in
                let b = next.below (n + 1) over in
                let up = rise n (n + 1) (omega arith) (omega (arith, over, s)) in
                absurd (omega (arith, b, up, e))
            | inr upto ↦ omega (arith, from, upto)
          ]
        ]

    -- and where there is none, no row is
    pub stayed : (n < length rows → get_or rows n 0 ≡ r → ⊥) → m ≡ n
    stayed none =
        elim (cases_lt m n) [
          | inl under ↦
              let s = here.some in
              let a = next.above (omega (arith, under, s)) in
              let b = here.below m under in
              absurd (omega (arith, a, b))
          | inr from ↦ elim (cases_lt n m) [
            | inl over ↦
                let s = next.some in
                let lt : n < length rows = omega (arith, over, s) in
                let b = next.below n over in
                let a = here.above lt in
                absurd (none lt (omega (arith, a, b)))
            | inr upto ↦ omega (arith, from, upto)
          ]
        ]

    pub not_there : (n < length rows → get_or rows n 0 ≡ r → ⊥) → (k : ℕ) → k < length rows → get_or rows k 0 ≡ r → ⊥
    not_there none k l e =
        elim (cases_lt k n) [
          | inl under ↦ let b = here.below k under in omega (arith, b, e)
          | inr from ↦
              let lt : n < length rows = omega (arith, l, from) in
              let a = here.above lt in
              let w = rise_weakly rows rise n k (omega (arith, from)) l in
              none lt (omega (arith, a, w, e))
        ]

-- nothing lies between a place and itself
pub drop-take : {X : Type 0} (s : ℕ) (xs : List X) → drop s (take s xs) ≡ []
drop-take zero [] = refl
drop-take zero (x ∷ xs) = refl
drop-take (suc s) [] = refl
drop-take (suc s) (x ∷ xs) = drop-take s xs

-- at a number stands the start of the first row that is not below it
pub record IsStart (rows starts : List ℕ) (len : ℕ) (spans : List ℕ) (r : ℕ) : Type 0 where
  pub n : ℕ
  pub below : AreBelow rows n r
  pub is : get_or spans r 0 ≡ get_or starts n len

module _ (rows starts : List ℕ) (entries : VectorEntries) (rise : Rise rows) (same : length starts ≡ length rows)
    (starts_rise : (i j : ℕ) → i < j → j < length starts → get_or starts i 0 < get_or starts j 0)
    (inside : (k : ℕ) → k < length starts → get_or starts k 0 < length entries)
    (rows_are : (k : ℕ) → k < length rows → row_of (get_or rows k 0) (decoded entries) ≡ in_row (drop (get_or starts k 0) (take (get_or starts (k + 1) (length entries)) entries)))
    (none : (i : ℕ) → ((k : ℕ) → k < length rows → get_or rows k 0 ≡ i → ⊥) → row_of i (decoded entries) ≡ []) where
  abbrev start : ℕ → ℕ
  start k = get_or starts k (length entries)

  start_within : (k : ℕ) → start k ≤ length entries
  start_within k =
      elim (cases_lt k (length starts)) [
        | inl lt ↦ let i = inside k lt in let d = get_or_default starts k 0 (length entries) lt in omega (arith, i, d)
        | inr past ↦ let e = get_or_past starts k (length entries) past in omega (arith, e)
      ]

  -- a row ends where it begins or later
  pub start_up : (k : ℕ) → start k ≤ start (k + 1)
  start_up k =
      elim (cases_lt (k + 1) (length starts)) [
        | inl lt ↦
            let u = starts_rise k (k + 1) (omega arith) lt in
            let d = get_or_default starts k 0 (length entries) (omega (arith, lt)) in
            let e = get_or_default starts (k + 1) 0 (length entries) lt in
            omega (arith, u, d, e)
        | inr past ↦ let e = get_or_past starts (k + 1) (length entries) past in let w = start_within k in omega (arith, e, w)
      ]

  module _ (spans : List ℕ) where
    record IsBetween (r : ℕ) : Type 0 where
      row : row_of r (decoded entries) ≡ in_row (drop (get_or spans r 0) (take (get_or spans (r + 1) 0) entries))
      up : get_or spans r 0 ≤ get_or spans (r + 1) 0

    between : (r : ℕ) → IsStart rows starts (length entries) spans r → IsStart rows starts (length entries) spans (r + 1) → IsBetween r
    between r here next =
        elim (cases_lt here.n (length rows)) [
          | inl lt ↦ elim (cases_eq (get_or rows here.n 0) r) [
            | inl e ↦
                let on : next.n ≡ here.n + 1 = passed rows rise here.n next.n r here.below next.below lt e in
                let first : get_or starts here.n 0 ≡ get_or spans r 0 = get_or_default starts here.n 0 (length entries) (omega (arith, lt, same)) ∙ sym here.is in
                let last : start (here.n + 1) ≡ get_or spans (r + 1) 0 = ap start (sym on) ∙ sym next.is in
                let u = start_up here.n in
                record {
                  row = ap (λ i. row_of i (decoded entries)) (sym e)
                      ∙ rows_are here.n lt
                      ∙ ap (λ s. in_row (drop s (take (start (here.n + 1)) entries))) first
                      ∙ ap (λ t. in_row (drop (get_or spans r 0) (take t entries))) last;
                  up = omega (arith, u, here.is, last);
                }
            | inr n ↦ without r here next (λ _ e. n e)
          ]
          | inr past ↦ without r here next (λ l _. absurd (omega (arith, l, past)))
        ]
      where
        without : (r : ℕ) (here : IsStart rows starts (length entries) spans r) (next : IsStart rows starts (length entries) spans (r + 1)) → (here.n < length rows → get_or rows here.n 0 ≡ r → ⊥) → IsBetween r
        without r here next not =
            let on : next.n ≡ here.n = stayed rows rise here.n next.n r here.below next.below not in
            let one : get_or spans (r + 1) 0 ≡ get_or spans r 0 = next.is ∙ ap start on ∙ sym here.is in
            record {
              row = none r (not_there rows rise here.n next.n r here.below next.below not)
                  ∙ ap in_row (sym (drop-take (get_or spans r 0) entries))
                  ∙ ap (λ t. in_row (drop (get_or spans r 0) (take t entries))) (sym one);
              up = omega (arith, one);
            }

    pub are_spans : ((r : ℕ) → r < length spans → IsStart rows starts (length entries) spans r) → ((k : ℕ) → k < length rows → get_or rows k 0 + 1 < length spans) → AreSpans entries spans
    are_spans at room = record {
      row = λ r l. (between r (at r (omega (arith, l))) (at (r + 1) l)).row;
      up = λ r l. (between r (at r (omega (arith, l))) (at (r + 1) l)).up;
      within = λ r l. let s = at r l in let w = start_within s.n in let e = s.is in omega (arith, w, e);
      beyond = λ r past. none r (λ k l e. let h = room k l in absurd (omega (arith, h, e, past)));
    }

-- the values of one row
values-in_row : (m : VectorEntries) → map (λ e. e.1) m ≡ map (λ e. e.1) (in_row m)
values-in_row [] = refl
values-in_row (e ∷ m) = ap (λ (t : List Value). e.1 ∷ t) (values-in_row m)

pub row-values : {V : Type 0} (value : V → Value) (values vs : List V) (m row : VectorEntries) (s e : ℕ) → map value values ≡ values_of m → vs ≡ drop s (take e values) → row ≡ in_row (drop s (take e m))
    → map value vs ≡ values_of row
row-values value values vs m row s e valued is row_is =
    ap (map value) is
    ∙ map-part value s e values
    ∙ ap (λ (t : List Value). drop s (take e t)) valued
    ∙ sym (map-part (λ (e : ℕ × Value). e.1) s e m)
    ∙ values-in_row (drop s (take e m))
    ∙ ap values_of (sym row_is)

pub values-long : {V : Type 0} (value : V → Value) (values : List V) (m : VectorEntries) → map value values ≡ values_of m → length values ≡ length m
values-long value values m valued = sym (length-map values value) ∙ ap length valued ∙ length-map m (λ (e : ℕ × Value). e.1)

pub columns-long : (columns : List ℕ) (m : VectorEntries) → columns ≡ map (λ e. e.0.1) (decoded m) → length columns ≡ length m
columns-long columns m are = ap length (are ∙ columns-decoded m) ∙ length-map m (λ (e : ℕ × Value). e.0 % 4294967296)

pub ranks-long : (name : ℕ → ℕ) (ranks : List ℕ) (m : VectorEntries) → map name ranks ≡ map (λ e. e.0.1) (decoded m) → length ranks ≡ length m
ranks-long name ranks m named = sym (length-map ranks name) ∙ columns-long (map name ranks) m named

-- the columns of one row
pub row-columns : (columns cs : List ℕ) (m row : VectorEntries) (s e : ℕ) → columns ≡ map (λ e. e.0.1) (decoded m) → cs ≡ drop s (take e columns) → row ≡ in_row (drop s (take e m)) → cs ≡ map (λ e. e.0) row
row-columns columns cs m row s e are is row_is =
    is
    ∙ ap (λ (t : List ℕ). drop s (take e t)) (are ∙ columns-decoded m)
    ∙ sym (map-part (λ (e : ℕ × Value). e.0 % 4294967296) s e m)
    ∙ sym (columns-in_row (drop s (take e m)))
    ∙ ap (map (λ e. e.0)) (sym row_is)

-- ranks and values between two places are a row by its names
module _ {V : Type 0} (value : V → Value) (n : ℕ) (name : ℕ → ℕ) (ranks rs : List ℕ) (vs : List V) (m row : VectorEntries) (s e : ℕ)
    (named : map name ranks ≡ map (λ e. e.0.1) (decoded m)) (is : rs ≡ drop s (take e ranks)) (row_is : row ≡ in_row (drop s (take e m))) (values_are : map value vs ≡ values_of row) where
  names_are : map name rs ≡ map (λ e. e.0) row
  names_are = row-named name ranks rs m row s e named is row_is

  pub ranked-entries : renamed name (entries_of value rs vs) ≡ row
  ranked-entries = row-renamed value name rs vs row names_are values_are

  pub ranked-same : length rs ≡ length vs
  ranked-same = sym (length-map rs name) ∙ lent-same value (map name rs) vs row names_are values_are

  pub ranked-rising : RiseBelow n name → AllByRecursion (λ r. r < n) ranks → IsTrue (is_sorted nat_cmp row) → IsTrue (is_sorted nat_cmp (entries_of value rs vs))
  ranked-rising rise below ordered =
      passes _ (sorted-unnamed n name rise value rs vs (all-part (λ r. r < n) ranks rs s e is below)
      (holds _ (subst (λ (m : VectorEntries). IsTrue (is_sorted nat_cmp m)) (sym ranked-entries) ordered)))
