-- Marks of columns that are set and taken away, and a row that is cut to the columns of another one.
use Rattle.std.proofs.Common.{◌≡◌, ℕ, ◌<◌, ◌-◌, Bool, true, false, cond, List, [], ◌∷◌, ◌++◌, length, get_or, set, refl, sym, ap, subst, ◌∙◌, arith, append_assoc, inl, inr}
use Rattle.std.specs.Prelude.{◌⊎◌, Option, Some, None, All, IsTrue}
use Rattle.std.specs.List.{AllByRecursion}
use Rattle.std.specs.Ordering.{nat_cmp}
use Rattle.std.specs.Cmp.{nat_cmp_total}
use Rattle.std.specs.FinMap.{is_sorted, find, nat_cmp-IsAntisymmetric}
use Rattle.std.specs.FinMap.Entries.{is_sorted-where_key}
use Rattle.std.proofs.lemmas.Bool.{cases_eq}
use Rattle.std.proofs.lemmas.List.{get_or-set_same, get_or-set_other, length-set}
use Rattle.std.proofs.lemmas.List.Elements.{All-from_get_or, All-from_recursion, recursion_from_All}
use lib.Dec.{T}
use Rattle.grb_core.specs.declared.value.Value.{Value}
use Rattle.grb_core.specs.Entries.{VectorEntries, before_entries, restricted}
use Rattle.grb_core.specs.Written.{pointwise}
use Rattle.grb_core.proofs.Maps.{same_entries_at}
use Rattle.grb_core.proofs.Edits.{find-restricted}
use Rattle.grb_core.proofs.Written.{find-pointwise, is_sorted-pointwise}
use Rattle.grb_kernels.specs.Typed.{kept, entries_of, first_entries}
use Rattle.grb_ewise.specs.Marks.{marked, AreClear, IsCutTo}
use Rattle.grb_ewise.proofs.Inside.{all_pass}
use Rattle.grb_ewise.proofs.RowEntries.{holds, passes}

-- a number that stands in a list
Among : ℕ → List ℕ → Type 0
Among q [] = ⊥
Among q (j ∷ js) = (q ≡ j) ⊎ Among q js

-- marks are set at these columns alone
abbrev OnlyAt : List ℕ → List Bool → Type 0
OnlyAt js marks = (q : ℕ) → get_or marks q false ≡ true → Among q js

length-marked : (here : Bool) (js : List ℕ) (marks : List Bool) → length (marked here js marks) ≡ length marks
length-marked here [] marks = refl
length-marked here (j ∷ js) marks = length-marked here js (set marks j here) ∙ length-set marks j here

still_in : (js : List ℕ) (marks : List Bool) (j : ℕ) (b : Bool) → AllByRecursion (λ k. k < length marks) js → AllByRecursion (λ k. k < length (set marks j b)) js
still_in js marks j b h = subst (λ n. AllByRecursion (λ k. k < n) js) (sym (length-set marks j b)) h

stays_marked : (js : List ℕ) (marks : List Bool) (q : ℕ) → AllByRecursion (λ k. k < length marks) js → get_or marks q false ≡ true → get_or (marked true js marks) q false ≡ true
stays_marked [] marks q h e = e
stays_marked (j ∷ js) marks q h e = stays_marked js (set marks j true) q (still_in js marks j true h.1) here
  where
    here : get_or (set marks j true) q false ≡ true
    here = elim (cases_eq q j) [
      | inl t ↦ ap (λ k. get_or (set marks j true) k false) t ∙ get_or-set_same marks j true false h.0
      | inr n ↦ get_or-set_other marks j q true false n ∙ e
    ]

-- columns that are marked have marks
all_marked : (js : List ℕ) (marks : List Bool) → AllByRecursion (λ k. k < length marks) js → AllByRecursion (λ q. get_or (marked true js marks) q false ≡ true) js
all_marked [] marks h = tt
all_marked (j ∷ js) marks h =
    (stays_marked js (set marks j true) j (still_in js marks j true h.1) (get_or-set_same marks j true false h.0), all_marked js (set marks j true) (still_in js marks j true h.1))

only_marked : (js : List ℕ) (marks : List Bool) (q : ℕ) → get_or (marked true js marks) q false ≡ true → (get_or marks q false ≡ true) ⊎ Among q js
unfolding Among
only_marked [] marks q e = inl e
only_marked (j ∷ js) marks q e =
    elim (only_marked js (set marks j true) q e) [
      | inl t ↦ elim (cases_eq q j) [ inl s ↦ inr (inl s) | inr n ↦ inl (sym (get_or-set_other marks j q true false n) ∙ t) ]
      | inr a ↦ inr (inr a)
    ]

cleared : (js : List ℕ) (marks : List Bool) → AllByRecursion (λ k. k < length marks) js → OnlyAt js marks → AreClear (marked false js marks)
unfolding Among
cleared [] marks h only q =
    elim (get_or marks q false) as (λ b. get_or marks q false ≡ b → b ≡ false) [
      | true ↦ λ t. absurd (only q t)
      | false ↦ λ t. refl
    ] refl
cleared (j ∷ js) marks h only q = cleared js (set marks j false) (still_in js marks j false h.1) fewer q
  where
    unmarked : (p : ℕ) → p ≡ j → get_or (set marks j false) p false ≡ false
    unmarked p s = ap (λ k. get_or (set marks j false) k false) s ∙ get_or-set_same marks j false false h.0

    fewer : OnlyAt js (set marks j false)
    fewer p t = elim (cases_eq p j) [
      | inl s ↦ let z = unmarked p s in cc
      | inr n ↦ elim (only p (sym (get_or-set_other marks j p false false n) ∙ t)) [ inl s ↦ absurd (n s) | inr a ↦ a ]
    ]

-- marks that are set and taken away again leave none
pub marks_cleared : (js : List ℕ) (marks set_marks new : List Bool) → All (λ k. k < length marks) js → AreClear marks → set_marks ≡ marked true js marks → new ≡ marked false js set_marks → AreClear new
marks_cleared js marks set_marks new h clear s e =
    subst AreClear (sym (e ∙ ap (marked false js) s))
    (cleared js (marked true js marks) (subst (λ n. AllByRecursion (λ k. k < n) js) (sym (length-marked true js marks)) (recursion_from_All _ _ h)) only)
  where
    only : OnlyAt js (marked true js marks)
    only q t = elim (only_marked js marks q t) [ inl u ↦ let z : get_or marks q false ≡ false = clear q in cc | inr a ↦ a ]

pub long-marked : (here : Bool) (js : List ℕ) (marks new : List Bool) → new ≡ marked here js marks → length new ≡ length marks
long-marked here js marks new e = ap length e ∙ length-marked here js marks

-- a row that is cut by marks of columns is cut to these
pub cut_by_marks : (js : List ℕ) (marks set_marks : List Bool) (row left : VectorEntries) → All (λ k. k < length marks) js → set_marks ≡ marked true js marks
    → left ≡ restricted (λ j. get_or set_marks j false) row → IsCutTo js row left
cut_by_marks js marks set_marks row left h s e = record {
  test = λ j. get_or set_marks j false;
  all = subst (λ (m : List Bool). All (λ j. get_or m j false ≡ true) js) (sym s) (All-from_recursion _ _ (all_marked js marks (recursion_from_All _ _ h)));
  entries = e;
}

-- one more entry is kept or passed over
pub kept_on : (test : ℕ → Bool) (out out2 m rest : VectorEntries) (q : ℕ) (v : Value) (keep : Bool) → m ≡ (q, v) ∷ rest → keep ≡ test q
    → out2 ≡ out ++ before_entries q (kept v keep) [] → out2 ++ restricted test rest ≡ out ++ restricted test m
kept_on test out out2 m rest q v keep is k e =
    ap (λ (o : VectorEntries). o ++ restricted test rest) e
    ∙ append_assoc out (before_entries q (kept v keep) []) (restricted test rest)
    ∙ ap (λ (o : VectorEntries). out ++ o) (one keep ∙ ap (λ b. cond b ((q, v) ∷ restricted test rest) (restricted test rest)) k)
    ∙ sym (ap (λ (n : VectorEntries). out ++ restricted test n) is)
  where
    one : (b : Bool) → before_entries q (kept v b) [] ++ restricted test rest ≡ cond b ((q, v) ∷ restricted test rest) (restricted test rest)
    one true = refl
    one false = refl

entries_pass : {W : Type 0} (value : W → Value) (test : ℕ → Bool) (js : List ℕ) (vs : List W) → AllByRecursion (λ j. test j ≡ true) js → AllByRecursion (λ e. test e.0 ≡ true) (entries_of value js vs)
entries_pass value test [] vs h = tt
entries_pass value test (j ∷ js) [] h = tt
entries_pass value test (j ∷ js) (v ∷ vs) h = (h.0, entries_pass value test js vs h.1)

-- a row that is cut to the columns of another one makes the same with it, where nothing is kept of the first alone
module _ (f : Option Value → Option Value → Option Value) (none : f None None ≡ None) (left_none : (x : Value) → f (Some x) None ≡ None) {W : Type 0} (value : W → Value) (js : List ℕ) (vs : List W) (row left : VectorEntries) (cut : IsCutTo js row left) where
  abbrev other : VectorEntries
  other = entries_of value js vs

  nothing : (w : Option Value) → f w None ≡ None
  nothing None = none
  nothing (Some x) = left_none x

  at : (q : ℕ) → f (find nat_cmp q (restricted cut.test row)) (find nat_cmp q other) ≡ f (find nat_cmp q row) (find nat_cmp q other)
  at q =
      elim (cut.test q) as (λ b. cut.test q ≡ b → f (find nat_cmp q (restricted cut.test row)) (find nat_cmp q other) ≡ f (find nat_cmp q row) (find nat_cmp q other)) [
        | true ↦ λ t. ap (λ w. f w (find nat_cmp q other)) (find-restricted nat_cmp nat_cmp_total nat_cmp-IsAntisymmetric cut.test q row ∙ ap (λ b. cond b (find nat_cmp q row) None) t)
        | false ↦ λ t.
            let absent : find nat_cmp q other ≡ None =
            sym (ap (find nat_cmp q) (all_pass cut.test other (entries_pass value cut.test js vs (recursion_from_All _ _ cut.all))))
            ∙ find-restricted nat_cmp nat_cmp_total nat_cmp-IsAntisymmetric cut.test q other
            ∙ ap (λ b. cond b (find nat_cmp q other) None) t in
            ap (f (find nat_cmp q (restricted cut.test row))) absent ∙ nothing (find nat_cmp q (restricted cut.test row))
            ∙ sym (ap (f (find nat_cmp q row)) absent ∙ nothing (find nat_cmp q row))
      ] refl

  pub pointwise-cut : pointwise nat_cmp f left other ≡ pointwise nat_cmp f row other
  pointwise-cut =
      ap (λ (m : VectorEntries). pointwise nat_cmp f m other) cut.entries
      ∙ same_entries_at nat_cmp nat_cmp_total nat_cmp-IsAntisymmetric _ _
      (is_sorted-pointwise nat_cmp_total nat_cmp-IsAntisymmetric f (restricted cut.test row) other) (is_sorted-pointwise nat_cmp_total nat_cmp-IsAntisymmetric f row other)
      (λ q. find-pointwise nat_cmp_total nat_cmp-IsAntisymmetric f none q (restricted cut.test row) other ∙ at q ∙ sym (find-pointwise nat_cmp_total nat_cmp-IsAntisymmetric f none q row other))

-- and is in order
pub cut-in_order : (js : List ℕ) (row left : VectorEntries) → IsTrue (is_sorted nat_cmp row) → IsCutTo js row left → IsTrue (is_sorted nat_cmp left)
cut-in_order js row left h cut = passes _ (subst (λ (m : VectorEntries). T (is_sorted nat_cmp m)) (sym cut.entries) (is_sorted-where_key nat_cmp cut.test row (holds _ h)))

-- and where its lists are lent it is the same
pub cut_lent : {V : Type 0} (value : V → Value) (js : List ℕ) (row : VectorEntries) (n : ℕ) (cs lent_cs : List ℕ) (vs lent_vs : List V) → lent_cs ≡ cs → lent_vs ≡ vs
    → IsCutTo js row (first_entries value n cs vs) → IsCutTo js row (first_entries value n lent_cs lent_vs)
cut_lent value js row n cs lent_cs vs lent_vs e d =
    subst (IsCutTo js row) (sym (ap (λ (s : List ℕ). first_entries value n s lent_vs) e ∙ ap (first_entries value n cs) d))

-- columns that rise are all below what the last one is below
pub all_below : (js : List ℕ) (n : ℕ) → ((i j : ℕ) → i < j → j < length js → get_or js i 0 < get_or js j 0) → get_or js (length js - 1) 0 < n → All (λ j. j < n) js
all_below js n rise last = All-from_get_or (λ j. j < n) js 0 below
  where
    below : (i : ℕ) → i < length js → get_or js i 0 < n
    below i l = elim (cases_eq i (length js - 1)) [
      | inl e ↦ subst (λ k. get_or js k 0 < n) (sym e) last
      | inr d ↦ let up = rise i (length js - 1) (omega (arith, l, d)) (omega (arith, l)) in omega (arith, up, last)
    ]
