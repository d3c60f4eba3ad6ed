-- Where an index stands among entries in order, or that it stands nowhere.
use Rattle.std.proofs.Common.{◌≡◌, ℕ, zero, suc, ◌<◌, ◌≤◌, Bool, true, false, cond, List, [], ◌∷◌, length, get_or, refl, sym, ap, subst, ◌∙◌, arith}
use Rattle.std.specs.Prelude.{◌&&◌, Some, None, IsTrue, map}
use Rattle.std.specs.Ordering.{nat_cmp, is_eq, eq_by_cmp}
use Rattle.std.specs.declared.cmp.Ordering.TheVariants.{Less, Equal, Greater}
use Rattle.std.specs.Cmp.{nat_cmp_total}
use Rattle.std.specs.FinMap.{is_sorted, find}
use Rattle.std.proofs.lemmas.Bool.Decides.{nat_tests}
use Rattle.std.proofs.lemmas.List.{length-map}
use lib.Dec.{T}
use Rattle.grb_core.specs.declared.value.Value.{Value}
use Rattle.grb_core.specs.Entries.{VectorEntries}
use Rattle.grb_core.proofs.Maps.{find-tied_below}
use Rattle.grb_kernels.specs.Typed.{entries_of}
use Rattle.grb_lists.proofs.FlatLists.{indices_rise}
use Rattle.grb_ewise.proofs.Lent.{entries-paired}

fst : (a b : Bool) → T (a && b) → T a
fst true b p = tt
fst false b p = absurd p

snd : (a b : Bool) → T (a && b) → T b
snd true b p = p
snd false b p = absurd p

holds : (b : Bool) → IsTrue b → T b
holds b e = subst T (sym e) tt

pub same_index : (j c : ℕ) → c ≡ j → eq_by_cmp nat_cmp j c ≡ true
same_index j c e = grind (arith, nat_tests)

pub other_index : (j c : ℕ) → (c ≡ j → ⊥) → eq_by_cmp nat_cmp j c ≡ false
other_index j c h = grind (arith, nat_tests)

module _ {V : Type 0} (value : V → Value) where
  find-place : (cs : List ℕ) (vs : List V) (i j : ℕ) (x : V) → T (is_sorted nat_cmp (entries_of value cs vs)) → i < length cs → length cs ≡ length vs → get_or cs i 0 ≡ j → x ≡ get_or vs i x
      → find nat_cmp j (entries_of value cs vs) ≡ Some (value x)
  find-place [] vs i j x h l e k is = absurd (omega arith)
  find-place (c ∷ cs) [] i j x h l e k is = absurd (omega arith)
  find-place (c ∷ cs) (v ∷ vs) zero j x h l e k is =
      ap (λ b. cond b (Some (value v)) (find nat_cmp j (entries_of value cs vs))) (same_index j c k) ∙ ap (λ w. Some (value w)) (sym is)
  find-place (c ∷ cs) (v ∷ vs) (suc i) j x h l e k is =
      let rest = find-place cs vs i j x (snd _ _ h) (omega arith) (omega arith) k is in
      elim (nat_cmp j c) as (λ r. nat_cmp j c ≡ r → cond (is_eq r) (Some (value v)) (find nat_cmp j (entries_of value cs vs)) ≡ Some (value x)) [
        | Less ↦ λ t. rest
        | Equal ↦ λ t. absurd (nothing (sym (find-tied_below nat_cmp nat_cmp_total c j (entries_of value cs vs) (fst _ _ h) t) ∙ rest))
        | Greater ↦ λ t. rest
      ] refl
    where
      nothing : None ≡ Some (value x) → ⊥
      nothing n = cc

  pub find-at : (cs : List ℕ) (vs : List V) (i j : ℕ) (x : V) → IsTrue (is_sorted nat_cmp (entries_of value cs vs)) → i < length cs → length cs ≡ length vs → get_or cs i 0 ≡ j → x ≡ get_or vs i x
      → find nat_cmp j (entries_of value cs vs) ≡ Some (value x)
  find-at cs vs i j x h = find-place cs vs i j x (holds _ h)

  pub find-nowhere : (j : ℕ) (cs : List ℕ) (vs : List V) → ((k : ℕ) → k < length cs → get_or cs k 0 ≡ j → ⊥) → find nat_cmp j (entries_of value cs vs) ≡ None
  find-nowhere j [] vs h = refl
  find-nowhere j (c ∷ cs) [] h = refl
  find-nowhere j (c ∷ cs) (v ∷ vs) h =
      ap (λ b. cond b (Some (value v)) (find nat_cmp j (entries_of value cs vs))) (other_index j c (h 0 (omega arith)))
      ∙ find-nowhere j cs vs (λ k l. h (suc k) (omega arith))

  pub lent_rise : (cs : List ℕ) (vs : List V) → length cs ≡ length vs → IsTrue (is_sorted nat_cmp (entries_of value cs vs)) → (i j : ℕ) → i ≤ j → j < length cs → get_or cs i 0 ≤ get_or cs j 0
  lent_rise cs vs e h i j l m =
      indices_rise cs (map value vs) (length-map vs value ∙ sym e) (subst (λ (s : VectorEntries). T (is_sorted nat_cmp s)) (entries-paired value cs vs) (holds _ h)) i j l m
