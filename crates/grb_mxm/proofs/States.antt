-- The states of places under a mask, as two lists of marks: where a sum is allowed, and where there is one.
use Rattle.std.proofs.Common.{◌≡◌, ℕ, zero, suc, Bool, true, false, List, [], ◌∷◌, refl, sym, ap, ◌∙◌, length, get_or, set}
use Rattle.grb_core.specs.declared.value.Value.{Value}
use Rattle.grb_mxm.specs.AllowedSums.{is_allowed, is_summed, allowed_of, summed_of, AreAmong}
use Rattle.grb_sums.specs.Marks.{HoldUnmarked, HoldAll}

differ : false ≡ true → ⊥
differ e = cc

pub length-allowed : (states : List ℕ) → length (allowed_of states) ≡ length states
length-allowed [] = refl
length-allowed (s ∷ states) = ap suc (length-allowed states)

pub length-summed : (states : List ℕ) → length (summed_of states) ≡ length states
length-summed [] = refl
length-summed (s ∷ states) = ap suc (length-summed states)

pub allowed-set : (states : List ℕ) (q s : ℕ) → allowed_of (set states q s) ≡ set (allowed_of states) q (is_allowed s)
allowed-set [] q s = refl
allowed-set (x ∷ states) zero s = refl
allowed-set (x ∷ states) (suc q) s = ap (λ (t : List Bool). is_allowed x ∷ t) (allowed-set states q s)

pub summed-set : (states : List ℕ) (q s : ℕ) → summed_of (set states q s) ≡ set (summed_of states) q (is_summed s)
summed-set [] q s = refl
summed-set (x ∷ states) zero s = refl
summed-set (x ∷ states) (suc q) s = ap (λ (t : List Bool). is_summed x ∷ t) (summed-set states q s)

-- a place that is allowed stays so
pub allowed-same : (states : List ℕ) (q s : ℕ) → (get_or states q 0 ≡ 0 → ⊥) → is_allowed s ≡ true → allowed_of (set states q s) ≡ allowed_of states
allowed-same [] q s h is = refl
allowed-same (zero ∷ states) zero s h is = absurd (h refl)
allowed-same (suc x ∷ states) zero s h is = ap (λ (b : Bool). b ∷ allowed_of states) is
allowed-same (x ∷ states) (suc q) s h is = ap (λ (t : List Bool). is_allowed x ∷ t) (allowed-same states q s h is)

pub summed-read : (states : List ℕ) (q : ℕ) → get_or (summed_of states) q false ≡ is_summed (get_or states q 0)
summed-read [] q = refl
summed-read (x ∷ states) zero = refl
summed-read (x ∷ states) (suc q) = summed-read states q

pub allowed-read : (states : List ℕ) (q : ℕ) → get_or (allowed_of states) q false ≡ is_allowed (get_or states q 0)
allowed-read [] q = refl
allowed-read (x ∷ states) zero = refl
allowed-read (x ∷ states) (suc q) = allowed-read states q

allowed_number : (s : ℕ) → is_summed s ≡ true → is_allowed s ≡ true
allowed_number zero h = absurd (differ h)
allowed_number (suc s) h = refl

none_number : (s : ℕ) → is_allowed s ≡ false → s ≡ 0
none_number zero h = refl
none_number (suc s) h = absurd (differ (sym h))

-- there are sums at places that are allowed alone
pub among_allowed : (states : List ℕ) → AreAmong (summed_of states) (allowed_of states)
among_allowed states p h = allowed-read states p ∙ allowed_number (get_or states p 0) (sym (summed-read states p) ∙ h)

pub no_state : (states : List ℕ) (p : ℕ) → get_or (allowed_of states) p false ≡ false → get_or states p 0 ≡ 0
no_state states p h = none_number (get_or states p 0) (sym (allowed-read states p) ∙ h)

module _ (states : List ℕ) (none : (p : ℕ) → get_or states p 0 ≡ 0) where
  pub none_allowed : (p : ℕ) → get_or (allowed_of states) p false ≡ false
  none_allowed p = allowed-read states p ∙ ap is_allowed (none p)

  pub none_summed : (p : ℕ) → get_or (summed_of states) p false ≡ false
  none_summed p = summed-read states p ∙ ap is_summed (none p)

-- where there are no sums, each is the identity
pub hold_all : {V : Type 0} (value : V → Value) (v : Value) (ms : List Bool) (ss : List V) → ((p : ℕ) → get_or ms p false ≡ false) → HoldUnmarked value v ms ss → HoldAll value v ss
hold_all value v ms ss none held p l = held p l (none p)
