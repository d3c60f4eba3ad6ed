-- Numbers in front of those to come, and the last byte of a line.
use Rattle.std.proofs.Common.{◌≡◌, ℕ, suc, zero, List, [], ◌∷◌, length, get_or, refl, arith}
use Rattle.grb_market.proofs.Prelude.{is_blank, ends_blank}

-- the last byte decides
pub ends_blank-last : (bs : List ℕ) (k : ℕ) → suc k ≡ length bs → is_blank (get_or bs k 0) ≡ ends_blank bs
ends_blank-last [] k h = absurd (omega arith)
ends_blank-last (b ∷ []) zero h = refl
ends_blank-last (b ∷ []) (suc k) h = absurd (omega arith)
ends_blank-last (b ∷ c ∷ bs) zero h = absurd (omega arith)
ends_blank-last (b ∷ c ∷ bs) (suc k) h = ends_blank-last (c ∷ bs) k (omega arith)
