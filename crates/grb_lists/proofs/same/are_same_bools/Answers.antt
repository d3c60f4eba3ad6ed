use Rattle.std.proofs.Common.{◌≡◌, Bool, true, false, Decides, refl}
use Rattle.std.proofs.lemmas.Slice.Eq.{slice_eq-Decides}
use mathlib.Core.Bool.{beq}
use Rattle.grb_lists.proofs.same.are_same_bools.Goals as goal

Decides-beq : (a b : Bool) → Decides (beq a b) (a ≡ b)
Decides-beq true true = (λ e. refl, λ e. refl)
Decides-beq true false = (λ e. cc, λ e. cc)
Decides-beq false true = (λ e. cc, λ e. cc)
Decides-beq false false = (λ e. refl, λ e. refl)

pub returns : goal.returns
returns c = (slice_eq-Decides Decides-beq _ _ _ c.eq.ensures).0
