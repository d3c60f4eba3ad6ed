-- Calls that begin with others.
use Rattle.std.proofs.Common.{◌≡◌, ℕ, ◌+◌, ◌<◌, ◌≤◌, List, [], ◌∷◌, ◌++◌, length, map, take, get_or, sym, ap, ◌∙◌, arith}
use Rattle.std.proofs.Math.ListN.{get_or-map}
use Rattle.std.proofs.lemmas.List.{take_more}
use Rattle.grb_call.specs.declared.call.Call.{Call}

-- a call that is lent
pub lent_call : {X : Type 0} (f : X → Call) (xs : List X) (k : ℕ) (d : X) → d ≡ get_or xs k d → get_or (map f xs) k (f d) ≡ f d
lent_call f xs k d e = get_or-map f xs k d ∙ ap f (sym e)

-- one more call that is the same
pub begin_next : (cs ys : List Call) (at : ℕ) (c d : Call) → at < length ys → length ys ≤ length cs → get_or cs at c ≡ c → d ≡ get_or ys at d → c ≡ d → take at cs ≡ take at ys → take (at + 1) cs ≡ take (at + 1) ys
begin_next cs ys at c d lt fits c_is d_is same so_far =
    let here : get_or cs at c ≡ get_or ys at d = c_is ∙ same ∙ d_is in
    take_more cs at c (omega (arith, lt, fits)) ∙ (λ i. so_far i ++ here i ∷ []) ∙ sym (take_more ys at d lt)
