-- What a sink has taken when it took a little more of some bytes.
use Rattle.std.proofs.Common.{◌≡◌, ℕ, ◌+◌, ◌-◌, List, ◌++◌, length, take, drop, Option, sym, ap, ◌∙◌, subst}
use Rattle.grb_market.proofs.Prelude.{take-add, take_rest, Appends}
use Rattle.std.proofs.KnownBytes.{Appends-trans}

pub take_more : (bytes : List ℕ) (count more : ℕ) → take count bytes ++ take more (take (length bytes - count) (drop count bytes)) ≡ take (count + more) bytes
take_more bytes count more = ap (λ rest. take count bytes ++ take more rest) (take_rest bytes count) ∙ sym (take-add count more bytes)

pub Appends_more : (old mid new : Option (List ℕ)) (bytes : List ℕ) (count more : ℕ) → Appends old mid (take count bytes) →
    Appends mid new (take more (take (length bytes - count) (drop count bytes))) → Appends old new (take (count + more) bytes)
Appends_more old mid new bytes count more before here =
    subst (Appends old new) (take_more bytes count more) (Appends-trans old mid new _ _ before here)
