-- One more call of a list made.
use Rattle.std.proofs.Common.{◌≡◌, ℕ, ◌+◌, ◌<◌, List, [], ◌∷◌, length, get_or, take, sym, ap, ◌∙◌}
use Rattle.std.proofs.lemmas.List.{take_more}
use Rattle.grb_call.specs.declared.call.Call.{Call}
use Rattle.grb_call.specs.Store.{Store}
use Rattle.grb_call.specs.After.{after}
use Rattle.grb_call.specs.History.{after_all}
use Rattle.grb_call.proofs.Runs.{after_all-append}

-- one more call made
pub next_call : (s now new : Store) (cs : List Call) (at : ℕ) (c : Call) → at < length cs → get_or cs at c ≡ c → now ≡ after_all s (take at cs) → new ≡ after now c → new ≡ after_all s (take (at + 1) cs)
next_call s now new cs at c near here so_far is =
    is ∙ ap (λ (x : Store). after x c) so_far ∙ ap (after (after_all s (take at cs))) (sym here) ∙ sym (after_all-append s (take at cs) (get_or cs at c ∷ [])) ∙ ap (after_all s) (sym (take_more cs at c near))
