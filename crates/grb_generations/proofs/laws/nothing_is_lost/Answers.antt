use Rattle.std.proofs.Common.{ap, ◌∙◌}
use Rattle.grb_call.specs.History.{History, store_of}
use Rattle.grb_context.specs.Known.{known}
use Rattle.grb_numbers.specs.Seen.{seen_store}
use Rattle.grb_generations.specs.Keeping.{kept_numbers}
use Rattle.grb_generations.proofs.Living.{kept_shows}
use Rattle.grb_generations.proofs.laws.nothing_is_lost.Goals as goal

pub returns : goal.returns
returns c = λ size s ordered i j context p q at_p at_q known_p known_q shared full further number new begins n are.
    let begun = c.full_knows_all.ensures size s ordered i j context p q at_p at_q known_p known_q shared full in
    let kept = kept_shows c.next_numbers_show_the_same.ensures n (store_of (known p)) are in
    (begun.0, ap (seen_store (kept_numbers n (store_of (known p)))) begins.store_is ∙ kept.store ∙ ap (λ (h : History). seen_store n (store_of h)) begun.1)
