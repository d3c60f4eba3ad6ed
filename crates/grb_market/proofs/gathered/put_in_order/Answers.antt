use Rattle.std.proofs.Common.{rules, ◌≡◌, true, refl, sym, ap, ◌∙◌}
use Rattle.grb_market.proofs.Prelude.{is_sorted, cell_cmp, cells_of}
use Rattle.std.proofs.lemmas.List.Sorted.{answers_always}
use Rattle.grb_market.proofs.ApartLemmas.{place_of, map_from-same, are_apart-sorted, are_apart-ordered, same_when_stable}
use Rattle.grb_market.proofs.gathered.put_in_order.Goals as goal

pub returns-then-rising-clause-apart : goal.returns-then-rising-clause-apart
returns-then-rising-clause-apart c =
    let rising : is_sorted cell_cmp (cells_of c.args.tuples.now.items) ≡ true = sym c.requires ∙ c.if-rising.true in
    are_apart-sorted (cells_of c.args.tuples.now.items) (cells_of c.args.tuples.now.items) (λ q. refl) rising

pub returns-then-rising-clause-ordered : goal.returns-then-rising-clause-ordered
returns-then-rising-clause-ordered c =
    let rising : is_sorted cell_cmp (cells_of c.args.tuples.now.items) ≡ true = sym c.requires ∙ c.if-rising.true in
    λ _. map_from-same (cells_of c.args.tuples.now.items) (cells_of c.args.tuples.now.items) (λ q. refl) rising

-- the closure gives a tuple's place, and the sort keeps the values of each place in their order
pub returns-clause-apart : goal.returns-clause-apart
returns-clause-apart c =
    let ts = c.sort_by_key.new.self.items in
    let same = same_when_stable c.args.tuples.now.items ts (c.sort_by_key.ensures.stable place_of (answers_always _ _ _ (λ f a r h called. search rules))) in
    let sorted = c.in_ok-sort_by_key.ensures.sorted place_of (answers_always _ _ _ (λ f a r h called. search rules)) in
    are_apart-ordered (cells_of c.args.tuples.now.items) ts c.is_rising.result same sorted (c.is_rising.ensures ∙ ap (λ l. is_sorted cell_cmp (cells_of l)) c.deref.ensures.value)

pub returns-clause-ordered : goal.returns-clause-ordered
returns-clause-ordered c =
    let ts = c.sort_by_key.new.self.items in
    let same = same_when_stable c.args.tuples.now.items ts (c.sort_by_key.ensures.stable place_of (answers_always _ _ _ (λ f a r h called. search rules))) in
    λ rising. map_from-same (cells_of c.args.tuples.now.items) (cells_of ts) same (ap (λ l. is_sorted cell_cmp (cells_of l)) (sym c.deref.ensures.value) ∙ sym c.is_rising.ensures ∙ rising)
