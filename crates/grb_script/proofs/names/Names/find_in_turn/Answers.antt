use Rattle.std.proofs.Common.{◌≡◌, suc, ◌+◌, true, false, take, sym, ap, subst, ◌∙◌, arith}
use Rattle.std.specs.Prelude.{Some, slice_get}
use Rattle.grb_script.proofs.Prelude.{option_map, bytes_eq, stands}
use Rattle.std.proofs.lemmas.Option.{slice_get-map}
use Rattle.grb_script.proofs.NamesLemmas.{not_among-next, name_found-at}
use Rattle.grb_script.proofs.names.Names.find_in_turn.Goals as goal

pub loop-number-preserved : goal.loop-number-preserved
loop-number-preserved c =
    let n = c.loop-number.number in
    let at : slice_get c.args.self.now n ≡ Some (c.in-Some.key.now.items, c.in-Some.sort.now) =
    rw (← c.self.view_is) (slice_get-map (λ e. (e.0.items, e.1)) c.self.inside.sorts.entries n ∙ ap (option_map (λ e. (e.0.items, e.1))) (sym c.in-Some.ensures.entry)) in
    let differs : bytes_eq c.args.name.now c.in-Some.key.now.items ≡ false = ap (bytes_eq c.args.name.now) (sym c.as_slice.ensures.value) ∙ sym c.eq.ensures ∙ c.if-eq.false in
    let next : suc n ≡ n + 1 = omega arith in
    subst (λ m. stands (take m c.args.self.now) c.args.name.now ≡ false) next (not_among-next c.args.self.now n _ c.args.name.now at c.loop-number.invariant differs)

pub returns-then-eq : goal.returns-then-eq
returns-then-eq c =
    let n = c.loop-number.number in
    let at : slice_get c.args.self.now n ≡ Some (c.in-Some.key.now.items, c.in-Some.sort.now) =
    rw (← c.self.view_is) (slice_get-map (λ e. (e.0.items, e.1)) c.self.inside.sorts.entries n ∙ ap (option_map (λ e. (e.0.items, e.1))) (sym c.in-Some.ensures.entry)) in
    let same : bytes_eq c.args.name.now c.in-Some.key.now.items ≡ true = ap (bytes_eq c.args.name.now) (sym c.as_slice.ensures.value) ∙ sym c.eq.ensures ∙ c.if-eq.true in
    name_found-at c.args.self.now n _ c.args.name.now at c.loop-number.invariant same
