use Rattle.std.proofs.Common.{◌≡◌, ◌+◌, IfSome, length}
use Rattle.grb_slots.specs.Row.{AllFit}
use Rattle.grb_generations.specs.Seated.{GoesOn}
use Rattle.grb_generations.specs.Sites.{IsPassAt, IsSeatAt}
use Rattle.grb_generations.proofs.making.seats_at.Given as goal

abbrev pub invariant-passes : goal.invariant-passes
invariant-passes l = record {
  rest : AllFit (λ k p. IsPassAt l.site (k + length l.seats.items) p) l.pass-iterator.rest.items;
  seats : AllFit (λ k x. IfSome x (IsSeatAt l.site k)) l.seats.items;
  own : IfSome l.own (GoesOn l.site.room l.site.members l.site.mark);
  number : IfSome l.own (λ p. p.view.number ≡ l.number);
}
