use Rattle.std.proofs.Common.{arith, sym, ap, ◌∙◌}
use Rattle.grb_numbers.specs.Numbers.{CarriedNumbers, place_of}
use Rattle.grb_numbers.proofs.Lists.{place-found, rise-above}
use Rattle.grb_numbers.proofs.Numbering.{few-carried}
use Rattle.grb_numbers.proofs.carried.Carried.inner.Goals as goal

pub overflow_cast-result : goal.overflow_cast-result
overflow_cast-result c =
    let n : CarriedNumbers = record { carried = c.self.inside.carried.items; first = c.self.inside.first } in
    let found = place-found c.args.number n.carried c.in-Some.place (sym (c.in-Some.ensures ∙ ap (place_of c.args.number) c.deref.ensures.value)) in
    let above = rise-above n.carried c.in-Some.place c.self.invariant.rising found.0 in
    let is = found.1 in
    let fits = c.ranges.number.fits in
    record { fits = omega (arith, above, is, fits) }

pub overflow_cast-result-else-number-self : goal.overflow_cast-result-else-number-self
overflow_cast-result-else-number-self c =
    let few = few-carried (record { carried = c.self.inside.carried.items; first = c.self.inside.first }) c.self.invariant in
    let fits = c.ranges.number.fits in
    record { fits = omega (arith, few, fits, c.if-number-self.false, c.len.ensures) }

pub overflow_add-result : goal.overflow_add-result
overflow_add-result c =
    let few = few-carried (record { carried = c.self.inside.carried.items; first = c.self.inside.first }) c.self.invariant in
    let fits = c.ranges.number.fits in
    record { fits = omega (arith, few, fits, c.if-number-self.false, c.len.ensures) }
