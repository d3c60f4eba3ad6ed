use Rattle.std.proofs.Common.{arith}
use Rattle.grb_generations.proofs.Keeping.{suffice_few}
use Rattle.grb_generations.proofs.making.suffice.Goals as goal

pub returns-then-room-from-clause-few : goal.returns-then-room-from-clause-few
returns-then-room-from-clause-few c = λ e suffices.
    let few = suffice_few c.args.numbers.now c.args.room c.are_numbers.ensures suffices in
    absurd (omega (arith, few, c.from.ensures, c.if-room-from.true))
