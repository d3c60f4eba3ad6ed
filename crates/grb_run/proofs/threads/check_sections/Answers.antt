use Rattle.std.proofs.Common.{◌+◌, arith}
use Rattle.std.proofs.lemmas.Nat.{mul-le}
use Rattle.grb_run.proofs.threads.check_sections.Goals as goal

pub overflow_mul-room : goal.overflow_mul-room
overflow_mul-room c =
    let few = c.requires.threads in
    omega (arith, mul-le c.args.room (c.args.threads + 1) 65536 256 c.requires.room (omega (arith, few)))
