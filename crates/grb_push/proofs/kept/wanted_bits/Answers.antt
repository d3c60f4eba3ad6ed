use Rattle.std.proofs.Common.{◌≡◌, ◌/◌, ◌%◌, ◌^◌, ◌<◌, ℕ, cond, arith, ap, sym, ◌∙◌}
use Rattle.std.specs.Prelude.{nat_eq, not}
use Rattle.std.specs.Int.{bit_at}
use Rattle.std.proofs.lemmas.Nat.Bits.{bit_at_not}
use mir.Syntax.{w64}
use Rattle.grb_kernels.specs.Bits.{has_bit}
use Rattle.grb_push.proofs.KeptMarks.{other_bit}
use Rattle.grb_push.proofs.kept.wanted_bits.Goals as goal

below_2 : (x : ℕ) → x % 2 < 2
below_2 x = omega arith

pub returns-else-among : goal.returns-else-among
returns-else-among c t low =
    ap (λ (n : ℕ). nat_eq n 1) (bit_at_not w64 c.args.listed t c.ranges.listed.fits low) ∙ other_bit (bit_at c.args.listed t) (below_2 (c.args.listed / 2 ^ t))
    ∙ ap (λ b. cond b (has_bit c.args.listed t) (not (has_bit c.args.listed t))) (sym c.if-among.false)
