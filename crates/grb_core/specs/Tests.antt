-- believed: Tests of an entry, as select takes them: GraphBLAS C API 2.0, "Index unary operators" and its table of predefined ones. That a
-- diagonal is two numbers, of which one is 0, and that row and column tests have numbers without a sign, is own.
use Rattle.std.specs.Prelude.{◌≡◌, ℕ, ◌+◌, Bool, not, nat_le, nat_lt, nat_eq, cond}
use Rattle.grb_core.specs.declared.domain.Domain.{Domain}
use Rattle.grb_core.specs.declared.value.Value.{Value}
use Rattle.grb_core.specs.declared.value.Value.TheVariants as value
use Rattle.grb_core.specs.Value.{value_domain}
use Rattle.grb_core.specs.declared.tests.Diagonal.{Diagonal}
use Rattle.grb_core.specs.declared.tests.Diagonal.TheVariants as diagonal
use Rattle.grb_core.specs.declared.tests.Test.{Test}
use Rattle.grb_core.specs.declared.tests.Test.TheVariants as test

-- how far a diagonal is above the main one, and how far below it
abbrev pub up : Diagonal → ℕ
up (diagonal.Above n) = n
up (diagonal.Below n) = 0

abbrev pub down : Diagonal → ℕ
down (diagonal.Above n) = 0
down (diagonal.Below n) = n

-- the number by which values of one domain are compared: false is less than true
abbrev pub number_of : Value → ℕ
number_of (value.Bool b) = cond b 1 0
number_of (value.Uint64 n) = n

-- whether the entry in row i and column j, whose value is a, passes. A test of values is only asked of values of its domain
abbrev pub passes : Test → ℕ → ℕ → Value → Bool
passes (test.Tril d) i j a = nat_le (j + down d) (i + up d)
passes (test.Triu d) i j a = nat_le (i + up d) (j + down d)
passes (test.Diag d) i j a = nat_eq (j + down d) (i + up d)
passes (test.Offdiag d) i j a = not (nat_eq (j + down d) (i + up d))
passes (test.RowLe n) i j a = nat_le i n
passes (test.RowGt n) i j a = nat_lt n i
passes (test.ColLe n) i j a = nat_le j n
passes (test.ColGt n) i j a = nat_lt n j
passes (test.ValueEq x) i j a = nat_eq (number_of a) (number_of x)
passes (test.ValueNe x) i j a = not (nat_eq (number_of a) (number_of x))
passes (test.ValueLt x) i j a = nat_lt (number_of a) (number_of x)
passes (test.ValueLe x) i j a = nat_le (number_of a) (number_of x)
passes (test.ValueGt x) i j a = nat_lt (number_of x) (number_of a)
passes (test.ValueGe x) i j a = nat_le (number_of x) (number_of a)

-- the value that a test brings, if it brings one, is of the domain
abbrev pub IsTestOf : Domain → Test → Type 0
IsTestOf d (test.ValueEq x) = value_domain x ≡ d
IsTestOf d (test.ValueNe x) = value_domain x ≡ d
IsTestOf d (test.ValueLt x) = value_domain x ≡ d
IsTestOf d (test.ValueLe x) = value_domain x ≡ d
IsTestOf d (test.ValueGt x) = value_domain x ≡ d
IsTestOf d (test.ValueGe x) = value_domain x ≡ d
IsTestOf d _ = Unit {0}
