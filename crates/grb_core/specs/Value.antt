-- believed: Values and their domains: GraphBLAS C API 2.0, "Types (domains)".
use Rattle.std.specs.Prelude.{◌^◌, ◌<◌, ⊤}
use Rattle.grb_core.specs.declared.domain.Domain.{Domain}
use Rattle.grb_core.specs.declared.domain.Domain.TheVariants as domain
use Rattle.grb_core.specs.declared.value.Value.{Value}
use Rattle.grb_core.specs.declared.value.Value.TheVariants as value

-- the domain that a value is of
abbrev pub value_domain : Value → Domain
value_domain (value.Bool b) = domain.Bool
value_domain (value.Uint64 n) = domain.Uint64

-- the value is one of the domain: any truth value, or a whole number below 2^64
abbrev pub IsValueOf : Domain → Value → Type 0
IsValueOf domain.Bool (value.Bool b) = ⊤
IsValueOf domain.Uint64 (value.Uint64 n) = n < 2 ^ 64
IsValueOf _ _ = ⊥
