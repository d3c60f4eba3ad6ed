-- believed: Whether two domains are one (own).
use Rattle.std.specs.Prelude.{Bool, true, false}
use Rattle.grb_core.specs.declared.domain.Domain.{Domain}
use Rattle.grb_core.specs.declared.domain.Domain.TheVariants as domain

abbrev pub same_domain : Domain → Domain → Bool
same_domain domain.Bool domain.Bool = true
same_domain domain.Uint64 domain.Uint64 = true
same_domain _ _ = false
