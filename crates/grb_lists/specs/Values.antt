-- believed: The values of one object, in a list of their domain's type (own): what the view of flat lists is made of.
use Rattle.std.specs.Prelude.{ℕ, List, map}
use Rattle.std.specs.Vec.{vec_len, vec_capacity}
use Rattle.grb_core.specs.declared.domain.Domain.{Domain}
use Rattle.grb_core.specs.declared.domain.Domain.TheVariants as domain
use Rattle.grb_core.specs.declared.value.Value.{Value}
use Rattle.grb_core.specs.declared.value.Value.TheVariants as value
use Rattle.grb_lists.specs.declared.values.Values.{Values}
use Rattle.grb_lists.specs.declared.values.Values.TheVariants as values

-- the values, in order
abbrev pub values_list : Values → List Value
values_list (values.Bool bs) = map (λ b. value.Bool b) bs.items
values_list (values.Uint64 ns) = map (λ n. value.Uint64 n) ns.items

-- the domain that they are of
abbrev pub values_domain : Values → Domain
values_domain (values.Bool bs) = domain.Bool
values_domain (values.Uint64 ns) = domain.Uint64

-- how many there are, and how many there is memory for
abbrev pub values_len : Values → ℕ
values_len (values.Bool bs) = vec_len bs
values_len (values.Uint64 ns) = vec_len ns

abbrev pub values_capacity : Values → ℕ
values_capacity (values.Bool bs) = vec_capacity bs
values_capacity (values.Uint64 ns) = vec_capacity ns
