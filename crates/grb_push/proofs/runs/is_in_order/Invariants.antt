use Rattle.std.specs.Ordering.{is_lt, nat_cmp}
use Rattle.std.specs.List.Sorted.{IsSortedWithin}
use Rattle.grb_push.proofs.runs.is_in_order.Given as goal

-- the products so far are in order
abbrev pub invariant-products : goal.invariant-products
invariant-products g l = IsSortedWithin (λ x y. is_lt (nat_cmp x.0 y.0)) l.products 0 l.at
