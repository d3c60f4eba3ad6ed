use Rattle.std.proofs.Common.{◌≡◌, ◌+◌, ◌<◌, sym, ap, subst, arith}
use Rattle.atomic_table.specs.Table.{Splits}
use Rattle.grb_order.specs.Rule.{Orderly}
use Rattle.grb_order.specs.Steps.{dealing, dealt}
use Rattle.grb_order.specs.declared.rule.Size.{Size}
use Rattle.grb_order.specs.declared.standing.Standing.{Standing}
use Rattle.grb_order.proofs.Steps.{deals}
use Rattle.grb_order.proofs.order.deal.Goals as goal

pub split_seat-table_seat-requires : goal.split_seat-table_seat-requires
split_seat-table_seat-requires c =
    let row = c.args.row.now in let size = c.args.size in let now = c.loop-number in
    let Cuts : Size → Standing → Type 0 = λ k v. Splits (Orderly k) now.dealer.id v (dealing (v.view.number + 1) v.view.passes) (dealt v) in
    let wide : row.table_id.words ≡ size.room = c.requires.row.1 in let some_room : 0 < size.room = c.requires.row.2 in (
      now.invariant.table,
      omega arith,
      subst (λ k. Cuts k now.dealer.me.0) (sym c.requires.row.0) (subst (Cuts size) (sym (ap (λ m. m.0) now.invariant.dealer)) (deals size now.dealer.id now.number c.loop-number-test.true)),
    )
