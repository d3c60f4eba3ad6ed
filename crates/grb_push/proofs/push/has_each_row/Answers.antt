use Rattle.std.proofs.Common.{◌≡◌, ◌-◌, ℕ, List, length, get_or, ap, arith}
use Rattle.grb_push.proofs.EachRow.{own_place, not_less, entries_rise}
use Rattle.grb_push.proofs.push.has_each_row.Goals as goal

pub returns-clause-own : goal.returns-clause-own
returns-clause-own g c e i l =
    let u = c.args.u.now in
    own_place u.indices.now (entries_rise g.T.Scalar.value u.indices.now u.values.now u.same u.rising) (omega arith) i l

pub returns-clause-within : goal.returns-clause-within
returns-clause-within g c e k l =
    let u = c.args.u.now in
    let rows = c.args.lists.now.rows in
    let last : get_or c.rows-rows.result.now (length c.rows-rows.result.now - 1) 0 ≡ get_or rows (length rows - 1) 0 = ap (λ (rs : List ℕ). get_or rs (length rs - 1) 0) c.rows-rows.ensures.list in
    let most = not_less rows k (length rows - 1) c.rows-rows.ensures.rise (omega (arith, l)) (omega (arith, l)) in
    omega (arith, last, most)
