use Rattle.std.proofs.Common.{◌≡◌, ◌+◌, ◌/◌, [], ℕ, List, subst, sym, arith}
use Rattle.std.proofs.Math.ListN.{replicate}
use Rattle.grb_sums.specs.Bits.{AreMarked}
use Rattle.grb_sums.specs.ColumnSums.{AreSums}
use Rattle.grb_sums.proofs.SumsByColumn.{marked_none, sums_none}
use Rattle.grb_sums.proofs.column_sums.open_sums.Goals as goal

pub returns-clause-marked : goal.returns-clause-marked
returns-clause-marked g c =
    let n = c.args.count in
    let words : c.in_ok-words.words.items ≡ replicate (n / 64 + 1) 0 = c.in_ok-words.ensures.items_if_clones_equal (λ y e. e) in
    subst (λ (ws : List ℕ). AreMarked n ws c.in_ok-sums.sums.items) (sym words)
    (marked_none n (n / 64 + 1) c.in_ok-sums.sums.items (omega (arith, c.in_ok-sums.ensures.len, c.in_ok-sums.sums.small, c.in_ok-sums.sums.ok)) (omega arith) (omega (arith, c.in_ok-sums.ensures.len)))

pub returns-clause-none : goal.returns-clause-none
returns-clause-none g c names long =
    let tv = g.T.Scalar.value in
    let m = g.M.MonoidOver.monoid in
    let n = c.args.count in
    let identity = c.identity.result in
    let words : c.in_ok-words.words.items ≡ replicate (n / 64 + 1) 0 = c.in_ok-words.ensures.items_if_clones_equal (λ y e. e) in
    let sums : c.in_ok-sums.sums.items ≡ replicate n identity = c.in_ok-sums.ensures.items_if_clones_equal (λ y e. g.met.T.Stored.same_clone identity y e) in
    subst (λ (ws : List ℕ). AreSums tv m names [] ws c.in_ok-sums.sums.items) (sym words)
    (subst (λ (ss : List g.row.T.Denot). AreSums tv m names [] (replicate (n / 64 + 1) 0) ss) (sym sums) (sums_none tv m names n (n / 64 + 1) identity long c.identity.ensures))
