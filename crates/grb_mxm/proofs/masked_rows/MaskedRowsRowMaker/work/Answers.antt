use Prim.{search}
use Rattle.std.proofs.Common.{◌≡◌, ℕ, List, get_or, rules, ap, sym, subst, ◌∙◌}
use Rattle.std.proofs.Math.ListN.{replicate}
use Rattle.grb_core.specs.Monoid.{identity_of}
use Rattle.grb_sums.specs.Marks.{HoldAll}
use Rattle.grb_sums.proofs.Cleared.{hold_all-replicate, replicate-at}
use Rattle.grb_mxm.proofs.masked_rows.MaskedRowsRowMaker.work.Goals as goal

pub returns : goal.returns
returns g c =
    let tv = g.T.Scalar.value in
    let v = identity_of g.M.MonoidOver.monoid in
    let identity = c.identity.result in
    let sums : c.in_ok-sums.sums.items ≡ replicate c.len-count.result identity = c.in_ok-sums.ensures.items_if_clones_equal (λ y e. g.met.T.Stored.same_clone identity y e) in
    record {
      long = search rules;
      states_long = search rules;
      none = λ p. ap (λ (m : List ℕ). get_or m p 0) (c.in_ok-states.ensures.items_if_clones_equal (λ y e. e)) ∙ replicate-at _ 0 p;
      clear = subst (λ (ss : List g.row.T.Denot). HoldAll tv v ss) (sym sums) (hold_all-replicate tv v _ identity c.identity.ensures);
    }
