use Prim.{search}
use Rattle.std.proofs.Common.{◌≡◌, ℕ, Bool, true, List, get_or, rules, refl, ap, sym, subst, ◌∙◌}
use Rattle.std.proofs.Math.ListN.{replicate}
use Rattle.grb_core.specs.declared.value.Value.TheVariants as value
use Rattle.grb_sums.specs.Marks.{HoldAll}
use Rattle.grb_sums.proofs.Cleared.{hold_all-replicate, replicate-at}
use Rattle.grb_mxm.proofs.true_rows.TrueRowsRowMakerBool.work.Goals as goal

pub returns : goal.returns
returns g c =
    let sums : c.in_ok-sums.sums.items ≡ replicate c.len-count.result true = c.in_ok-sums.ensures.items_if_clones_equal (λ y e. e) in (
      record {
        long = search rules;
        words_long = search rules;
        words_few = search rules;
        none = λ w. ap (λ (ws : List ℕ). get_or ws w 0) (c.in_ok-words.ensures.items_if_clones_equal (λ y e. e)) ∙ replicate-at _ 0 w;
        clear = subst (λ (ss : List Bool). HoldAll (λ (b : Bool). value.Bool b) (value.Bool true) ss) (sym sums) (hold_all-replicate (λ (b : Bool). value.Bool b) (value.Bool true) _ true refl);
      },
      record {
        long = search rules;
        none = λ w. ap (λ (ws : List ℕ). get_or ws w 0) (c.in_ok-tops.ensures.items_if_clones_equal (λ y e. e)) ∙ replicate-at _ 0 w;
      },
    )
