use Rattle.std.proofs.Common.{◌∙◌}
use Rattle.grb_script.proofs.Prelude.{spelled, kronecker_on}
use Rattle.grb_script.proofs.FormLemmas.{used-three}
use Rattle.grb_script.proofs.term.kronecker_of.Goals as goal

pub returns : goal.returns
returns c =
    let o = spelled c.args.options.now in
    c.kronecker_on.ensures
    ∙ used-three c.args.names.now c.args.output.now c.args.left.now c.args.right.now o.mask (λ p q r m. kronecker_on p q r m c.args.op o) c.in_ok-output.output c.in_ok-left.left c.in_ok-right.right c.in_ok-mask.mask
    c.in_ok-output.ensures c.in_ok-left.ensures c.in_ok-right.ensures c.in_ok-mask.ensures
