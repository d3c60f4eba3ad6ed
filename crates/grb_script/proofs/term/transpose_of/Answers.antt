use Rattle.std.proofs.Common.{◌∙◌}
use Rattle.grb_script.proofs.Prelude.{spelled, transpose_on}
use Rattle.grb_script.proofs.FormLemmas.{used-two}
use Rattle.grb_script.proofs.term.transpose_of.Goals as goal

pub returns : goal.returns
returns c =
    let o = spelled c.args.options.now in
    c.transpose_on.ensures
    ∙ used-two c.args.names.now c.args.output.now c.args.input.now o.mask (λ p q m. transpose_on p q m o) c.in_ok-output.output c.in_ok-input.input c.in_ok-mask.mask c.in_ok-output.ensures
    c.in_ok-input.ensures c.in_ok-mask.ensures
