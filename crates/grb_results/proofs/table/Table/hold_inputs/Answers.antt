use Rattle.std.proofs.Common.{sym, ap, ◌∙◌}
use Rattle.grb_results.proofs.Prelude.{objects_needed, needs_inputs, some_same}
use Rattle.grb_results.proofs.BlankResults.{inputs_are}
use Rattle.grb_results.proofs.table.Table.hold_inputs.Goals as goal

pub hold_read-requires-clause-read : goal.hold_read-requires-clause-read
hold_read-requires-clause-read g c d here =
    c.as_slice.ensures ∙ c.inputs-read.ensures ∙ inputs_are c.args.call.now c.in-Some.operation (sym c.operation.ensures ∙ c.in-Some.is)
    ∙ (sym (needs_inputs c.args.call.now c.requires.forgets) ∙ ap objects_needed (some_same c.args.call.now d (sym c.requires.call ∙ here)))
