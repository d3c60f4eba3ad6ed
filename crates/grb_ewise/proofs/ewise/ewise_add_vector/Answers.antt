use Rattle.std.proofs.Common.{◌≡◌, subst}
use Rattle.std.specs.Prelude.{IfOk}
use Rattle.std.specs.Option.{option_map}
use Rattle.std.specs.Ordering.{nat_cmp}
use Rattle.grb_core.specs.Entries.{VectorEntries}
use Rattle.grb_core.specs.Contents.{edited_vector}
use Rattle.grb_core.specs.Mask.{is_inside}
use Rattle.grb_core.specs.Written.{written}
use Rattle.grb_ewise.proofs.ewise.ewise_add_vector.Goals as goal

pub returns-clause-vector : goal.returns-clause-vector
returns-clause-vector c =
    let d = c.args.descriptor in
    let w = c.args.output.now.vector in
    let mask = option_map (λ m. m.now.vector.entries) c.args.mask in
    subst (λ (es : VectorEntries). IfOk c.write_masked_vector.result (λ made. made.vector ≡ edited_vector (λ x. written nat_cmp (is_inside nat_cmp d.structure d.comp mask) d.replace c.args.accum x es) w))
    c.in_ok-computed.ensures.entries c.write_masked_vector.ensures.vector
