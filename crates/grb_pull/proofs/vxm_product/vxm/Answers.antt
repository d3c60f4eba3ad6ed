use Rattle.std.proofs.Common.{◌≡◌, IfOk, subst}
use Rattle.std.specs.Option.{option_map}
use Rattle.std.specs.Ordering.{nat_cmp}
use Rattle.grb_core.specs.Contents.{edited_vector}
use Rattle.grb_core.specs.Entries.{VectorEntries}
use Rattle.grb_core.specs.Mask.{is_inside}
use Rattle.grb_core.specs.Results.{turned, vxm_of}
use Rattle.grb_push.specs.Wanted.{is_wanted}
use Rattle.grb_push.proofs.WantedPlaces.{made-inside, written-made}
use Rattle.grb_pull.proofs.vxm_product.vxm.Goals as goal

pub write_wanted-requires-clause-inside : goal.write_wanted-requires-clause-inside
write_wanted-requires-clause-inside c s =
    let w = c.wanted_of-wanted.result in
    made-inside c.args.descriptor (option_map (λ m. m.now.vector.entries) c.args.mask) c.in_ok-computed.whole (vxm_of c.args.semiring c.args.u.now.vector.entries (turned c.args.descriptor.tran1 c.args.a.now.matrix.entries))
    c.in_ok-computed.computed.vector.entries (is_wanted w.among w.names.now) (c.wanted_of-wanted.ensures.inside s) c.in_ok-computed.ensures.entries

pub returns-clause-vector : goal.returns-clause-vector
returns-clause-vector c =
    let d = c.args.descriptor in
    let w = c.wanted_of-wanted.result in
    let inside = is_inside nat_cmp d.structure d.comp (option_map (λ m. m.now.vector.entries) c.args.mask) in
    let total = vxm_of c.args.semiring c.args.u.now.vector.entries (turned c.args.descriptor.tran1 c.args.a.now.matrix.entries) in
    subst (λ (f : VectorEntries → VectorEntries). IfOk c.write_wanted.result (λ made. made.vector ≡ edited_vector f c.args.output.now.vector))
    (λ i v. written-made inside d.replace c.args.accum v total c.in_ok-computed.computed.vector.entries c.in_ok-computed.whole (is_wanted w.among w.names.now) c.wanted_of-wanted.ensures.covers c.in_ok-computed.ensures.entries i)
    c.write_wanted.ensures.vector
