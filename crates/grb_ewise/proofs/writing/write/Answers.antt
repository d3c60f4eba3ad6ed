use Rattle.std.proofs.Common.{List, sym, ap, subst}
use Rattle.std.specs.Prelude.{Option, IfOk, IfSome}
use Rattle.std.specs.Option.{option_map}
use Rattle.grb_core.specs.declared.value.Value.{Value}
use Rattle.grb_core.specs.Mask.{is_inside}
use Rattle.grb_core.specs.Written.{written}
use Rattle.grb_ewise.specs.Objects.{AreAlike, IsLike}
use Rattle.grb_ewise.proofs.writing.write.Goals as goal

pub returns-in-None : goal.returns-in-None
returns-in-None g c =
    let k = g.O.SparseObject.contents in
    let r = g.O.SparseObject.order in
    let d = c.args.output.now.descriptor in
    let w = c.args.output.now.old.now in
    subst (λ (m : Option (List (g.O.SparseObject.Place × Value))).
    IfOk c.write_unmasked.result (λ made. IsLike (k w) (written r (is_inside r d.structure d.comp m) d.replace c.args.output.now.accum (k w).entries (k c.args.computed).entries) (k made)))
    (sym (ap (λ m. option_map (λ x. (k x.now).entries) m) c.in-None.is)) c.write_unmasked.ensures

pub write_by_mask-requires-clause-mask : goal.write_by_mask-requires-clause-mask
write_by_mask-requires-clause-mask g c = subst (λ m. IfSome m (λ x. AreAlike (g.O.SparseObject.contents c.args.output.now.old.now) (g.O.SparseObject.contents x.now))) c.in-Some.is c.requires.mask
