use Rattle.std.proofs.Common.{subst}
use Rattle.grb_objects.specs.declared.shared_content.SharedContent.{SharedContent}
use Rattle.grb_objects.specs.SharedContent.{IsAt}
use Rattle.grb_objects.proofs.ByNumber.{on_ok}
use Rattle.grb_objects.proofs.Edited.{edited_matrix, edited_vector, may_edit_matrix, may_edit_vector}
use Rattle.grb_objects.proofs.shared_content.SharedContent.edit.Goals as goal

pub change_shared-requires-clause-fits : goal.change_shared-requires-clause-fits
change_shared-requires-clause-fits c = may_edit_matrix c.args.call.now c.args.self.now c.in-Matrix.matrix c.in-Matrix.is c.requires.edits c.requires.accepted

pub change_shared-requires-in-Vector-clause-fits : goal.change_shared-requires-in-Vector-clause-fits
change_shared-requires-in-Vector-clause-fits c = may_edit_vector c.args.call.now c.args.self.now c.in-Vector.vector c.in-Vector.is c.requires.edits c.requires.accepted

pub returns-in-Matrix-clause-ok : goal.returns-in-Matrix-clause-ok
returns-in-Matrix-clause-ok c =
    on_ok _ _ c.change_shared.result
    (λ made s o is held. edited_matrix c.args.call.now c.requires.edits c.requires.goes_on c.in-Matrix.matrix c.change_shared.new.shared made s o is (subst (λ (x : SharedContent). IsAt s o x) c.in-Matrix.is held))
    c.change_shared.ensures.ok

pub returns-in-Vector-clause-ok : goal.returns-in-Vector-clause-ok
returns-in-Vector-clause-ok c =
    on_ok _ _ c.change_shared-in-Vector.result
    (λ made s o is held. edited_vector c.args.call.now c.requires.edits c.requires.goes_on c.in-Vector.vector c.change_shared-in-Vector.new.shared made s o is (subst (λ (x : SharedContent). IsAt s o x) c.in-Vector.is held))
    c.change_shared-in-Vector.ensures.ok
