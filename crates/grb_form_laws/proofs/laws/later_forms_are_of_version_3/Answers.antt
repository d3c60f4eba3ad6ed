use Rattle.grb_form_laws.proofs.Older.{later_forms_are_of_three}
use Rattle.grb_form_laws.proofs.laws.later_forms_are_of_version_3.Goals as goal

pub returns : goal.returns
returns c = later_forms_are_of_three
