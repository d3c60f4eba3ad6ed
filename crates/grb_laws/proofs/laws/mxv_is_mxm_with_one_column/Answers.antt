use Rattle.grb_laws.proofs.OneColumn.{mxv_is_mxm}
use Rattle.grb_laws.proofs.laws.mxv_is_mxm_with_one_column.Goals as goal

pub returns : goal.returns
returns c = mxv_is_mxm
