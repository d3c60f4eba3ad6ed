use Rattle.grb_core.proofs.Folds as folds
use Rattle.grb_core.proofs.laws.folds_in_any_order.Goals as goal

pub returns : goal.returns
returns c = record { parts = folds.folds_in_parts; orders = folds.folds_in_any_order }
