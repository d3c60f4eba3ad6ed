use Rattle.std.proofs.Common.{◌≡◌, length, map, take}
use Rattle.grb_call.specs.History.{calls_of, store_of}
use Rattle.grb_call.specs.Store.{matrix_at}
use Rattle.grb_objects.specs.Stored.{stored_matrices}
use Rattle.grb_results.specs.Exchanged.{OfEach}
use Rattle.grb_results.specs.Kept.{IsTableOf}
use Rattle.grb_pass.specs.Evaluated.{IsEvaluatedFor}
use Rattle.grb_reader.specs.Known.{known}
use Rattle.grb_pass.proofs.evaluated.Evaluated.chosen_matrices.Given as goal

abbrev pub invariant-chosen : goal.invariant-chosen
invariant-chosen g l = record {
  same : l.reader ≡ l.fn.reader;
  evaluated : IsEvaluatedFor l.reader l.self;
  table : IsTableOf (calls_of (known l.reader)) l.self;
  stored : stored_matrices l.all.items ≡ map (matrix_at (store_of (known l.fn.reader))) (take l.at l.chosen);
  assembled : OfEach (λ m. m.assembled) l.all.items;
  count : length l.all.items ≡ l.at;
}
