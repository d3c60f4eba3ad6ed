use Rattle.std.proofs.Common.{◌≡◌, List, [], ◌∷◌, ◌++◌}
use Rattle.std.specs.List.{flat_map}
use Rattle.grb_market.proofs.WrittenLemmas.{SoFar}
use Rattle.grb_replies.specs.ReplyLine.{cell_words, matrix_line}
use Rattle.grb_replies.proofs.reply_line.put_matrix.Given as goal

abbrev pub invariant-loop-entry : goal.invariant-loop-entry
invariant-loop-entry g l = record {
  taken : SoFar (g.W.Sink.taken l.fn.sink) (g.W.Sink.taken l.sink) (l.piece.bytes ++ (flat_map cell_words l.entry-iterator ++ 10 ∷ [])) (l.fn.piece.bytes ++ matrix_line l.matrix);
  failures : g.W.Sink.failures l.sink ≡ g.W.Sink.failures l.fn.sink;
}
