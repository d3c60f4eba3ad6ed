use Rattle.std.proofs.Common.{◌≡◌, List, [], ◌∷◌, ◌++◌}
use Rattle.std.specs.List.{flat_map}
use Rattle.grb_market.proofs.WrittenLemmas.{SoFar}
use Rattle.grb_replies.specs.ReplyLine.{index_words, vector_line}
use Rattle.grb_replies.proofs.reply_line.put_vector.Given as goal

abbrev pub invariant-loop-entry : goal.invariant-loop-entry
invariant-loop-entry g l = record {
  taken : SoFar (g.W.Sink.taken l.fn.sink) (g.W.Sink.taken l.sink) (l.piece.bytes ++ (flat_map index_words l.entry-iterator ++ 10 ∷ [])) (l.fn.piece.bytes ++ vector_line l.vector);
  failures : g.W.Sink.failures l.sink ≡ g.W.Sink.failures l.fn.sink;
}
