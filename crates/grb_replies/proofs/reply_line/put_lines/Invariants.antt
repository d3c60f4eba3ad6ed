use Rattle.std.proofs.Common.{◌≡◌, take}
use Rattle.std.specs.List.{flat_map}
use Rattle.grb_market.specs.Written.{PutFront}
use Rattle.grb_replies.specs.ReplyLine.{reply_line}
use Rattle.grb_replies.proofs.reply_line.put_lines.Given as goal

abbrev pub invariant-loop-answer : goal.invariant-loop-answer
invariant-loop-answer g l = record {
  taken : PutFront (g.W.Sink.taken l.fn.sink) (g.W.Sink.taken l.sink) (flat_map reply_line (take l.answer-index l.answers)) l.piece.bytes;
  failures : g.W.Sink.failures l.sink ≡ g.W.Sink.failures l.fn.sink;
}
