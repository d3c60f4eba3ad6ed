use Rattle.std.proofs.Common.{◌≡◌, ◌+◌, [], ◌++◌, take, drop, rules, sym, ap, subst, ◌∙◌, append-nil}
use Rattle.std.proofs.lemmas.List.{take_all}
use Rattle.std.proofs.lemmas.Result.{err_from_is_err_and, on_err_weaker}
use Rattle.std.specs.List.{flat_map}
use Rattle.grb_market.specs.Sink.{AppendsBeginning}
use Rattle.grb_market.specs.Written.{PutFront}
use Rattle.grb_replies.specs.ReplyLine.{reply_line}
use Rattle.grb_replies.proofs.Fronts.{AppendsBeginning-behind, PutFront-more, flat_map-split, flat_map-take}
use Rattle.grb_replies.proofs.reply_line.put_lines.Goals as goal

pub returns-in_err-put_answer-clause-err : goal.returns-in_err-put_answer-clause-err
returns-in_err-put_answer-clause-err g c =
    let p = err_from_is_err_and c.from_residual.result c.from_residual.ensures.1 in
    let rest = flat_map reply_line (drop (c.loop-answer.answer-index + 1) c.args.answers.now) in
    rw p.1
    (AppendsBeginning-behind _ _ _ (flat_map reply_line (take c.loop-answer.answer-index c.args.answers.now)) c.loop-answer.piece.bytes (reply_line c.answer-item.result) rest _
    c.loop-answer.invariant.taken c.in_err-put_answer.ensures.err
    (flat_map-split reply_line c.args.answers.now (c.loop-answer.answer-index + 1)
    ∙ ap (λ l. l ++ rest) (flat_map-take reply_line c.args.answers.now c.loop-answer.answer-index c.answer-item.result c.loop-answer-test.true c.answer-item.is)))

pub loop-answer-preserved : goal.loop-answer-preserved
loop-answer-preserved g c = record {
  taken = subst (λ t. PutFront (g.W.Sink.taken c.args.sink.now) (g.W.Sink.taken c.put_answer.new.sink) t c.put_answer.new.piece.bytes)
      (sym (flat_map-take reply_line c.args.answers.now c.loop-answer.answer-index c.answer-item.result c.loop-answer-test.true c.answer-item.is))
      (PutFront-more _ _ _ _ _ _ _ c.loop-answer.invariant.taken c.in_ok-put_answer.ensures.ok);
  failures = search rules;
}

pub returns-clause-err : goal.returns-clause-err
returns-clause-err g c = on_err_weaker c.put_all.result
    (λ p. AppendsBeginning-behind _ _ _ (flat_map reply_line (take c.loop-answer.answer-index c.args.answers.now)) c.loop-answer.piece.bytes [] [] _
    c.loop-answer.invariant.taken
    (subst (AppendsBeginning (g.W.Sink.taken c.loop-answer.sink) (g.W.Sink.taken c.put_all.new.sink)) (c.as_bytes.ensures.value ∙ c.as_str.ensures.value ∙ sym (append-nil c.loop-answer.piece.bytes)) p)
    (ap (flat_map reply_line) (sym (take_all c.loop-answer.answer-index c.args.answers.now c.loop-answer-test.false)) ∙ sym (append-nil _) ∙ sym (append-nil _)))
    c.put_all.ensures.err
