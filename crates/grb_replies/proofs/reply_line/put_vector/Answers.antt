use Rattle.std.proofs.Common.{◌≡◌, List, [], ◌∷◌, ◌++◌, rules, sym, ap, subst, ◌∙◌, append_assoc}
use Rattle.std.proofs.lemmas.Result.{err_from_is_err_and, on_err_weaker, on_ok_weaker}
use Rattle.std.proofs.lemmas.List.Concat.{flat_map-cons}
use Rattle.std.specs.Prelude.{codes}
use Rattle.std.specs.List.{flat_map}
use Rattle.grb_market.specs.Sink.{AppendsBeginning}
use Rattle.grb_market.specs.Written.{PutFront}
use Rattle.grb_market.proofs.WrittenLemmas.{SoFar, SoFar-line, SoFar-put, SoFar-failed}
use Rattle.grb_replies.specs.ReplyLine.{index_words}
use Rattle.grb_replies.proofs.Fronts.{AppendsBeginning-more, PutFront-of, SoFar-of, SoFar-end}
use Rattle.grb_replies.proofs.reply_line.put_vector.Goals as goal

pub returns-in_err-put_words-clause-err : goal.returns-in_err-put_words-clause-err
returns-in_err-put_words-clause-err g c =
    let p = err_from_is_err_and c.from_residual.result c.from_residual.ensures.1 in
    rw p.1
    (subst (AppendsBeginning (g.W.Sink.taken c.args.sink.now) (g.W.Sink.taken c.put_words.new.sink))
    (append_assoc c.args.piece.now.bytes (codes "tuples") (flat_map index_words c.args.vector.now ++ 10 ∷ []))
    (AppendsBeginning-more _ _ _ (flat_map index_words c.args.vector.now ++ 10 ∷ []) c.in_err-put_words.ensures.err))

pub loop-entry-init : goal.loop-entry-init
loop-entry-init g c = record {
  taken =
      let read : c.into_iter-entry-iterator.result ≡ c.args.vector.now = c.into_iter-entry-iterator.ensures.into_iter_gives ∙ c.entries-entry-items.ensures in
      SoFar-of _ _ (c.args.piece.now.bytes ++ codes "tuples") _ (flat_map index_words c.into_iter-entry-iterator.result ++ 10 ∷ []) _ c.in_ok-put_words.ensures.ok
      (ap (λ l. c.args.piece.now.bytes ++ (codes "tuples" ++ (flat_map index_words l ++ 10 ∷ []))) (sym read)
      ∙ sym (append_assoc c.args.piece.now.bytes (codes "tuples") (flat_map index_words c.into_iter-entry-iterator.result ++ 10 ∷ [])));
  failures = search rules;
}

pub loop-entry-preserved : goal.loop-entry-preserved
loop-entry-preserved g c = record {
  taken = SoFar-put _ _ _ (c.loop-entry.piece.bytes ++ index_words c.in-Some.entry) _ (flat_map index_words c.next.new.self ++ 10 ∷ []) _
      (SoFar-line _ _ c.loop-entry.piece.bytes (index_words c.in-Some.entry) (flat_map index_words c.next.new.self ++ 10 ∷ []) (flat_map index_words c.loop-entry.entry-iterator ++ 10 ∷ []) _ c.loop-entry.invariant.taken
      (ap (λ l. l ++ 10 ∷ []) (ap (flat_map index_words) c.in-Some.ensures.steps ∙ flat_map-cons index_words c.in-Some.entry c.next.new.self) ∙ append_assoc (index_words c.in-Some.entry) (flat_map index_words c.next.new.self) (10 ∷ [])))
      (subst (λ t. PutFront (g.W.Sink.taken c.loop-entry.sink) (g.W.Sink.taken c.put_words-in-loop-entry.new.sink) (c.loop-entry.piece.bytes ++ t) c.put_words-in-loop-entry.new.piece.bytes) (c.as_str.ensures.value ∙ c.words_of_index.ensures) c.in_ok-put_words-2.ensures.ok);
  failures = search rules;
}

pub returns-in_err-put_words-2-clause-err : goal.returns-in_err-put_words-2-clause-err
returns-in_err-put_words-2-clause-err g c =
    let p = err_from_is_err_and c.from_residual-in_err-put_words-2.result c.from_residual-in_err-put_words-2.ensures.1 in
    rw p.1
    (SoFar-failed _ _ _ (c.loop-entry.piece.bytes ++ index_words c.in-Some.entry) (flat_map index_words c.next.new.self ++ 10 ∷ []) _
    (SoFar-line _ _ c.loop-entry.piece.bytes (index_words c.in-Some.entry) (flat_map index_words c.next.new.self ++ 10 ∷ []) (flat_map index_words c.loop-entry.entry-iterator ++ 10 ∷ []) _ c.loop-entry.invariant.taken
    (ap (λ l. l ++ 10 ∷ []) (ap (flat_map index_words) c.in-Some.ensures.steps ∙ flat_map-cons index_words c.in-Some.entry c.next.new.self) ∙ append_assoc (index_words c.in-Some.entry) (flat_map index_words c.next.new.self) (10 ∷ [])))
    (subst (λ t. AppendsBeginning (g.W.Sink.taken c.loop-entry.sink) (g.W.Sink.taken c.put_words-in-loop-entry.new.sink) (c.loop-entry.piece.bytes ++ t)) (c.as_str.ensures.value ∙ c.words_of_index.ensures) c.in_err-put_words-2.ensures.err))

pub returns-clause-ok : goal.returns-clause-ok
returns-clause-ok g c = on_ok_weaker c.put_words-2.result
    (λ p. PutFront-of _ _ _ _ (SoFar-put _ _ _ (c.loop-entry.piece.bytes ++ 10 ∷ []) _ [] _
    (SoFar-end _ _ c.loop-entry.piece.bytes (flat_map index_words c.loop-entry.entry-iterator ++ 10 ∷ []) (10 ∷ []) _ c.loop-entry.invariant.taken (ap (λ l. flat_map index_words l ++ 10 ∷ []) c.in-None.ensures.steps.0)) p))
    c.put_words-2.ensures.ok

pub returns-clause-err : goal.returns-clause-err
returns-clause-err g c = on_err_weaker c.put_words-2.result
    (λ p. SoFar-failed _ _ _ (c.loop-entry.piece.bytes ++ 10 ∷ []) [] _
    (SoFar-end _ _ c.loop-entry.piece.bytes (flat_map index_words c.loop-entry.entry-iterator ++ 10 ∷ []) (10 ∷ []) _ c.loop-entry.invariant.taken (ap (λ l. flat_map index_words l ++ 10 ∷ []) c.in-None.ensures.steps.0)) p)
    c.put_words-2.ensures.err
