use Rattle.std.proofs.Common.{◌^◌, ◌<◌, ◌++◌, string_bytes, rules, sym, ap, subst, ◌∙◌}
use Rattle.std.proofs.lemmas.List.Concat.{flat_map-cons}
use Rattle.grb_market.proofs.Prelude.{All-rest, line_text, entry_text, entry_lines}
use Rattle.std.proofs.lemmas.Result.{err_from_is_err_and}
use Rattle.grb_market.specs.Sink.{AppendsBeginning}
use Rattle.grb_market.proofs.WrittenLemmas.{SoFar, SoFar-line, SoFar-put, SoFar-failed, SoFar-front}
use Rattle.grb_market.proofs.writing.write_entries.Goals as goal

pub returns-in_err-push_entry-clause-err : goal.returns-in_err-push_entry-clause-err
returns-in_err-push_entry-clause-err g c =
    let p = err_from_is_err_and c.from_residual.result c.from_residual.ensures.1 in
    rw (p.1, p.2) (SoFar-front _ _ _ _ c.loop-place.invariant.taken)

pub loop-place-preserved : goal.loop-place-preserved
loop-place-preserved g c = record {
  within = All-rest (λ e. (e.0.0 < 2 ^ 32) × (e.0.1 < 2 ^ 32)) (c.in-Some.place, c.in-Some.value) c.next.new.self c.loop-place.place-iterator c.in-Some.ensures.steps c.loop-place.invariant.within;
  taken = SoFar-put _ _ _ _ _ _ _ (subst (λ t. SoFar (g.W.Sink.taken c.args.sink.now) (g.W.Sink.taken c.loop-place.sink) (t ++ entry_lines c.next.new.self) (string_bytes c.args.text ++ entry_lines c.args.entries)) (sym c.in_ok-push_entry.ensures)
      (SoFar-line _ _ (string_bytes c.loop-place.text) (line_text (entry_text (c.in-Some.place, c.in-Some.value))) (entry_lines c.next.new.self) (entry_lines c.loop-place.place-iterator) _ c.loop-place.invariant.taken
      (ap entry_lines c.in-Some.ensures.steps ∙ flat_map-cons (λ e. line_text (entry_text e)) (c.in-Some.place, c.in-Some.value) c.next.new.self)))
      c.in_ok-put_piece.ensures.ok;
  failures = search rules;
}

pub returns-in_err-put_piece-clause-err : goal.returns-in_err-put_piece-clause-err
returns-in_err-put_piece-clause-err g c =
    let p = err_from_is_err_and c.from_residual-in_err-put_piece.result c.from_residual-in_err-put_piece.ensures.1 in
    rw (p.1, p.2) (SoFar-failed _ _ _ _ _ _ (subst (λ t. SoFar (g.W.Sink.taken c.args.sink.now) (g.W.Sink.taken c.loop-place.sink) (t ++ entry_lines c.next.new.self) (string_bytes c.args.text ++ entry_lines c.args.entries)) (sym c.in_ok-push_entry.ensures)
    (SoFar-line _ _ (string_bytes c.loop-place.text) (line_text (entry_text (c.in-Some.place, c.in-Some.value))) (entry_lines c.next.new.self) (entry_lines c.loop-place.place-iterator) _ c.loop-place.invariant.taken
    (ap entry_lines c.in-Some.ensures.steps ∙ flat_map-cons (λ e. line_text (entry_text e)) (c.in-Some.place, c.in-Some.value) c.next.new.self)))
    c.in_err-put_piece.ensures.err)

pub returns-in_err-put_all-clause-err : goal.returns-in_err-put_all-clause-err
returns-in_err-put_all-clause-err g c =
    let p = err_from_is_err_and c.from_residual-in_err-put_all.result c.from_residual-in_err-put_all.ensures.1 in
    rw (p.1, p.2) (SoFar-failed _ _ _ _ _ _ c.loop-place.invariant.taken (subst (λ t. AppendsBeginning (g.W.Sink.taken c.loop-place.sink) (g.W.Sink.taken c.put_all.new.sink) t) c.as_bytes.ensures.value c.in_err-put_all.ensures.err))
