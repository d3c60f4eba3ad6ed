use Rattle.std.proofs.Common.{◌≡◌, ℕ, List, Bool, true, false, ap, sym, subst, ◌∙◌, get_or, set}
use Rattle.std.proofs.lemmas.List.{set-get_or}
use Rattle.grb_sums.specs.Marks.{AreMarks}
use Rattle.grb_mxm.proofs.true_rows.mark_after.Goals as goal

-- a mark that is set already
set_again : (marks : List Bool) (word : ℕ) → get_or marks word false ≡ true → set marks word true ≡ marks
set_again marks word is = ap (set marks word) (sym is) ∙ set-get_or marks word false

pub returns-then-word-before : goal.returns-then-word-before
returns-then-word-before c marks inside same are = subst (λ (m : List Bool). AreMarks m c.args.tops.now) (sym (set_again marks c.args.word (same c.if-word-before.true))) are

pub returns : goal.returns
returns c marks inside same are = c.mark.ensures.marked marks inside are
