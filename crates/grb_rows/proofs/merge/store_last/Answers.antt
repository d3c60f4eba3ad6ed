use Rattle.std.proofs.Common.{◌∙◌, sym, ap}
use Rattle.grb_rows.specs.Pending.{changed_at}
use Rattle.grb_lists.proofs.Ends.{put-end, without-end}
use Rattle.grb_rows.proofs.merge.store_last.Goals as goal

pub returns-in-Some-clause-entries : goal.returns-in-Some-clause-entries
returns-in-Some-clause-entries c =
    c.push_reserved.ensures.entries ∙ sym (put-end c.args.change.0 c.in-Some.value c.args.new.now.entries c.requires.above) ∙ ap (λ w. changed_at c.args.change.0 w c.args.new.now.entries) (sym c.in-Some.is)

pub returns-in-None-clause-entries : goal.returns-in-None-clause-entries
returns-in-None-clause-entries c =
    sym (without-end c.args.change.0 c.args.new.now.entries c.requires.above) ∙ ap (λ w. changed_at c.args.change.0 w c.args.new.now.entries) (sym c.in-None.is)
