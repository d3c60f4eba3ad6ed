use Rattle.grb_results.proofs.Prelude.{after_all, empty_store}
use Rattle.grb_results.proofs.LastResults.{held_at, may_read}
use Rattle.grb_results.proofs.table.Table.reply.Goals as goal

pub reply_from-requires : goal.reply_from-requires
reply_from-requires g c =
    let may = c.requires.may in
    may_read c.args.object c.in-Some.content.now may.calls (c.in-Some.ensures.content may.calls may.table.table may.table.all) c.args.call.now may.reads

pub returns : goal.returns
returns g c cs is reads =
    c.reply_from.ensures (after_all empty_store cs) c.args.object reads.about (held_at c.args.object c.in-Some.content.now cs (c.in-Some.ensures.content cs is.table is.all)) reads.accepted
