use Rattle.std.proofs.Common.{◌≡◌, ap, sym, subst, ◌∙◌}
use Rattle.grb_pass.proofs.Prelude.{Call, reply_of, store_of, known, ReadsStore, count_accepted, count_reads, count_replied}
use Rattle.grb_call.specs.declared.reply.Reply.TheVariants.{Count}
use Rattle.grb_reader.specs.Reading.{count_of_output}
use Rattle.grb_pass.proofs.pass.Pass.count_of_output.Goals as goal

pub reply_of_entries-requires-clause-call : goal.reply_of_entries-requires-clause-call
reply_of_entries-requires-clause-call g c =
    let s = store_of (known c.args.self.now) in let call = c.args.call.now in
    let reads = count_reads call c.requires.build in
    subst (ReadsStore s) (sym c.count_call.ensures) (record { reads = reads.0; no_size = reads.1; accepted = count_accepted s call c.requires.build c.requires.accepted })

pub unreachable-requires : goal.unreachable-requires
unreachable-requires g c =
    let s = store_of (known c.args.self.now) in
    let counted : c.in_ok-count.field-0 ≡ Count (count_of_output s c.args.call.now) =
    c.in_ok-count.ensures.reply ∙ ap (λ (q : Call). reply_of s q) c.count_call.ensures ∙ count_replied s c.args.call.now c.requires.build in
    c.in_default.not-Count (count_of_output s c.args.call.now) counted
