use Rattle.std.proofs.Common.{◌≡◌, ℕ, length, sym, ap, subst, ◌∙◌}
use Rattle.grb_pass.proofs.Prelude.{IfSome, calls_of, store_of, IsTableOf, MayReply, ReadsObject, IsTable, Table, IsEvaluatedFor, LiesReadyAfter, Knowing, known, waited_for, length-calls_of}
use Rattle.grb_results.specs.declared.Learnt.{Learnt}
use Rattle.grb_pass.proofs.Evaluating.{evaluated_by}
use Rattle.grb_pass.proofs.Replying.{given_err, given_ok, kept_settled, live, not_settled}
use Rattle.grb_pass.proofs.evaluated.Evaluated.reply_of_object.Goals as goal

pub returns-in_err-make_and_share : goal.returns-in_err-make_and_share
returns-in_err-make_and_share g c =
    let p : Knowing = c.args.reader.now in let t : Table = c.args.self.now in let q : Knowing = c.make_and_share.new.reader in let u : Table = c.make_and_share.new.self in
    let kept = kept_settled p t c.requires.evaluated c.requires.table c.args.object c.args.call.now c.requires.call in
    let evaluated : IsEvaluatedFor q u = subst (λ (k : Knowing). IsEvaluatedFor k u) (sym c.make_and_share.ensures.same)
    (evaluated_by p t u c.requires.evaluated (subst (λ (k : Knowing). IsTable (calls_of (known k)) u) c.make_and_share.ensures.same c.make_and_share.ensures.table) (λ all. c.make_and_share.ensures.stays (kept all))) in
    given_err p q t u c.args.call.now c.from_residual.result c.from_residual.ensures.0 c.make_and_share.ensures.same evaluated
    (not_settled p t c.requires.evaluated c.requires.table c.args.object c.args.call.now c.requires.call c.in_err-make_and_share.ensures.memory)
    (λ all. ap (λ (x : Table). x.made) (c.make_and_share.ensures.stays (kept all)))

pub complete-requires-clause-evaluated : goal.complete-requires-clause-evaluated
complete-requires-clause-evaluated g c =
    let p : Knowing = c.args.reader.now in let t : Table = c.args.self.now in let q : Knowing = c.make_and_share.new.reader in let u : Table = c.make_and_share.new.self in
    let kept = kept_settled p t c.requires.evaluated c.requires.table c.args.object c.args.call.now c.requires.call in
    subst (λ (k : Knowing). IsEvaluatedFor k u) (sym c.make_and_share.ensures.same)
    (evaluated_by p t u c.requires.evaluated (subst (λ (k : Knowing). IsTable (calls_of (known k)) u) c.make_and_share.ensures.same c.make_and_share.ensures.table) (λ all. c.make_and_share.ensures.stays (kept all)))

pub reply-requires-clause-may : goal.reply-requires-clause-may
reply-requires-clause-may g c =
    let p : Knowing = c.args.reader.now in let q : Knowing = c.make_and_share.new.reader in let u : Table = c.complete.new.self in
    let learnt : u.learnt ≡ c.args.self.now.learnt = c.complete.ensures.learnt ∙ c.make_and_share.ensures.learnt in
    let of : IsTableOf (calls_of (known q)) u = record {
      table = c.complete.ensures.evaluated.table;
      all = ap (λ (l : Learnt). length l.nodes.items) learnt ∙ (c.requires.table.all ∙ ap (λ (k : Knowing). length (calls_of (known k))) (sym c.make_and_share.ensures.same));
    } in
    subst (λ (x : Table). MayReply x c.args.object c.args.call.now) (sym c.self.view_is)
    (record { calls = calls_of (known q); table = of; reads = subst (λ (k : Knowing). ReadsObject (store_of (known k)) c.args.object c.args.call.now) (sym c.make_and_share.ensures.same) c.requires.call })

pub returns : goal.returns
returns g c =
    let p : Knowing = c.args.reader.now in let t : Table = c.args.self.now in let q : Knowing = c.make_and_share.new.reader in let u : Table = c.complete.new.self in
    let learnt : u.learnt ≡ t.learnt = c.complete.ensures.learnt ∙ c.make_and_share.ensures.learnt in
    let kept = kept_settled p t c.requires.evaluated c.requires.table c.args.object c.args.call.now c.requires.call in
    let nodes : length u.learnt.nodes.items ≡ length (calls_of (known p)) = ap (λ (l : Learnt). length l.nodes.items) learnt ∙ c.requires.table.all in
    let of : IsTableOf (calls_of (known p)) u = record { table = subst (λ (k : Knowing). IsTable (calls_of (known k)) u) c.make_and_share.ensures.same c.complete.ensures.evaluated.table; all = nodes } in
    given_ok p q t u c.args.call.now c.reply.result (c.reply.ensures (calls_of (known p)) (subst (λ (x : Table). IsTableOf (calls_of (known p)) x) (sym c.self.view_is) of) c.requires.call) c.requires.one c.make_and_share.ensures.same c.complete.ensures.evaluated
    (λ all. c.complete.ensures.made ∙ ap (λ (x : Table). x.made) (c.make_and_share.ensures.stays (kept all)))
    (subst (λ (n : ℕ). IfSome (waited_for c.args.call.now) (λ o. LiesReadyAfter u o n)) (nodes ∙ length-calls_of (known p)) c.in_ok-complete.ensures.ready)

pub make_and_share-requires-clause-live : goal.make_and_share-requires-clause-live
make_and_share-requires-clause-live g c = live c.args.reader.now c.args.self.now c.requires.evaluated c.requires.table c.args.object c.args.call.now c.requires.call
