use Rattle.std.proofs.Common.{◌≡◌, ◌+◌, ℕ, ◌∷◌, length, sym, ap, subst, ◌∙◌, arith}
use Rattle.grb_pass.proofs.Prelude.{empty_store, after_all, AreTaken, Knowing, known, AreBegun, IsOpened}
use Rattle.grb_rebuild.proofs.Rebuilding.{rebuild_leaves_the_store}
use Rattle.grb_rebuild.proofs.Taken.{rebuild_is_taken}
use Rattle.grb_pass.specs.Succeeding.{made_by}
use Rattle.grb_pass.proofs.Succeeding.{all_begun, are_begun, inserted_first, new_first, new_opened, removed_rest}
use Rattle.grb_pass.proofs.shared.Shared.begin_all.Goals as goal
use Rattle.grb_pass.proofs.shared.Shared.begin_all.Goals.{In-Ok}

pub begin_first-requires-clause-taken : goal.begin_first-requires-clause-taken
begin_first-requires-clause-taken g c = subst (AreTaken empty_store) (sym c.requires.rebuild.calls_are) (rebuild_is_taken c.args.rebuild.state.store c.requires.rebuild.whole)

pub begin_first-requires-clause-store : goal.begin_first-requires-clause-store
begin_first-requires-clause-store g c = sym (ap (after_all empty_store) c.requires.rebuild.calls_are ∙ rebuild_leaves_the_store c.args.rebuild.state.store c.requires.rebuild.whole)

pub tell_all-requires-clause-opened : goal.tell_all-requires-clause-opened
tell_all-requires-clause-opened g c = λ n p at.
    let opened = c.args.opened.items in let context = c.args.self.now in
    let new = new_opened context (length opened) opened (n + 1) p c.requires.opened (sym (removed_rest opened c.remove-first.new.self.items n c.requires.some c.remove-first.ensures.items) ∙ at) in
    let first = new_first context (length opened) opened c.remove-first.result c.requires.opened c.requires.some c.remove-first.ensures.value in
    record { opened = new.0; passes = new.2 ∙ sym (c.in_ok-begin_first.ensures.passes ∙ first.1) }

begun : (g : _) (c : In-Ok g) → AreBegun c.args.self.now c.args.rebuild.state.store (length c.args.opened.items) c.insert.new.self.items
begun g c =
    let opened = c.args.opened.items in let context = c.args.self.now in let told = c.in_ok-tell_all.ensures in
    let first = c.begin_first.new.pass in let others = c.tell_all.new.others.items in
    let new = new_first context (length opened) opened c.remove-first.result c.requires.opened c.requires.some c.remove-first.ensures.value in
    let start : IsOpened context 0 first = record {
      pass = c.in_ok-begin_first.ensures.pass;
      number_is = c.in_ok-begin_first.ensures.number ∙ new.0.number_is;
      statuses = c.in_ok-begin_first.ensures.statuses ∙ new.0.statuses;
      settled = c.in_ok-begin_first.ensures.settled ∙ new.0.settled;
      steps = c.in_ok-begin_first.ensures.counted.0;
      made = c.in_ok-begin_first.ensures.counted.1;
    } in
    let knows : known first ≡ made_by 0 c.args.rebuild.calls.items = c.in_ok-begin_first.ensures.known ∙ ap (λ (n : ℕ). made_by n c.args.rebuild.calls.items) new.0.number_is in
    are_begun context c.args.rebuild.state.store (length opened) first others c.insert.new.self.items c.requires.rebuild.whole
    (inserted_first others c.insert.new.self.items c.tell_all.new.first c.in-Ok.ensures.items ∙ ap (λ (f : Knowing). f ∷ others) c.tell_all.ensures.first)
    (omega (arith, told.count, c.remove-first.ensures.len, c.requires.some)) start (c.in_ok-begin_first.ensures.passes ∙ new.1) (knows ∙ ap (made_by 0) c.requires.rebuild.calls_are) told.opened told.known

pub returns-clause-begun : goal.returns-clause-begun
returns-clause-begun g c = begun g c

pub returns-clause-ours : goal.returns-clause-ours
returns-clause-ours g c = all_begun c.args.self.now c.args.rebuild.state.store (length c.args.opened.items) c.insert.new.self.items (begun g c)
