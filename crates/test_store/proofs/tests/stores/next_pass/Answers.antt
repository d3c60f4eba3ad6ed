use Rattle.std.specs.Prelude.{Some}
use Rattle.std.proofs.lemmas.List.Elements.{All-pop}
use Rattle.grb_context.specs.Known.{IsPassOf}
use Rattle.test_store.proofs.tests.stores.next_pass.Goals as goal

pub returns-clause-pass : goal.returns-clause-pass
returns-clause-pass g c = (All-pop (IsPassOf c.args.context.now) _ _ (Some c.in-Some.pass) c.in-Some.ensures.items c.requires).1

pub returns-clause-rest : goal.returns-clause-rest
returns-clause-rest g c = (All-pop (IsPassOf c.args.context.now) _ _ (Some c.in-Some.pass) c.in-Some.ensures.items c.requires).0
