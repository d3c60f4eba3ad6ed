use Rattle.std.proofs.Common.{◌∙◌, subst}
use Rattle.grb_pass.proofs.Prelude.{All, room_of, IsOf, Shared, Finds, LooksAtEnd}
use Rattle.grb_pass.proofs.shared.Shared.learn.Goals as goal

pub returns-clause-pass : goal.returns-clause-pass
returns-clause-pass g c = record {
  order = c.learn.ensures.order ∙ c.requires.pass.order;
  records = subst (λ (s : Shared). All (IsOf s.records) c.learn.new.self.shown) c.self.view_is c.learn.ensures.of;
}

pub returns-clause-looks : goal.returns-clause-looks
returns-clause-looks g c = subst (λ (s : Shared). LooksAtEnd (room_of s.order) c.args.reader.now c.learn.new.self) c.self.view_is c.learn.ensures.looks

pub returns-clause-finds : goal.returns-clause-finds
returns-clause-finds g c = subst (λ (s : Shared). Finds (room_of s.order) c.args.reader.now c.learn.result c.learn.new.self) c.self.view_is c.learn.ensures.finds
