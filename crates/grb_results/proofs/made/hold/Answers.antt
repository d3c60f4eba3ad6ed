use Rattle.grb_results.proofs.Making.{put_on, both_ok}
use Rattle.grb_results.proofs.made.hold.Goals as goal

pub returns : goal.returns
returns g c =
    both_ok _ _ _ c.hold.result
    (λ held other s os agree is. put_on (g.O.Operates.on c.args.bench.now) (g.O.Operates.on c.hold.new.self) s os c.args.object c.args.value held other agree is)
    c.hold.ensures.held c.hold.ensures.others
