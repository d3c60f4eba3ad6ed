use Rattle.std.proofs.Common.{◌++◌, arith, take, List, ◌∙◌}
use Rattle.grb_results.proofs.Prelude.{Call}
use Rattle.grb_results.proofs.Frame.{agree_first, all_agree, among_at, more_agree, read_held}
use Rattle.grb_results.proofs.Making.{some_at}
use Rattle.grb_results.proofs.table.Table.hold_read.Goals as goal

pub places-init : goal.places-init
places-init g c os s agree same = agree_first _ _ os agree

pub places-preserved : goal.places-preserved
places-preserved g c os s agree same =
    let cs : List Call = g.C.CallList.calls c.args.source.now c.args.calls.now in
    more_agree _ _ os c.args.read.now c.places.place c.object_at.result c.object_at.ensures
    (c.in_ok-hold-in-Some.ensures s (os ++ take c.places.place c.args.read.now) (c.places.invariant os s agree same)
    (same c.object_at.result (among_at c.args.read.now c.places.place c.object_at.result c.object_at.ensures)
    ∙ read_held cs c.args.self.now c.requires.table c.args.at c.requires.near c.args.read.now c.requires.read c.places.place _ c.node_at.result c.object_at.result c.in-Some.value c.object_at.ensures
    c.node_at.ensures c.if-link-eq0.false (some_at _ _ c.in-Some.value c.in-Some.is (c.in_ok-value.ensures cs c.requires.table))))

pub returns : goal.returns
returns g c os s agree same = all_agree _ _ os c.args.read.now c.places.place (omega (arith, c.places-test.false)) (c.places.invariant os s agree same)
