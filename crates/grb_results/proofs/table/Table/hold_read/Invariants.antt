use Rattle.std.proofs.Common.{◌≡◌, ◌++◌, true, List, take}
use Rattle.grb_results.proofs.Prelude.{Store, Object, content_at, is_among, AgreeOn, contents_after}
use Rattle.grb_results.proofs.table.Table.hold_read.Given as goal

abbrev pub invariant-places : goal.invariant-places
invariant-places g l = (os : List Object) (s : Store) → AgreeOn (is_among os) (content_at (g.O.Operates.on l.initial.bench)) (content_at s) →
    ((o : Object) → is_among l.read o ≡ true → content_at s o ≡ contents_after (g.C.CallList.calls l.source l.calls) l.at o) →
    AgreeOn (is_among (os ++ take l.place l.read)) (content_at (g.O.Operates.on l.bench)) (content_at s)
