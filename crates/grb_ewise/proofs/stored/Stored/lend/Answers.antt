use Rattle.grb_ewise.proofs.Lent.{lent, lent-same, lent-rising}
use Rattle.grb_ewise.proofs.stored.Stored.lend.Goals as goal

pub invariant_of-result : goal.invariant_of-result
invariant_of-result g c =
    let value = g.Self.Scalar.value in
    let entries = c.args.vector.now.vector.entries in
    record {
      same = lent-same value c.indices.result.now c.of_vector.result.now entries c.indices.ensures.indices c.of_vector.ensures;
      rising = lent-rising value c.indices.result.now c.of_vector.result.now entries c.indices.ensures.indices c.of_vector.ensures c.indices.ensures.whole.ordered;
    }

pub returns-clause-entries : goal.returns-clause-entries
returns-clause-entries g c = lent g.Self.Scalar.value c.indices.result.now c.of_vector.result.now c.args.vector.now.vector.entries c.indices.ensures.indices c.of_vector.ensures
