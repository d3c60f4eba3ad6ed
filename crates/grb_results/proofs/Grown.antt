-- A table of the first calls of a list is one of each list that goes on from there.
use Rattle.std.proofs.Common.{◌≡◌, ◌+◌, ◌<◌, ◌≤◌, List, [], ◌∷◌, ◌++◌, length, sym, Some, arith}
use Rattle.grb_results.proofs.Prelude.{slice_get, length_push, Call, AreOneHistory, within_of, Table, IsTable}
use Rattle.grb_links.proofs.Grown.{get_end, learnt_on, take_front}
use Rattle.grb_results.proofs.Frame.{same_result}

module _ (cs ds : List Call) (one : AreOneHistory cs ds) where
  pub table_on : (t : Table) → length t.learnt.nodes.items ≤ length ds → IsTable cs t → IsTable ds t
  table_on t theirs was = record {
    learnt = learnt_on cs ds one t.learnt theirs was.learnt;
    results = λ k v stands.
        let near : k < length t.results.items = within_of t.results.items k (Some v) stands in
        let places = was.places in let mine = was.learnt.within in
        same_result ds cs (λ n x y. sym (one n y x)) k (omega (arith, near, places, theirs)) (omega (arith, near, places, mine)) v (was.results k v stands);
    places = was.places;
    settled = was.settled;
    within = was.within;
  }

pub grown : (cs : List Call) (c : Call) (old new : Table) → length old.learnt.nodes.items ≡ length cs → IsTable cs old →
    ((ds : List Call) → IsTable ds old → slice_get ds (length old.learnt.nodes.items) ≡ Some c → IsTable ds new) → IsTable (cs ++ c ∷ []) new
grown cs c old new all was learns =
    let more : length (cs ++ c ∷ []) ≡ length cs + 1 = length_push cs c in
    learns (cs ++ c ∷ []) (table_on cs (cs ++ c ∷ []) (λ n mine theirs. take_front cs (c ∷ []) n mine) old (omega (arith, all, more)) was) (get_end cs c (length old.learnt.nodes.items) all)
