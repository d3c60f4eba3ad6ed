-- What was evaluated stays so when more calls come, and more may be known.
use Rattle.std.proofs.Common.{List, [], ◌∷◌, ◌++◌}
use Rattle.grb_slices.proofs.Prelude.{Call, Store, after, after_all, Step, Entry, Known, AreSteps}

pub steps-append : (s : Store) (cs ds : List Call) (xs ys : List Step) → AreSteps s cs xs → AreSteps (after_all s cs) ds ys → AreSteps s (cs ++ ds) (xs ++ ys)
steps-append s [] ds [] ys first then = then
steps-append s (c ∷ cs) ds [] ys first then = absurd first
steps-append s [] ds (Known o x ∷ xs) ys first then = (first.0, steps-append s [] ds xs ys first.1 then)
steps-append s (c ∷ cs) ds (Known o x ∷ xs) ys first then = (first.0, steps-append s (c ∷ cs) ds xs ys first.1 then)
steps-append s [] ds (Entry t d ∷ xs) ys first then = absurd first
steps-append s (c ∷ cs) ds (Entry t d ∷ xs) ys first then = (first.0, first.1, steps-append (after s c) cs ds xs ys first.2 then)
