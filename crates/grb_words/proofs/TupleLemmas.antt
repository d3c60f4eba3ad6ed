-- What is read of a list of words or values, from its beginning on.
use Rattle.std.proofs.Common.{ℕ, List, ◌++◌, map, Option, Bor}
use Rattle.std.specs.Option.{option_map}
use Rattle.grb_words.specs.Line.{Word}

module _ {X : Type 0} where
  -- these, and then those behind them, if there are such
  abbrev pub then : List X → Option (List X) → Option (List X)
  then xs more = option_map (λ ys. xs ++ ys) more

-- the words that these slices are
abbrev pub now_of : List (Bor (List ℕ)) → List Word
now_of words = map (λ word. word.now) words
