-- inside: no public contract names it. Results of a table in which changes are done (own).
use Rattle.std.specs.Prelude.{◌≡◌, ℕ, List, Option, Some, slice_get, slice_set}
use Rattle.std.specs.Option.{option_map}
use Rattle.grb_objects.specs.declared.shared_content.SharedContent.{SharedContent}
use Rattle.grb_results.specs.Value.{content_of}

-- at this place a result stands in which other changes wait, or none; all else is as it was
pub record IsSettledAt (at : ℕ) (old new : List (Option SharedContent)) : Type 0 where
  pub before : Option SharedContent
  pub after : Option SharedContent
  pub stood : slice_get old at ≡ Some before
  pub same : option_map content_of after ≡ option_map content_of before
  pub set : new ≡ slice_set old at after
