-- believed: What a meeting of two members leaves (own): where the one sits beside the other then, and what it learnt.
use Rattle.std.specs.Prelude.{◌≡◌, ◌<◌, Result, Ok, Err}
use mathlib.Core.List.{IsPrefix}
use Rattle.grb_core.specs.declared.refusal.Refusal.{Refusal}
use Rattle.grb_context.specs.Meeting.{Met}
use Rattle.grb_generations.specs.Seated.{Comes, IsThere, Seated}
use Rattle.grb_generations.specs.declared.work.Meeting.{Meeting}
use Rattle.grb_generations.specs.declared.work.Meeting.TheVariants as meeting

-- the member sits where it sat, and its pass met the other's
pub record MeetsHere (old new other : Seated) (r : Result (Unit {0}) Refusal) : Type 0 where
  pub there : IsThere old new
  pub met : Met old.context old.pass new.pass other.pass r

-- where the member sits beside the other; a later page begins with all of an earlier one
abbrev pub IsBeside : Seated → Seated → Meeting → Type 0
IsBeside m other meeting.Here = m.generation ≡ other.generation
IsBeside m other meeting.Ahead = (other.generation < m.generation) × IsPrefix other.page.told m.page.told
IsBeside m other meeting.Behind = m.generation < other.generation

-- the member came to the generation of the other, and met it there
pub record MeetsThere (old new other : Seated) (r : Result (Unit {0}) Refusal) : Type 0 where
  pub along : Seated
  pub came : Comes old along
  pub together : along.generation ≡ other.generation
  pub met : MeetsHere along new other r

-- a meeting of members of any generations: they met in one, or the member came as far as it could, and knows what it knew
abbrev pub Meets : Seated → Seated → Seated → Result Meeting Refusal → Type 0
Meets old new other (Ok meeting.Here) = MeetsThere old new other (Ok (record {}))
Meets old new other (Ok meeting.Ahead) = Comes old new × IsBeside new other meeting.Ahead
Meets old new other (Ok meeting.Behind) = Comes old new × IsBeside new other meeting.Behind
Meets old new other (Err why) = MeetsThere old new other (Err why)

-- a meeting where the member sits: it took place, or a record is not there
abbrev pub MeetsNow : Seated → Seated → Seated → Result Meeting Refusal → Type 0
MeetsNow old new other (Ok m) = (m ≡ meeting.Here) × MeetsHere old new other (Ok (record {}))
MeetsNow old new other (Err why) = MeetsHere old new other (Err why)
