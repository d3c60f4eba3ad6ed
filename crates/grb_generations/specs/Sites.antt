-- inside: no public contract names it. What holds of the values in the slots of a chain, by the site for which the slots were made.
use Rattle.std.specs.Prelude.{◌≡◌, ◌+◌, ℕ, Some, slice_get}
use Rattle.grb_chronicle.specs.Pages.{Book}
use Rattle.grb_context.specs.Known.{IsPassOf, Knowing, Shared, known}
use Rattle.grb_numbers.specs.Numbers.{NumbersSeen}
use Rattle.grb_generations.specs.Chain.{Chain}
use Rattle.grb_generations.specs.Keeping.{IsAtEnd}
use Rattle.grb_generations.specs.Seated.{GoesOn, Seated, Showing}
use Rattle.grb_generations.specs.declared.ended.Ended.{Ended}
use Rattle.grb_generations.specs.declared.generation.Seat.{Seat}
use Rattle.grb_generations.specs.declared.site.Site.{Site}
use Rattle.grb_generations.specs.declared.told.Told.{Told}

-- the chain of a site
abbrev pub chain_of : Site → Chain
chain_of site = record { room = site.room; members = site.members; book = site.page.chain }

-- the site is at this generation, with this store and these numbers
pub record IsSiteOf (site : Site) (context : Shared) (numbers : NumbersSeen) (generation : ℕ) : Type 0 where
  pub context_is : site.mark.context ≡ context
  pub numbers_are : site.mark.numbers ≡ numbers
  pub generation_is : site.generation ≡ generation

-- the site is at this generation of this chain, with this store
pub record IsSiteIn (site : Site) (book : Book) (context : Shared) (generation : ℕ) : Type 0 where
  pub chain : site.page.chain ≡ book
  pub context_is : site.mark.context ≡ context
  pub generation_is : site.generation ≡ generation

-- a pass of the site's store that knows its end, and a page of the chain on which the next generation stands, which was made of just that
pub record IsEndOf (site : Site) (e : Ended) : Type 0 where
  pub chain : e.page.chain ≡ site.page.chain
  pub pass : IsPassOf site.mark.context e.pass
  pub end : IsAtEnd e.pass
  pub next : Told
  pub at : slice_get e.page.told (site.generation + 1) ≡ Some next
  pub all : known next.last ≡ known e.pass

-- a pass of this number that goes on with what is told of the site's generation
pub record IsPassAt (site : Site) (number : ℕ) (p : Knowing) : Type 0 where
  pub goes_on : GoesOn site.room site.members site.mark p
  pub number_is : p.view.number ≡ number

-- such a pass that no one has yet
abbrev pub IsSeatAt : Site → ℕ → Seat → Type 0
IsSeatAt site number seat = IsPassAt site number seat.pass

-- a generation of the site's chain
abbrev pub IsShownIn : Site → Showing → Type 0
IsShownIn site shown = chain_of shown.next.site ≡ chain_of site

-- a seat that a member of this number of the site's chain left
pub record IsLeftIn (site : Site) (number : ℕ) (left : Seated) : Type 0 where
  pub chain_is : left.chain ≡ chain_of site
  pub number_is : left.pass.view.number ≡ number
