-- believed: What a reader of these definitions relies on: `laws.rt` promises each, of all texts and matrices.
use Rattle.std.specs.Prelude.{◌≡◌, ℕ, List, false, None}
use Rattle.grb_core.specs.Contents.{Matrix, IsMatrix}
use Rattle.grb_market.specs.Fault.{market_fault}
use Rattle.grb_market.specs.Spells.{Spells}
use Rattle.grb_market.specs.Canonical.{canonical, stores_false}

-- a text without a fault spells a matrix
abbrev pub FaultlessTextsSpell : Type 0
FaultlessTextsSpell = (text : List ℕ) → market_fault text ≡ None → (m : Matrix) × Spells text m

-- a text that spells a matrix has no fault
abbrev pub SpellingTextsAreFaultless : Type 0
SpellingTextsAreFaultless = (text : List ℕ) (m : Matrix) → Spells text m → market_fault text ≡ None

-- a text spells at most one matrix
abbrev pub SpellAtMostOne : Type 0
SpellAtMostOne = (text : List ℕ) (m n : Matrix) → Spells text m → Spells text n → m ≡ n

-- what a text spells is in order, within its dimensions and of its domain
abbrev pub SpellMatrices : Type 0
SpellMatrices = (text : List ℕ) (m : Matrix) → Spells text m → IsMatrix m

-- the canonical text of a matrix that stores no false spells it
abbrev pub CanonicalTextsSpell : Type 0
CanonicalTextsSpell = (m : Matrix) → IsMatrix m → stores_false m ≡ false → Spells (canonical m) m

-- and it spells no other: what is read of it is the matrix that was written
abbrev pub CanonicalTextsAreReadBack : Type 0
CanonicalTextsAreReadBack = (m n : Matrix) → IsMatrix m → stores_false m ≡ false → Spells (canonical m) n → n ≡ m
