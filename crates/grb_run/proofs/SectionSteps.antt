-- The steps of a section, one more at their end.
use Rattle.std.proofs.Common.{◌≡◌, ℕ, ◌+◌, List, [], ◌∷◌, ◌++◌, length, refl, ap, ◌∙◌, arith}
use Rattle.grb_run.proofs.Prelude.{length-map, map-append, Loaded, NumberedCommand, Statement, commands_of, loads_among, steps_with}
use Rattle.grb_script.specs.declared.command.Command.{Command}
use Rattle.grb_script.specs.declared.command.Command.TheVariants as command
use Rattle.grb_run.specs.declared.loads.Step.TheVariants as step

pub commands_of-push : (before : List NumberedCommand) (line : NumberedCommand) → commands_of (before ++ line ∷ []) ≡ commands_of before ++ line.command ∷ []
commands_of-push before line = map-append (λ (line : NumberedCommand). line.command) before (line ∷ [])

pub loads_among-append : (before more : List Command) → loads_among (before ++ more) ≡ loads_among before + loads_among more
loads_among-append [] more = omega arith
loads_among-append (command.Statement s ∷ before) more = loads_among-append before more
loads_among-append (command.Load path ∷ before) more = omega (arith, loads_among-append before more)

pub steps_with-statement : (before : List Command) (s : Statement) (loads : List Loaded) → length loads ≡ loads_among before
    → steps_with (before ++ command.Statement s ∷ []) loads ≡ steps_with before loads ++ step.Statement s ∷ []
steps_with-statement [] s loads count = refl
steps_with-statement (command.Statement t ∷ before) s loads count = ap (λ l. step.Statement t ∷ l) (steps_with-statement before s loads count)
steps_with-statement (command.Load path ∷ before) s [] count = absurd (omega (arith, count))
steps_with-statement (command.Load path ∷ before) s (m ∷ loads) count = ap (λ l. step.Load m ∷ l) (steps_with-statement before s loads (omega (arith, count)))

pub steps_with-load : (before : List Command) (path : List ℕ) (loads : List Loaded) (m : Loaded) → length loads ≡ loads_among before
    → steps_with (before ++ command.Load path ∷ []) (loads ++ m ∷ []) ≡ steps_with before loads ++ step.Load m ∷ []
steps_with-load [] path [] m count = refl
steps_with-load [] path (n ∷ loads) m count = absurd (omega (arith, count))
steps_with-load (command.Statement t ∷ before) path loads m count = ap (λ l. step.Statement t ∷ l) (steps_with-load before path loads m count)
steps_with-load (command.Load other ∷ before) path [] m count = absurd (omega (arith, count))
steps_with-load (command.Load other ∷ before) path (n ∷ loads) m count = ap (λ l. step.Load n ∷ l) (steps_with-load before path loads m (omega (arith, count)))

length-steps_with : (commands : List Command) (loads : List Loaded) → length loads ≡ loads_among commands → length (steps_with commands loads) ≡ length commands
length-steps_with [] loads count = refl
length-steps_with (command.Statement s ∷ more) loads count = omega (arith, length-steps_with more loads count)
length-steps_with (command.Load path ∷ more) [] count = absurd (omega (arith, count))
length-steps_with (command.Load path ∷ more) (m ∷ loads) count = omega (arith, length-steps_with more loads (omega (arith, count)))

-- a section has as many steps as lines
pub length-section : (lines : List NumberedCommand) (loads : List Loaded) → length loads ≡ loads_among (commands_of lines)
    → length (steps_with (commands_of lines) loads) ≡ length lines
length-section lines loads count = length-steps_with (commands_of lines) loads count ∙ length-map lines (λ (line : NumberedCommand). line.command)
