-- Sections of the one pass of a context: their answers are those of a run.
use Rattle.std.proofs.Common.{List, [], ◌∷◌, ◌++◌, length, sym, ap, ◌∙◌, subst}
use Rattle.grb_run.proofs.Prelude.{Ok, Err, room_of, Answer, StepAnswer, Loaded, Shared, known, IsAlone, call_of, Statement, Step, Standing, making, filling, IsSaid, IsFilled, IsLoadDone, IsDone, IsRun, Stage, IsTold, IsFillTold, IsLoadTold, IsStepTold, AreTold}
use Rattle.grb_run.specs.Objects.{made_sort, objects_after}
use Rattle.grb_run.specs.declared.loads.Step.TheVariants as step
use Rattle.grb_run.proofs.Explained.{explained}

abbrev pub standing : Stage → Standing
standing at = record { objects = at.objects; history = known at.pass }

module _ (context : Shared) where
  statement_alone : (at : Stage) (s : Statement) (a : Answer) (after : Stage) → IsAlone at.pass → IsTold context at s a after
      → IsSaid (room_of context.order) (standing at) s a (standing after) × IsAlone after.pass
  statement_alone at s a after alone told =
      let is = explained context at.pass after.pass (call_of at.objects s) a alone told.answered in (
        record {
          answer = is.0;
          after_is =
              ap (λ o. record { objects = o; history = known after.pass }) told.objects
              ∙ ap (λ h. record { objects = objects_after at.objects (made_sort s) a; history = h }) is.1;
        },
        is.2,
      )

  filled : (at : Stage) (s : Statement) (made a : Answer) (after : Stage) → IsAlone at.pass → IsFillTold context at s made a after
      → IsFilled (room_of context.order) (standing at) s made a (standing after) × IsAlone after.pass
  filled at s (Err refusal) a after alone told = ((told.0, ap standing told.1), subst (λ (at : Stage). IsAlone at.pass) (sym told.1) alone)
  filled at s (Ok reply) a after alone told = statement_alone at s a after alone told

  loaded : (at : Stage) (m : Loaded) (a : Answer) (after : Stage) → IsAlone at.pass → IsLoadTold context at m a after
      → IsLoadDone (room_of context.order) (standing at) m a (standing after) × IsAlone after.pass
  loaded at m a after alone told =
      let first = statement_alone at (making m) told.made told.between alone told.makes in
      let second = filled told.between (filling (length at.objects) m) told.made a after first.1 told.fills in
      (record { made = told.made; between = standing told.between; makes = first.0; fills = second.0 }, second.1)

  done : (at : Stage) (s : Step) (a : StepAnswer) (after : Stage) → IsAlone at.pass → IsStepTold context at s a after
      → IsDone (room_of context.order) (standing at) s a (standing after) × IsAlone after.pass
  done at (step.Statement s) a after alone told =
      let is = statement_alone at s told.answer after alone told.said in
      (record { answer = told.answer; said = is.0; tells = told.tells }, is.1)
  done at (step.Load m) a after alone told =
      let is = loaded at m told.answer after alone told.loaded in
      (record { answer = told.answer; loaded = is.0; tells = told.tells }, is.1)

  pub run_of : (at : Stage) (steps : List Step) (answers : List StepAnswer) (after : Stage) → IsAlone at.pass → AreTold context at steps answers after
      → IsRun (room_of context.order) (standing at) steps answers
  run_of at [] [] after alone told = tt
  run_of at [] (a ∷ answers) after alone told = absurd told
  run_of at (s ∷ steps) [] after alone told = absurd told
  run_of at (s ∷ steps) (a ∷ answers) after alone told =
      let here = done at s a told.0 alone told.1 in
      (standing told.0, here.0, run_of told.0 steps answers after here.1 told.2)

  -- two sections, one behind the other, are one
  pub AreTold-append : (at : Stage) (xs : List Step) (rs : List StepAnswer) (mid : Stage) (ys : List Step) (bs : List StepAnswer) (after : Stage)
      → AreTold context at xs rs mid → AreTold context mid ys bs after → AreTold context at (xs ++ ys) (rs ++ bs) after
  AreTold-append at [] [] mid ys bs after first second = subst (λ (at : Stage). AreTold context at ys bs after) first second
  AreTold-append at [] (a ∷ rs) mid ys bs after first second = absurd first
  AreTold-append at (s ∷ xs) [] mid ys bs after first second = absurd first
  AreTold-append at (s ∷ xs) (a ∷ rs) mid ys bs after first second = (first.0, first.1, AreTold-append first.0 xs rs mid ys bs after first.2 second)
