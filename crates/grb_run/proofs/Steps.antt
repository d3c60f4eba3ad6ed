-- Steps that are answered, one behind another.
use Rattle.std.proofs.Common.{◌≡◌, ℕ, false, List, [], ◌∷◌, ◌++◌, length, refl, sym, ap, ◌∙◌, subst, append_assoc}
use Rattle.grb_run.proofs.Prelude.{Result, Ok, Err, IfOk, AllocError, Answered, Answer, StepAnswer, Shared, call_of, Loaded, Statement, Step, making, filling, Stage, IsTold, IsFillTold, IsLoadTold, IsStepTold, AreTold}
use Rattle.std.specs.Result.{is_err}
use Rattle.grb_run.specs.Objects.{made_sort, objects_after}

pub none_left : {X : Type 0} (rest : List X) (n : ℕ) → n ≡ length rest → n ≡ 0 → rest ≡ []
none_left [] n is none = refl
none_left (x ∷ rest) n is none = cc

-- one step more of a section
pub AreTold-next : (context : Shared) (all here rest : List Step) (from at next : Stage) (s : Step) (answers now : List StepAnswer) (a : StepAnswer) → here ≡ s ∷ rest
    → now ≡ answers ++ a ∷ [] → IsStepTold context at s a next
    → ((more : List StepAnswer) (after : Stage) → AreTold context at here more after → AreTold context from all (answers ++ more) after)
    → (more : List StepAnswer) (after : Stage) → AreTold context next rest more after → AreTold context from all (now ++ more) after
AreTold-next context all here rest from at next s answers now a are pushed told so_far more after run =
    subst (λ l. AreTold context from all l after) (sym (append_assoc answers (a ∷ []) more) ∙ ap (λ l. l ++ more) (sym pushed))
    (so_far (a ∷ more) after (subst (λ steps. AreTold context at steps (a ∷ more) after) (sym are) (next, told, run)))

-- the second statement of a load, where its first was not refused
fill_told : (context : Shared) (at : Stage) (s : Statement) (made a : Answer) (after : Stage) → false ≡ is_err made → IsTold context at s a after
    → IsFillTold context at s made a after
fill_told context at s (Ok reply) a after unrefused told = told
fill_told context at s (Err refusal) a after unrefused told = cc

-- both statements of a load
pub load_told : (context : Shared) (at between after : Stage) (m : Loaded) (first second : Statement) (name : ℕ) (made : Answer) (last : Result Answer AllocError) → first ≡ making m
    → name ≡ length at.objects → second ≡ filling name m → false ≡ is_err made → IsTold context at first made between
    → IfOk last (λ a. Answered context between.pass after.pass (call_of between.objects second) a)
    → IfOk last (λ a. after.objects ≡ objects_after between.objects (made_sort second) a)
    → IfOk last (λ a. IsLoadTold context at m a after)
load_told context at between after m first second name made (Ok a) first_is name_is second_is unrefused makes answered objects = record {
  made = made;
  between = between;
  makes = subst (λ s. IsTold context at s made between) first_is makes;
  fills =
      fill_told context between (filling (length at.objects) m) made a after unrefused
      (subst (λ s. IsTold context between s a after) (second_is ∙ ap (λ n. filling n m) name_is) (record { answered = answered; objects = objects }));
}
load_told context at between after m first second name made (Err e) first_is name_is second_is unrefused makes answered objects = tt
