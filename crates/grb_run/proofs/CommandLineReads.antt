-- What a parse of the program's command line finds.
use Rattle.std.proofs.Common.{◌≡◌, ◌∙◌, ◌<◌, ◌≤◌, ◌^◌, ap, ℕ, true, false, zero, suc, List, [], ◌∷◌, map, length, is_some, Option, Some, None, refl, sym, subst, inl, inr, arith, codes, slice_index}
use Rattle.grb_run.proofs.Prelude.{list_all, slice_index_or, Err, IsErrAnd, IsSome, Ok, Result, pos, Bor, get_or-map, length-map, MOST_ROOM, MOST_THREADS, faults_of, number_spelled, room_option, threads_option, script_argument}
use Rattle.std.specs.List.{All}
use Rattle.std.specs.Prelude.{option_map}
use Rattle.std.specs.Str.Parse.{ExplainsUnsignedError, HasUnsignedDigitsIfOk, ParsesUnsigned}
use Rattle.std.specs.Str.{bytes_eq}
use Rattle.clap.specs.Facts.{args_of, unwrap_or_range}
use Rattle.clap.specs.Built.{IsParsedFrom, IsPlain}
use Rattle.clap.specs.Lexer.{without_minus}
use Rattle.clap.specs.Matches.{ReadsOne, first_value, found_of, one_text}
use Rattle.clap.specs.Faults.{fault_of, is_simple_and_free}
use Rattle.clap.specs.Kinds.{FailsBy, HasKind}
use Rattle.clap.specs.Texts.{items_of}
use Rattle.clap.specs.Simple.{App, HasMatchesOf, IsSimple, app_of, is_simple, matches_of, is_ready, is_ready_leaf}
use Rattle.clap.specs.Values.{IsSignedIn}
use Rattle.clap.specs.Walk.{Rule, Text, first_of, one_of, rows_of, rule_of}
use Rattle.clap.specs.declared.builder.arg.Arg.{Arg}
use Rattle.clap.specs.declared.builder.command.Command.{Command}
use Rattle.clap.specs.declared.builder.command.Command.TheViews.{out-Command}
use Rattle.clap.specs.declared.builder.range.ValueRange.{ValueRange}
use Rattle.clap.specs.declared.builder.action.ArgAction.TheVariants.{Set}
use Rattle.clap.specs.declared.builder.value_parser.ValueParser.TheVariants as parser
use Rattle.clap.specs.declared.error.Error.{Error}
use Rattle.clap.specs.declared.parser.matches.ArgMatches.{ArgMatches}
use Rattle.clap.proofs.CallerLemmas.{required_has_value}
use Rattle.clap.proofs.SimpleLemmas.{is_false, is_nil, ready_simple, simple_groups}
use Rattle.clap.proofs.CallerReads.{signed_reads}
use Rattle.clap.proofs.WalkLemmas.{both, first_value-rows, one_text-rows}
use Rattle.grb_run.specs.CommandLine.{command_line}
use Rattle.grb_run.proofs.DefaultReads.{default_reads}

abbrev arguments : List Rule
arguments = room_option ∷ threads_option ∷ script_argument ∷ []

-- an argument that the command line has, at its place
rule_at : (xs : List Arg) (rs : List Rule) → map rule_of xs ≡ rs → (k : ℕ) (d : Arg) → k < length xs → rule_of (slice_index_or xs k d) ≡ slice_index_or rs k (rule_of d)
rule_at xs rs e k d lt = sym (get_or-map rule_of xs k d (rule_of d) lt) ∙ ap (λ (l : List Rule). slice_index_or l k (rule_of d)) e

first_arg : (xs : List Arg) → 0 < length xs → Arg
first_arg [] lt = absurd (omega arith)
first_arg (x ∷ xs) lt = x

each_free : (xs : List Arg) → list_all (λ r. r.is_free) (map rule_of xs) ≡ true → All (λ a. (a.exclusive ≡ false) × (a.conflicts.items ≡ [])) xs
each_free [] e k d lt = absurd (omega arith)
each_free (x ∷ xs) e zero d lt =
    let p = both _ _ (both _ _ e).0 in
    (is_false _ p.0, is_nil _ (both _ _ p.1).0)
each_free (x ∷ xs) e (suc k) d lt = each_free xs (both _ _ e).1 k d (omega arith)

-- the facts of a command that has the shape of the command line
record IsCommandLine (c : Command) : Type 0 where
  rules : map rule_of (args_of c) ≡ room_option ∷ threads_option ∷ script_argument ∷ []
  count : length (args_of c) ≡ 3
  simple : IsSimple c
  plain : IsPlain c
  negates : (out-Command c).subcommand_negates_reqs ≡ false

is_command_line : (program : Text) (c : Command) → app_of c ≡ command_line program → IsCommandLine c
unfolding command_line
is_command_line program c e =
    let rules : map rule_of (args_of c) ≡ room_option ∷ threads_option ∷ script_argument ∷ [] = ap (λ a. a.top.rules) e in
    let simple : IsSimple c = ready_simple c (ap (λ a. is_ready a.top) e) (ap (λ a. list_all is_ready_leaf a.subs) e) in
    let free = each_free (args_of c) (ap (list_all (λ r. r.is_free)) rules) in
    let groups = simple_groups c (ap (list_all (λ r. r.is_simple)) rules) in
    record {
      rules = rules;
      count = sym (length-map (args_of c) rule_of) ∙ ap length rules;
      simple = simple;
      plain = (λ k d lt. ((free k d lt).0, (free k d lt).1, (simple.args k d lt).overrides, groups k d lt), simple.groups);
      negates = ap (λ a. a.top.subcommand_negates_reqs) e;
    }

distinct : (j k : ℕ) (e d : Rule) → j < 3 → k < 3 → bytes_eq (slice_index_or arguments j e).id (slice_index_or arguments k d).id ≡ true → j ≡ k
distinct zero zero e d low high same = refl
distinct zero (suc zero) e d low high same = cc
distinct zero (suc (suc zero)) e d low high same = cc
distinct (suc zero) zero e d low high same = cc
distinct (suc zero) (suc zero) e d low high same = refl
distinct (suc zero) (suc (suc zero)) e d low high same = cc
distinct (suc (suc zero)) zero e d low high same = cc
distinct (suc (suc zero)) (suc zero) e d low high same = cc
distinct (suc (suc zero)) (suc (suc zero)) e d low high same = refl
distinct zero (suc (suc (suc k))) e d low high same = absurd (omega arith)
distinct (suc zero) (suc (suc (suc k))) e d low high same = absurd (omega arith)
distinct (suc (suc zero)) (suc (suc (suc k))) e d low high same = absurd (omega arith)
distinct (suc (suc (suc j))) k e d low high same = absurd (omega arith)

-- no two arguments have one id
one_place : (c : Command) → IsCommandLine c → (j k : ℕ) (e d : Arg) → j < length (args_of c) → k < length (args_of c)
    → bytes_eq (slice_index_or (args_of c) j e).id.now (slice_index_or (args_of c) k d).id.now ≡ true → j ≡ k
one_place c is j k e d low high same =
    let at_j = ap (λ (r : Rule). r.id) (rule_at (args_of c) arguments is.rules j e low) in
    let at_k = ap (λ (r : Rule). r.id) (rule_at (args_of c) arguments is.rules k d high) in
    distinct j k (rule_of e) (rule_of d) (subst (λ (n : ℕ). j < n) is.count low) (subst (λ (n : ℕ). k < n) is.count high) (rw (at_j, at_k) at same)

one_value : (range : Option ValueRange) → range ≡ None → 1 ≤ (unwrap_or_range range).start_inclusive
one_value range e = rw e (omega arith)

-- an option whose one value is a number up to this one, where it stands among the arguments, and how its name begins
record IsNumberOption (k : ℕ) (rule : Rule) (most head : ℕ) : Type 0 where
  within : k < 3
  stands : (d : Rule) → slice_index_or arguments k d ≡ rule
  action : rule.action ≡ Some Set
  defaults : length rule.defaults ≡ 1
  range : rule.range ≡ None
  is_parser : rule.parser ≡ Some (parser.Signed (pos 1) (pos most))
  begins : slice_index rule.id 0 ≡ head
  is_named : 0 ≡ head → ⊥
  not_h : 104 ≡ head → ⊥
  not_v : 118 ≡ head → ⊥

room_number : IsNumberOption 0 room_option MOST_ROOM 114
room_number = record {
  within = omega arith;
  stands = λ d. refl;
  action = refl;
  defaults = refl;
  range = refl;
  is_parser = refl;
  begins = refl;
  is_named = λ bad. absurd (omega (arith, bad));
  not_h = λ bad. absurd (omega (arith, bad));
  not_v = λ bad. absurd (omega (arith, bad));
}

threads_number : IsNumberOption 1 threads_option MOST_THREADS 116
threads_number = record {
  within = omega arith;
  stands = λ d. refl;
  action = refl;
  defaults = refl;
  range = refl;
  is_parser = refl;
  begins = refl;
  is_named = λ bad. absurd (omega (arith, bad));
  not_h = λ bad. absurd (omega (arith, bad));
  not_v = λ bad. absurd (omega (arith, bad));
}

number_reads : (k : ℕ) (rule : Rule) (most head : ℕ) → IsNumberOption k rule most head → (program : Text) (c : Command) (m : ArgMatches) → app_of c ≡ command_line program → IsParsedFrom c m
    → (t : List ℕ) × (one_text (found_of m) rule.id ≡ Some (without_minus t)) × IsSignedIn (pos 1) (pos most) t
number_reads k rule most head of program c m e p =
    let is = is_command_line program c e in
    let lt : k < length (args_of c) = rw is.count of.within in
    let d = first_arg (args_of c) (omega arith) in
    let here : rule_of (slice_index_or (args_of c) k d) ≡ rule = rule_at (args_of c) arguments is.rules k d lt ∙ of.stands (rule_of d) in
    let is_id : (slice_index_or (args_of c) k d).id.now ≡ rule.id = ap (λ (r : Rule). r.id) here in
    let first : (t : List ℕ) → (slice_index_or (args_of c) k d).id.now ≡ t → slice_index t 0 ≡ head = λ t at. rw (← at, is_id) of.begins in
    let one : length (items_of (slice_index_or (args_of c) k d).default_vals) ≡ 1 =
    sym (length-map (items_of (slice_index_or (args_of c) k d).default_vals) (λ s. s.now)) ∙ ap (λ (r : Rule). length r.defaults) here ∙ of.defaults in
    let got = default_reads c m p is.plain is.simple.globals k d lt
    ((is.simple.args k d lt).default_ifs, omega arith)
    (ap (λ (r : Rule). r.action) here ∙ of.action) (is.simple.args k d lt).delimiter (one_value _ (ap (λ (r : Rule). r.range) here ∙ of.range))
    (λ j a low same. one_place c is j k a d low lt same)
    (λ at. of.is_named (first [] at))
    (λ auto. elim auto [
      | inl h ↦ of.not_h (first _ h)
      | inr h ↦ of.not_v (first _ h)
    ])
    (parser.Signed (pos 1) (pos most)) (ap (λ (r : Rule). r.parser) here ∙ of.is_parser) in
    (got.0, subst (λ (w : List ℕ). one_text (found_of m) w ≡ Some (without_minus got.0)) is_id got.1, got.2)

script_has_value : (program : Text) (c : Command) (m : ArgMatches) → app_of c ≡ command_line program → IsParsedFrom c m
    → is_some (first_value (found_of m) (codes "script")) ≡ true
script_has_value program c m e p =
    let is = is_command_line program c e in
    let lt : 2 < length (args_of c) = rw is.count (omega arith) in
    let d = first_arg (args_of c) (omega arith) in
    let script : rule_of (slice_index_or (args_of c) 2 d) ≡ script_argument = rule_at (args_of c) arguments is.rules 2 d lt in
    let is_id : (slice_index_or (args_of c) 2 d).id.now ≡ codes "script" = ap (λ (r : Rule). r.id) script in
    let first : (t : List ℕ) → (slice_index_or (args_of c) 2 d).id.now ≡ t → slice_index t 0 ≡ 115 = λ t at. rw (← at, is_id) refl in
    let has = required_has_value c m p is.plain is.simple.globals is.negates 2 d lt
    (ap (λ (r : Rule). r.required) script) (ap (λ (r : Rule). r.action) script) (is.simple.args 2 d lt).delimiter (one_value _ (ap (λ (r : Rule). r.range) script))
    (λ j a low same. one_place c is j 2 a d low lt same)
    (λ at. let bad : 0 ≡ 115 = first [] at in absurd (omega arith))
    (λ auto. elim auto [
      | inl h ↦ let bad : 104 ≡ 115 = first _ h in absurd (omega arith)
      | inr h ↦ let bad : 118 ≡ 115 = first _ h in absurd (omega arith)
    ]) in
    subst (λ (w : List ℕ). is_some (first_value (found_of m) w) ≡ true) is_id has

-- ---- what the getters answer

rows_are : (program : Text) (c : Command) (m : ArgMatches) (words : List Text) → app_of c ≡ command_line program → HasMatchesOf (app_of c) words m
    → rows_of (found_of m) ≡ matches_of (command_line program) words
unfolding command_line
rows_are program c m words e has = (has (ap is_simple e)).0 ∙ ap (λ a. matches_of a words) e

-- a number is there, in its range, and what the words say
number_given : (k : ℕ) (rule : Rule) (most head : ℕ) → IsNumberOption k rule most head → most < 2 ^ 32 → (program : Text) (c : Command) (m : ArgMatches) (words : List Text) (r : Option ℕ)
    → app_of c ≡ command_line program → IsParsedFrom c m → HasMatchesOf (app_of c) words m
    → ((t : List ℕ) → one_text (found_of m) rule.id ≡ Some t
    → ReadsOne (λ bs x. ParsesUnsigned 32 10 bs x × ExplainsUnsignedError 10 bs x × HasUnsignedDigitsIfOk bs x) t r)
    → (n : ℕ) × (r ≡ Some n) × (1 ≤ n) × (n ≤ most) × (option_map number_spelled (one_of rule.id (matches_of (command_line program) words)) ≡ Some n)
number_given k rule most head of small program c m words r e p has reads =
    let text = number_reads k rule most head of program c m e p in
    let read = reads (without_minus text.0) text.1 in
    let got = signed_reads _ (λ bs x. ParsesUnsigned 32 10 bs x × ExplainsUnsignedError 10 bs x × HasUnsignedDigitsIfOk bs x)
    32 1 most text.0 r read (λ u x g. g.0) small text.2 in
    let numeral = (rw got.1 at read).0 in
    let given : one_of rule.id (matches_of (command_line program) words) ≡ Some (without_minus text.0) =
    ap (one_of rule.id) (sym (rows_are program c m words e has)) ∙ (sym (one_text-rows (found_of m) rule.id) ∙ text.1) in
    (got.0, got.1, got.2, got.3, ap (option_map number_spelled) given ∙ ap (λ (n : ℕ). Some n) (sym numeral.1))

-- the room
pub room_given : (program : Text) (c : Command) (m : ArgMatches) (words : List Text) (r : Option ℕ) → app_of c ≡ command_line program → IsParsedFrom c m
    → HasMatchesOf (app_of c) words m
    → ((t : List ℕ) → one_text (found_of m) (codes "room") ≡ Some t
    → ReadsOne (λ bs x. ParsesUnsigned 32 10 bs x × ExplainsUnsignedError 10 bs x × HasUnsignedDigitsIfOk bs x) t r)
    → (n : ℕ) × (r ≡ Some n) × (1 ≤ n) × (n ≤ MOST_ROOM) × (option_map number_spelled (one_of (codes "room") (matches_of (command_line program) words)) ≡ Some n)
room_given program c m words r e p has reads = number_given 0 room_option MOST_ROOM 114 room_number (omega arith) program c m words r e p has reads

-- the threads
pub threads_given : (program : Text) (c : Command) (m : ArgMatches) (words : List Text) (r : Option ℕ) → app_of c ≡ command_line program → IsParsedFrom c m
    → HasMatchesOf (app_of c) words m
    → ((t : List ℕ) → one_text (found_of m) (codes "threads") ≡ Some t
    → ReadsOne (λ bs x. ParsesUnsigned 32 10 bs x × ExplainsUnsignedError 10 bs x × HasUnsignedDigitsIfOk bs x) t r)
    → (n : ℕ) × (r ≡ Some n) × (1 ≤ n) × (n ≤ MOST_THREADS) × (option_map number_spelled (one_of (codes "threads") (matches_of (command_line program) words)) ≡ Some n)
threads_given program c m words r e p has reads = number_given 1 threads_option MOST_THREADS 116 threads_number (omega arith) program c m words r e p has reads

-- the path is there, and what the words say
pub path_given : (program : Text) (c : Command) (m : ArgMatches) (words : List Text) (r : Option (Bor (List ℕ))) → app_of c ≡ command_line program → IsParsedFrom c m
    → HasMatchesOf (app_of c) words m → option_map (λ s. s.now) r ≡ first_value (found_of m) (codes "script")
    → IsSome r × (first_of (codes "script") (matches_of (command_line program) words) ≡ option_map (λ s. s.now) r)
path_given program c m words r e p has is = (
  go r (ap (λ (o : Option (List ℕ)). is_some o) is ∙ script_has_value program c m e p),
  ap (first_of (codes "script")) (sym (rows_are program c m words e has)) ∙ (sym (first_value-rows (found_of m) (codes "script")) ∙ sym is),
)
  where
    go : (o : Option (Bor (List ℕ))) → is_some (option_map (λ (s : Bor (List ℕ)). s.now) o) ≡ true → IsSome o
    go None h = cc
    go (Some x) h = refl

-- the kinds of error are those of the command line
pub fails_as : {T : Type 0} (program : Text) (c : Command) (words : List Text) (r : Result T Error) → app_of c ≡ command_line program
    → (is_simple_and_free (app_of c) ≡ true → FailsBy (fault_of (app_of c) words) r) → FailsBy (faults_of program words) r
unfolding command_line
fails_as program c words r e fails = subst (λ (a : App). FailsBy (fault_of a words) r) e (fails (ap is_simple_and_free e))

-- and so where an error is passed up
pub fails_up : {T : Type 0} (program : Text) (c : Command) (words : List Text) (r : Result T Error) (e : Error) → app_of c ≡ command_line program
    → (is_simple_and_free (app_of c) ≡ true → HasKind (fault_of (app_of c) words) e) → IsErrAnd r (λ y. y ≡ e) → FailsBy (faults_of program words) r
fails_up program c words (Ok x) e is fails passed = absurd passed
fails_up {T} program c words (Err y) e is fails passed = subst (HasKind (faults_of program words)) (sym passed) (fails_as {T = T} program c words (Err e) is fails)
