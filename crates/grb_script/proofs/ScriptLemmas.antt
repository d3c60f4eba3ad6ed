-- The first fault of a script and what its sections ask for, line by line from where the lines so far leave it.
use Rattle.std.proofs.Common.{◌≡◌, ℕ, ◌+◌, ◌≤◌, true, not, cond, List, [], ◌∷◌, ◌++◌, Option, Some, None, is_some, length, map, refl, sym, ap, ◌∙◌, true≢false, append_assoc, length-append, arith}
use Rattle.grb_script.proofs.Prelude.{flat_map, take_while, option_map_or, eqb-true, append-nil, Version, Line, ended, lines_of, words_of, section_of, NumberedCommand, commands_in, names_behind_words, version_by, Scope, at_start, begun, with_names, with_version, most_threads, may_follow, section_on, scope_behind_line, scope_behind_lines, scope_behind_words, scope_of, with_before, line_commands, section_commands, thread_part, finally_part, main_part, part_of, threads_in, finally_in, Sections, sections_of, joined, line_fault, first_fault, script_fault, IsWhyLineUnread, IsWhyTextUnread}
use Rattle.std.proofs.lemmas.Bool.Decides.{nat_tests}
use Rattle.std.proofs.lemmas.List.Sums.{take_while-cons}
use Rattle.grb_words.specs.declared.section.Section.{Section}
use Rattle.grb_words.specs.declared.section.Section.TheVariants as section
use Rattle.grb_words.specs.declared.version.Version.TheVariants.{One, Two, Three}
use Rattle.grb_script.specs.declared.command.Command.{Command}
use Rattle.grb_script.specs.declared.fault.ReadFault.{ReadFault}
use Rattle.grb_script.specs.declared.fault.ReadFault.TheVariants as read
use Rattle.grb_script.specs.declared.line.LineMeaning.{LineMeaning}
use Rattle.grb_script.specs.declared.line.LineMeaning.TheVariants as meaning
use Rattle.grb_script.specs.LineMeaning.{IsTaken, Says}

-- where the next line stands, behind one line more
pub scope_behind_lines-push : (scope : Scope) (before : List Line) (line : Line) → scope_behind_lines scope (before ++ line ∷ []) ≡ scope_behind_line (scope_behind_lines scope before) line
scope_behind_lines-push scope [] line = refl
scope_behind_lines-push scope (first ∷ more) line = scope_behind_lines-push (scope_behind_line scope first) more line

-- what a script asks for in all: what its ended sections ask for, this section so far, and these lines behind that
abbrev pub total : Sections → Option Section → List NumberedCommand → List (List Line × Line) → Sections
total ended section commands lines =
    joined ended (joined (part_of section (commands ++ section_commands lines)) (record { main = []; threads = threads_in lines; finally = finally_in lines }))

main_part-nil : (here : Option Section) (commands : List NumberedCommand) → main_part here (commands ++ []) ++ [] ≡ main_part here commands
main_part-nil here commands = append-nil (main_part here (commands ++ [])) ∙ ap (main_part here) (append-nil commands)

total-end : (ended : Sections) (here : Option Section) (commands : List NumberedCommand) → total ended here commands [] ≡ joined ended (part_of here commands)
total-end ended here commands = λ j. record {
  main = ended.main ++ main_part-nil here commands j;
  threads = ended.threads ++ (append-nil (thread_part here (commands ++ [])) ∙ ap (thread_part here) (append-nil commands)) j;
  finally = ended.finally ++ (append-nil (finally_part here (commands ++ [])) ∙ ap (finally_part here) (append-nil commands)) j;
}

module _ (p : List Line × Line) (more : List (List Line × Line)) where
  pub in_section : section_commands (p ∷ more) ≡ flat_map line_commands (cond (not (is_some (section_on p.1))) (p ∷ take_while (λ q. not (is_some (section_on q.1))) more) [])
  in_section = ap (flat_map line_commands) (take_while-cons (λ q. not (is_some (section_on q.1))) p more)

  -- behind a line that begins no section
  total-line : (ended : Sections) (here : Option Section) (commands : List NumberedCommand) → section_on p.1 ≡ None → total ended here commands (p ∷ more) ≡ total ended here (commands ++ line_commands p) more
  total-line ended here commands none =
      let own : commands ++ section_commands (p ∷ more) ≡ (commands ++ line_commands p) ++ section_commands more =
      ap (λ l. commands ++ l) (in_section ∙ ap (λ s. flat_map line_commands (cond (not (is_some s)) (p ∷ take_while (λ q. not (is_some (section_on q.1))) more) [])) none)
      ∙ sym (append_assoc commands (line_commands p) (section_commands more)) in
      λ j. joined ended (joined (part_of here (own j)) (record {
        main = [];
        threads = thread_part (none j) (section_commands more) ++ threads_in more;
        finally = finally_part (none j) (section_commands more) ++ finally_in more;
      }))

  -- behind one that begins a section
  total-section : (ended : Sections) (here : Option Section) (next : Section) (commands : List NumberedCommand) → section_on p.1 ≡ Some next
      → total ended here commands (p ∷ more) ≡ total (joined ended (part_of here commands)) (Some next) [] more
  total-section ended here next commands is =
      let own : commands ++ section_commands (p ∷ more) ≡ commands =
      ap (λ l. commands ++ l) (in_section ∙ ap (λ s. flat_map line_commands (cond (not (is_some s)) (p ∷ take_while (λ q. not (is_some (section_on q.1))) more) [])) is)
      ∙ append-nil commands in
      (λ j. joined ended (joined (part_of here (own j)) (record {
        main = [];
        threads = thread_part (is j) (section_commands more) ++ threads_in more;
        finally = finally_part (is j) (section_commands more) ++ finally_in more;
      })))
      ∙ (λ j. record {
        main = sym (append_assoc ended.main (main_part here commands) []) j;
        threads = sym (append_assoc ended.threads (thread_part here commands) (thread_part (Some next) (section_commands more) ++ threads_in more)) j;
        finally = sym (append_assoc ended.finally (finally_part here commands) (finally_part (Some next) (section_commands more) ++ finally_in more)) j;
      })

-- no version has more thread sections than version 2 has
most_threads-le : (version : Version) → most_threads version ≤ most_threads Two
most_threads-le One = omega arith
most_threads-le Two = omega arith
most_threads-le Three = omega arith

-- the thread sections so far are numbered in their order, and there are at most as many as in version 2
abbrev pub IsCounted : Option Section → ℕ → Type 0
IsCounted None count = count ≡ 0
IsCounted (Some (section.Thread k)) count = (count + 1 ≡ k) × (k ≤ most_threads Two)
IsCounted (Some section.Finally) count = count ≤ most_threads Two

counted-thread : (version : Version) (here : Option Section) (commands : List NumberedCommand) (count k : ℕ) → IsCounted here count → may_follow version here (section.Thread k) ≡ true
    → (count + length (thread_part here commands) + 1 ≡ k) × (k ≤ most_threads Two)
counted-thread version None commands count k c f = let e = eqb-true k 1 f in (omega (arith, c, e), omega (arith, e))
counted-thread version (Some (section.Thread n)) commands count k c f = let most = most_threads-le version in (grind (arith, nat_tests), grind (arith, nat_tests))
counted-thread version (Some section.Finally) commands count k c f = absurd (true≢false (sym f))

counted-here : (here : Option Section) (commands : List NumberedCommand) (count : ℕ) → IsCounted here count → count + length (thread_part here commands) ≤ most_threads Two
counted-here None commands count c = omega (arith, c)
counted-here (Some (section.Thread n)) commands count c = omega (arith, c.0, c.1)
counted-here (Some section.Finally) commands count c = omega (arith, c)

-- a section more
pub IsCounted-next : (version : Version) (here : Option Section) (next : Section) (ended : Sections) (commands : List NumberedCommand) → IsCounted here (length ended.threads) → may_follow version here next ≡ true
    → IsCounted (Some next) (length (joined ended (part_of here commands)).threads)
IsCounted-next version here (section.Thread k) ended commands c f =
    let t = counted-thread version here commands (length ended.threads) k c f in (omega (arith, t.0, length-append ended.threads (thread_part here commands)), t.1)
IsCounted-next version here section.Finally ended commands c f = omega (arith, counted-here here commands (length ended.threads) c, length-append ended.threads (thread_part here commands))

-- how far a text is read: these lines are, and the rest leaves the first fault and what the text asks for
pub record Reached (text rest : List ℕ) (number : ℕ) (scope : Scope) (ended : Sections) (commands : List NumberedCommand) : Type 0 where
  pub before : List Line
  pub stands : scope ≡ scope_of before
  pub numbered : number ≡ length before + 1
  pub fault : first_fault number (with_before before (lines_of rest)) ≡ script_fault text
  pub sections : total ended scope.section commands (with_before before (lines_of rest)) ≡ sections_of text
  pub counted : IsCounted scope.section (length ended.threads)

pub Reached-end : (text rest : List ℕ) (number : ℕ) (scope : Scope) (ended : Sections) (commands : List NumberedCommand) → length rest ≡ 0 → Reached text rest number scope ended commands
    → (script_fault text ≡ None) × (joined ended (part_of scope.section commands) ≡ sections_of text)
Reached-end text [] number scope ended commands empty reached = (sym reached.fault, sym (total-end ended scope.section commands) ∙ reached.sections)
Reached-end text (b ∷ bs) number scope ended commands empty reached = absurd (omega arith)

module _ (text rest : List ℕ) (number : ℕ) (scope : Scope) (whole : Sections) (commands : List NumberedCommand) (reached : Reached text rest number scope whole commands) where
  -- a line that is not read is why the text is not read
  pub unread : (line : Line) (later : List Line) → lines_of rest ≡ line ∷ later → (e : ReadFault) → IsWhyLineUnread number scope line e → IsWhyTextUnread text e
  unread line later are (read.Fault f) h =
      sym reached.fault ∙ ap (λ ls. first_fault number (with_before reached.before ls)) are
      ∙ ap (λ o. option_map_or (λ kind. Some (record { line = number; kind = kind })) o (first_fault (number + 1) (with_before (reached.before ++ line ∷ []) later)))
      (ap (λ s. line_fault s line) (sym reached.stands) ∙ h.1)
      ∙ (λ j. Some (record { line = sym h.0 j; kind = f.kind }))
  unread line later are read.OutOfMemory h = tt

  module _ (after bytes : List ℕ) (are : lines_of rest ≡ ended bytes ∷ lines_of after) (faultless : line_fault scope (ended bytes) ≡ None)
      (next_scope : Scope) (behind : next_scope ≡ scope_behind_words scope (words_of bytes)) where
    abbrev line : Line
    line = ended bytes

    abbrev here : Scope
    here = with_version scope (version_by scope.version (words_of bytes))

    abbrev later : List (List Line × Line)
    later = with_before (reached.before ++ line ∷ []) (lines_of after)

    next-stands : next_scope ≡ scope_of (reached.before ++ line ∷ [])
    next-stands = behind ∙ ap (λ s. scope_behind_line s line) reached.stands ∙ sym (scope_behind_lines-push at_start reached.before line)

    next-numbered : number + 1 ≡ length (reached.before ++ line ∷ []) + 1
    next-numbered = omega (arith, reached.numbered, length-append reached.before (line ∷ []))

    next-fault : first_fault (number + 1) later ≡ script_fault text
    next-fault =
        ap (λ o. option_map_or (λ kind. Some (record { line = number; kind = kind })) o (first_fault (number + 1) later)) (sym faultless ∙ ap (λ s. line_fault s line) reached.stands)
        ∙ ap (λ ls. first_fault number (with_before reached.before ls)) (sym are) ∙ reached.fault

    so-far : total whole scope.section commands ((reached.before, line) ∷ later) ≡ sections_of text
    so-far = ap (λ ls. total whole scope.section commands (with_before reached.before ls)) (sym are) ∙ reached.sections

    commands-is : line_commands (reached.before, line) ≡ map (λ c. record { line = number; command = c }) (commands_in scope.version scope.names (words_of bytes))
    commands-is = λ j. map (λ c. record { line = sym reached.numbered j; command = c }) (commands_in (sym reached.stands j).version (sym reached.stands j).names (words_of bytes))

    -- the line begins no section, and asks for these
    next-commands : (parsed : List Command) (next_commands : List NumberedCommand) → section_of (words_of bytes) ≡ None → commands_in scope.version scope.names (words_of bytes) ≡ parsed
        → next_commands ≡ commands ++ map (λ c. record { line = number; command = c }) parsed → Reached text after (number + 1) next_scope whole next_commands
    next-commands parsed next_commands none are_parsed is =
        let same : next_scope.section ≡ scope.section =
        ap (λ s. s.section) behind ∙ ap (λ o. (option_map_or (begun here) o (with_names here (names_behind_words scope.version scope.names (words_of bytes)))).section) none in
        let own : next_commands ≡ commands ++ line_commands (reached.before, line) =
        is ∙ ap (λ cs. commands ++ map (λ c. record { line = number; command = c }) cs) (sym are_parsed) ∙ ap (λ l. commands ++ l) (sym commands-is) in
        record {
          before = reached.before ++ line ∷ [];
          stands = next-stands;
          numbered = next-numbered;
          fault = next-fault;
          sections = (λ j. total whole (same j) (own j) later) ∙ sym (total-line (reached.before, line) later whole scope.section commands none) ∙ so-far;
          counted = rw same reached.counted;
        }

    -- the line begins a section
    next-section : (next : Section) (next_whole : Sections) (next_commands : List NumberedCommand) → section_of (words_of bytes) ≡ Some next → may_follow (version_by scope.version (words_of bytes)) scope.section next ≡ true
        → next_whole ≡ joined whole (part_of scope.section commands) → next_commands ≡ [] → Reached text after (number + 1) next_scope next_whole next_commands
    next-section next next_whole next_commands is follows ends empty =
        let begins : next_scope.section ≡ Some next =
        ap (λ s. s.section) behind ∙ ap (λ o. (option_map_or (begun here) o (with_names here (names_behind_words scope.version scope.names (words_of bytes)))).section) is in
        record {
          before = reached.before ++ line ∷ [];
          stands = next-stands;
          numbered = next-numbered;
          fault = next-fault;
          sections = (λ j. total (ends j) (begins j) (empty j) later) ∙ sym (total-section (reached.before, line) later whole scope.section next commands is) ∙ so-far;
          counted = rw (begins, ends) (IsCounted-next (version_by scope.version (words_of bytes)) scope.section next whole commands reached.counted follows);
        }

    -- one line more
    pub Reached-next : (says : Option LineMeaning) (next_whole : Sections) (next_commands : List NumberedCommand) → Says scope (words_of bytes) says → IsTaken number scope.section says whole commands next_whole next_commands
        → Reached text after (number + 1) next_scope next_whole next_commands
    Reached-next None next_whole next_commands s t = rw t.0 (next-commands [] next_commands s.0 s.1 (t.1 ∙ sym (append-nil commands)))
    Reached-next (Some (meaning.Section next)) next_whole next_commands s t = next-section next next_whole next_commands s.0 s.1 t.0 t.1
    Reached-next (Some (meaning.Command command)) next_whole next_commands s t = rw t.0 (next-commands (command ∷ []) next_commands s.0 s.1 t.1)
