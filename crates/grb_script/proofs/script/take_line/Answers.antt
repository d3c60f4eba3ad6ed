use Rattle.grb_script.proofs.script.take_line.Goals as goal

pub returns-clause-taken : goal.returns-clause-taken
returns-clause-taken c = record {
  meaning = c.in_ok-meaning.meaning;
  read = c.in_ok-meaning.ensures.read;
  taken = c.in_ok-take.ensures;
}
