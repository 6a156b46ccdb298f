use Rattle.cli_script.proofs.reader.Reader.read_line.Goals as goal

pub returns-in-None-clause-added : goal.returns-in-None-clause-added
returns-in-None-clause-added g c =
    rw (← c.as_slice.ensures, ← c.without_return-line.ensures.value) c.read_any.ensures.added
