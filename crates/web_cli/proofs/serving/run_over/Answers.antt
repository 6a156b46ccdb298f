use Rattle.std.proofs.Common.{◌∙◌, ap, sym, refl}
use Rattle.std.specs.Prelude.{Some}
use Rattle.web_cli.proofs.RunLemmas.{replayed_load, served_capacity, usage_written}
use Rattle.web_cli.proofs.serving.run_over.Goals as goal

pub returns-in-Some-Serve-clause-serves : goal.returns-in-Some-Serve-clause-serves
returns-in-Some-Serve-clause-serves g c = λ capacity words.
    let same = served_capacity c.in-Some-Serve.capacity capacity
    (sym (c.in-Some-Serve.is ∙ ap Some c.in-Some-Serve.field-0-is) ∙ c.command_of.ensures ∙ words) in
    rw (← same) c.serve.ensures.serves

pub returns-in-Some-Serve-clause-headline : goal.returns-in-Some-Serve-clause-headline
returns-in-Some-Serve-clause-headline g c = λ capacity words.
    let same = served_capacity c.in-Some-Serve.capacity capacity
    (sym (c.in-Some-Serve.is ∙ ap Some c.in-Some-Serve.field-0-is) ∙ c.command_of.ensures ∙ words) in
    rw (← same) c.serve.ensures.headline

pub returns-in-Some-Replay-clause-replays : goal.returns-in-Some-Replay-clause-replays
returns-in-Some-Replay-clause-replays g c = λ load words.
    let same = replayed_load c.in-Some-Replay.load load
    (sym (c.in-Some-Replay.is ∙ ap Some c.in-Some-Replay.field-0-is) ∙ c.command_of.ensures ∙ words) in
    record {
      input = refl;
      text_written = rw (← same) c.replay.ensures.replays;
    }

pub returns-in-None-clause-no_command : goal.returns-in-None-clause-no_command
returns-in-None-clause-no_command g c = λ none.
    record { input = refl; usage_written = usage_written c.write_or_fault.result (g.O.Output.state c.args.output.now) (g.O.Output.state c.write_or_fault.new.output) c.write_or_fault.ensures }
