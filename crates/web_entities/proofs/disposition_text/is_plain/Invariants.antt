use Rattle.std.specs.Prelude.{◌≡◌}
use Rattle.std.specs.List.{flat_map}
use Rattle.std.proofs.Common.{encode_utf8_all}
use Rattle.web_entities.specs.DispositionTexts.{escaped_char}
use Rattle.web_entities.proofs.disposition_text.is_plain.Given as goal

abbrev pub invariant-loop-c : goal.invariant-loop-c
invariant-loop-c l = flat_map escaped_char l.yielded ≡ encode_utf8_all l.yielded
