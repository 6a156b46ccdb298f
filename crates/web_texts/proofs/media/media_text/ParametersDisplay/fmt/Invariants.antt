use Rattle.std.proofs.Common.{take}
use Rattle.std.specs.List.{flat_map}
use Rattle.std.specs.Fmt.{HasWritten, IsPlainFormatter}
use Rattle.web_texts.specs.MediaTypeTexts.{parameter_text}
use Rattle.web_texts.proofs.media.media_text.ParametersDisplay.fmt.Given as goal

abbrev pub invariant-loop-param : goal.invariant-loop-param
invariant-loop-param g l = IsPlainFormatter l.initial.f → HasWritten g.W.Write.write_str_gives l.initial.f (flat_map parameter_text (take l.param-index l.param-items)) l.f
