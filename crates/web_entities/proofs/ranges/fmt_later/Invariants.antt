use Rattle.std.proofs.Common.{take, ◌∷◌}
use Rattle.std.specs.List.{flat_map}
use Rattle.std.specs.Fmt.{HasWritten, IsPlainFormatter}
use Rattle.web_entities.specs.ByteRanges.{byte_range_text}
use Rattle.web_entities.proofs.ranges.fmt_later.Given as goal

abbrev pub invariant-loop-spec : goal.invariant-loop-spec
invariant-loop-spec g l = IsPlainFormatter l.initial.f → HasWritten g.W.Write.write_str_gives l.initial.f (flat_map (λ s. 44 ∷ byte_range_text s) (take l.spec-index l.specs)) l.f
