use Rattle.std.proofs.Common.{take}
use Rattle.std.specs.Fmt.{HasWritten, IsPlainFormatter}
use Rattle.web_reply.specs.SeveralCauses.{later_text}
use Rattle.web_reply.proofs.errors.several.fmt_later.Given as goal

abbrev pub invariant-loop-member : goal.invariant-loop-member
invariant-loop-member g l = IsPlainFormatter l.initial.f → HasWritten g.W.Write.write_str_gives l.initial.f (later_text (take l.member-index l.members)) l.f
