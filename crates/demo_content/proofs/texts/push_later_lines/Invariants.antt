use Rattle.std.proofs.Common.{◌≡◌, ◌++◌, flat_map, string_bytes, take}
use Rattle.demo_content.specs.DemoTexts.{bar, without_newline}
use Rattle.demo_content.proofs.texts.push_later_lines.Given as goal

abbrev pub invariant-loop-line : goal.invariant-loop-line
invariant-loop-line l =
    string_bytes l.text
    ≡ string_bytes l.fn.text ++ flat_map (λ s. bar ++ without_newline s) (take l.line-index l.lines)
