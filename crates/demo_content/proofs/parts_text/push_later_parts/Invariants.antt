use Rattle.std.proofs.Common.{◌≡◌, ◌++◌, flat_map, string_bytes, take}
use Rattle.demo_content.specs.DemoTexts.{bar}
use Rattle.demo_content.specs.PartsTexts.{part_text}
use Rattle.demo_content.proofs.parts_text.push_later_parts.Given as goal

abbrev pub invariant-loop-part : goal.invariant-loop-part
invariant-loop-part l =
    string_bytes l.text
    ≡ string_bytes l.fn.text ++ flat_map (λ p. bar ++ part_text p) (take l.part-index l.parts)
