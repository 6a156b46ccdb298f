use Rattle.std.proofs.Common.{◌≡◌, ◌++◌, flat_map, string_bytes, take}
use Rattle.demo_content.specs.DemoTexts.{pair_text, space}
use Rattle.demo_content.proofs.texts.push_later_pairs.Given as goal

abbrev pub invariant-loop-cookie : goal.invariant-loop-cookie
invariant-loop-cookie l =
    string_bytes l.text
    ≡ string_bytes l.fn.text ++ flat_map (λ c. space ++ pair_text c) (take l.cookie-index l.cookies)
