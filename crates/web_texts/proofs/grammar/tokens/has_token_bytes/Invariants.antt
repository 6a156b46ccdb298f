use Rattle.std.proofs.Common.{◌≡◌, true, take}
use Rattle.std.specs.List.{list_all}
use Rattle.web_texts.specs.Tokens.{is_token_byte}
use Rattle.web_texts.proofs.grammar.tokens.has_token_bytes.Given as goal

abbrev pub invariant-loop-b : goal.invariant-loop-b
invariant-loop-b l = list_all is_token_byte (take l.b-index l.bytes) ≡ true
