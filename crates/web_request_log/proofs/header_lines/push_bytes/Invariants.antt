use Rattle.std.proofs.Common.{◌≡◌, ◌++◌, flat_map, string_bytes, take}
use Rattle.web_request_log.specs.HeaderDescriptions.{shown_byte}
use Rattle.web_request_log.proofs.header_lines.push_bytes.Given as goal

abbrev pub invariant-loop-byte : goal.invariant-loop-byte
invariant-loop-byte l =
    string_bytes l.out ≡ string_bytes l.fn.out ++ flat_map shown_byte (take l.byte-index l.bytes)
