use Rattle.std.proofs.Common.{◌≡◌, ◌++◌, flat_map, string_bytes, take}
use Rattle.web_request_log.specs.LogEntries.{param_line}
use Rattle.web_request_log.proofs.log_entry.push_params.Given as goal

abbrev pub invariant-loop-pair : goal.invariant-loop-pair
invariant-loop-pair l =
    string_bytes l.out ≡ string_bytes l.fn.out ++ flat_map param_line (take l.pair-index l.params)
