use Rattle.std.proofs.Common.{◌≡◌, drop, false}
use Rattle.cli_script.proofs.PlanEntriesLemmas.{with_front, entries_on}
use Rattle.cli_script.proofs.entries.read_entries.Given as goal

abbrev pub invariant-bytes : goal.invariant-bytes
invariant-bytes l =
    with_front l.plan.items (entries_on l.has_digits l.entry (drop l.byte-index l.text)) ≡ with_front l.initial.plan.items (entries_on false 0 l.text)
