use Rattle.std.proofs.Common.{sym, ◌∙◌}
use Rattle.cli_print.proofs.HeaderLinesLemmas.{increasing_lines}
use Rattle.cli_print.proofs.header_lines.put_headers.Goals as goal

pub returns-then-has_sorted_names : goal.returns-then-has_sorted_names
returns-then-has_sorted_names c =
    rw (increasing_lines c.args.headers.now (sym c.has_sorted_names.ensures ∙ c.if-has_sorted_names.true)) at c.put_unsorted.ensures
