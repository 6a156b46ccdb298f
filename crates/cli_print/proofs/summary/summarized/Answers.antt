use Rattle.std.proofs.Common.{◌≡◌, ◌∙◌, ◌++◌, ap, length, map, sym}
use Rattle.std.specs.Prelude.{codes, flat_map}
use Rattle.std.proofs.lemmas.List.{length-map}
use Rattle.web_worker.specs.Flights.{flight_outcome}
use Rattle.cli_print.specs.SummaryText.{count_where, is_unfinished, status_line, statuses}
use Rattle.cli_print.specs.TextLines.{numbered_text}
use Rattle.cli_print.proofs.CountLemmas.{five_parts}
use Rattle.cli_print.proofs.summary.summarized.Goals as goal

pub returns : goal.returns
returns g c =
    let os = map (λ f. flight_outcome f) c.args.flights.now in
    five_parts (numbered_text (codes "script ") c.args.script_len)
    (numbered_text (codes "exchanges ") (length os))
    (numbered_text (codes "unfinished ") (count_where is_unfinished os))
    (flat_map (status_line os) statuses) (numbered_text (codes "made ") c.args.made)
    c.new-out.result.items c.put_numbered.new.out.items c.put_numbered-2.new.out.items
    c.put_numbered-3.new.out.items c.put_statuses.new.out.items c.put_numbered-4.new.out.items
    c.new-out.ensures.items c.in_ok-put_numbered.ensures
    (c.in_ok-put_numbered-2.ensures
    ∙ ap (λ n. c.put_numbered.new.out.items ++ numbered_text (codes "exchanges ") n)
    (sym (length-map c.args.flights.now (λ f. flight_outcome f))))
    (c.in_ok-put_numbered-3.ensures
    ∙ ap (λ n. c.put_numbered-2.new.out.items ++ numbered_text (codes "unfinished ") n)
    c.count_unfinished.ensures)
    c.in_ok-put_statuses.ensures c.in_ok-put_numbered-4.ensures
