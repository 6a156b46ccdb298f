use Rattle.http_header.specs.HeaderMap.{get_all}
use Rattle.web_headers.proofs.ValueListLemmas.{SaysRest}
use Rattle.web_headers.proofs.value_readers.from_pieces.Given as goal

abbrev pub invariant-loop-value : goal.invariant-loop-value
invariant-loop-value g l = record {
  can : (goal.iterator-loop-value g).can_next l.value-iterator;
  finite : (goal.iterator-loop-value g).is_finite l.value-iterator;
  says : SaysRest g.M.Mode.rule g.T.ReadText.reads l.out.items l.value-iterator (get_all l.headers l.name);
}
