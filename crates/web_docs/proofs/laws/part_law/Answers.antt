use Rattle.web_negotiate.specs.SelectedPositions.{Selects}
use Rattle.web_docs.proofs.PartLemmas.{one_part, part_at, part_length}
use Rattle.web_docs.proofs.laws.part_law.Goals as goal

pub returns : goal.returns
returns c = record {
  one = λ spec n document part other sent also. one_part (Selects spec n) document part other sent also;
  count = λ spec document part first last are sent. part_length spec document part first last are sent;
  bytes = λ spec document part first last p are sent selected. part_at spec document part first last are sent p selected;
}
