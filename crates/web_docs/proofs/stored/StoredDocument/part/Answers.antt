use Rattle.std.proofs.Common.{[], ap, ◌∙◌}
use Rattle.std.specs.Prelude.{codes}
use Rattle.http_header.specs.FieldValue.{plain_value}
use Rattle.http_header.specs.HeaderMap.{insert}
use Rattle.web_docs.specs.DescribedReplies.{part_headers}
use Rattle.web_docs.specs.Descriptions.{description}
use Rattle.web_docs.proofs.HeaderMapLemmas.{part_replaced}
use Rattle.web_docs.proofs.stored.StoredDocument.part.Goals as goal

pub returns : goal.returns
returns c =
    let kept = c.self.invariant.part ∙ ap (λ d. part_headers (plain_value []) (description d)) c.self.view_is in
    c.in_ok-map.ensures
    ∙ ap (λ m. insert m (codes "content-range") c.args.range) kept
    ∙ part_replaced (description c.args.self.now) (plain_value []) c.args.range
