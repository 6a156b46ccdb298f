-- What is kept beside a document.
use Rattle.std.specs.Prelude.{◌≡◌, []}
use Rattle.http_header.specs.FieldValue.{plain_value}
use Rattle.web_docs.specs.DescribedReplies.{part_headers}
use Rattle.web_docs.specs.Descriptions.{description, validator_headers, whole_headers}
use Rattle.web_docs.specs.declared.stored.StoredDocument.TheInside.{Inside}

-- the headers that it is sent with
pub record IsPrinted (s : Inside) : Type 0 where
  pub validators : s.validators ≡ validator_headers (description s.document)
  pub whole : s.whole ≡ whole_headers (description s.document)
  pub part : s.part ≡ part_headers (plain_value []) (description s.document)
