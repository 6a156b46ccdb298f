-- Headers that are set one after the other.
use Rattle.std.proofs.Common.{◌≡◌, ◌∙◌, ℕ, List, Option, ap}
use Rattle.http_header.specs.FieldValue.{FieldValue}
use Rattle.web_docs.specs.Conditions.{Headers}
use Rattle.web_folders.specs.FileReplies.{with_header}

-- a header after headers that are known
pub set_after : (before after known : Headers) (name : List ℕ) (set value : Option FieldValue) → after ≡ with_header before name set → before ≡ known → set ≡ value → after ≡ with_header known name value
set_after before after known name set value is are e =
    is ∙ ap (λ h. with_header h name set) are ∙ ap (λ v. with_header known name v) e
