use Rattle.std.proofs.Common.{◌∙◌, ◌==◌, ap, length, sym}
use Rattle.web_files.specs.OpenedPaths.{or_slash}
use Rattle.web_files.proofs.OpenedPathLemmas.{path-none, path-some}
use Rattle.web_files.proofs.disk_files.or_slash.Goals as goal

pub returns-then-not-is_empty : goal.returns-then-not-is_empty
returns-then-not-is_empty c =
    path-some _ (ap (λ t. length t == 0) (sym c.as_str.ensures.value) ∙ sym c.is_empty.ensures ∙ c.if-not-is_empty.true)

pub returns : goal.returns
returns c =
    c.in_ok-push_str.ensures.bytes ∙ path-none _ (ap (λ t. length t == 0) (sym c.as_str.ensures.value) ∙ sym c.is_empty.ensures ∙ c.if-not-is_empty.false)
