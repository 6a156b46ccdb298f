use Rattle.std.proofs.Common.{◌∙◌, ap, sym}
use Rattle.std.specs.Str.{is_utf8}
use Rattle.std.proofs.lemmas.Str.{IsUtf8-string_bytes, is_utf8-from_IsUtf8}
use Rattle.std.proofs.lemmas.Bool.{false≢true}
use Rattle.web_paths.proofs.PathLemmas.{not_utf8}
use Rattle.web_paths.proofs.below.text_of.Goals as goal

pub returns-in-Ok : goal.returns-in-Ok
returns-in-Ok c =
    let same = ap (λ v. v.items) c.in-Ok.ensures.ok in
    (ap is_utf8 (sym same) ∙ is_utf8-from_IsUtf8 _ (IsUtf8-string_bytes c.in-Ok.text), same)

pub returns : goal.returns
returns c = not_utf8 c.args.bytes.items (λ valid. false≢true (c.in-Err.ensures.succeeds valid))
