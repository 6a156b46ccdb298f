use Rattle.std.proofs.Common.{refl, ◌∙◌, ap}
use Rattle.std.proofs.lemmas.Str.{is_utf8-from_IsUtf8, IsUtf8-string_bytes}
use Rattle.web_lines.proofs.LineCutLemmas.{no_text}
use Rattle.web_lines.proofs.line_cut.as_line.Goals as goal

pub returns-in-Ok : goal.returns-in-Ok
returns-in-Ok c =
    let same = c.from.ensures ∙ ap (λ v. v.items) c.in-Ok.ensures.ok in
    (same, rw (← ap (λ v. v.items) c.in-Ok.ensures.ok) (is_utf8-from_IsUtf8 _ (IsUtf8-string_bytes c.in-Ok.text)), refl)

pub returns : goal.returns
returns c = no_text c.args.line.items (λ text. let e = c.in-Err.ensures.succeeds text in cc)
