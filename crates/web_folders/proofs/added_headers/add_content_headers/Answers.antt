use Rattle.std.proofs.Common.{◌∙◌, ◌&&◌, Some, ap, refl}
use Rattle.std.specs.Prelude.{codes}
use Rattle.http_header.specs.FieldValue.{plain_value}
use Rattle.web_folders.specs.FileCodings.{coding_name}
use Rattle.web_folders.specs.FileDispositions.{disposition_value}
use Rattle.web_folders.specs.FileReplies.{if_allowed, with_header}
use Rattle.web_folders.proofs.HeaderLemmas.{set_after}
use Rattle.web_folders.proofs.added_headers.add_content_headers.Goals as goal

pub returns : goal.returns
returns c =
    let content = c.args.content in
    let start = c.args.headers.now in
    let coded = if_allowed content (coding_name c.args.coding) in
    let shown = if_allowed (content && c.args.settings.now.dispositions) (disposition_value c.args.path.now) in
    let nosniff = if_allowed content (Some (plain_value (codes "nosniff"))) in
    let first = with_header start (codes "content-encoding") coded in
    let second = with_header first (codes "content-disposition") shown in
    set_after c.put-2.new.headers c.put-3.new.headers second (codes "x-content-type-options") c.if_allowed-nosniff.result nosniff c.in_ok-put-3.ensures
    (set_after c.put.new.headers c.put-2.new.headers first (codes "content-disposition") c.in_ok-shown.shown shown c.in_ok-put-2.ensures
    (set_after start c.put.new.headers start (codes "content-encoding") c.if_allowed-coded.result coded c.in_ok-put.ensures refl (c.if_allowed-coded.ensures ∙ ap (λ v. if_allowed content v) c.value.ensures))
    c.in_ok-shown.ensures)
    (c.if_allowed-nosniff.ensures ∙ ap (λ v. if_allowed content (Some v)) c.from_static.ensures)
