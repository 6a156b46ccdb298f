use Rattle.std.proofs.Common.{◌∙◌, Some, ap}
use Rattle.std.specs.Prelude.{codes}
use Rattle.http_header.specs.FieldValue.{plain_value}
use Rattle.web_folders.specs.FileReplies.{content_headers, has_content, if_allowed, is_kept, with_header}
use Rattle.web_folders.proofs.HeaderLemmas.{set_after}
use Rattle.web_folders.proofs.added_headers.add_headers.Goals as goal

pub returns : goal.returns
returns c =
    let settings = c.args.settings.now in
    let start = c.args.headers.now in
    let first = content_headers settings c.args.path.now c.args.coding (has_content c.args.status) start in
    let kept = if_allowed (is_kept c.args.status) settings.cache_control in
    let vary = if_allowed settings.compressed (Some (plain_value (codes "accept-encoding"))) in
    let second = with_header first (codes "cache-control") kept in
    set_after c.put.new.headers c.put-2.new.headers second (codes "vary") c.if_allowed-vary.result vary c.in_ok-put-2.ensures
    (set_after c.add_content_headers.new.headers c.put.new.headers first (codes "cache-control") c.in_ok-kept.kept kept c.in_ok-put.ensures
    (c.in_ok-add_content_headers.ensures ∙ ap (λ b. content_headers settings c.args.path.now c.args.coding b start) c.has_content.ensures)
    (c.in_ok-kept.ensures ∙ ap (λ b. if_allowed b settings.cache_control) c.is_kept.ensures))
    (c.if_allowed-vary.ensures ∙ ap (λ v. if_allowed settings.compressed (Some v)) c.from_static.ensures)
