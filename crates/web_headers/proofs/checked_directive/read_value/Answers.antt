use Rattle.std.proofs.Common.{◌≡◌, true, rules}
use Rattle.http_header.specs.FieldValue.{is_visible_text}
use Rattle.web_headers.specs.CacheDirectives.{cache_directive_of}
use Rattle.web_headers.proofs.ValueListLemmas.{one_read}
use Rattle.web_headers.proofs.checked_directive.read_value.Goals as goal

pub returns : goal.returns
returns c =
    let visible : is_visible_text c.args.text.now ≡ true = search rules in
    one_read cache_directive_of c.args.text.now c.new-read.result.items c.push_pieces.new.out.items visible c.new-read.ensures.items c.in_ok-push_pieces.ensures
