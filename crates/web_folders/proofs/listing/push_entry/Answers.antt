use Rattle.std.proofs.Common.{◌∙◌, ◌++◌, ap, append_assoc, string_bytes}
use Rattle.percent_encoding.specs.Percent.{percent_encode}
use Rattle.web_folders.specs.Listings.{escaped}
use Rattle.web_folders.specs.declared.listing.TheConstants.{LINK_ESCAPES}
use Rattle.web_folders.proofs.listing.push_entry.Goals as goal

pub returns : goal.returns
returns c =
    let name = c.as_str-name.ensures in
    let slash = c.slash_if-slash.ensures in
    let encoded = c.in_ok-append_to.ensures.ok ∙ ap (λ t. string_bytes c.push_str.new.self ++ t) (c.utf8_percent_encode.ensures.text ∙ ap (λ t. percent_encode LINK_ESCAPES t) name) in
    let escaped_name = c.in_ok-push_escaped.ensures ∙ ap (λ t. string_bytes c.push_str-3.new.self ++ escaped t) name in
    simp (c.in_ok-push_str-5.ensures.bytes, c.in_ok-push_str-4.ensures.bytes, escaped_name, c.in_ok-push_str-3.ensures.bytes, c.in_ok-push_str-2.ensures.bytes, encoded, c.in_ok-push_str.ensures.bytes, slash, append_assoc)
