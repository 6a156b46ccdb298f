use Rattle.std.proofs.Common.{sym, ◌∙◌, ap, Ok, refl}
use Rattle.std.specs.Str.{IsUtf8}
use Rattle.percent_encoding.specs.Percent.{percent_decode}
use Rattle.web_cookies.proofs.ReaderLemmas.{is_text, no_escape_found, no_text}
use Rattle.web_cookies.proofs.cookie_reader.percent_decoded.Goals as goal

pub returns-in-Ok : goal.returns-in-Ok
returns-in-Ok c =
    let bytes = c.percent_decode.ensures.bytes ∙ ap percent_decode c.as_bytes-bytes.ensures.value in
    let text : IsUtf8 (percent_decode c.args.text.now) = rw (← bytes) c.in-Ok.ensures.ok_only_if_utf8 in
    rw (is_text (percent_decode c.args.text.now) text) (ap Ok (sym (c.in-Ok.ensures.value ∙ bytes)))

pub returns-in-Err-Utf8 : goal.returns-in-Err-Utf8
returns-in-Err-Utf8 c =
    let bytes = c.percent_decode.ensures.bytes ∙ ap percent_decode c.as_bytes-bytes.ensures.value in
    no_text (percent_decode c.args.text.now) (λ text.
    let e = c.in-Err-Utf8.ensures.utf8 (rw bytes text) in let f = c.in-Err-Utf8.field-0-is in cc)

pub returns-then-is_none : goal.returns-then-is_none
returns-then-is_none c =
    let text = c.args.text.now in
    let same = no_escape_found text c.memchr.result (rw c.as_bytes-bytes.ensures.value at c.memchr.ensures) c.if-is_none.ensures in
    rw (same, is_text text (rw c.as_bytes-bytes.ensures.value at c.as_bytes-bytes.ensures.utf8)) refl
