-- What becomes of a request for a document: RFC 7232, section 6, and RFC 7233, section 3 (now RFC
-- 9110, sections 13.2.2 and 14.2).
use Rattle.std.specs.Prelude.{ℕ, ◌&&◌, ◌||◌, not, Bool, true, false, List, codes}
use Rattle.std.specs.Prelude.{Option, None, Some, if◌then◌else◌}
use Rattle.std.specs.Str.{bytes_eq}
use Rattle.web_headers.specs.HeaderReaders.{one_value_of}
use Rattle.httpdate.specs.declared.date.HttpDate.{HttpDate}
use Rattle.web_entities.specs.ByteRanges.{one_range, range_of}
use Rattle.web_entities.specs.EntityTags.{Tag}
use Rattle.web_entities.specs.declared.ranges.ByteRangeSpec.{ByteRangeSpec}
use Rattle.web_docs.specs.Conditions.{Headers, match_condition, none_match_condition}
use Rattle.web_docs.specs.Conditions.{range_condition, values}
use Rattle.web_docs.specs.declared.verdict.Verdict.{Verdict}
use Rattle.web_docs.specs.declared.verdict.Verdict.TheVariants as verdict

abbrev pub is_get : List ℕ → Bool
is_get method = bytes_eq method (codes "GET")

abbrev pub is_head : List ℕ → Bool
is_head method = bytes_eq method (codes "HEAD")

-- a condition that the request has, and that does not hold
abbrev pub fails : Option Bool → Bool
fails (Some false) = true
fails other = false

-- the one range that is asked for, where the condition of If-Range allows it
abbrev pub wanted_range : List ℕ → Headers → Tag → Option HttpDate → Option ByteRangeSpec
wanted_range method headers tag modified =
    if is_get method && range_condition tag modified (values (codes "if-range") headers)
    then one_range (one_value_of range_of (values (codes "range") headers))
    else None

-- Two or more ranges, and other units, give the whole document.
abbrev pub part_or_all : Option ByteRangeSpec → Verdict
part_or_all (Some spec) = verdict.Part spec
part_or_all None = verdict.All

-- The first of these that applies decides: the steps of section 6 in their order. The tag and the
-- date of the last change, where it is known, are those of the document.
abbrev pub verdict_of : List ℕ → Headers → Tag → Option HttpDate → Verdict
verdict_of method headers tag modified =
    if not (is_get method || is_head method) then verdict.MethodNotAllowed
    else if fails (match_condition tag modified headers) then verdict.PreconditionFailed
    else if fails (none_match_condition tag modified headers) then verdict.NotModified
    else part_or_all (wanted_range method headers tag modified)
