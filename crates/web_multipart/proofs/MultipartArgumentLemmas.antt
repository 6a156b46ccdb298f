-- What the stream of a request's body means for the argument.
use Rattle.std.proofs.Common.{◌≡◌, ◌⊎◌, inl, inr, ℕ, Bool, true, false, ◌≤◌, List, [], Option, None, Some, refl, arith}
use Rattle.std.specs.Prelude.{IfSome, option_map}
use Rattle.http_header.specs.FieldValue.{FieldValue}
use Rattle.http_header.specs.HeaderMap.{Entries}
use Rattle.web_request.specs.declared.source.Mark.{Mark}
use Rattle.web_request.specs.Feed.{Feed}
use Rattle.web_body.specs.declared.payload.Payload.{Payload}
use Rattle.web_body.specs.declared.payload.Payload.TheVariants as kind
use Rattle.web_body.specs.Payload.{payload_feed}
use Rattle.web_multipart_parts.specs.PartReading.{parts_left}
use Rattle.web_extract.specs.Extracts.{Extracts}
use Rattle.web_extract.specs.ListResults.{Exactly}
use Rattle.web_multipart_stream.specs.FormBoundaries.{boundary_of}
use Rattle.web_multipart_stream.specs.PartSchedules.{Schedule}
use Rattle.web_multipart_stream.specs.StreamViews.{body_schedule, is_coded, left_by, marks_left, new_stream, stream_by}
use Rattle.web_multipart.specs.Collections.{AllowsParts, collection}
use Rattle.web_multipart.specs.MultipartArgument.{MeansMultipart, multipart_rest, multipart_result}

some_self : (o : Option (List Mark)) → IfSome o (λ m. o ≡ Some m)
some_self None = tt
some_self (Some m) = refl

same_for_all : (o : Option (List Mark)) → IfSome o (λ m. ◌≡◌ {A = Option (List Mark)} (Some []) (Some []))
same_for_all None = tt
same_for_all (Some m) = refl

marks_by : {S : Type 0} (feed : S → Feed) (boundary : Option (List ℕ)) (p : Payload S) → IfSome (payload_feed feed p).marks (λ m. (payload_feed feed (left_by boundary p)).marks ≡ Some (marks_left boundary m))
marks_by feed None p = some_self (payload_feed feed p).marks
marks_by feed (Some boundary) p = same_for_all (payload_feed feed p).marks

extracts_by : (limit : ℕ) (headers : Entries FieldValue) (old new : Option (List Mark)) (s : Option Schedule)
    → IfSome old (λ m. new ≡ Some (multipart_rest limit headers m)) → IfSome old (λ m. s ≡ Some (body_schedule headers limit m))
    → Extracts (λ m rest n x. MeansMultipart limit headers m rest n x) (λ n x. AllowsParts (option_map (collection []) s) n x) old new
extracts_by limit headers None new s left due = tt
extracts_by limit headers (Some m) new s left due =
    (multipart_rest limit headers m, left, λ n x h. let a = rw due at h in (refl, a.0, a.1))

pub extracts_parts : {S : Type 0} (feed : S → Feed) (asked limit : ℕ) → limit ≡ asked → (headers : Entries FieldValue) (old new : Payload S) (s : Option Schedule)
    → new ≡ left_by (boundary_of headers) old → IfSome (payload_feed feed old).marks (λ m. s ≡ Some (body_schedule headers limit m))
    → Extracts (λ m rest n x. MeansMultipart asked headers m rest n x) (λ n x. AllowsParts (option_map (collection []) s) n x) (payload_feed feed old).marks (payload_feed feed new).marks
extracts_parts feed asked limit same headers old new s is due =
    rw (is, ← same) (extracts_by limit headers (payload_feed feed old).marks (payload_feed feed (left_by (boundary_of headers) old)).marks s (marks_by feed (boundary_of headers) old) due)

pub left_or_taken : {S : Type 0} (boundary : Option (List ℕ)) (old new : Payload S) → new ≡ left_by boundary old → (new ≡ old) ⊎ (new ≡ kind.None)
left_or_taken None old new is = inl is
left_or_taken (Some boundary) old new is = inr is

few_by : {S : Type 0} (boundary : Option (List ℕ)) (coded : Bool) (limit : ℕ) (p : Payload S) → parts_left (stream_by boundary coded limit p).reader ≡ 64
few_by None coded limit p = refl
few_by (Some boundary) true limit p = refl
few_by (Some boundary) false limit p = refl

pub few_first : {S : Type 0} (headers : Entries FieldValue) (limit : ℕ) (p : Payload S) → parts_left (new_stream headers limit p).reader ≤ 64
few_first headers limit p = let e = few_by (boundary_of headers) (is_coded headers) limit p in omega (arith, e)

pub means_exactly : (limit : ℕ) (headers : Entries FieldValue) (m : List Mark) → Exactly (λ m rest n x. MeansMultipart limit headers m rest n x) m (multipart_rest limit headers m) (multipart_result limit headers m)
means_exactly limit headers m rest n x = (λ h. h, λ h. h)
