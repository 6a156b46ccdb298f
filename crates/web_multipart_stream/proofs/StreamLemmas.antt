-- What is due of a stream that was just made.
use Rattle.std.proofs.Common.{◌≡◌, ℕ, Bool, true, false, List, Option, None, Some, Ok, Err, refl}
use Rattle.std.specs.Prelude.{IfOk, IfSome, Result, option_map}
use Rattle.http_header.specs.FieldValue.{FieldValue}
use Rattle.http_header.specs.HeaderMap.{Entries}
use Rattle.web_request.specs.declared.source.Mark.{Mark}
use Rattle.web_request.specs.Feed.{Feed}
use Rattle.web_body.specs.declared.payload.Payload.{Payload}
use Rattle.web_body.specs.Payload.{payload_feed}
use Rattle.web_multipart_parts.specs.PartReading.{new_reader}
use Rattle.web_multipart_stream.specs.FormBoundaries.{boundary_of}
use Rattle.web_multipart_stream.specs.PartSchedules.{Schedule, schedule}
use Rattle.web_multipart_stream.specs.PartStreams.{schedule_of}
use Rattle.web_multipart_stream.specs.StreamViews.{StreamView, body_schedule, due_by, is_coded, new_stream, stream_by}

for_each : (o : Option (List Mark)) (s : Schedule) → IfSome o (λ m. ◌≡◌ {A = Option Schedule} (Some s) (Some s))
for_each None s = tt
for_each (Some m) s = refl

by_marks : (o : Option (List Mark)) (f : List Mark → Schedule) → IfSome o (λ m. option_map f o ≡ Some (f m))
by_marks None f = tt
by_marks (Some m) f = refl

module _ {S : Type 0} (feed : S → Feed) where
  due_at : (boundary : Option (List ℕ)) (coded : Bool) (limit : ℕ) (p : Payload S)
      → IfSome (payload_feed feed p).marks (λ m. schedule_of feed (stream_by boundary coded limit p) ≡ Some (due_by boundary coded limit m))
  due_at None coded limit p = for_each (payload_feed feed p).marks _
  due_at (Some boundary) true limit p = for_each (payload_feed feed p).marks _
  due_at (Some boundary) false limit p = by_marks (payload_feed feed p).marks (schedule (new_reader boundary limit))

  due_first : (headers : Entries FieldValue) (limit : ℕ) (p : Payload S)
      → IfSome (payload_feed feed p).marks (λ m. schedule_of feed (new_stream headers limit p) ≡ Some (body_schedule headers limit m))
  due_first headers limit p = due_at (boundary_of headers) (is_coded headers) limit p

  pub due_when : {E : Type 0} (headers : Entries FieldValue) (limit : ℕ) (p : Payload S) (made : Result (StreamView S) E) → IfOk made (λ stream. stream ≡ new_stream headers limit p)
      → IfOk made (λ stream. IfSome (payload_feed feed p).marks (λ m. schedule_of feed stream ≡ Some (body_schedule headers limit m)))
  due_when headers limit p (Ok stream) is = rw is (due_first headers limit p)
  due_when headers limit p (Err e) is = tt
