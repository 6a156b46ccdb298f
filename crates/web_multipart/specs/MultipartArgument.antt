-- The parts of a body as an argument (RFC 7578).
use Rattle.std.specs.Prelude.{◌≡◌, ℕ, List, [], Result, min, refl}
use Rattle.http_header.specs.FieldValue.{FieldValue}
use Rattle.http_header.specs.HeaderMap.{Entries}
use Rattle.web_request.specs.declared.source.Mark.{Mark}
use Rattle.web_multipart_parts.specs.declared.part.Part.{Part}
use Rattle.web_reply.specs.Replies.{Fault}
use Rattle.web_extract.specs.Extracts.{AllowsSome}
use Rattle.web_extract.specs.ListResults.{DelayedResult}
use Rattle.web_multipart_stream.specs.FormBoundaries.{boundary_of}
use Rattle.web_multipart_stream.specs.StreamViews.{body_schedule, marks_left}
use Rattle.web_multipart.specs.Collections.{Collection, collection, result_of}

-- the limit of each part: 2^62 is the greatest
abbrev pub limit_of : ℕ → ℕ
limit_of part = min part 4611686018427387904

module _ (limit : ℕ) (headers : Entries FieldValue) where
  abbrev pub body_collection : List Mark → Collection
  body_collection m = collection [] (body_schedule headers limit m)

  -- all parts in order or the first error, and the number of polls before it
  abbrev pub multipart_result : List Mark → DelayedResult (List Part)
  multipart_result m =
      record { delay = (body_collection m).delay; result = result_of (body_collection m) }

  -- the payload is left only where no boundary is named
  abbrev pub multipart_rest : List Mark → List Mark
  multipart_rest m = marks_left (boundary_of headers) m

  abbrev pub MeansMultipart : List Mark → List Mark → ℕ → Result (List Part) Fault → Type 0
  MeansMultipart m rest n x =
      (rest ≡ multipart_rest m)
      × (n ≡ (multipart_result m).delay)
      × (x ≡ (multipart_result m).result)

  pub multipart_some : (m : List Mark) → AllowsSome (MeansMultipart m)
  multipart_some m none =
      none (multipart_rest m) (multipart_result m).delay (multipart_result m).result
      (refl, refl, refl)
