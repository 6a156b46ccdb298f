-- The errors of multipart bodies: their texts, statuses and causes.
use Rattle.std.specs.Prelude.{ℕ, List, codes, ⊤}
use Rattle.web_body.specs.declared.message_body.PayloadError.TheVariants.{Io}
use Rattle.web_body.specs.ErrorTexts.{payload_error_text}
use Rattle.web_multipart_parts.specs.declared.part.PartError.{PartError}
use Rattle.web_multipart_parts.specs.declared.part.PartError.TheVariants as part_error
use Rattle.web_reply.specs.Causes.{payload_status}
use Rattle.web_reply.specs.Replies.{Fault, fault_of}
use Rattle.web_reply.specs.declared.errors.cause.Cause.TheVariants.{Custom}
use Rattle.web_multipart_stream.specs.declared.error.MultipartError.{MultipartError}
use Rattle.web_multipart_stream.specs.declared.error.MultipartError.TheVariants as multipart

abbrev pub multipart_error : PartError → MultipartError
multipart_error part_error.Grammar = multipart.Grammar
multipart_error part_error.Head = multipart.Head
multipart_error part_error.TooMany = multipart.TooMany
multipart_error part_error.PartOverflow = multipart.PartOverflow

abbrev pub multipart_error_text : MultipartError → List ℕ
multipart_error_text multipart.ContentType = codes "multipart type or boundary is missing"
multipart_error_text multipart.PartOverflow = codes "part reached its limit"
multipart_error_text multipart.TooMany = codes "too many parts"
multipart_error_text multipart.Grammar = codes "multipart grammar"
multipart_error_text multipart.Head = codes "part head"
multipart_error_text (multipart.Payload error) = payload_error_text error

abbrev pub multipart_status : MultipartError → ℕ
multipart_status multipart.ContentType = 415
multipart_status multipart.PartOverflow = 413
multipart_status multipart.TooMany = 413
multipart_status multipart.Grammar = 400
multipart_status multipart.Head = 400
multipart_status (multipart.Payload error) = payload_status error

-- the error of a handler or of an argument
abbrev pub multipart_fault : MultipartError → Fault
multipart_fault error = fault_of (Custom (multipart_status error) (multipart_error_text error))

-- the error is a fault of the payload
abbrev pub IfIo : MultipartError → Type 0 → Type 0
IfIo multipart.ContentType P = ⊤
IfIo multipart.PartOverflow P = ⊤
IfIo multipart.TooMany P = ⊤
IfIo multipart.Grammar P = ⊤
IfIo multipart.Head P = ⊤
IfIo (multipart.Payload Io) P = P
IfIo (multipart.Payload _) P = ⊤
