-- The parts of a body.
use Rattle.std.specs.Prelude.{List}
use Rattle.web_request.specs.declared.source.Mark.{Mark}
use Rattle.web_reply.specs.Replies.{Fault}
use Rattle.web_extract.specs.Extracts.{AllowsSome}
use Rattle.web_extract.specs.ListMeanings.{ArgumentMeaning}
use Rattle.web_extract.specs.ListResults.{DelayedResult}
use Rattle.web_multipart_parts.specs.declared.part.Part.{Part}
use Rattle.web_multipart.specs.MultipartArgument.{MeansMultipart, limit_of, multipart_rest}
use Rattle.web_multipart.specs.MultipartArgument.{multipart_result, multipart_some}
use Rattle.demo_app.specs.DemoRequests.{DemoRequest}

-- of at most 65,536 bytes each
abbrev pub MeansParts : DemoRequest → ArgumentMeaning (List Part) Fault
MeansParts q m rest n x = MeansMultipart (limit_of 65536) q.head.headers m rest n x

pub parts_some : (q : DemoRequest) (m : List Mark) → AllowsSome (MeansParts q m)
parts_some q m = multipart_some (limit_of 65536) q.head.headers m

abbrev pub parts_result : DemoRequest → List Mark → DelayedResult (List Part)
parts_result q m = multipart_result (limit_of 65536) q.head.headers m

abbrev pub parts_rest : DemoRequest → List Mark → List Mark
parts_rest q m = multipart_rest (limit_of 65536) q.head.headers m
