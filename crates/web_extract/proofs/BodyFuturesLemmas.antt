-- Polls of the futures of whole bodies.
use Rattle.std.proofs.Common.{ℕ, List}
use Rattle.std.specs.Prelude.{Result, Ok, Err, String}
use Rattle.std.specs.Global.{Global}
use Rattle.web_body.specs.PollSteps.{NeverNoMemory}
use Rattle.web_body.specs.declared.poll.Step.{Step}
use Rattle.web_body.specs.declared.poll.Step.TheVariants.{Pending, Ready, NoMemory}
use Rattle.web_reply.specs.Replies.{Fault}
use Rattle.web_extract.specs.BodyFutures.{DecodesStep, IsWithoutBody}

-- memory is not lacking where there is no body to decode
pub decodes_without : (s : Step (Result (List ℕ) Fault)) (t : Step (Result (String Global) Fault)) → IsWithoutBody s → DecodesStep s t → NeverNoMemory t
decodes_without Pending t w d = rw d tt
decodes_without (Ready (Ok b)) t w d = absurd w
decodes_without (Ready (Err e)) t w d = rw d tt
decodes_without NoMemory t w d = absurd w
