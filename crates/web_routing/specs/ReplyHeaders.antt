-- A header on every reply.
use Rattle.std.specs.Prelude.{ℕ, List, Result, Ok, Err}
use Rattle.http_header.specs.FieldValue.{FieldValue}
use Rattle.web_reply.specs.declared.errors.cause.HttpError.{HttpError}
use Rattle.web_reply.specs.declared.header_setting.Placing.TheVariants.{Replace}
use Rattle.web_reply.specs.HeaderSteps.{Headers, place}
use Rattle.web_reply.specs.ResponseBodies.{Plain}
use Rattle.web_reply.specs.Replies.{Reply}

-- the headers after a step, or as they were where it was refused
abbrev pub stepped : Result Headers HttpError → Headers → Headers
stepped (Ok new) old = new
stepped (Err e) old = old

-- the reply with this header in place of those of its name, where there is room for it
abbrev pub with_header : List ℕ → FieldValue → Reply Plain → Reply Plain
with_header name value r = record r {
  head = record (r.head) {
    headers = stepped (place Replace name value r.head.headers) r.head.headers;
  };
}
