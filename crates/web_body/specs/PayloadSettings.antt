-- How the body of a request is collected.
use Rattle.std.specs.Prelude.{ℕ, Option, None}
use Rattle.web_texts.specs.MediaTypes.{MediaType}
use Rattle.web_body.specs.MessageBody.{default_limit}

pub record PayloadSettings : Type 0 where
  pub limit : ℕ
  pub required_type : Option MediaType

abbrev pub default_payload_settings : PayloadSettings
default_payload_settings = record { limit = default_limit; required_type = None }
