use Rattle.std.proofs.Common.{refl}
use Rattle.web_texts.specs.Tokens.{is_token_byte}
use Rattle.web_headers.proofs.content_type.ContentType.form_url_encoded.Goals as goal

pub media_type-requires : goal.media_type-requires
unfolding is_token_byte
media_type-requires c = refl
