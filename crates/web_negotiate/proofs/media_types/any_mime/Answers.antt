use Rattle.std.proofs.Common.{refl}
use Rattle.web_texts.specs.Tokens.{is_token_byte}
use Rattle.web_negotiate.proofs.media_types.any_mime.Goals as goal

pub media_type-requires : goal.media_type-requires
unfolding is_token_byte
media_type-requires c = refl
