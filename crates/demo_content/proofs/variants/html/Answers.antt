use Rattle.std.proofs.Common.{refl}
use Rattle.web_texts.specs.Tokens.{is_token_byte}
use Rattle.demo_content.proofs.variants.html.Goals as goal

pub media_type-requires : goal.media_type-requires
unfolding is_token_byte
media_type-requires c = refl
