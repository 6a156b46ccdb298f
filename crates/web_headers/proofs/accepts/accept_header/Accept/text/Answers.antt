use Rattle.std.proofs.Common.{refl}
use Rattle.web_texts.specs.Tokens.{is_token_byte}
use Rattle.web_headers.proofs.accepts.accept_header.Accept.text.Goals as goal

pub item_of-requires : goal.item_of-requires
unfolding is_token_byte
item_of-requires c = refl
