use Rattle.std.proofs.Common.{refl}
use Rattle.std.specs.Fmt.{digits}
use Rattle.std.specs.Float.Numeral.{scan_numeral}
use Rattle.std.specs.Str.{chars, is_utf8}
use Rattle.json.specs.Json.{items, members, value}
use Rattle.json.specs.Lex.{lex, punctuate}
use Rattle.json.specs.Print.{escape_byte, print_from}
use Rattle.json.specs.Text.{content}
use Rattle.json.specs.Word.{after_number, word}
use Rattle.serde_json.specs.Read.{number_of}
use Rattle.example_shop.proofs.ItemLemmas.{held_body}
use Rattle.example_shop.proofs.item_handler.item_reply_law.Goals as goal
use lib.Utf8.{encode}

pub returns-clause-body : goal.returns-clause-body
returns-clause-body c settings errors head m body holds =
    held_body settings errors head m body holds

pub returns-clause-good : goal.returns-clause-good
unfolding is_utf8 chars encode lex punctuate items members value content after_number word
    number_of scan_numeral digits escape_byte print_from
returns-clause-good c errors = refl

pub returns-clause-missing : goal.returns-clause-missing
unfolding is_utf8 chars encode lex punctuate items members value content after_number word
    number_of scan_numeral digits escape_byte print_from
returns-clause-missing c = refl

pub returns-clause-out_of_range : goal.returns-clause-out_of_range
unfolding is_utf8 chars encode lex punctuate items members value content after_number word
    number_of scan_numeral digits escape_byte print_from
returns-clause-out_of_range c = refl
