use denote.Shadow.{shadow}
use denote.Text.{Utf8}
use Rattle.std.proofs.Common.{◌≡◌, length}
use Rattle.std.specs.List.{flat_map, list_any}
use Rattle.web_texts.specs.PieceItems.{item_of_piece}
use Rattle.web_texts.specs.Pieces.{pieces}
use Rattle.web_entities.specs.EntityTags.{equals, tag_of}
use Rattle.web_entities.specs.TagLists.{outside_quotes}
use Rattle.web_entities.specs.declared.tag_list.Quotes.TheVariants.{Even}
use Rattle.web_entities.proofs.tag_list.is_listed_in_text.Given as goal

abbrev pub invariant-parts : goal.invariant-parts
invariant-parts l = record {
  so_far : list_any (λ t. equals l.comparison t l.tag) (flat_map (item_of_piece tag_of) (pieces outside_quotes Even l.rest))
      ≡ list_any (λ t. equals l.comparison t l.tag) (flat_map (item_of_piece tag_of) (pieces outside_quotes Even l.text));
  text : shadow (Utf8 l.rest);
}

abbrev pub decreases-parts : goal.decreases-parts
decreases-parts l = length l.rest
