use Rattle.std.proofs.Common.{rules, sym, ◌∙◌}
use Rattle.web_texts.specs.Pieces.{pieces}
use Rattle.web_entities.specs.EntityTags.{equals}
use Rattle.web_entities.specs.TagLists.{outside_quotes}
use Rattle.web_entities.specs.declared.tag_list.Quotes.TheVariants.{Even}
use Rattle.web_entities.proofs.ListedTagsLemmas.{behind_listed}
use Rattle.web_entities.proofs.tag_list.is_listed_in_text.Goals as goal

pub parts-preserved : goal.parts-preserved
parts-preserved c =
    let cut = rw c.in-Some.is at c.first_piece.ensures.pieces in
    record {
      so_far = sym (behind_listed (λ t. equals c.args.comparison t c.args.tag.now) c.parts.rest.now c.first_piece.result.0.now (pieces outside_quotes Even c.in-Some.behind.now) cut (sym c.is_listed_in_piece.ensures ∙ c.if-is_listed_in_piece.false)) ∙ c.parts.invariant.so_far;
      text = search rules;
    }
