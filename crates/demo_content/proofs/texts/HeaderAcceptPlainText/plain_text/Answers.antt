use Rattle.std.proofs.Common.{ap, ◌∙◌}
use Rattle.web_texts.specs.MediaTypeTexts.{media_type_text}
use Rattle.web_headers.specs.PrintedLists.{comma_joined}
use Rattle.web_negotiate.specs.MediaChoices.{media_rank}
use Rattle.web_negotiate.proofs.RankedLemmas.{ranking_only}
use Rattle.demo_content.proofs.JoinedLemmas.{joined_values}
use Rattle.demo_content.proofs.texts.HeaderAcceptPlainText.plain_text.Goals as goal

pub returns : goal.returns
returns c =
    c.from.ensures ∙ c.in_ok-to_string.ensures.ok
    ∙ joined_values media_type_text c.in_ok-types.types.items
    ∙ ap (comma_joined media_type_text)
    (ranking_only media_rank c.args.self.now.0.0 _ c.in_ok-types.ensures)
