use Rattle.web_texts.proofs.TextPartLemmas.{part_cut, part_whole}
use Rattle.web_texts.proofs.grammar.text_parts.first_part.Goals as goal

pub returns-in-Some-clause-parts : goal.returns-in-Some-clause-parts
returns-in-Some-clause-parts c =
    part_cut c.args.mark c.args.text.now c.in-Some.part.now c.in-Some.behind.now c.in-Some.ensures

pub returns-in-None-clause-parts : goal.returns-in-None-clause-parts
returns-in-None-clause-parts c = part_whole c.args.mark c.args.text.now c.in-None.ensures
