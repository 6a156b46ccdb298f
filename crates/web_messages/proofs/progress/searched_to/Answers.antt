use Rattle.web_messages.proofs.SearchLemmas.{not_there, search_on, searched_all}
use Rattle.web_messages.proofs.progress.searched_to.Goals as goal

pub returns-then-has_empty_line : goal.returns-then-has_empty_line
returns-then-has_empty_line c = search_on c.args.bytes.now c.args.search c.args.blank c.requires.search c.requires.blank

pub returns : goal.returns
returns c =
    searched_all c.args.bytes.now c.args.blank c.requires.blank.begins
    (not_there c.args.bytes.now c.args.search c.args.blank c.args.blank c.requires.search c.requires.blank.begins
    (λ k a b. b) (c.has_empty_line.ensures c.if-has_empty_line.false)) (c.has_empty_line.ensures c.if-has_empty_line.false)
