use Rattle.std.proofs.Common.{arith, inl, inr}
use Rattle.web_messages.proofs.ProgressLemmas.{blank_step, open_at, open_step}
use Rattle.web_messages.proofs.SearchLemmas.{search_on, some_behind}
use Rattle.web_messages.proofs.progress.read_head_on.Goals as goal

pub returns-then-blank-searched-clause-next : goal.returns-then-blank-searched-clause-next
returns-then-blank-searched-clause-next c =
    blank_step c.args.limits.now c.args.bytes.now c.blank_front-blank.result c.blank_front-blank.ensures c.if-blank-searched.true

pub returns-then-has_no_head-clause-next : goal.returns-then-has_no_head-clause-next
returns-then-has_no_head-clause-next c =
    open_step c.args.limits.now c.args.bytes.now c.blank_front-blank.result c.blank_front-blank.ensures
    (omega (arith, c.blank_front-blank.ensures.begins.inside, c.if-blank-searched.false)) (c.has_no_head.ensures.none c.if-has_no_head.true) (c.has_no_head.ensures.line c.if-has_no_head.true) (c.has_no_head.ensures.short c.if-has_no_head.true)

pub has_no_head-requires-clause-searched : goal.has_no_head-requires-clause-searched
has_no_head-requires-clause-searched c =
    search_on c.args.bytes.now c.args.search c.blank_front-blank.result c.requires c.blank_front-blank.ensures

pub returns-in-Unfinished-clause-next : goal.returns-in-Unfinished-clause-next
returns-in-Unfinished-clause-next c =
    let none = rw c.in-Unfinished.is at c.in_ok-head.ensures.read in
    open_at c.args.limits.now c.args.bytes.now c.blank_front-blank.result c.blank_front-blank.ensures c.searched_to-searched.result c.searched_to-searched.ensures
    (omega (arith, c.blank_front-blank.ensures.begins.inside, c.if-blank-searched.false)) (λ tree rest has takes. none.0 tree rest has.reads) none.1 (inr (inl none.2))

pub read_body-requires : goal.read_body-requires
read_body-requires c =
    let found = rw c.in-Head.is at c.in_ok-head.ensures.read in
    record {
      some = some_behind c.args.bytes.now c.blank_front-blank.result c.blank_front-blank.ensures
          (omega (arith, c.blank_front-blank.ensures.begins.inside, c.if-blank-searched.false));
      rest = found.0;
      begins = found.1;
    }
