use Rattle.std.proofs.Common.{◌∙◌, sym}
use Rattle.percent_encoding.specs.Percent.{percent_decode}
use Rattle.web_paths.proofs.PathLemmas.{one_more-append, one_more-empty}
use Rattle.web_paths.proofs.below.push_name.Goals as goal
use Rattle.web_paths.proofs.below.push_name.Goals.{then-not-is_empty+in_ok-push, else-not-is_empty}

pub returns-clause-names : goal.returns-clause-names
returns-clause-names c =
    let v = c.args.names.now in
    let name = percent_decode c.args.segment.now in
    let bytes = c.as_bytes.ensures.value in
    let put = c.in_ok-append_to.ensures.ok in
    elim c.if-not-is_empty.branch [
      | then-not-is_empty+in_ok-push w ↦
          let e = one_more-append v.items name _ v.ok.0 (sym c.is_empty.ensures ∙ w.if-not-is_empty.true) in
          let pushed = w.in_ok-push.ensures.items in
          cc (e, pushed, put, bytes)
      | else-not-is_empty w ↦
          let e = one_more-empty v.items name _ v.ok.0 (sym c.is_empty.ensures ∙ w.if-not-is_empty.false) in
          cc (e, put, bytes)
    ]
