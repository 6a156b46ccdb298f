use Rattle.std.proofs.Common.{◌∙◌, sym}
use Rattle.web_paths.proofs.NameLemmas.{one_more-none, one_more-slash}
use Rattle.web_paths.proofs.below.with_name.Goals as goal
use Rattle.web_paths.proofs.below.with_name.Goals.{then-is_empty+in_ok-push_str, else-is_empty+in_ok-push_slashed}

pub returns : goal.returns
returns c =
    let names = c.args.names.now in
    let name = c.args.name.now in
    let start = c.in_ok-text.ensures.ok in
    elim c.if-is_empty.branch [
      | then-is_empty+in_ok-push_str w ↦
          let e = one_more-none names name (sym c.is_empty.ensures ∙ w.if-is_empty.true) in
          cc (e, start, w.in_ok-push_str.ensures.bytes, w.text-is)
      | else-is_empty+in_ok-push_slashed w ↦
          let e = one_more-slash names name (sym c.is_empty.ensures ∙ w.if-is_empty.false) in
          cc (e, start, w.in_ok-push_slashed.ensures, w.text-is)
    ]
