use Rattle.std.proofs.Common.{◌∙◌, ◌++◌, [], Bool, List, ℕ, ap, length}
use Rattle.std.specs.Prelude.{if◌then◌else◌}
use Rattle.web_http1.specs.ReplyBytes.{has_no_body, head_bytes_of}
use Rattle.web_http1.proofs.reply.write_parts.Goals as goal

pub returns-clause-ok : goal.returns-clause-ok
returns-clause-ok c =
    let head = c.args.head.now in
    let content = c.args.content.now in
    let missing = c.has_no_body-absent.result in
    let closes = c.closes_after-closes.result in
    let front = c.as_slice.ensures.value ∙ c.in_ok-put_head_of.ensures
    ∙ ap (λ (t : List ℕ). t ++ head_bytes_of missing head (length content) closes) c.clear.ensures.items in (
      c.closes_after-closes.ensures,
      c.in_ok-put_both.ensures.ok
          ∙ ap (λ (t : List ℕ). c.args.out.now.items ++ t) (ap (λ (t : List ℕ). t ++ c.body_bytes.result.now) front
          ∙ ap (λ (t : List ℕ). head_bytes_of missing head (length content) closes ++ t) c.body_bytes.ensures
          ∙ ap (λ (b : Bool). head_bytes_of b head (length content) closes ++ (if b then [] else content)) c.has_no_body-absent.ensures
          ∙ ap (λ (b : Bool). head_bytes_of (has_no_body c.args.is_head head.status) head (length content) b
          ++ (if has_no_body c.args.is_head head.status then [] else content)) c.closes_after-closes.ensures),
    )
