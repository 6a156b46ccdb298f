use Rattle.std.proofs.Common.{◌∙◌, ◌++◌, List, ap, length, true, ℕ}
use Rattle.std.specs.Prelude.{Some}
use Rattle.web_http1.specs.BegunReplies.{begun_head}
use Rattle.web_http1.specs.declared.due_body.BodyFraming.TheVariants as framing
use Rattle.web_http1.proofs.ReplyLemmas.{on_ok}
use Rattle.web_http1.proofs.refusing.write_closing.Goals as goal

pub returns-clause-ok : goal.returns-clause-ok
returns-clause-ok c =
    let head = begun_head c.args.date.now c.args.head.now (Some (framing.Length (length c.args.body.now))) true in
    let front = c.as_slice.ensures.value ∙ c.in_ok-put_begun_head.ensures ∙ ap (λ (t : List ℕ). t ++ head) c.clear.ensures.items in
    on_ok c.put_both.result _ _ (λ last. last ∙ ap (λ (t : List ℕ). c.args.out.now.items ++ (t ++ c.args.body.now)) front) c.put_both.ensures.ok
