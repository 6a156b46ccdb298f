use Rattle.std.proofs.Common.{[], ◌++◌, ◌∙◌, List, ℕ, ap, refl, sym}
use Rattle.web_http1.proofs.RefusalLemmas.{empty_text, own_text}
use Rattle.web_http1.proofs.ReplyLemmas.{on_ok}
use Rattle.web_http1.proofs.refusing.write_refusal.Goals as goal

pub returns-in-Some-clause-ok : goal.returns-in-Some-clause-ok
returns-in-Some-clause-ok c =
    let text = own_text c.args.settings.now c.args.status c.in-Some.reply.now c.head.result.now c.as_slice-body.result.now c.in-Some.ensures c.head.ensures
    (c.as_slice-body.ensures ∙ c.body.ensures) in
    on_ok c.write_closing.result _ _ (λ e. e ∙ ap (λ (t : List ℕ). c.args.out.now.items ++ t) (sym text)) c.write_closing.ensures.ok

pub returns-in-None-clause-ok : goal.returns-in-None-clause-ok
returns-in-None-clause-ok c =
    let text = empty_text c.args.settings.now c.args.status c.head-in-None.result.now [] c.in-None.ensures (c.head-in-None.ensures ∙ ap (λ r. r.head) c.with_body-empty.ensures) refl in
    on_ok c.write_closing-in-None.result _ _ (λ e. e ∙ ap (λ (t : List ℕ). c.args.out.now.items ++ t) (sym text)) c.write_closing-in-None.ensures.ok
