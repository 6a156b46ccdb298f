use Rattle.web_http1.proofs.RefusalLemmas.{refused_last}
use Rattle.web_http1.proofs.refusing.finish_rest_as.Goals as goal

pub returns-in-Refused : goal.returns-in-Refused
returns-in-Refused c =
    refused_last c.args.settings.now c.args.limits.now c.args.rest.now c.in-Refused.wrong c.refuse_as.result c.args.out.now.items c.refuse_as.new.out.items
    (rw c.in-Refused.is at c.in-Ok.ensures.next) c.refuse_as.ensures
