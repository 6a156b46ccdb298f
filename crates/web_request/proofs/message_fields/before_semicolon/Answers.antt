use Rattle.std.proofs.Common.{sym}
use Rattle.web_request.proofs.MessageFieldsLemmas.{uncut}
use Rattle.web_request.proofs.message_fields.before_semicolon.Goals as goal

pub returns-in-None : goal.returns-in-None
returns-in-None c = sym (uncut c.args.text.now c.in-None.ensures)
