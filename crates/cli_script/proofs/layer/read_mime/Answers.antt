use Rattle.cli_script.proofs.LayerLinesLemmas.{mime_read, mime_unread}
use Rattle.cli_script.proofs.LineArgumentsLemmas.{text_read, text_refused}
use Rattle.cli_script.proofs.layer.read_mime.Goals as goal

pub returns-in-Ok : goal.returns-in-Ok
returns-in-Ok c = mime_read c.read_media_type.result c.args.text.now c.in-Ok.text.now c.in-Ok.ensures.cases.0 (text_read c.args.text.now c.in-Ok.ensures.cases.1) c.read_media_type.ensures

pub returns-in-Err : goal.returns-in-Err
returns-in-Err c = mime_unread c.args.text.now (text_refused c.args.text.now c.in-Err.ensures.cases.0)
