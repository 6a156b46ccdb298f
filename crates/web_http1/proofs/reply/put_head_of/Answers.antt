use Rattle.web_http1.specs.ReplyBytes.{close_line, crlf, field_lines, length_line, status_line}
use Rattle.web_http1.proofs.ReplyLemmas.{five_parts, on_ok}
use Rattle.web_http1.proofs.reply.put_head_of.Goals as goal

pub returns : goal.returns
returns c =
    on_ok c.put.result _ _ (λ last.
    five_parts c.args.out.now.items c.put_status_line.new.out.items c.put_fields.new.out.items c.put_length.new.out.items c.put_close.new.out.items
    c.put.new.out.items (status_line c.args.head.now) (field_lines c.args.head.now.headers) (length_line c.args.absent c.args.size) (close_line c.args.closes) crlf
    c.in_ok-put_status_line.ensures c.in_ok-put_fields.ensures c.in_ok-put_length.ensures c.in_ok-put_close.ensures last) c.put.ensures
