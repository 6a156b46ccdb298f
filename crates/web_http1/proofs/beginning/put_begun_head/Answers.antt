use Rattle.web_http1.specs.BegunReplies.{date_line, framing_line}
use Rattle.web_http1.specs.ReplyBytes.{close_line, crlf, field_lines, status_line}
use Rattle.web_http1.proofs.ReplyLemmas.{on_ok, six_parts}
use Rattle.web_http1.proofs.beginning.put_begun_head.Goals as goal

pub returns : goal.returns
returns c =
    on_ok c.put.result _ _ (λ last.
    six_parts c.args.out.now.items c.put_status_line.new.out.items c.put_fields.new.out.items c.put_date.new.out.items c.put_framing.new.out.items c.put_close.new.out.items
    c.put.new.out.items (status_line c.args.head.now) (field_lines c.args.head.now.headers) (date_line c.args.date.now c.args.head.now.headers) (framing_line c.args.stated)
    (close_line c.args.closes) crlf c.in_ok-put_status_line.ensures c.in_ok-put_fields.ensures c.in_ok-put_date.ensures c.in_ok-put_framing.ensures
    c.in_ok-put_close.ensures last) c.put.ensures
