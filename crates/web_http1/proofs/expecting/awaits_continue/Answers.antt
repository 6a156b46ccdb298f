use Rattle.std.proofs.Common.{◌≡◌, ◌∙◌, subst, sym, true}
use Rattle.web_messages.specs.declared.head.Head.{Head}
use Rattle.web_http1.specs.Expecting.{expects_continue}
use Rattle.web_http1.proofs.expecting.awaits_continue.Goals as goal

pub returns-in-Sized : goal.returns-in-Sized
returns-in-Sized c = λ yes limits bytes is size.
    let found = rw c.in-Sized.is at is in
    let awaits = c.is_awaiting.ensures yes in
    record {
      head = c.in-Sized.head.value;
      found = found.0;
      alone = size ∙ sym (subst (λ (h : Head). h.length ≡ c.args.kept) c.deref.ensures awaits.0);
      expects = subst (λ (h : Head). expects_continue h ≡ true) c.deref.ensures awaits.1;
    }

pub returns-in-Chunked : goal.returns-in-Chunked
returns-in-Chunked c = λ yes limits bytes is size.
    let found = rw c.in-Chunked.is at is in
    let awaits = c.is_awaiting-in-Chunked.ensures yes in
    record {
      head = c.in-Chunked.head.value;
      found = found.0;
      alone = size ∙ sym (subst (λ (h : Head). h.length ≡ c.args.kept) c.deref-in-Chunked.ensures awaits.0);
      expects = subst (λ (h : Head). expects_continue h ≡ true) c.deref-in-Chunked.ensures awaits.1;
    }
