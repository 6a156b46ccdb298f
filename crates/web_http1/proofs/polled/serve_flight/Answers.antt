use Rattle.std.proofs.Common.{◌≡◌, ◌∙◌, drop, length, sym}
use Rattle.web_http1.proofs.PollLemmas.{lent_back}
use Rattle.web_http1.proofs.polled.serve_flight.Goals as goal

pub returns-clause-answered : goal.returns-clause-answered
returns-clause-answered g c = λ d r once few.
    let size : c.put_waiting.new.flights.len ≡ length c.poll_flight.new.flights = sym (c.poll_flight.auto.flights ∙ c.as_mut_slice.ensures.len) in
    let back = lent_back c.put_waiting.new.flights.len c.poll_flight.new.flights (drop (length c.poll_flight.new.flights) c.put_waiting.new.flights.items) size in
    rw back (c.poll_flight.ensures.answered c.args.exchange d r (c.as_mut_slice.ensures.value ∙ c.in_ok-put_waiting.ensures) once few)

pub returns-clause-allowed : goal.returns-clause-allowed
returns-clause-allowed g c =
    let size : c.put_waiting.new.flights.len ≡ length c.poll_flight.new.flights = sym (c.poll_flight.auto.flights ∙ c.as_mut_slice.ensures.len) in
    let back = lent_back c.put_waiting.new.flights.len c.poll_flight.new.flights (drop (length c.poll_flight.new.flights) c.put_waiting.new.flights.items) size in
    rw back (c.poll_flight.ensures.allowed c.args.exchange (c.as_mut_slice.ensures.value ∙ c.in_ok-put_waiting.ensures))
