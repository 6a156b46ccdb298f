use Rattle.std.proofs.Common.{◌≡◌, drop}
use Rattle.web_codec.specs.FormPairs.{values_of}
use Rattle.example_handlers.proofs.bookings.booking.first_value.Given as goal

abbrev pub invariant-loop-pair : goal.invariant-loop-pair
invariant-loop-pair l = values_of l.name (drop l.pair-index l.pairs) ≡ values_of l.name l.pairs
