use Rattle.std.proofs.Common.{◌≡◌, ◌+◌, ◌≤◌, length}
use Rattle.web_body.specs.Collector.{StallsNext}
use Rattle.web_body.specs.Payload.{payload_feed}
use Rattle.web_multipart_stream.specs.PartStreams.{IsReading}
use Rattle.web_multipart_parts.specs.PartReading.{parts_left}
use Rattle.web_multipart.specs.Collections.{collection_of}
use Rattle.web_multipart.proofs.multipart_future.take_parts.Given as goal

abbrev pub invariant-polls : goal.invariant-polls
invariant-polls g l = record {
  same : collection_of g.S.Source.feed l.stream l.parts.items ≡ collection_of g.S.Source.feed l.fn.stream l.fn.parts.items;
  reading : IsReading l.fn.stream.progress → IsReading l.stream.progress;
  lacked : IsReading l.fn.stream.progress → (payload_feed g.S.Source.feed l.stream.payload).lacked ≡ (payload_feed g.S.Source.feed l.fn.stream.payload).lacked;
  stalled : IsReading l.fn.stream.progress → StallsNext (payload_feed g.S.Source.feed l.fn.stream.payload).marks
      → (payload_feed g.S.Source.feed l.stream.payload).marks ≡ (payload_feed g.S.Source.feed l.fn.stream.payload).marks;
  few : length l.parts.items + parts_left l.stream.reader ≤ 64;
}

abbrev pub decreases-polls : goal.decreases-polls
decreases-polls g l = parts_left l.stream.reader
