use Rattle.web_multipart_stream.proofs.ScheduleLemmas.{schedule_closes, schedule_fails, schedule_fault, schedule_goes, schedule_none, schedule_part, schedule_piece, schedule_stall}
use Rattle.web_multipart_stream.proofs.laws.schedule_laws.Goals as goal

pub returns : goal.returns
returns c = record {
  goes = schedule_goes;
  part = schedule_part;
  closes = schedule_closes;
  fails = schedule_fails;
  piece = schedule_piece;
  stall = schedule_stall;
  fault = schedule_fault;
  none = schedule_none;
}
