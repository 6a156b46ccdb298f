-- How often a body stalls before each of its parts and before their end, and how they end.
use Rattle.std.specs.Prelude.{ℕ, suc, ◌-◌, ◌++◌, Bool, List, [], ◌∷◌, length, map}
use Rattle.std.specs.Prelude.{if◌then◌else◌}
use Rattle.web_request.specs.declared.source.Mark.{Mark}
use Rattle.web_request.specs.Body.{ends_in_fault, piece_bytes, stalls}
use Rattle.web_body.specs.declared.message_body.PayloadError.TheVariants.{Io}
use Rattle.web_lines.specs.LineSchedules.{stalls_before}
use Rattle.web_multipart_parts.specs.Parts.{Closes, CutOff, Ending, Fails, Found, Parts}
use Rattle.web_multipart_parts.specs.PartReading.{Reader, parts_with}
use Rattle.web_multipart_parts.specs.declared.part.Part.{Part}
use Rattle.web_multipart_stream.specs.MultipartErrors.{multipart_error}
use Rattle.web_multipart_stream.specs.declared.error.MultipartError.{MultipartError}
use Rattle.web_multipart_stream.specs.declared.error.MultipartError.TheVariants as multipart

pub record Due : Type 0 where
  -- the stalls before the part
  pub delay : ℕ
  pub part : Part

-- the close-delimiter came, or an error before it
pub data Outcome : Type 0 where
  Closed : Outcome
  Failed : MultipartError → Outcome

pub record Schedule : Type 0 where
  pub parts : List Due
  -- the stalls before the end
  pub ends : ℕ
  pub outcome : Outcome

-- A part is known once so many bytes came: some did already, and these marks are left.
abbrev pub due : ℕ → List Mark → Found → Due
due came m f = record { delay = stalls_before (f.known - came) m; part = f.part }

-- what only the end of the body shows comes after all stalls
abbrev pub end_delay : ℕ → List Mark → Ending → ℕ
end_delay came m (Closes n) = stalls_before (n - came) m
end_delay came m (Fails n error) = stalls_before (n - came) m
end_delay came m CutOff = stalls m

-- an end before the close-delimiter is an error of the grammar, and a fault one of the payload
abbrev pub cut_off_error : Bool → MultipartError
cut_off_error fault = if fault then multipart.Payload Io else multipart.Grammar

abbrev pub outcome_of : Bool → Ending → Outcome
outcome_of fault (Closes n) = Closed
outcome_of fault (Fails n error) = Failed (multipart_error error)
outcome_of fault CutOff = Failed (cut_off_error fault)

abbrev pub scheduled : ℕ → List Mark → Parts → Schedule
scheduled came m p = record {
  parts = map (due came m) p.found;
  ends = end_delay came m p.ending;
  outcome = outcome_of (ends_in_fault m) p.ending;
}

-- what is due where a reader stands and these marks are left
abbrev pub schedule : Reader → List Mark → Schedule
schedule r m = scheduled (length r.came) m (parts_with r (piece_bytes m))

-- a part is due now, and then these
abbrev pub part_due : Part → Schedule → Schedule
part_due part s =
    record s { parts = record { delay = 0; part = part } ∷ s.parts }

-- they end now
abbrev pub ended : Outcome → Schedule
ended outcome = record { parts = []; ends = 0; outcome = outcome }

-- one more stall comes first
abbrev pub later : Due → Due
later d = record { delay = suc d.delay; part = d.part }

abbrev pub one_later : Schedule → Schedule
one_later s = record { parts = map later s.parts; ends = suc s.ends; outcome = s.outcome }

-- one more piece came
abbrev pub fed : Reader → List ℕ → Reader
fed r piece = record r { came = r.came ++ piece }
