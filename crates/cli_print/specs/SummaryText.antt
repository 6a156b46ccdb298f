-- The summary of what was served.
use Rattle.std.specs.Prelude.{ℕ, ◌==◌, Bool, true, false, List, [], ◌++◌, codes, decimal}
use Rattle.std.specs.Prelude.{flat_map, if◌then◌else◌, length, Option, None, Some}
use Rattle.std.specs.List.{filter, range_with_len}
use Rattle.web_worker.specs.Outcomes.{OutcomeView}
use Rattle.cli_print.specs.TextLines.{numbered_text}

abbrev pub is_unfinished : OutcomeView → Bool
is_unfinished (OutcomeView.Replied r) = false
is_unfinished OutcomeView.Unfinished = true
is_unfinished OutcomeView.NoMemory = false

-- the status of a reply
abbrev pub reply_status : OutcomeView → Option ℕ
reply_status (OutcomeView.Replied r) = Some r.head.status
reply_status OutcomeView.Unfinished = None
reply_status OutcomeView.NoMemory = None

-- it is a reply with this status
abbrev pub has_status : ℕ → OutcomeView → Bool
has_status status (OutcomeView.Replied r) = r.head.status == status
has_status status OutcomeView.Unfinished = false
has_status status OutcomeView.NoMemory = false

abbrev pub count_where : (OutcomeView → Bool) → List OutcomeView → ℕ
count_where test outcomes = length (filter test outcomes)

-- a status and how many replies have it, where there is one
abbrev pub count_text : ℕ → ℕ → List ℕ
count_text status count =
    if count == 0 then []
    else (codes "status " ++ decimal status ++ numbered_text (codes " ") count)

abbrev pub status_line : List OutcomeView → ℕ → List ℕ
status_line outcomes status = count_text status (count_where (has_status status) outcomes)

-- all statuses that there can be (RFC 9110, section 15)
unfoldable pub statuses : List ℕ
statuses = range_with_len 100 900

-- The bytes of the script, the exchanges, those that are unfinished, each status that occurs, from
-- the least to the greatest, and how many records were made.
abbrev pub summary : ℕ → List OutcomeView → ℕ → List ℕ
summary script_len outcomes made =
    numbered_text (codes "script ") script_len
    ++ numbered_text (codes "exchanges ") (length outcomes)
    ++ numbered_text (codes "unfinished ") (count_where is_unfinished outcomes)
    ++ flat_map (status_line outcomes) statuses
    ++ numbered_text (codes "made ") made
