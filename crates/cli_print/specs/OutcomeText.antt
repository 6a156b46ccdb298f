-- The text of all outcomes.
use Rattle.std.specs.Prelude.{ℕ, List, [], ◌++◌, codes, flat_map, decimal, Option, None, Some}
use Rattle.std.specs.List.{enumerate_from}
use Rattle.web_reply.specs.ResponseBodies.{Plain}
use Rattle.web_reply.specs.Replies.{Reply}
use Rattle.web_reply.specs.declared.head.ConnectionType.{ConnectionType}
use Rattle.web_reply.specs.declared.head.ConnectionType.TheVariants.{KeepAlive, Close, Upgrade}
use Rattle.web_reply.specs.declared.head.ResponseHead.{ResponseHead}
use Rattle.web_worker.specs.Outcomes.{OutcomeView}
use Rattle.web_request_log.specs.HeaderDescriptions.{newline}
use Rattle.cli_print.specs.BodyLines.{body_text}
use Rattle.cli_print.specs.HeaderLines.{header_lines}
use Rattle.cli_print.specs.TextLines.{line_text, numbered_text}

-- the reason, where one is set
abbrev pub reason_text : Option (List ℕ) → List ℕ
reason_text None = []
reason_text (Some reason) = line_text (codes "reason ") reason

-- the connection type, where one is set
abbrev pub connection_text : Option ConnectionType → List ℕ
connection_text None = []
connection_text (Some KeepAlive) = codes "connection keep-alive" ++ newline
connection_text (Some Close) = codes "connection close" ++ newline
connection_text (Some Upgrade) = codes "connection upgrade" ++ newline

abbrev pub head_text : ResponseHead → List ℕ
head_text head =
    numbered_text (codes "status ") head.status
    ++ reason_text head.reason
    ++ connection_text head.connection
    ++ header_lines head.headers

abbrev pub reply_text : Reply Plain → List ℕ
reply_text r = head_text r.head ++ body_text r.body

-- Nothing is printed of an exchange at which an allocation failed.
abbrev pub outcome_text : OutcomeView → List ℕ
outcome_text (OutcomeView.Replied r) = reply_text r
outcome_text OutcomeView.Unfinished = codes "unfinished" ++ newline
outcome_text OutcomeView.NoMemory = []

-- an exchange with its number
abbrev pub exchange_text : ℕ × OutcomeView → List ℕ
exchange_text (k, o) = numbered_text (codes "exchange ") k ++ outcome_text o

abbrev pub serial_text : ℕ → List ℕ
serial_text serial = codes " " ++ decimal serial

-- the numbers of the records that the pool keeps, and how many records were made
abbrev pub pool_text : List ℕ → ℕ → List ℕ
pool_text serials made =
    (codes "pool" ++ flat_map serial_text serials ++ newline)
    ++ numbered_text (codes "made ") made

-- each exchange in order, and then the pool
abbrev pub print : List OutcomeView → List ℕ → ℕ → List ℕ
print outcomes serials made =
    flat_map exchange_text (enumerate_from 0 outcomes) ++ pool_text serials made
