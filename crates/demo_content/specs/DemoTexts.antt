-- The texts that the handler replies with.
use Rattle.std.specs.Prelude.{ℕ, List, ◌++◌, length, codes, decimal, map}
use Rattle.std.specs.Prelude.{Option, None, Some, Result, Ok, Err, unwrap_or}
use Rattle.std.specs.Prelude.{◌-◌, take, if◌then◌else◌}
use Rattle.std.specs.Io.BufRead.{ends_with_byte}
use Rattle.std.specs.List.{join_by}
use Rattle.web_texts.specs.Pairs.{Pair}
use Rattle.web_cookies.specs.declared.cookie_parse_error.CookieParseError.{CookieParseError}
use Rattle.web_texts.specs.MediaTypeTexts.{media_type_text}
use Rattle.web_request.specs.Connections.{Connection}
use Rattle.web_request.specs.KeptValues.{CookiesSaid}
use Rattle.web_headers.specs.PrintedLists.{comma_joined}
use Rattle.web_headers.specs.declared.accepts.accept_header.Accept.{Accept}
use Rattle.web_negotiate.specs.MediaChoices.{media_rank}
use Rattle.web_negotiate.specs.Rankings.{ranked_by}
use Rattle.web_extract_head.specs.declared.header_argument.Header.{Header}
use Rattle.web_reply.specs.Causes.{cause_status}
use Rattle.web_reply.specs.Replies.{Fault}
use Rattle.web_extract_body.specs.declared.either.Either.{Either}
use Rattle.web_extract_body.specs.declared.either.Either.TheVariants.{Left, Right}
use Rattle.web_extract_body.specs.declared.json_value.Json.{Json}
use Rattle.web_extract_body.specs.declared.form_value.Form.{Form}
use Rattle.demo_app.specs.Items.{item_text}
use Rattle.demo_app.specs.declared.app.DemoConn.{DemoConn}
use Rattle.demo_app.specs.declared.item.Item.{Item}
use Rattle.demo_arguments.specs.DemoArguments.{DataView}

abbrev pub space : List ℕ
space = codes " "

abbrev pub bar : List ℕ
bar = codes "|"

-- the side that was read, and its item
abbrev pub either_text : Either (Json Item) (Form Item) → List ℕ
either_text (Left json) = codes "left " ++ item_text json.0
either_text (Right form) = codes "right " ++ item_text form.0

-- the item, where there is one, and the size of the body that was left
abbrev pub option_text : Option (Json Item) → ℕ → List ℕ
option_text (Some json) left = codes "some " ++ (item_text json.0 ++ (space ++ decimal left))
option_text None left = codes "none " ++ decimal left

-- the item, or the status of the refusal
abbrev pub result_text : Result (Json Item) Fault → List ℕ
result_text (Ok json) = codes "ok " ++ item_text json.0
result_text (Err e) = codes "refused " ++ decimal (cause_status e.cause)

-- the number, or `-`
abbrev pub conn_text : Option DemoConn → List ℕ
conn_text None = codes "-"
conn_text (Some conn) = decimal conn.0

-- the numbers of the layers, of the request and of the connection
abbrev pub data_text : DataView → List ℕ
data_text d =
    decimal d.number ++ (space ++ (decimal d.local ++ (space ++ conn_text d.request.conn)))

-- the text, or `-`
abbrev pub text_or_dash : Option (List ℕ) → List ℕ
text_or_dash text = unwrap_or text (codes "-")

-- where a request came from and was sent to
abbrev pub who_text : Connection → List ℕ
who_text c =
    codes "host=" ++ (c.host ++ (codes " scheme=" ++ (c.scheme ++ (codes " peer="
    ++ (text_or_dash c.peer ++ (codes " realip=" ++ text_or_dash c.client))))))

abbrev pub pair_text : Pair → List ℕ
pair_text cookie = cookie.name ++ (codes "=" ++ cookie.value)

-- the names and values of cookies, with spaces between
abbrev pub cookies_text : List Pair → List ℕ
cookies_text cookies = join_by pair_text space cookies

-- the same, where the cookies can be read
abbrev pub printed_cookies : CookiesSaid → Result (List ℕ) CookieParseError
printed_cookies (Ok cookies) = Ok (cookies_text cookies)
printed_cookies (Err error) = Err error

-- a line without the newline at its end, if it has one
abbrev pub without_newline : List ℕ → List ℕ
without_newline line =
    if ends_with_byte 10 line then take (length line - 1) line else line

-- the lines without their newlines, with vertical bars between
abbrev pub lines_text : List (List ℕ) → List ℕ
lines_text lines = join_by without_newline bar lines

-- the media types that are accepted, the most wanted first
abbrev pub accept_text : Header Accept → List ℕ
accept_text header =
    comma_joined media_type_text (map (λ x. x.item) (ranked_by media_rank header.0.0))
