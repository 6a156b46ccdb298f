-- Each message of a connection has one reply of the site: its body comes at the first poll.
use Rattle.std.proofs.Common.{◌≡◌, ℕ, zero, suc, ◌<◌, arith, refl}
use Rattle.std.specs.Prelude.{List, [], ◌∷◌, Option, None, Some, Result, Ok, Err, Bool, true, false}
use Rattle.std.specs.Prelude.{cond, length, nat_lt}
use Rattle.std.specs.Option.{option_map}
use Rattle.http_header.specs.FieldValue.{FieldValue}
use Rattle.http_header.specs.HeaderMap.{Entries}
use Rattle.web_texts.specs.Pairs.{Pair}
use Rattle.web_request.specs.Body.{piece_bytes, whole}
use Rattle.web_request.specs.Feed.{Feed}
use Rattle.web_request.specs.Head.{head_path}
use Rattle.web_request.specs.Pool.{Pool}
use Rattle.web_request.specs.Reading.{reading, reading_at}
use Rattle.web_request.specs.Request.{Request}
use Rattle.web_request.specs.declared.source.Mark.TheVariants.{Piece}
use Rattle.web_body.specs.HeadTests.{refusal_by}
use Rattle.web_body.specs.PayloadSettings.{default_payload_settings}
use Rattle.web_reply.specs.ResponseBodies.{whole_plain}
use Rattle.web_reply.specs.Replies.{Fault, error_reply}
use Rattle.web_reply.specs.Responders.{text_reply}
use Rattle.web_reply.specs.declared.body.WholeBody.{WholeBody}
use Rattle.web_reply.specs.declared.body.WholeBody.TheVariants as body
use Rattle.web_extract.specs.BodyArguments.{collected_result, payload_fault}
use Rattle.web_extract.specs.BodyArguments.{read_result, unless_refused}
use Rattle.web_extract.specs.ListResults.{DelayedResult, greatest, list2}
use Rattle.web_extract.specs.StringArgument.{string_refusal}
use Rattle.web_messages.specs.declared.message.Message.{Message}
use Rattle.web_worker.specs.AnsweredExchanges.{reply_or_error}
use Rattle.web_worker.specs.Exchanges.{request_of}
use Rattle.web_http1.specs.Answers.{Answer, IsAnswerTo, StatesMarks}
use Rattle.web_http1.specs.MessageExchanges.{exchange_of}
use Rattle.web_routing.specs.RoutedPaths.{RoutedTo, RoutedTo.ToMethods, RoutedTo.ToOther}
use Rattle.web_routing.specs.RoutedPaths.{RoutedTo.ToRoute}
use Rattle.example_items.specs.ItemConnections.{item_setting}
use Rattle.example_items.specs.ItemReplies.{item_id, item_note, item_text, note_text}
use Rattle.example_items.specs.ItemSites.{item_reply, item_route, reply_to, route_reply}

-- ---- no poll waits for a body in memory

read_none : (over : Bool) → (reading_at (cond over (Some []) None) []).delay ≡ 0
read_none true = refl
read_none false = refl

read_piece : (before after : Bool) (b : List ℕ)
    → (reading_at (cond before (Some []) (cond after (Some (Piece b ∷ [])) None))
    (Piece b ∷ [])).delay ≡ 0
read_piece true after b = refl
read_piece false true b = refl
read_piece false false b = refl

reading_whole : (limit : ℕ) (b : List ℕ) → (reading limit (whole b)).delay ≡ 0
unfolding reading
reading_whole limit [] = read_none (nat_lt limit 0)
reading_whole limit (x ∷ xs) =
    read_piece (nat_lt limit 0) (nat_lt limit (length (piece_bytes (Piece (x ∷ xs) ∷ [])))) (x ∷ xs)

unless_now : {T : Type 0} (refusal : Option Fault) (r : DelayedResult T) → r.delay ≡ 0
    → (unless_refused refusal r).delay ≡ 0
unless_now None r h = h
unless_now (Some e) r h = refl

note_now : (headers : Entries FieldValue) (b : List ℕ) → (item_note headers (whole b)).delay ≡ 0
note_now headers b =
    let limit = default_payload_settings.limit in
    unless_now (string_refusal default_payload_settings headers)
    (collected_result limit headers (whole b))
    (unless_now (option_map payload_fault (refusal_by headers limit))
    (read_result (reading limit (whole b)))
    (reading_whole limit b))

both_now : (d : ℕ) → d ≡ 0 → greatest (0 ∷ d ∷ []) ≡ 0
both_now d e = rw e refl

route_now : (n : ℕ) (params : List Pair) (headers : Entries FieldValue) (b : List ℕ)
    → (route_reply n params headers (whole b)).delay ≡ 0
route_now zero params headers b = refl
route_now (suc zero) params headers b = refl
route_now (suc (suc n)) params headers b = both_now _ (note_now headers b)

reply_soon : {L D C : Type 0} (to : RoutedTo) (q : Request L D C) (b : List ℕ)
    → (reply_to to q (whole b)).delay ≡ 0
reply_soon (ToRoute n params) q b = route_now n params q.head.headers b
reply_soon (ToMethods rs) q b = refl
reply_soon ToOther q b = refl

-- ---- no reply has a stream

whole_states : (w : WholeBody) → StatesMarks (whole_plain w)
whole_states body.Empty = tt
whole_states (body.Bytes b) = tt

result_states : {V : Type 0} (text : V → List ℕ) (x : Result V Fault)
    → StatesMarks (reply_or_error (λ v. text_reply (text v)) x).body
result_states text (Ok v) = tt
result_states text (Err e) = whole_states (error_reply e).body

route_states : (n : ℕ) (params : List Pair) (headers : Entries FieldValue) (b : List ℕ)
    → StatesMarks (route_reply n params headers (whole b)).reply.body
route_states zero params headers b = tt
route_states (suc zero) params headers b = result_states item_text (item_id params).result
route_states (suc (suc n)) params headers b =
    result_states note_text (list2 (item_id params) (item_note headers (whole b))).result

reply_states : {L D C : Type 0} (to : RoutedTo) (q : Request L D C) (b : List ℕ)
    → StatesMarks (reply_to to q (whole b)).reply.body
reply_states (ToRoute n params) q b = route_states n params q.head.headers b
reply_states (ToMethods rs) q b = tt
reply_states ToOther q b = tt

-- ---- each message has one reply

soon_at : (d : ℕ) → d ≡ 0 → d < 18446744073709551615
soon_at d e = omega (arith, e)

pub each_answered : {S L D C : Type 0} (feed : S → Feed) (pool : Pool L) (m : Message)
    → (x : Answer) × (x.message ≡ m) × IsAnswerTo (item_setting {D = D} {C = C} feed pool) x
each_answered {S} {L} {D} {C} feed pool m =
    let q = request_of pool (exchange_of {S = S} {L = L} {D = D} {C = C} m) in
    let to = item_route q.head.method (head_path q.head) in
    let is = item_reply q (whole m.body) in
    let now = reply_soon to q m.body in (
      record { message = m; delay = is.delay; reply = is.reply },
      refl,
      record {
        once = record { once = λ k p g. g; comes = λ n h. h };
        soon = soon_at _ now;
        states = reply_states to q m.body;
      },
    )
