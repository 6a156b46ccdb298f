-- The handler that takes the body and the rest after it.
use Rattle.std.proofs.Common.{◌≡◌, ℕ, ◌<◌, List, [], arith, refl, sym, ap, ◌∙◌}
use Rattle.std.specs.Prelude.{Option, None, Some, Result, Ok, Err, false, max, nat_lt, slice_index_or}
use Rattle.std.specs.Option.{option_map}
use Rattle.std.specs.List.{All}
use Rattle.std.specs.Result.{result_ok}
use Rattle.std.proofs.lemmas.Bool.{le-ltb}
use Rattle.web_request.specs.declared.source.Mark.{Mark}
use Rattle.web_request.specs.Feed.{Feed}
use Rattle.web_request.specs.Pool.{Pool}
use Rattle.web_request.specs.Request.{Request}
use Rattle.http_header.specs.FieldValue.{FieldValue}
use Rattle.http_header.specs.HeaderMap.{Entries}
use Rattle.web_request.specs.Reading.{Whole, reading}
use Rattle.web_body.specs.HeadTests.{refusal_by}
use Rattle.web_body.specs.Payload.{payload_feed}
use Rattle.web_body.specs.PayloadSettings.{PayloadSettings}
use Rattle.web_body.specs.declared.message_body.PayloadError.{PayloadError}
use Rattle.web_reply.specs.ResponseBodies.{Plain, whole_plain}
use Rattle.web_reply.specs.Replies.{Fault, Reply, error_reply, plain_reply}
use Rattle.web_reply.specs.Responders.{bytes_reply}
use Rattle.web_extract.specs.BodyArguments.{body_result, payload_fault, read_result}
use Rattle.web_extract.specs.BodyArguments.{rest_after, type_refusal, unless_refused}
use Rattle.web_extract.specs.BytesArgument.{MeansBytes, bytes_result}
use Rattle.web_extract.specs.CollectedResults.{collected2}
use Rattle.web_extract.specs.LayerConfigurations.{Configurations, payload_settings}
use Rattle.web_extract.specs.ListMeanings.{Means2, Member}
use Rattle.web_extract.specs.OptionArgument.{GivesOption, as_option}
use Rattle.web_extract.specs.declared.never.Never.{Never}
use Rattle.web_worker.specs.AnsweredExchanges.{StatesMarks, marks_or_none, reply_or_error}
use Rattle.web_worker.specs.ExchangeRules.{ComesBefore, Replies, RepliesBefore, Rules}
use Rattle.web_worker.specs.PlanCalls.{ArgumentsOnce}
use Rattle.web_worker.specs.Exchanges.{ExchangeView}
use Rattle.web_worker.specs.declared.handler_service.Work.{Work}
use Rattle.web_worker.specs.HandlerServices.{Come, Means, handler_setting, request_promise}
use Rattle.web_worker.specs.HandlerServices.{rules_of}
use Rattle.web_worker.specs.ServicePromises.{Once}
use Rattle.web_worker.specs.Setting.{Setting}
use Rattle.web_extract.specs.ListResults.{DelayedResult}
use Rattle.web_worker.proofs.ExchangeLawLemmas.{marks_stated}
use Rattle.example_handlers.specs.Examples.{body_and_rest, with_rest}

-- the body of a request as an argument
abbrev pub body_in : {L D C J F P Q T : Type 0} → (L → Configurations J F P Q T) → Request L D C
    → List Mark → DelayedResult (List ℕ)
body_in of_layer q m = bytes_result (payload_settings of_layer q.layers) q.head.headers m

abbrev Arguments : Type 0
Arguments = List ℕ × Option (List ℕ)

-- what the arguments come as: the body and nothing after it, or the refusal of the body
abbrev pub AsArguments : Result (List ℕ) Fault → Result Arguments Fault → Type 0
AsArguments (Ok b) x = x ≡ Ok (b, Some [])
AsArguments (Err e) x = x ≡ Err e

not_below_zero : (limit : ℕ) → nat_lt limit 0 ≡ false
not_below_zero limit = le-ltb limit 0 (omega arith)

nothing : (limit : ℕ) → reading limit [] ≡ record { content = Whole []; delay = 0 }
nothing limit = unfold reading in rw (not_below_zero limit) refl

-- nothing is read at once where the body was not refused
abbrev NothingBehind : Option Fault → ℕ → Entries FieldValue → Type 0
NothingBehind refusal limit headers =
    ((body_result refusal limit headers []).delay ≡ 0) × ((body_result refusal limit headers []).result ≡ Ok [])

collected_behind : (r : Option PayloadError) (limit : ℕ) (m : List Mark) (b : List ℕ)
    → Ok b ≡ (unless_refused (option_map payload_fault r) (read_result (reading limit m))).result
    → ((unless_refused (option_map payload_fault r) (read_result (reading limit []))).delay ≡ 0)
    × ((unless_refused (option_map payload_fault r) (read_result (reading limit []))).result ≡ Ok [])
collected_behind None limit m b is =
    (ap (λ r. (read_result r).delay) (nothing limit), ap (λ r. (read_result r).result) (nothing limit))
collected_behind (Some e) limit m b is = absurd cc

behind : (refusal : Option Fault) (limit : ℕ) (headers : Entries FieldValue) (m : List Mark) (b : List ℕ)
    → Ok b ≡ (body_result refusal limit headers m).result
    → (rest_after refusal m ≡ []) × NothingBehind refusal limit headers
behind None limit headers m b is = (refl, collected_behind (refusal_by headers limit) limit m b is)
behind (Some e) limit headers m b is = absurd cc

collected_delay : (r : Option PayloadError) (limit : ℕ)
    → (unless_refused (option_map payload_fault r) (read_result (reading limit []))).delay ≡ 0
collected_delay None limit = ap (λ r. (read_result r).delay) (nothing limit)
collected_delay (Some e) limit = refl

-- what is left of a body comes at once
delay_behind : (refusal : Option Fault) (limit : ℕ) (headers : Entries FieldValue) (m : List Mark)
    → (body_result refusal limit headers (rest_after refusal m)).delay ≡ 0
delay_behind None limit headers m = collected_delay (refusal_by headers limit) limit
delay_behind (Some e) limit headers m = refl

ok_same : {T E : Type 0} {a b : T} → ◌≡◌ {A = Result T E} (Ok a) (Ok b) → a ≡ b
ok_same e = cc

pub some_same : {T : Type 0} {a b : T} → Some a ≡ Some b → a ≡ b
some_same e = cc

value_reply : (b : Result (List ℕ) Fault) (v : Arguments) → AsArguments b (Ok v)
    → reply_or_error bytes_reply b ≡ bytes_reply v.0
value_reply (Ok c) v e = sym (ap (λ (a : Arguments). bytes_reply a.0) (ok_same e))
value_reply (Err x) v e = absurd cc

refusal_reply : (b : Result (List ℕ) Fault) (f : Fault) → AsArguments b (Err f)
    → reply_or_error bytes_reply b ≡ plain_reply whole_plain (error_reply f)
refusal_reply (Ok c) f e = absurd cc
refusal_reply (Err x) f e =
    let same : f ≡ x = cc in
    ap (λ g. plain_reply whole_plain (error_reply g)) (sym same)

value_of : (b : Result (List ℕ) Fault) (z : Result Arguments Fault) → AsArguments b z
    → result_ok z ≡ with_rest b
value_of (Ok c) z e = ap result_ok e
value_of (Err x) z e = ap result_ok e

never_refused : {T E : Type 0} (y : Result T E) (e : Never) → Err e ≡ as_option y → ⊥
never_refused (Ok v) e is = cc
never_refused (Err x) e is = cc

module _ (converts : Fault → Fault → Type 0)
    (turns : (e : Fault) (f : Fault) → converts e f → f ≡ e)
    (never : Never → Fault → Type 0) where
  module _ (settings : PayloadSettings) (headers : Entries FieldValue) where
    abbrev pub ListMeans : List Mark → List Mark → ℕ → Result Arguments Fault → Type 0
    ListMeans m rest n x =
        Means2 (Member converts (λ m rest n x. MeansBytes settings headers m rest n x))
        (Member never (λ m rest n x. GivesOption (λ n y. MeansBytes settings headers m rest n y) n x)) m rest n x

    abbrev body : List Mark → Result (List ℕ) Fault
    body m = (bytes_result settings headers m).result

    value : (m rest left : List Mark) (n1 n2 : ℕ) (b : List ℕ) (o : Option (List ℕ))
        → MeansBytes settings headers m left n1 (Ok b) → GivesOption (λ n y. MeansBytes settings headers left rest n y) n2 (Ok o)
        → (max n1 n2 ≡ (bytes_result settings headers m).delay) × AsArguments (body m) (Ok (b, o))
    value m rest left n1 n2 b o (taken, delay, is) (y, (none, later, given), some) =
        let after = behind (type_refusal settings.required_type headers) settings.limit headers m b is in
        let empty : left ≡ [] = taken ∙ after.0 in
        let now : n2 ≡ 0 = later ∙ ap (λ l. (bytes_result settings headers l).delay) empty ∙ after.1.0 in
        let got : y ≡ Ok [] = given ∙ ap (λ l. (bytes_result settings headers l).result) empty ∙ after.1.1 in
        let nothing_behind : o ≡ Some [] = ok_same (some ∙ ap as_option got) in
        (omega (arith, now, delay), rw (← is) (ap (λ z. Ok (b, z)) nothing_behind))

    listed_as : (m rest left : List Mark) (n : ℕ) (x : Result Arguments Fault)
        → (n1 : ℕ) (x1 : Result (List ℕ) Fault) → Member converts (λ m rest n x. MeansBytes settings headers m rest n x) m left n1 x1
        → (n2 : ℕ) (x2 : Result (Option (List ℕ)) Fault)
        → Member never (λ m rest n x. GivesOption (λ n y. MeansBytes settings headers m rest n y) n x) left rest n2 x2
        → n ≡ max n1 n2 → x ≡ collected2 x1 x2
        → (n ≡ (bytes_result settings headers m).delay) × AsArguments (body m) x
    listed_as m rest left n x n1 (Ok b) first n2 (Ok o) second at is =
        let h = value m rest left n1 n2 b o first second in
        (at ∙ h.0, rw is h.1)
    listed_as m rest left n x n1 (Err f) (e, (taken, delay, fault), to) n2 (Ok o) (y, (none, later, given), some) at is =
        let now : n2 ≡ 0 = later ∙ ap (λ l. (bytes_result settings headers l).delay) taken ∙ delay_behind (type_refusal settings.required_type headers) settings.limit headers m in
        (omega (arith, at, delay, now), rw (is, ← fault) (ap Err (turns e f to)))
    listed_as m rest left n x n1 (Ok b) first n2 (Err g) (e, (y, given, none), to) at is = absurd (never_refused y e none)
    listed_as m rest left n x n1 (Err f) first n2 (Err g) (e, (y, given, none), to) at is = absurd (never_refused y e none)

    pub list_once : (m rest : List Mark) (n : ℕ) (x : Result Arguments Fault) → ListMeans m rest n x
        → (n ≡ (bytes_result settings headers m).delay) × AsArguments (body m) x
    list_once m rest n x (left, j) =
        listed_as m rest left n x j.n1 j.x1 j.first_gives j.n2 j.x2 j.second_gives j.delay j.result

  -- where each result has this delay and this value, so has what is seen of them
  come_once : {V E : Type 0} (d : ℕ) (y : Option V) (gives : ℕ → Result V E → Type 0)
      → ((k : ℕ) (z : Result V E) → gives k z → (k ≡ d) × (result_ok z ≡ y))
      → (k : ℕ) (z : Option V) → Come gives k z → (k ≡ d) × (z ≡ y)
  come_once d y gives each k (Some v) a = each k (Ok v) a
  come_once d y gives each k None a = each k (Err a.0) a.1

  module _ {S L D C U W J F P Q T : Type 0} (of_layer : L → Configurations J F P Q T)
      (same : Fault → Fault → Type 0)
      (is_same : (e f : Fault) → same e f → f ≡ e) (feed : S → Feed)
      (arguments : U → ℕ → Result Arguments Fault → Type 0)
      (handling : W → ℕ → List ℕ → Type 0) (pool : Pool L) where
    abbrev pub listing_rules : Rules L D C Arguments Fault (List ℕ)
    listing_rules = rules_of (λ q m rest n x. ListMeans (payload_settings of_layer q.layers) q.head.headers m rest n x) same
        (λ args n y. (n ≡ 0) × (y ≡ args.0)) (λ b q r. r ≡ bytes_reply b)

    abbrev pub listing : Setting S L D C Arguments (Work U W)
    listing = handler_setting (λ q m rest n x. ListMeans (payload_settings of_layer q.layers) q.head.headers m rest n x) same
        (λ args n y. (n ≡ 0) × (y ≡ args.0)) (λ b q r. r ≡ bytes_reply b)
        feed arguments handling pool

    once : (q : Request L D C) (m : List Mark) (k : ℕ) (p : Reply Plain)
        → Replies listing_rules q m k p
        → (k ≡ (body_in of_layer q m).delay) × (p ≡ reply_or_error bytes_reply (body_in of_layer q m).result)
    once q m k p (rest, n, Ok v, means, (j, y, (now, is), response, sum)) =
        let h = list_once (payload_settings of_layer q.layers) q.head.headers m rest n (Ok v) means in
        let delay = h.0 in (
          omega (arith, delay, now, sum),
          response ∙ ap bytes_reply is ∙ sym (value_reply (body_in of_layer q m).result v h.1),
        )
    once q m k p (rest, n, Err e, means, (after, (f, to, response))) =
        let h = list_once (payload_settings of_layer q.layers) q.head.headers m rest n (Err e) means in (
          after ∙ h.0,
          response ∙ ap (λ g. plain_reply whole_plain (error_reply g)) (is_same e f to)
              ∙ sym (refusal_reply (body_in of_layer q m).result e h.1),
        )

    comes_before : (q : Request L D C) (polls n : ℕ) (x : Result Arguments Fault) → n < polls
        → ComesBefore listing_rules polls n x
    comes_before q polls n (Ok v) more =
        (more, λ k y answer. let at = answer.0 in omega (arith, at, more))
    comes_before q polls n (Err e) more = more

    before : (q : Request L D C) (m : List Mark) (polls : ℕ)
        → (body_in of_layer q m).delay < polls → RepliesBefore listing_rules q m polls
    before q m polls more rest n x means =
        let delay = (list_once (payload_settings of_layer q.layers) q.head.headers m rest n x means).0 in
        comes_before q polls n x (omega (arith, delay, more))

    pub listed : (q : Request L D C) (m : List Mark)
        → Once (request_promise listing_rules q m) (body_in of_layer q m).delay
        (reply_or_error bytes_reply (body_in of_layer q m).result)
    listed q m = record { once = once q m; comes = before q m }

    arguments_told : (x : ExchangeView S L D C) (m : List Mark)
        → (payload_feed feed x.body).marks ≡ Some m
        → ArgumentsOnce listing x (body_in of_layer (listing.request x) m).delay (with_rest (body_in of_layer (listing.request x) m).result)
    arguments_told x m told =
        let q = listing.request x in
        rw told (come_once (body_in of_layer q m).delay (with_rest (body_in of_layer q m).result)
        (λ k z. Means listing_rules q m k z) (λ k z means.
        let h = list_once (payload_settings of_layer q.layers) q.head.headers m means.0 k z means.1 in
        (h.0, value_of (body_in of_layer q m).result z h.1)))

    pub each_argued : (xs : List (ExchangeView S L D C)) → All (λ x. StatesMarks feed x) xs
        → All (λ x. ArgumentsOnce listing x (body_and_rest feed of_layer pool x).0 (body_and_rest feed of_layer pool x).1) xs
    each_argued xs told k d l =
        let x = slice_index_or xs k d in
        let marks = (payload_feed feed x.body).marks in
        arguments_told x (marks_or_none marks) (marks_stated marks (told k d l))
