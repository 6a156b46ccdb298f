-- From what extractors allow to the one reply of a route.
use Rattle.std.proofs.Common.{◌≡◌, ℕ, ◌+◌, arith, subst, refl}
use Rattle.std.specs.Prelude.{List, [], ◌∷◌, Option, None, Some, Result, Ok, Err}
use Rattle.http_header.specs.FieldValue.{FieldValue}
use Rattle.http_header.specs.HeaderMap.{Entries}
use Rattle.web_texts.specs.Pairs.{Pair}
use Rattle.web_codec.specs.declared.faults.ReadFault.{ReadFault}
use Rattle.web_request.specs.declared.app.NoData.{NoData as Nothing}
use Rattle.web_request.specs.declared.source.Mark.{Mark}
use Rattle.web_request.specs.Head.{Head}
use Rattle.web_request.specs.Nearest.{nearest}
use Rattle.web_body.specs.DecoderSettings.{HandlerSettings}
use Rattle.web_body.specs.PayloadSettings.{PayloadSettings, default_payload_settings}
use Rattle.web_body.specs.declared.errors.path_error.PathError.{PathError}
use Rattle.web_body.specs.declared.errors.path_error.PathError.TheVariants as path
use Rattle.web_reply.specs.ResponseBodies.{Plain, whole_plain}
use Rattle.web_reply.specs.Replies.{Fault, Reply, error_reply, plain_reply}
use Rattle.web_reply.specs.Responders.{text_reply}
use Rattle.web_extract.specs.Extracts.{AllowsOnly}
use Rattle.web_extract.specs.LayerConfigurations.{Configurations, holds_nothing, path_settings}
use Rattle.web_extract.specs.LayerConfigurations.{payload_settings}
use Rattle.web_extract.specs.ListMeanings.{Meaning}
use Rattle.web_extract.specs.ListResults.{DelayedResult, Exactly, list2}
use Rattle.web_extract.specs.Refusals.{Handler, path_fault}
use Rattle.web_extract.specs.SeenResults.{SeenAs}
use Rattle.web_extract.specs.StringArgument.{string_result}
use Rattle.web_extract.specs.declared.config.refuse.NoHandler.{NoHandler}
use Rattle.web_extract.specs.declared.config.refuse.NoType.{NoType}
use Rattle.web_extract_head.specs.PathArgument.{PathRefused}
use Rattle.web_worker.specs.AnsweredExchanges.{reply_or_error}
use Rattle.web_worker.specs.ServicePromises.{Once, Promise}
use Rattle.web_worker.proofs.ExchangeLawLemmas.{seen_itself}
use Rattle.example_items.specs.ItemReplies.{DelayedReply, RepliesOnce, item_id, note_reply}
use Rattle.example_items.specs.ItemReplies.{note_text, reply_after}

-- what is allowed exactly is seen as itself, for all marks
pub seen_each : {T : Type 0} (M : Meaning T) (v : DelayedResult T)
    → ((m : List Mark) → Exactly M m m v) → (m : List Mark) → SeenAs (λ x. x) M m m v
seen_each M v exact m = seen_itself M m m v (exact m)

-- Of what comes, seen as one result: the reply to its value, or to the error in its place. All is
-- said for all marks, so that what comes is found by those of the hypotheses.
module _ {W T V : Type 0} (p : List Mark → Promise W) (view : T → V) (M : Meaning T)
    (rest : List Mark → List Mark) (reply : V → Reply Plain)
    (value : (m : List Mark) (d : ℕ) (u : V)
    → SeenAs view M m (rest m) (record { delay = d; result = Ok u })
    → Once (p m) (d + 0) (reply u))
    (refusal : (m : List Mark) (d : ℕ) (f : Fault)
    → SeenAs view M m (rest m) (record { delay = d; result = Err f })
    → Once (p m) d (plain_reply whole_plain (error_reply f))) where
  by_parts : (m : List Mark) (d : ℕ) (x : Result V Fault)
      → SeenAs view M m (rest m) (record { delay = d; result = x })
      → Once (p m) d (reply_or_error reply x)
  by_parts m d (Ok u) seen =
      let at : d + 0 ≡ d = omega arith in
      subst (λ (n : ℕ). Once (p m) n (reply u)) at (value m d u seen)
  by_parts m d (Err f) seen = refusal m d f seen

  pub by_result : (v : List Mark → DelayedResult V)
      → ((m : List Mark) → SeenAs view M m (rest m) (v m))
      → (m : List Mark) → RepliesOnce (p m) (reply_after reply (v m))
  by_result v seen m = by_parts m (v m).delay (v m).result (seen m)

nearest_nothing : {L X : Type 0} (layers : List L) → nearest {T = X} (λ l. None) layers ≡ None
nearest_nothing [] = refl
nearest_nothing {L} {X} (l ∷ layers) = rw (nearest_nothing {L = L} {X = X} layers) refl

-- a layer without configurations
abbrev pub nothing_held : Nothing
    → Configurations NoHandler NoHandler NoHandler NoHandler NoType
nothing_held l = holds_nothing

-- where no layer has a configuration, that of bodies is the default
pub default_settings : (layers : List Nothing)
    → payload_settings nothing_held layers ≡ default_payload_settings
default_settings layers =
    let none = nearest_nothing {L = Nothing} {X = PayloadSettings} layers in rw none refl

-- and refusals of paths have no handler
pub no_path_handler : (layers : List Nothing)
    → (path_settings nothing_held layers).handler ≡ None
no_path_handler layers =
    let none = nearest_nothing {L = Nothing} {X = HandlerSettings NoHandler} layers in
    rw none refl

-- the error of a refused path where there is no handler
pub refused_alone : {H : Type 0} (refuses : Handler H PathError) (handler : Option H)
    → handler ≡ None → (head : Head) (e : ReadFault)
    → AllowsOnly (PathRefused refuses handler head e) (path_fault (path.Deserialize e))
refused_alone refuses None is head e = (refl, λ x h. h)
refused_alone refuses (Some h) is head e = absurd cc

-- the reply to a number and a text, where this is the configuration of bodies
abbrev pub noted : PayloadSettings → List Pair → Entries FieldValue → List Mark → DelayedReply
noted settings params headers m =
    reply_after (λ v. text_reply (note_text v))
    (list2 (item_id params) (string_result settings headers m))

pub note_by_default : {W : Type 0} (p : List Mark → Promise W) (s : PayloadSettings)
    → s ≡ default_payload_settings → (params : List Pair) (headers : Entries FieldValue)
    → ((m : List Mark) → RepliesOnce (p m) (noted s params headers m))
    → (m : List Mark) → RepliesOnce (p m) (note_reply params headers m)
note_by_default p s is params headers once m =
    subst (λ (t : PayloadSettings). RepliesOnce (p m) (noted t params headers m)) is (once m)
