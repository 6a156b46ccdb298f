-- The replies of refusals, by the settings of a server.
use Rattle.std.specs.Prelude.{◌≡◌, ℕ, ◌==◌, true, List, [], ◌++◌, length, MatchOption, Option}
use Rattle.std.specs.Prelude.{None, Some, Vec, option_map, unwrap_or}
use Rattle.std.specs.declared.alloc.Global.{Global}
use Rattle.std.specs.List.{find}
use Rattle.http_header.specs.FieldValue.{FieldValue}
use Rattle.web_reply.specs.Replies.{Reply}
use Rattle.web_reply.specs.ResponseHeads.{new_head}
use Rattle.web_reply.specs.declared.head.ResponseHead.{ResponseHead}
use Rattle.web_messages.specs.NextMessage.{IsNext}
use Rattle.web_messages.specs.declared.limits.Limits.{Limits}
use Rattle.web_messages.specs.declared.limits.Wrong.{Wrong}
use Rattle.web_messages.specs.declared.message.Next.TheVariants as next
use Rattle.web_http1.specs.declared.due_body.BodyFraming.TheVariants as framing
use Rattle.web_http1.specs.declared.ended.Ended.{Ended}
use Rattle.web_http1.specs.declared.ended.Ended.TheVariants as ended
use Rattle.web_http1.specs.declared.settings.ReplySettings.{ReplySettings}
use Rattle.web_http1.specs.Answers.{refusal_status}
use Rattle.web_http1.specs.BegunReplies.{begun_head}
use Rattle.web_http1.specs.Connections.{ConnectionView}

-- a reply of this head and this body, which closes
abbrev pub closing_text : Option FieldValue → ResponseHead → List ℕ → List ℕ
closing_text date head body =
    begun_head date head (Some (framing.Length (length body))) true ++ body

-- the first of these replies that has the status
abbrev pub first_reply : List (Reply (List ℕ)) → ℕ → Option (Reply (List ℕ))
first_reply replies status = find (λ r. r.head.status == status) replies

-- the same, where there are any
abbrev pub own_reply : Option (Vec (Reply (List ℕ)) Global) → ℕ → Option (Reply (List ℕ))
own_reply None status = None
own_reply (Some replies) status = first_reply replies.items status

-- that reply, or where there is none an empty one of the status
abbrev pub refusal_text : ReplySettings → ℕ → List ℕ
refusal_text settings status =
    unwrap_or
    (option_map (λ r. closing_text settings.date r.head r.body)
    (own_reply settings.refusals status))
    (closing_text settings.date (new_head status) [])

-- the reply of the refusal was written, or an allocation failed
abbrev pub RefusesAs : ReplySettings → Wrong → Ended → List ℕ → List ℕ → Type 0
RefusesAs settings w ended.Closed before behind = ⊥
RefusesAs settings w (ended.Refused v) before behind =
    (v ≡ w) × (behind ≡ before ++ refusal_text settings (refusal_status w))
RefusesAs settings w ended.SourceFault before behind = ⊥
RefusesAs settings w ended.NoMemory before behind = behind ≡ before

-- what is due at the end of the bytes was written, or an allocation failed
abbrev pub FinishesAs : ReplySettings → Limits → List ℕ → Ended → List ℕ → List ℕ → Type 0
FinishesAs settings limits rest ended.Closed before behind =
    IsNext limits rest next.Closed × (behind ≡ before)
FinishesAs settings limits rest (ended.Refused w) before behind =
    IsNext limits rest (next.Refused w)
    × (behind ≡ before ++ refusal_text settings (refusal_status w))
FinishesAs settings limits rest ended.SourceFault before behind = ⊥
FinishesAs settings limits rest ended.NoMemory before behind = behind ≡ before

-- one that ended before stays as it is
abbrev pub FinishesWhere : ReplySettings → ConnectionView → Ended → List ℕ → List ℕ → Type 0
FinishesWhere settings c end before behind =
    MatchOption c.ended (FinishesAs settings c.limits c.left end before behind)
    (λ e. (end ≡ e) × (behind ≡ before))
