-- Replies of refusals, by settings and with none.
use Rattle.std.proofs.Common.{◌≡◌, ℕ, inl, inr, Bool, true, false, List, [], ◌++◌, Option, None, Some, refl, sym, ap, ◌∙◌, subst, append-nil}
use Rattle.std.specs.Prelude.{MatchOption, if◌then◌else◌, option_map, unwrap_or}
use Rattle.http_header.specs.FieldValue.{FieldValue}
use Rattle.web_reply.specs.Replies.{Reply}
use Rattle.web_reply.specs.ResponseHeads.{new_head}
use Rattle.web_reply.specs.declared.head.ResponseHead.{ResponseHead}
use Rattle.web_messages.specs.NextMessage.{IsNext}
use Rattle.web_messages.specs.declared.limits.HeadFault.TheVariants as fault
use Rattle.web_messages.specs.declared.limits.LengthFault.TheVariants as coding
use Rattle.web_messages.specs.declared.limits.Limits.{Limits}
use Rattle.web_messages.specs.declared.limits.Wrong.{Wrong}
use Rattle.web_messages.specs.declared.limits.Wrong.TheVariants as wrong
use Rattle.web_messages.specs.declared.message.Next.TheVariants as next
use Rattle.web_http1.specs.declared.due_body.BodyFraming.TheVariants.{Length}
use Rattle.web_http1.specs.declared.ended.Ended.{Ended}
use Rattle.web_http1.specs.declared.ended.Ended.TheVariants as ended
use Rattle.web_http1.specs.declared.settings.ReplySettings.{ReplySettings}
use Rattle.web_http1.specs.Answers.{refusal_bytes, refusal_status}
use Rattle.web_http1.specs.BegunReplies.{AddsNothing}
use Rattle.web_http1.specs.Connections.{ConnectionView, Finishes, FinishesWith}
use Rattle.web_http1.specs.ConnectionSteps.{RefusedWith}
use Rattle.web_http1.specs.RefusalReplies.{FinishesAs, FinishesWhere, RefusesAs, closing_text, own_reply, refusal_text}
use Rattle.web_http1.specs.ReplyBytes.{Sent, has_no_body, head_bytes, sent_bytes}
use Rattle.web_http1.proofs.BegunLemmas.{no_date}

-- ---- with no settings

abbrev empty : ℕ → Sent
empty status = record { head = new_head status; content = []; closes = true }

closing_so : (status : ℕ) → has_no_body false status ≡ false → closing_text None (new_head status) [] ≡ sent_bytes false (empty status)
closing_so status is =
    ap (λ (t : List ℕ). t ++ []) (no_date (new_head status) (Some (Length 0)) false true 0 refl)
    ∙ sym (ap (λ (b : Bool). head_bytes b (empty status) ++ (if b then [] else [])) is)

has_body : (w : Wrong) → has_no_body false (refusal_status w) ≡ false
has_body (wrong.Head fault.Target) = refl
has_body (wrong.Head fault.Version) = refl
has_body (wrong.Head fault.Fields) = refl
has_body (wrong.Head fault.Malformed) = refl
has_body (wrong.Length coding.Coding) = refl
has_body (wrong.Length coding.Malformed) = refl
has_body wrong.TooLarge = refl
has_body wrong.Chunk = refl
has_body wrong.Cut = refl

text_so : (settings : ReplySettings) → AddsNothing settings → (w : Wrong) → refusal_text settings (refusal_status w) ≡ refusal_bytes w
text_so settings off w =
    let status = refusal_status w in
    ap (λ own. unwrap_or (option_map (λ r. closing_text settings.date r.head r.body) (own_reply own status)) (closing_text settings.date (new_head status) [])) off.refusals
    ∙ ap (λ (d : Option FieldValue). closing_text d (new_head status) []) off.date
    ∙ closing_so status (has_body w)

pub as_refused : (settings : ReplySettings) → AddsNothing settings → (w : Wrong) (end : Ended) (before behind : List ℕ) → RefusesAs settings w end before behind
    → RefusedWith w end before behind
as_refused settings off w ended.Closed before behind h = absurd h
as_refused settings off w (ended.Refused v) before behind h = (h.0, h.1 ∙ ap (λ (t : List ℕ). before ++ t) (text_so settings off w))
as_refused settings off w ended.SourceFault before behind h = absurd h
as_refused settings off w ended.NoMemory before behind h = h

-- ---- at the end of the bytes

pub refused_last : (settings : ReplySettings) (limits : Limits) (rest : List ℕ) (w : Wrong) (end : Ended) (before behind : List ℕ) → IsNext limits rest (next.Refused w)
    → RefusesAs settings w end before behind → FinishesAs settings limits rest end before behind
refused_last settings limits rest w ended.Closed before behind is h = absurd h
refused_last settings limits rest w (ended.Refused v) before behind is h = (
  subst (λ (u : Wrong). IsNext limits rest (next.Refused u)) (sym h.0) is,
  h.1 ∙ ap (λ (u : Wrong). before ++ refusal_text settings (refusal_status u)) (sym h.0),
)
refused_last settings limits rest w ended.SourceFault before behind is h = absurd h
refused_last settings limits rest w ended.NoMemory before behind is h = h

finishes_so : (settings : ReplySettings) → AddsNothing settings → (limits : Limits) (rest : List ℕ) (end : Ended) (before behind : List ℕ)
    → FinishesAs settings limits rest end before behind → FinishesWith limits rest end before behind
finishes_so settings off limits rest ended.Closed before behind h = inl ([], h.1 ∙ sym (append-nil before), (h.0, refl))
finishes_so settings off limits rest (ended.Refused w) before behind h =
    inl (refusal_bytes w, h.1 ∙ ap (λ (t : List ℕ). before ++ t) (text_so settings off w), (h.0, refl))
finishes_so settings off limits rest ended.SourceFault before behind h = absurd h
finishes_so settings off limits rest ended.NoMemory before behind h = inr (refl, h)

pub as_finishes : (settings : ReplySettings) → AddsNothing settings → (c : ConnectionView) (end : Ended) (before behind : List ℕ) → FinishesWhere settings c end before behind
    → Finishes c end before behind
as_finishes settings off c end before behind h = of c.ended h
  where
    of : (o : Option Ended) → MatchOption o (FinishesAs settings c.limits c.left end before behind) (λ e. (end ≡ e) × (behind ≡ before))
        → MatchOption o (FinishesWith c.limits c.left end before behind) (λ e. (end ≡ e) × (behind ≡ before))
    of None k = finishes_so settings off c.limits c.left end before behind k
    of (Some e) k = k

pub unended_as : (settings : ReplySettings) (c : ConnectionView) (end : Ended) (before behind : List ℕ) → c.ended ≡ None → FinishesAs settings c.limits c.left end before behind
    → FinishesWhere settings c end before behind
unended_as settings c end before behind is h = of c.ended is
  where
    of : (o : Option Ended) → o ≡ None → MatchOption o (FinishesAs settings c.limits c.left end before behind) (λ e. (end ≡ e) × (behind ≡ before))
    of None e = h
    of (Some x) e = absurd (cc)

-- the same with no settings
pub unended_finishes : (settings : ReplySettings) (c : ConnectionView) (end : Ended) (before behind : List ℕ) → c.ended ≡ None → FinishesAs settings c.limits c.left end before behind
    → AddsNothing settings → Finishes c end before behind
unended_finishes settings c end before behind is h off = as_finishes settings off c end before behind (unended_as settings c end before behind is h)

-- ---- which reply

pub own_text : (settings : ReplySettings) (status : ℕ) (r : Reply (List ℕ)) (head : ResponseHead) (body : List ℕ) → Some r ≡ own_reply settings.refusals status → head ≡ r.head
    → body ≡ r.body → refusal_text settings status ≡ closing_text settings.date head body
own_text settings status r head body own h b =
    ap (λ (o : Option (Reply (List ℕ))). unwrap_or (option_map (λ r. closing_text settings.date r.head r.body) o) (closing_text settings.date (new_head status) [])) (sym own)
    ∙ ap (λ (x : ResponseHead). closing_text settings.date x r.body) (sym h) ∙ ap (λ (x : List ℕ). closing_text settings.date head x) (sym b)

pub empty_text : (settings : ReplySettings) (status : ℕ) (head : ResponseHead) (body : List ℕ) → None ≡ own_reply settings.refusals status → head ≡ new_head status → body ≡ []
    → refusal_text settings status ≡ closing_text settings.date head body
empty_text settings status head body own h b =
    ap (λ (o : Option (Reply (List ℕ))). unwrap_or (option_map (λ r. closing_text settings.date r.head r.body) o) (closing_text settings.date (new_head status) [])) (sym own)
    ∙ ap (λ (x : ResponseHead). closing_text settings.date x []) (sym h) ∙ ap (λ (x : List ℕ). closing_text settings.date head x) (sym b)
