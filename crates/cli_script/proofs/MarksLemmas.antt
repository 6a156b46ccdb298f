-- The marks that the reader keeps are bodies.
use Rattle.std.proofs.Common.{◌≡◌, ℕ, Bool, true, false, not, List, [], ◌∷◌, ◌++◌, Option, Some, None, refl, sym, ◌∙◌, cond, length, arith}
use Rattle.std.specs.Prelude.{⊤, is_some, nat_lt}
use Rattle.std.specs.Option.{ForSome, option_map, option_or}
use Rattle.std.specs.List.{AllPass}
use Rattle.std.specs.Result.{result_unwrap_or}
use Rattle.std.proofs.lemmas.Bool.Decides.{nat_tests}
use Rattle.std.proofs.lemmas.List.{append-nil}
use Rattle.std.proofs.lemmas.List.Elements.{All-push}
use Rattle.http_header.specs.FieldValue.{FieldValue}
use Rattle.hex.specs.Hex.{decode_of}
use Rattle.web_request.specs.declared.peers.address.SocketAddr.{SocketAddr}
use Rattle.web_request.specs.declared.source.Mark.{Mark}
use Rattle.web_request.specs.declared.source.Mark.TheVariants as mark
use Rattle.web_request.specs.Body.{is_body, ends_in_fault, whole}
use Rattle.web_texts.specs.Pairs.{Pair}
use Rattle.cli_script.specs.ScriptedView.{ScriptedExchangeView}
use Rattle.cli_script.specs.ExchangeSinks.{open_exchanges}
use Rattle.cli_script.specs.Reader.{ReaderView, new_reader, refusal, after_line, completed_by, with_headers, with_layers, with_marks, with_params, with_peer, with_local, with_conn}
use Rattle.cli_script.specs.Numbers.{line_number}
use Rattle.cli_script.specs.Peers.{line_peer}
use Rattle.cli_script.specs.ScriptExchanges.{line_headers, line_layers}
use Rattle.cli_script.specs.declared.layer.LayerSettings.{LayerSettings}
use Rattle.cli_script.specs.declared.reason.LineFault.{LineFault}
use Rattle.cli_script.specs.declared.reason.LineFault.TheVariants as reason
use Rattle.cli_script.specs.declared.line.Word.{Word}
use Rattle.cli_script.specs.declared.line.Word.TheVariants as word
use Rattle.cli_script.proofs.ReaderLemmas.{line}
use Rattle.web_texts.proofs.TestLemmas.{both}

-- more marks after a body that has no fault

pub is_body_more : (m n : List Mark) → is_body m ≡ true → ends_in_fault m ≡ false → is_body n ≡ true → is_body (m ++ n) ≡ true
is_body_more [] n body unfailed more = more
is_body_more (mark.Piece b ∷ m) n body unfailed more =
    let parts = both (nat_lt 0 (length b)) (is_body m) body in
    rw (parts.0, is_body_more m n parts.1 unfailed more) refl
is_body_more (mark.Stall ∷ m) n body unfailed more = is_body_more m n body unfailed more
is_body_more (mark.Fault ∷ []) n body unfailed more = absurd (cc)
is_body_more (mark.Fault ∷ x ∷ m) n body unfailed more = absurd (cc)

pub ends_more : (m n : List Mark) → ends_in_fault m ≡ false → ends_in_fault (m ++ n) ≡ ends_in_fault n
ends_more [] n unfailed = refl
ends_more (mark.Piece b ∷ m) n unfailed = ends_more m n unfailed
ends_more (mark.Stall ∷ m) n unfailed = ends_more m n unfailed
ends_more (mark.Fault ∷ []) n unfailed = absurd (cc)
ends_more (mark.Fault ∷ x ∷ m) n unfailed = ends_more (x ∷ m) n unfailed

whole_is : (text : List ℕ) → (is_body (whole text) ≡ true) × (ends_in_fault (whole text) ≡ false)
whole_is [] = (refl, refl)
whole_is (x ∷ text) = (grind (arith, nat_tests), refl)

-- the marks of the unfailed exchange are a body, which has a fault where the flag says so
abbrev pub IsOpenSound : Option ScriptedExchangeView → Bool → Type 0
IsOpenSound None has_fault = ⊤
IsOpenSound (Some e) has_fault = (is_body e.marks ≡ true) × (ends_in_fault e.marks ≡ has_fault)

pub record IsSound (whole : List ScriptedExchangeView) (s : ReaderView) : Type 0 where
  pub added : AllPass (λ e. is_body e.marks) whole
  pub open_exchange : IsOpenSound s.open_exchange s.has_fault

pub sound_start : IsSound [] new_reader
sound_start = record { added = λ k d small. absurd (omega arith); open_exchange = tt }

marks_sound : (o : Option ScriptedExchangeView) (f g : Bool) (n : List Mark) → f ≡ false → (is_body n ≡ true) × (ends_in_fault n ≡ g) → IsOpenSound o f → IsOpenSound (option_map (with_marks n) o) g
marks_sound None f g n unfailed more sound = tt
marks_sound (Some e) f g n unfailed more sound =
    let ends : ends_in_fault e.marks ≡ false = sound.1 ∙ unfailed in
    (is_body_more e.marks n sound.0 ends more.0, ends_more e.marks n ends ∙ more.1)

params_sound : (o : Option ScriptedExchangeView) (f : Bool) (p : List Pair) → IsOpenSound o f → IsOpenSound (option_map (with_params p) o) f
params_sound None f p sound = tt
params_sound (Some e) f p sound = sound

headers_sound : (o : Option ScriptedExchangeView) (f : Bool) (h : List (List ℕ × FieldValue)) → IsOpenSound o f → IsOpenSound (option_map (with_headers h) o) f
headers_sound None f h sound = tt
headers_sound (Some e) f h sound = sound

layers_sound : (o : Option ScriptedExchangeView) (f : Bool) (l : List LayerSettings) → IsOpenSound o f → IsOpenSound (option_map (with_layers l) o) f
layers_sound None f l sound = tt
layers_sound (Some e) f l sound = sound

peer_sound : (o : Option ScriptedExchangeView) (f : Bool) (address : SocketAddr) → IsOpenSound o f → IsOpenSound (option_map (with_peer address) o) f
peer_sound None f address sound = tt
peer_sound (Some e) f address sound = sound

local_sound : (o : Option ScriptedExchangeView) (f : Bool) (n : ℕ) → IsOpenSound o f → IsOpenSound (option_map (with_local n) o) f
local_sound None f n sound = tt
local_sound (Some e) f n sound = sound

conn_sound : (o : Option ScriptedExchangeView) (f : Bool) (n : ℕ) → IsOpenSound o f → IsOpenSound (option_map (with_conn n) o) f
conn_sound None f n sound = tt
conn_sound (Some e) f n sound = sound

-- the line of a mark is refused where the exchange has a fault
none_failed : (p b f : Bool) (argument : Option LineFault)
    → option_or (cond p (Some reason.LineAfterPlan) (cond (not b) (Some reason.NoExchange) (cond f (Some reason.MarkAfterFault) None))) argument ≡ None → f ≡ false
none_failed true b f argument fine = absurd (cc)
none_failed false false f argument fine = absurd (cc)
none_failed false true true argument fine = absurd (cc)
none_failed false true false argument fine = refl

has_none : (s : ReaderView) (argument : Option LineFault)
    → option_or (cond s.has_plan (Some reason.LineAfterPlan) (cond (not (is_some s.open_exchange)) (Some reason.NoExchange) (cond s.has_fault (Some reason.MarkAfterFault) None))) argument ≡ None
    → s.has_fault ≡ false
has_none s argument fine = none_failed s.has_plan (is_some s.open_exchange) s.has_fault argument fine

whole_sound : (whole : List ScriptedExchangeView) (o : Option ScriptedExchangeView) (f : Bool) → AllPass (λ e. is_body e.marks) whole → IsOpenSound o f → AllPass (λ e. is_body e.marks) (whole ++ open_exchanges o)
whole_sound whole None f all sound = rw (append-nil whole) all
whole_sound whole (Some e) f all sound = All-push (λ (x : ScriptedExchangeView). is_body x.marks ≡ true) whole e all sound.0

pub bodies_read : (whole : List ScriptedExchangeView) (s : ReaderView) → IsSound whole s → AllPass (λ e. is_body e.marks) (whole ++ open_exchanges s.open_exchange)
bodies_read whole s sound = whole_sound whole s.open_exchange s.has_fault sound.added sound.open_exchange

-- the marks of the open exchange are a body
open_is_body : (o : Option ScriptedExchangeView) (f : Bool) → IsOpenSound o f → ForSome o (λ e. is_body e.marks ≡ true)
open_is_body None f sound = λ e is. absurd (cc)
open_is_body (Some x) f sound = λ e is. let same : x ≡ e = cc in rw (← same) sound.0

pub open_body : (whole : List ScriptedExchangeView) (s : ReaderView) → IsSound whole s → ForSome s.open_exchange (λ e. is_body e.marks ≡ true)
open_body whole s sound = open_is_body s.open_exchange s.has_fault sound.open_exchange

open_more : (s : ReaderView) (v : Word) (text : List ℕ) → refusal s (line v text) ≡ None → IsOpenSound s.open_exchange s.has_fault → IsOpenSound (after_line s v text).open_exchange (after_line s v text).has_fault
open_more s word.Exchange text fine sound = (refl, refl)
open_more s word.Header text fine sound = headers_sound s.open_exchange s.has_fault (line_headers word.Header text) sound
open_more s word.Layer text fine sound = layers_sound s.open_exchange s.has_fault (line_layers word.Layer text) sound
open_more s word.Param text fine sound = params_sound s.open_exchange s.has_fault _ sound
open_more s word.Peer text fine sound = peer_sound s.open_exchange s.has_fault (line_peer text) sound
open_more s word.Local text fine sound = local_sound s.open_exchange s.has_fault (line_number text) sound
open_more s word.Conn text fine sound = conn_sound s.open_exchange s.has_fault (line_number text) sound
open_more s word.Text text fine sound =
    marks_sound s.open_exchange s.has_fault s.has_fault _ (has_none s _ fine) ((whole_is text).0, (whole_is text).1 ∙ sym (has_none s _ fine)) sound
open_more s word.Piece text fine sound =
    let piece = whole_is (result_unwrap_or (decode_of text) []) in
    marks_sound s.open_exchange s.has_fault s.has_fault _ (has_none s _ fine) (piece.0, piece.1 ∙ sym (has_none s _ fine)) sound
open_more s word.Stall text fine sound = marks_sound s.open_exchange s.has_fault s.has_fault _ (has_none s _ fine) (refl, sym (has_none s _ fine)) sound
open_more s word.Fault text fine sound = marks_sound s.open_exchange s.has_fault true _ (has_none s _ fine) (refl, refl) sound
open_more s word.Plan text fine sound = sound
open_more s word.Skipped text fine sound = sound
open_more s word.Unknown text fine sound = sound

whole_more : (whole : List ScriptedExchangeView) (s : ReaderView) (v : Word) → IsSound whole s → AllPass (λ e. is_body e.marks) (whole ++ completed_by s v)
whole_more whole s word.Exchange sound = bodies_read whole s sound
whole_more whole s word.Text sound = rw (append-nil whole) sound.added
whole_more whole s word.Piece sound = rw (append-nil whole) sound.added
whole_more whole s word.Stall sound = rw (append-nil whole) sound.added
whole_more whole s word.Fault sound = rw (append-nil whole) sound.added
whole_more whole s word.Peer sound = rw (append-nil whole) sound.added
whole_more whole s word.Local sound = rw (append-nil whole) sound.added
whole_more whole s word.Conn sound = rw (append-nil whole) sound.added
whole_more whole s word.Param sound = rw (append-nil whole) sound.added
whole_more whole s word.Plan sound = rw (append-nil whole) sound.added
whole_more whole s word.Skipped sound = rw (append-nil whole) sound.added
whole_more whole s word.Header sound = rw (append-nil whole) sound.added
whole_more whole s word.Layer sound = rw (append-nil whole) sound.added
whole_more whole s word.Unknown sound = rw (append-nil whole) sound.added

pub sound_more : (whole : List ScriptedExchangeView) (s : ReaderView) (v : Word) (text : List ℕ) → refusal s (line v text) ≡ None → IsSound whole s → IsSound (whole ++ completed_by s v) (after_line s v text)
sound_more whole s v text fine sound = record {
  added = whole_more whole s v sound;
  open_exchange = open_more s v text fine sound.open_exchange;
}
