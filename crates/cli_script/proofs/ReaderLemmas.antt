-- What the reader knows of the lines before, while it goes line by line.
use Rattle.std.proofs.Common.{◌≡◌, ℕ, ◌+◌, Bool, true, false, not, ◌&&◌, ◌||◌, List, [], ◌∷◌, ◌++◌, length, Option, Some, None, cond, refl, ap, sym, ◌∙◌, append_assoc, length-append, subst, arith}
use Rattle.std.specs.Prelude.{is_some, nat_le, bytes_eq}
use Rattle.std.specs.Option.{option_map, option_or}
use Rattle.std.specs.List.{before_first, count_by, flat_map, last_or}
use Rattle.std.proofs.lemmas.List.{append-nil}
use Rattle.std.proofs.lemmas.Grind.{flat_map-append}
use Rattle.std.proofs.lemmas.List.Sums.{fold-append, sum_by-cons}
use Rattle.std.proofs.lemmas.List.Folds.{list_any-append}
use Rattle.http_header.specs.FieldValue.{FieldValue}
use Rattle.http_header.specs.HeaderMap.{Entries, append, append_all, value_count}
use Rattle.cli_script.specs.Line.{Line}
use Rattle.cli_script.specs.ScriptedView.{ScriptedExchangeView}
use Rattle.cli_script.specs.LineKinds.{has, is_mark}
use Rattle.cli_script.specs.LineFaults.{has_line, exchange_lines, place_fault, argument_fault, fault_of, max_headers}
use Rattle.cli_script.specs.Numbers.{line_number}
use Rattle.cli_script.specs.Peers.{line_peer}
use Rattle.cli_script.specs.ScriptExchanges.{line_headers, line_layers, line_marks, line_params, line_peers, line_locals, line_conns, line_entries, plan, exchange_of, exchanges}
use Rattle.cli_script.specs.ExchangeSinks.{open_exchanges}
use Rattle.cli_script.specs.Reader.{ReaderView, header_count, word_fault, reader_fault, refusal, after_line, completed_by, with_headers, with_layers, with_marks, with_params, with_peer, with_local, with_conn}
use Rattle.cli_script.specs.declared.reason.LineFault.{LineFault}
use Rattle.cli_script.specs.declared.reason.LineFault.TheVariants as reason
use Rattle.cli_script.specs.declared.line.Word.{Word}
use Rattle.cli_script.specs.declared.line.Word.TheVariants as word
use Rattle.web_texts.proofs.LastCutLemmas.{or_false, after_last_at, before_first_at, before_first_none}
use Rattle.web_texts.proofs.TestLemmas.{or_true}

abbrev pub line : Word → List ℕ → Line
line w text = record { word = w; argument = text }

-- the open exchange began at `first`, and `rest` has_line since
pub record IsOpen (first : Line) (front rest before : List Line) (whole : List ScriptedExchangeView) (open_exchange : ScriptedExchangeView) (has_fault : Bool) : Type 0 where
  pub before_is : before ≡ front ++ first ∷ rest
  pub begins : has word.Exchange first ≡ true
  pub none_later : has_line word.Exchange rest ≡ false
  pub whole_is : whole ≡ exchanges front
  pub open_is : open_exchange ≡ exchange_of first.argument rest
  pub fault_is : has_fault ≡ has_line word.Fault rest

abbrev pub Keeps : List Line → List ScriptedExchangeView → Option ScriptedExchangeView → Bool → Type 0
Keeps before whole None has_fault = (has_line word.Exchange before ≡ false) × (whole ≡ [])
Keeps before whole (Some open_exchange) has_fault = (first : Line) × (front : List Line) × (rest : List Line) × IsOpen first front rest before whole open_exchange has_fault

-- these lines were read: `whole` are the exchanges before the open one
pub record IsRead (before : List Line) (whole : List ScriptedExchangeView) (s : ReaderView) : Type 0 where
  pub plan : s.plan ≡ plan before
  pub has_plan : s.has_plan ≡ has_line word.Plan before
  pub exchange : Keeps before whole s.open_exchange s.has_fault

-- one more line, of this word or of another

or-false : (b : Bool) → (b || false) ≡ b
or-false true = refl
or-false false = refl

came_other : (v : Word) (before : List Line) (x : Line) → has v x ≡ false → has_line v (before ++ x ∷ []) ≡ has_line v before
came_other v before x other = list_any-append (has v) before (x ∷ []) ∙ rw other (or-false (has_line v before))

came_this : (v : Word) (before : List Line) (x : Line) → has v x ≡ true → has_line v (before ++ x ∷ []) ≡ true
came_this v before x this = list_any-append (has v) before (x ∷ []) ∙ rw this (or_true (has_line v before))

plan_more : (before : List Line) (x : Line) → plan (before ++ x ∷ []) ≡ plan before ++ line_entries x.word x.argument
plan_more before x =
    flat_map-append (λ (l : Line). line_entries l.word l.argument) before (x ∷ []) ∙ ap (λ l. plan before ++ l) (append-nil (line_entries x.word x.argument))

-- what a line adds to the exchange that it stands in
abbrev pub grown : Line → ScriptedExchangeView → ScriptedExchangeView
grown x e = record e {
  headers = append_all e.headers (line_headers x.word x.argument);
  params = e.params ++ line_params x.word x.argument;
  layers = e.layers ++ line_layers x.word x.argument;
  marks = e.marks ++ line_marks x.word x.argument;
  peer = last_or e.peer (line_peers x.word x.argument);
  local = last_or e.local (line_locals x.word x.argument);
  conn = last_or e.conn (line_conns x.word x.argument);
}

last_append : {A : Type 0} (o : Option A) (xs ys : List A) → last_or o (xs ++ ys) ≡ last_or (last_or o xs) ys
last_append o [] ys = refl
last_append o (x ∷ xs) ys = last_append (Some x) xs ys

last_more : {A : Type 0} (values : Line → List A) (rest : List Line) (x : Line) → last_or None (flat_map values (rest ++ x ∷ [])) ≡ last_or (last_or None (flat_map values rest)) (values x)
last_more values rest x =
    rw (flat_map-append values rest (x ∷ []), append-nil (values x)) (last_append None (flat_map values rest) (values x))

headers_more : (rest : List Line) (x : Line)
    → append_all [] (flat_map (λ l. line_headers l.word l.argument) (rest ++ x ∷ [])) ≡ append_all (append_all [] (flat_map (λ l. line_headers l.word l.argument) rest)) (line_headers x.word x.argument)
headers_more rest x =
    rw (flat_map-append (λ (l : Line). line_headers l.word l.argument) rest (x ∷ []), append-nil (line_headers x.word x.argument))
    (fold-append (λ (n : Entries FieldValue) (item : List ℕ × FieldValue). append n item.0 item.1) [] (flat_map (λ l. line_headers l.word l.argument) rest) (line_headers x.word x.argument))

grown_is : (head : List ℕ) (rest : List Line) (x : Line) → exchange_of head (rest ++ x ∷ []) ≡ grown x (exchange_of head rest)
grown_is head rest x =
    rw (
      headers_more rest x,
      flat_map-append (λ (l : Line). line_marks l.word l.argument) rest (x ∷ []),
      append-nil (line_marks x.word x.argument),
      flat_map-append (λ (l : Line). line_layers l.word l.argument) rest (x ∷ []),
      append-nil (line_layers x.word x.argument),
      flat_map-append (λ (l : Line). line_params l.word l.argument) rest (x ∷ []),
      append-nil (line_params x.word x.argument),
      last_more (λ (l : Line). line_peers l.word l.argument) rest x,
      last_more (λ (l : Line). line_locals l.word l.argument) rest x,
      last_more (λ (l : Line). line_conns l.word l.argument) rest x,
    ) refl

-- the exchanges of all lines, where the last begins at `first`

exchanges_none : (lines : List Line) → has_line word.Exchange lines ≡ false → exchanges lines ≡ []
exchanges_none [] none = refl
exchanges_none (x ∷ lines) none =
    let parts = or_false (has word.Exchange x) (has_line word.Exchange lines) none in
    rw parts.0 (exchanges_none lines parts.1)

exchanges_at : (front : List Line) (first : Line) (rest : List Line) → has word.Exchange first ≡ true → has_line word.Exchange rest ≡ false
    → exchanges (front ++ first ∷ rest) ≡ exchanges front ++ exchange_of first.argument rest ∷ []
exchanges_at [] first rest begins none =
    rw (begins, before_first_none (has word.Exchange) rest none, exchanges_none rest none) refl
exchanges_at (x ∷ front) first rest begins none =
    rw (before_first_at (has word.Exchange) front first rest begins, exchanges_at front first rest begins none)
    (elim (has word.Exchange x) as (λ b. cond b (exchange_of x.argument (before_first (has word.Exchange) front) ∷ (exchanges front ++ exchange_of first.argument rest ∷ [])) (exchanges front ++ exchange_of first.argument rest ∷ [])
    ≡ cond b (exchange_of x.argument (before_first (has word.Exchange) front) ∷ exchanges front) (exchanges front) ++ exchange_of first.argument rest ∷ [])
    [ true ↦ refl | false ↦ refl ])

exchanges_kept : (before : List Line) (whole : List ScriptedExchangeView) (o : Option ScriptedExchangeView) (f : Bool) → Keeps before whole o f → exchanges before ≡ whole ++ open_exchanges o
exchanges_kept before whole None f k = exchanges_none before k.0 ∙ sym (append-nil whole ∙ k.1)
exchanges_kept before whole (Some e) f (first, front, rest, at) =
    rw (at.before_is, at.whole_is, at.open_is) (exchanges_at front first rest at.begins at.none_later)

-- When all lines are read, the exchanges are those that are whole, and the open one.
pub exchanges_read : (lines : List Line) (whole : List ScriptedExchangeView) (s : ReaderView) → IsRead lines whole s → exchanges lines ≡ whole ++ open_exchanges s.open_exchange
exchanges_read lines whole s read = exchanges_kept lines whole s.open_exchange s.has_fault read.exchange

-- a line that begins no exchange
extend : (before : List Line) (whole : List ScriptedExchangeView) (o : Option ScriptedExchangeView) (f g : Bool) (x : Line) → has word.Exchange x ≡ false
    → ((rest : List Line) → f ≡ has_line word.Fault rest → g ≡ has_line word.Fault (rest ++ x ∷ []))
    → Keeps before whole o f → Keeps (before ++ x ∷ []) whole (option_map (grown x) o) g
extend before whole None f g x other faults k = (came_other word.Exchange before x other ∙ k.0, k.1)
extend before whole (Some e) f g x other faults (first, front, rest, at) = (
  first,
  front,
  rest ++ x ∷ [],
  record {
    before_is = ap (λ l. l ++ x ∷ []) at.before_is ∙ append_assoc front (first ∷ rest) (x ∷ []);
    begins = at.begins;
    none_later = came_other word.Exchange rest x other ∙ at.none_later;
    whole_is = at.whole_is;
    open_is = ap (grown x) at.open_is ∙ sym (grown_is first.argument rest x);
    fault_is = faults rest at.fault_is;
  },
)

-- two changes of an exchange that come to the same
keeps_as : (before : List Line) (whole : List ScriptedExchangeView) (o : Option ScriptedExchangeView) (f : Bool) (a b : ScriptedExchangeView → ScriptedExchangeView)
    → ((e : ScriptedExchangeView) → a e ≡ b e) → Keeps before whole (option_map a o) f → Keeps before whole (option_map b o) f
keeps_as before whole None f a b same k = k
keeps_as before whole (Some e) f a b same k = subst (λ (x : ScriptedExchangeView). Keeps before whole (Some x) f) (same e) k

nothing_more : (before : List Line) (whole : List ScriptedExchangeView) (o : Option ScriptedExchangeView) (f : Bool) (a : ScriptedExchangeView → ScriptedExchangeView)
    → ((e : ScriptedExchangeView) → a e ≡ e) → Keeps before whole (option_map a o) f → Keeps before whole o f
nothing_more before whole None f a same k = k
nothing_more before whole (Some e) f a same k = subst (λ (x : ScriptedExchangeView). Keeps before whole (Some x) f) (same e) k

-- a line that leaves the fault's flag as it was
quiet : (x : Line) (f : Bool) → has word.Fault x ≡ false → (rest : List Line) → f ≡ has_line word.Fault rest → f ≡ has_line word.Fault (rest ++ x ∷ [])
quiet x f other rest is = is ∙ sym (came_other word.Fault rest x other)

-- a line that leaves the plan as it was
unplanned : (before : List Line) (w : List ScriptedExchangeView) (s : ReaderView) (v : Word) (text : List ℕ) (whole : List ScriptedExchangeView) (o : Option ScriptedExchangeView) (g : Bool)
    → has word.Plan (line v text) ≡ false → line_entries v text ≡ [] → IsRead before w s → Keeps (before ++ line v text ∷ []) whole o g
    → IsRead (before ++ line v text ∷ []) whole (record s { open_exchange = o; has_fault = g })
unplanned before w s v text whole o g other none read keeps = record {
  plan = read.plan ∙ sym (plan_more before (line v text) ∙ rw none (append-nil (plan before)));
  has_plan = read.has_plan ∙ sym (came_other word.Plan before (line v text) other);
  exchange = keeps;
}

-- the exchanges before the open one, after a line of this word
whole_after : List ScriptedExchangeView → ReaderView → Word → List ScriptedExchangeView
whole_after whole s word.Exchange = whole ++ open_exchanges s.open_exchange
whole_after whole s _ = whole

whole_after_is : (whole : List ScriptedExchangeView) (s : ReaderView) (v : Word) → whole_after whole s v ≡ whole ++ completed_by s v
unfolding whole_after
whole_after_is whole s word.Exchange = refl
whole_after_is whole s word.Text = sym (append-nil whole)
whole_after_is whole s word.Piece = sym (append-nil whole)
whole_after_is whole s word.Stall = sym (append-nil whole)
whole_after_is whole s word.Fault = sym (append-nil whole)
whole_after_is whole s word.Header = sym (append-nil whole)
whole_after_is whole s word.Param = sym (append-nil whole)
whole_after_is whole s word.Layer = sym (append-nil whole)
whole_after_is whole s word.Peer = sym (append-nil whole)
whole_after_is whole s word.Local = sym (append-nil whole)
whole_after_is whole s word.Conn = sym (append-nil whole)
whole_after_is whole s word.Plan = sym (append-nil whole)
whole_after_is whole s word.Skipped = sym (append-nil whole)
whole_after_is whole s word.Unknown = sym (append-nil whole)

one_more : (before : List Line) (whole : List ScriptedExchangeView) (s : ReaderView) (v : Word) (text : List ℕ) → IsRead before whole s → IsRead (before ++ line v text ∷ []) (whole_after whole s v) (after_line s v text)
unfolding whole_after
one_more before whole s word.Exchange text read =
    unplanned before whole s word.Exchange text _ _ false refl refl read (
      line word.Exchange text,
      before,
      [],
      record {
        before_is = refl;
        begins = refl;
        none_later = refl;
        whole_is = sym (exchanges_read before whole s read);
        open_is = refl;
        fault_is = refl;
      },
    )
one_more before whole s word.Text text read =
    unplanned before whole s word.Text text whole _ s.has_fault refl refl read
    (keeps_as (before ++ line word.Text text ∷ []) whole s.open_exchange s.has_fault (grown (line word.Text text)) (with_marks (line_marks word.Text text))
    (λ e. rw (append-nil e.params, append-nil e.layers) refl)
    (extend before whole s.open_exchange s.has_fault s.has_fault (line word.Text text) refl (quiet (line word.Text text) s.has_fault refl) read.exchange))
one_more before whole s word.Piece text read =
    unplanned before whole s word.Piece text whole _ s.has_fault refl refl read
    (keeps_as (before ++ line word.Piece text ∷ []) whole s.open_exchange s.has_fault (grown (line word.Piece text)) (with_marks (line_marks word.Piece text))
    (λ e. rw (append-nil e.params, append-nil e.layers) refl)
    (extend before whole s.open_exchange s.has_fault s.has_fault (line word.Piece text) refl (quiet (line word.Piece text) s.has_fault refl) read.exchange))
one_more before whole s word.Stall text read =
    unplanned before whole s word.Stall text whole _ s.has_fault refl refl read
    (keeps_as (before ++ line word.Stall text ∷ []) whole s.open_exchange s.has_fault (grown (line word.Stall text)) (with_marks (line_marks word.Stall text))
    (λ e. rw (append-nil e.params, append-nil e.layers) refl)
    (extend before whole s.open_exchange s.has_fault s.has_fault (line word.Stall text) refl (quiet (line word.Stall text) s.has_fault refl) read.exchange))
one_more before whole s word.Fault text read =
    unplanned before whole s word.Fault text whole _ true refl refl read
    (keeps_as (before ++ line word.Fault text ∷ []) whole s.open_exchange true (grown (line word.Fault text)) (with_marks (line_marks word.Fault text))
    (λ e. rw (append-nil e.params, append-nil e.layers) refl)
    (extend before whole s.open_exchange s.has_fault true (line word.Fault text) refl (λ rest is. sym (came_this word.Fault rest (line word.Fault text) refl)) read.exchange))
one_more before whole s word.Header text read =
    unplanned before whole s word.Header text whole _ s.has_fault refl refl read
    (keeps_as (before ++ line word.Header text ∷ []) whole s.open_exchange s.has_fault (grown (line word.Header text)) (with_headers (line_headers word.Header text))
    (λ e. rw (append-nil e.params, append-nil e.layers, append-nil e.marks) refl)
    (extend before whole s.open_exchange s.has_fault s.has_fault (line word.Header text) refl (quiet (line word.Header text) s.has_fault refl) read.exchange))
one_more before whole s word.Param text read =
    unplanned before whole s word.Param text whole _ s.has_fault refl refl read
    (keeps_as (before ++ line word.Param text ∷ []) whole s.open_exchange s.has_fault (grown (line word.Param text)) (with_params (line_params word.Param text))
    (λ e. rw (append-nil e.layers, append-nil e.marks) refl)
    (extend before whole s.open_exchange s.has_fault s.has_fault (line word.Param text) refl (quiet (line word.Param text) s.has_fault refl) read.exchange))
one_more before whole s word.Layer text read =
    unplanned before whole s word.Layer text whole _ s.has_fault refl refl read
    (keeps_as (before ++ line word.Layer text ∷ []) whole s.open_exchange s.has_fault (grown (line word.Layer text)) (with_layers (line_layers word.Layer text))
    (λ e. rw (append-nil e.params, append-nil e.marks) refl)
    (extend before whole s.open_exchange s.has_fault s.has_fault (line word.Layer text) refl (quiet (line word.Layer text) s.has_fault refl) read.exchange))
one_more before whole s word.Peer text read =
    unplanned before whole s word.Peer text whole _ s.has_fault refl refl read
    (keeps_as (before ++ line word.Peer text ∷ []) whole s.open_exchange s.has_fault (grown (line word.Peer text)) (with_peer (line_peer text))
    (λ e. rw (append-nil e.params, append-nil e.layers, append-nil e.marks) refl)
    (extend before whole s.open_exchange s.has_fault s.has_fault (line word.Peer text) refl (quiet (line word.Peer text) s.has_fault refl) read.exchange))
one_more before whole s word.Local text read =
    unplanned before whole s word.Local text whole _ s.has_fault refl refl read
    (keeps_as (before ++ line word.Local text ∷ []) whole s.open_exchange s.has_fault (grown (line word.Local text)) (with_local (line_number text))
    (λ e. rw (append-nil e.params, append-nil e.layers, append-nil e.marks) refl)
    (extend before whole s.open_exchange s.has_fault s.has_fault (line word.Local text) refl (quiet (line word.Local text) s.has_fault refl) read.exchange))
one_more before whole s word.Conn text read =
    unplanned before whole s word.Conn text whole _ s.has_fault refl refl read
    (keeps_as (before ++ line word.Conn text ∷ []) whole s.open_exchange s.has_fault (grown (line word.Conn text)) (with_conn (line_number text))
    (λ e. rw (append-nil e.params, append-nil e.layers, append-nil e.marks) refl)
    (extend before whole s.open_exchange s.has_fault s.has_fault (line word.Conn text) refl (quiet (line word.Conn text) s.has_fault refl) read.exchange))
one_more before whole s word.Plan text read = record {
  plan = ap (λ l. l ++ line_entries word.Plan text) read.plan ∙ sym (plan_more before (line word.Plan text));
  has_plan = sym (came_this word.Plan before (line word.Plan text) refl);
  exchange = nothing_more (before ++ line word.Plan text ∷ []) whole s.open_exchange s.has_fault (grown (line word.Plan text)) (λ e. rw (append-nil e.params, append-nil e.layers, append-nil e.marks) refl)
      (extend before whole s.open_exchange s.has_fault s.has_fault (line word.Plan text) refl (quiet (line word.Plan text) s.has_fault refl) read.exchange);
}
one_more before whole s word.Skipped text read =
    unplanned before whole s word.Skipped text whole s.open_exchange s.has_fault refl refl read
    (nothing_more (before ++ line word.Skipped text ∷ []) whole s.open_exchange s.has_fault (grown (line word.Skipped text)) (λ e. rw (append-nil e.params, append-nil e.layers, append-nil e.marks) refl)
    (extend before whole s.open_exchange s.has_fault s.has_fault (line word.Skipped text) refl (quiet (line word.Skipped text) s.has_fault refl) read.exchange))
one_more before whole s word.Unknown text read =
    unplanned before whole s word.Unknown text whole s.open_exchange s.has_fault refl refl read
    (nothing_more (before ++ line word.Unknown text ∷ []) whole s.open_exchange s.has_fault (grown (line word.Unknown text)) (λ e. rw (append-nil e.params, append-nil e.layers, append-nil e.marks) refl)
    (extend before whole s.open_exchange s.has_fault s.has_fault (line word.Unknown text) refl (quiet (line word.Unknown text) s.has_fault refl) read.exchange))

-- one more line
pub read_more : (before : List Line) (whole : List ScriptedExchangeView) (s : ReaderView) (v : Word) (text : List ℕ) → IsRead before whole s → IsRead (before ++ line v text ∷ []) (whole ++ completed_by s v) (after_line s v text)
read_more before whole s v text read =
    subst (λ w. IsRead (before ++ line v text ∷ []) w (after_line s v text)) (whole_after_is whole s v) (one_more before whole s v text read)

-- The number of values of a map is that of the headers that were added.

count_cons : (e : List ℕ × List FieldValue) (m : Entries FieldValue) → value_count (e ∷ m) ≡ length e.1 + value_count m
count_cons e m = sum_by-cons (λ (x : List ℕ × List FieldValue). length x.1) e m

one_value : (b : Bool) (e : List ℕ × List FieldValue) (m next : Entries FieldValue) (v : FieldValue) → value_count next ≡ value_count m + 1
    → value_count (cond b ((e.0, e.1 ++ v ∷ []) ∷ m) (e ∷ next)) ≡ value_count (e ∷ m) + 1
one_value true e m next v more =
    rw (count_cons (e.0, e.1 ++ v ∷ []) m, count_cons e m, length-append e.1 (v ∷ [])) (omega arith)
one_value false e m next v more = rw (count_cons e next, count_cons e m, more) (omega arith)

one_appended : (m : Entries FieldValue) (name : List ℕ) (v : FieldValue) → value_count (append m name v) ≡ value_count m + 1
one_appended [] name v = refl
one_appended (e ∷ m) name v = one_value (bytes_eq e.0 name) e m (append m name v) v (one_appended m name v)

all_appended : (m : Entries FieldValue) (items : List (List ℕ × FieldValue)) → value_count (append_all m items) ≡ value_count m + length items
all_appended m [] = omega arith
all_appended m (x ∷ items) =
    let rest = all_appended (append m x.0 x.1) items in
    let one = one_appended m x.0 x.1 in
    rest ∙ rw one (omega arith)

header_lines : List Line → ℕ
header_lines rest = count_by (has word.Header) rest

one_header : (v : Word) (text : List ℕ) → length (line_headers v text) ≡ cond (has word.Header (line v text)) 1 0
one_header word.Text text = refl
one_header word.Plan text = refl
one_header word.Exchange text = refl
one_header word.Header text = refl
one_header word.Param text = refl
one_header word.Layer text = refl
one_header word.Piece text = refl
one_header word.Stall text = refl
one_header word.Fault text = refl
one_header word.Peer text = refl
one_header word.Local text = refl
one_header word.Conn text = refl
one_header word.Skipped text = refl
one_header word.Unknown text = refl

headers_of_lines : (rest : List Line) → length (flat_map (λ l. line_headers l.word l.argument) rest) ≡ header_lines rest
unfolding header_lines
headers_of_lines [] = refl
headers_of_lines (x ∷ rest) =
    length-append (line_headers x.word x.argument) (flat_map (λ (l : Line). line_headers l.word l.argument) rest)
    ∙ rw (one_header x.word x.argument, headers_of_lines rest) (sym (sum_by-cons (λ (l : Line). cond (has word.Header l) 1 0) x rest))

headers_counted : (head : List ℕ) (rest : List Line) → value_count (exchange_of head rest).headers ≡ header_lines rest
headers_counted head rest =
    let all = all_appended [] (flat_map (λ (l : Line). line_headers l.word l.argument) rest) in
    let each = headers_of_lines rest in
    omega (arith, all, each)

-- The test of a line by what is kept is the test by the lines before it.

-- the tests of a line: whether a plan came, whether an exchange is begun, whether it has a fault and as many headers as it may have
tests : Bool → Bool → Bool → Bool → Line → Option LineFault
tests planned begun failed full l =
    cond (has word.Skipped l) None
    (cond (has word.Unknown l) (Some reason.UnknownLine)
    (cond (not (has word.Plan l) && planned) (Some reason.LineAfterPlan)
    (cond (not (has word.Exchange l || has word.Plan l) && not begun) (Some reason.NoExchange)
    (cond (is_mark l && failed) (Some reason.MarkAfterFault)
    (cond (has word.Header l && full) (Some reason.TooManyHeaders)
    None)))))

same_tests : (p b f m : Bool) (v : Word) (text : List ℕ) → word_fault p b f m v ≡ tests p b f m (line v text)
unfolding tests
same_tests p b f m word.Text text = refl
same_tests p b f m word.Plan text = refl
same_tests p b f m word.Exchange text = refl
same_tests p b f m word.Header text = refl
same_tests p b f m word.Param text = refl
same_tests p b f m word.Layer text = refl
same_tests p b f m word.Piece text = refl
same_tests p b f m word.Stall text = refl
same_tests p b f m word.Fault text = refl
same_tests p b f m word.Peer text = refl
same_tests p b f m word.Local text = refl
same_tests p b f m word.Conn text = refl
same_tests p b f m word.Skipped text = refl
same_tests p b f m word.Unknown text = refl

-- where no exchange is begun, it does not matter what one has
not_begun : (p f g m n : Bool) (v : Word) → word_fault p false f m v ≡ word_fault p false g n v
not_begun p f g m n word.Text = refl
not_begun p f g m n word.Plan = refl
not_begun p f g m n word.Exchange = refl
not_begun p f g m n word.Header = refl
not_begun p f g m n word.Param = refl
not_begun p f g m n word.Layer = refl
not_begun p f g m n word.Piece = refl
not_begun p f g m n word.Stall = refl
not_begun p f g m n word.Fault = refl
not_begun p f g m n word.Peer = refl
not_begun p f g m n word.Local = refl
not_begun p f g m n word.Conn = refl
not_begun p f g m n word.Skipped = refl
not_begun p f g m n word.Unknown = refl

tests_kept : (before : List Line) (whole : List ScriptedExchangeView) (o : Option ScriptedExchangeView) (p f : Bool) (v : Word) → Keeps before whole o f
    → word_fault p (is_some o) f (nat_le max_headers (header_count o)) v
    ≡ word_fault p (has_line word.Exchange before) (has_line word.Fault (exchange_lines before)) (nat_le max_headers (header_lines (exchange_lines before))) v
tests_kept before whole None p f v k = rw k.0 (not_begun p f (has_line word.Fault (exchange_lines before)) (nat_le max_headers 0) (nat_le max_headers (header_lines (exchange_lines before))) v)
tests_kept before whole (Some e) p f v (first, front, rest, at) =
    let last_block : exchange_lines before ≡ rest = rw at.before_is (after_last_at (has word.Exchange) front first rest at.begins at.none_later) in
    let begun : has_line word.Exchange before ≡ true = rw (at.before_is, list_any-append (has word.Exchange) front (first ∷ rest), at.begins) (or_true (has_line word.Exchange front)) in
    let count : header_count (Some e) ≡ header_lines rest = rw at.open_is (headers_counted first.argument rest) in
    rw (last_block, begun, at.fault_is, count) refl

place_is : (before : List Line) (whole : List ScriptedExchangeView) (s : ReaderView) (v : Word) (text : List ℕ) → IsRead before whole s → reader_fault s v ≡ place_fault before (line v text)
unfolding tests header_lines
place_is before whole s v text read =
    tests_kept before whole s.open_exchange s.has_plan s.has_fault v read.exchange
    ∙ ap (λ p. word_fault p (has_line word.Exchange before) (has_line word.Fault (exchange_lines before)) (nat_le max_headers (header_lines (exchange_lines before))) v) read.has_plan
    ∙ same_tests (has_line word.Plan before) (has_line word.Exchange before) (has_line word.Fault (exchange_lines before)) (nat_le max_headers (header_lines (exchange_lines before))) v text

-- The reader refuses a line exactly where it is faulty, for the same reason.
pub refusal_is : (before : List Line) (whole : List ScriptedExchangeView) (s : ReaderView) (v : Word) (text : List ℕ) → IsRead before whole s → refusal s (line v text) ≡ fault_of before (line v text)
refusal_is before whole s v text read = ap (λ o. option_or o (argument_fault v text)) (place_is before whole s v text read)
