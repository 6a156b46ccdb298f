-- Lists of arguments each of which is seen as one result.
use Rattle.std.proofs.Common.{◌≡◌, ℕ, max, List, [], ◌∷◌, refl, sym, ap, ◌∙◌, subst, arith}
use Rattle.std.specs.Prelude.{Result, Ok, Err, Option, None, Some}
use Rattle.web_request.specs.declared.source.Mark.{Mark}
use Rattle.web_reply.specs.Replies.{Fault}
use Rattle.web_reply.specs.JoinedErrors.{join}
use Rattle.web_extract.specs.ArgumentLists.{Gives, Joins1, Joins2, nested3, nested4}
use Rattle.web_extract.specs.CollectedResults.{One, map_value, collected2, unless_refused}
use Rattle.web_extract.specs.ListMeanings.{Meaning, Means1, Means2, Means3, Means4}
use Rattle.web_extract.specs.ListResults.{DelayedResult, Exactly, list1, list2, list3, list4, with_value}
use Rattle.std.proofs.Common.{inl, inr}
use Rattle.std.specs.Prelude.{string_bytes}
use Rattle.http_header.specs.FieldValue.{FieldValue}
use Rattle.http_header.specs.HeaderMap.{Entries}
use Rattle.http_uri.specs.declared.uri.Uri.{Uri}
use Rattle.web_request.specs.Feed.{Feed}
use Rattle.web_request.specs.Head.{Head, head_target, uri_view}
use Rattle.web_request.specs.Request.{Record, Request}
use Rattle.web_body.specs.Payload.{payload_feed}
use Rattle.web_body.specs.PayloadSettings.{PayloadSettings}
use Rattle.web_body.specs.declared.payload.Payload.{Payload}
use Rattle.web_extract.specs.BytesArgument.{MeansBytes, bytes_rest, bytes_result}
use Rattle.web_extract.specs.HeadArguments.{AllowsNow, IsRequest, MeansUri, immediate}
use Rattle.web_extract.specs.ListMeanings.{Member}
use Rattle.web_extract.specs.PayloadArgument.{MeansPayload, payload_result}
use Rattle.web_extract.specs.StringArgument.{MeansString, decoded, string_rest, string_result}
use Rattle.web_extract.specs.SeenResults.{SeenAs, view1, view2, view3, view4, Sees1, Sees2, Sees3, Sees4, SeesList4, SeesExactly}
use Rattle.web_extract.proofs.ExtractsLemmas.{joins2_within}
use Rattle.web_extract.proofs.GroupedListsLemmas.{three, pairs, right, left, inner, outer}
use Rattle.web_extract.proofs.PerPlaceLemmas.{ungroup}

-- a list as a member of another: its error turns into itself
abbrev pub Own : {T : Type 0} → Meaning T → Meaning T
Own means = Member (λ e x. x ≡ e) means

refused_same : {T U : Type 0} (f : T → U) (o : Option Fault) (e : Fault) → map_value f (unless_refused o (Err e)) ≡ unless_refused o (Err e)
refused_same f None e = refl
refused_same f (Some x) e = refl

seen_both : {A B A' B' : Type 0} (f : A → A') (g : B → B') (x : Result A Fault) (y : Result B Fault) → map_value (view2 f g) (collected2 x y) ≡ collected2 (map_value f x) (map_value g y)
seen_both f g (Ok a) (Ok b) = refl
seen_both f g (Ok a) (Err e) = refl
seen_both f g (Err e) (Ok b) = refl
seen_both f g (Err e) (Err h) = refl

module _ {A B A' B' : Type 0} (f : A → A') (g : B → B') (first : Meaning A) (second : Meaning B) where
  pub sees2 : Sees2 f g first second
  sees2 m m1 m2 a b h1 h2 left n x (left1, j) =
      let k1 = h1 left1 j.n1 j.x1 j.first_gives in
      let k2 = h2 left j.n2 j.x2 (subst (λ (l : List Mark). second l left j.n2 j.x2) k1.0 j.second_gives) in
      let d = j.delay in
      let e1 = k1.1 in
      let e2 = k2.1 in (
        k2.0,
        omega (arith, d, e1, e2),
        ap (λ (r : Result (A × B) Fault). map_value (view2 f g) r) j.result ∙ seen_both f g j.x1 j.x2
            ∙ ap (λ (r : Result A' Fault). collected2 r (map_value g j.x2)) k1.2 ∙ ap (λ (r : Result B' Fault). collected2 a.result r) k2.2,
      )

-- the values seen, and then in another form
regroup : {T T' U U' : Type 0} (view : T → T') (seen : U → U') (f : T → U) (f' : T' → U') → ((t : T) → seen (f t) ≡ f' (view t))
    → (x : Result T Fault) → map_value seen (map_value f x) ≡ map_value f' (map_value view x)
regroup {T} {T'} {U} {U'} view seen f f' same (Ok v) = ap (λ (u : U'). Ok u) (same v)
regroup view seen f f' same (Err e) = refl

-- a meaning that is another one with its values grouped otherwise
flat_seen : {T T' U U' : Type 0} (flat : Meaning T) (nested : Meaning U) (view : T → T') (seen : U → U') (f : T → U) (f' : T' → U') (back : U' → T')
    → ((t : T') → back (f' t) ≡ t) → ((t : T) → seen (f t) ≡ f' (view t))
    → (m rest : List Mark) (v : DelayedResult T') → SeenAs seen nested m rest (with_value f' v)
    → ((left : List Mark) (n : ℕ) (x : Result T Fault) → flat m left n x → nested m left n (map_value f x))
    → SeenAs view flat m rest v
flat_seen flat nested view seen f f' back inv same m rest v h to left n x d =
    let q = h left n (map_value f x) (to left n x d) in
    (q.0, q.1, ungroup f' back inv (map_value view x) v.result (sym (regroup view seen f f' same x) ∙ q.2))

one_is : {A : Type 0} (n : ℕ) (x : Result A Fault) → record { delay = n; result = x } ≡ with_value (λ v. v.0) (list1 (record { delay = n; result = x }))
one_is {A} n (Ok v) = let e : n ≡ max n 0 = omega arith in ap (λ (k : ℕ). let r : DelayedResult A = record { delay = k; result = Ok v } in r) e
one_is {A} n (Err x) = let d : n ≡ max n 0 = omega arith in ap (λ (k : ℕ). let r : DelayedResult A = record { delay = k; result = Err x } in r) d

joins1_to : {A : Type 0} (g : Gives A) (n : ℕ) (x : Result (One A) Fault) → Joins1 g n x → g n (map_value (λ v. v.0) x)
joins1_to g n (Ok v) h = h
joins1_to g n (Err x) h = h

pub sees1 : {A A' : Type 0} (f : A → A') (first : Meaning A) → Sees1 f first
sees1 {A} {A'} f first m m1 a h1 =
    let h = subst (λ (w : DelayedResult A'). SeenAs f first m m1 w) (one_is a.delay a.result) h1 in
    flat_seen (Means1 first) first (view1 f) f (λ v. v.0) (λ v. v.0) (λ v. record { 0 = v }) (λ v. refl) (λ v. refl) m m1 (list1 a) h
    (λ left n x d. joins1_to (first m left) n x d)

pub sees3 : {A B C A' B' C' : Type 0} (f : A → A') (g : B → B') (k : C → C') (first : Meaning A) (second : Meaning B) (third : Meaning C) → Sees3 f g k first second third
sees3 {A} {B} {C} {A'} {B'} {C'} f g k first second third m m1 m2 m3 a b c h1 h2 h3 =
    let rest = Means2 second third in
    flat_seen (Means3 first second third) (Means2 first rest) (view3 f g k) (view2 f (view2 g k)) (λ v. (v.0, (v.1, v.2))) (λ v. (v.0, (v.1, v.2))) (λ v. (v.0, v.1.0, v.1.1))
    (λ v. refl) (λ v. refl) m m3 (list3 a b c)
    (subst (λ (w : DelayedResult (A' × (B' × C'))). SeenAs (view2 f (view2 g k)) (Means2 first rest) m m3 w) (three a b c)
    (sees2 f (view2 g k) first rest m m1 m3 a (list2 b c) h1 (sees2 g k second third m1 m2 m3 b c h2 h3)))
    (λ left n x d. (
      d.0,
      joins2_within (first m d.0) (first m d.0) (Joins2 (second d.0 d.1) (third d.1 left)) (rest d.0 left) (λ k y h. h) (λ k y h. (d.1, h)) n (nested3 x) d.2,
    ))

pub sees4 : {A B C D A' B' C' D' : Type 0} (f : A → A') (g : B → B') (h : C → C') (k : D → D') (first : Meaning A) (second : Meaning B) (third : Meaning C) (fourth : Meaning D)
    → Sees4 f g h k first second third fourth
sees4 {A} {B} {C} {D} {A'} {B'} {C'} {D'} f g h k first second third fourth m m1 m2 m3 m4 a b c d h1 h2 h3 h4 =
    let last = Means2 third fourth in
    let rest = Means2 second last in
    flat_seen (Means4 first second third fourth) (Means2 first rest) (view4 f g h k) (view2 f (view2 g (view2 h k)))
    (λ v. (v.0, (v.1, (v.2, v.3)))) (λ v. (v.0, (v.1, (v.2, v.3)))) (λ v. (v.0, v.1.0, v.1.1.0, v.1.1.1)) (λ v. refl) (λ v. refl) m m4 (list4 a b c d)
    (subst (λ (w : DelayedResult (A' × (B' × (C' × D')))). SeenAs (view2 f (view2 g (view2 h k))) (Means2 first rest) m m4 w) (right a b c d)
    (sees2 f (view2 g (view2 h k)) first rest m m1 m4 a (list2 b (list2 c d)) h1
    (sees2 g (view2 h k) second last m1 m2 m4 b (list2 c d) h2 (sees2 h k third fourth m2 m3 m4 c d h3 h4))))
    (λ left n x e. (
      e.0,
      joins2_within (first m e.0) (first m e.0) (Joins2 (second e.0 e.1) (Joins2 (third e.1 e.2) (fourth e.2 left))) (rest e.0 left) (λ k y h. h)
          (λ k y h. (
            e.1,
            joins2_within (second e.0 e.1) (second e.0 e.1) (Joins2 (third e.1 e.2) (fourth e.2 left)) (last e.1 left) (λ i z j. j) (λ i z j. (e.2, j)) k y h,
          ))
          n (nested4 x) e.3,
    ))

pub sees_exactly : {A A' : Type 0} (f : A → A') (first : Meaning A) → SeesExactly f first
sees_exactly {A} {A'} f first m rest v h left n x d =
    let q = (h left n x).0 d in (q.0, q.1, ap (λ (r : Result A Fault). map_value f r) q.2)

own_seen : {T T' : Type 0} (view : T → T') (means : Meaning T) (m rest : List Mark) (v : DelayedResult T')
    → SeenAs view means m rest v → SeenAs view (Own means) m rest v
own_seen view means m rest v h left n (Ok u) a = h left n (Ok u) a
own_seen view means m rest v h left n (Err x) a = h left n (Err x) (subst (λ (y : Fault). means m left n (Err y)) (sym a.2) a.1)

module _ {A B C D A' B' C' D' : Type 0} (f : A → A') (g : B → B') (h : C → C') (k : D → D')
    (first : Meaning A) (second : Meaning B) (third : Meaning C) (fourth : Meaning D) where
  pub sees_pairs : SeesList4 f g h k first second third fourth (view2 (view2 f g) (view2 h k)) (λ v. ((v.0, v.1), (v.2, v.3)))
      (Means2 (Own (Means2 first second)) (Own (Means2 third fourth)))
  sees_pairs m m1 m2 m3 m4 a b c d h1 h2 h3 h4 =
      let front = Own (Means2 first second) in
      let back = Own (Means2 third fourth) in
      subst (λ (v : DelayedResult ((A' × B') × (C' × D'))). SeenAs (view2 (view2 f g) (view2 h k)) (Means2 front back) m m4 v) (pairs a b c d)
      (sees2 (view2 f g) (view2 h k) front back m m2 m4 (list2 a b) (list2 c d)
      (own_seen (view2 f g) (Means2 first second) m m2 (list2 a b) (sees2 f g first second m m1 m2 a b h1 h2))
      (own_seen (view2 h k) (Means2 third fourth) m2 m4 (list2 c d) (sees2 h k third fourth m2 m3 m4 c d h3 h4)))

  pub sees_right : SeesList4 f g h k first second third fourth (view2 f (view2 g (view2 h k))) (λ v. (v.0, (v.1, (v.2, v.3))))
      (Means2 first (Own (Means2 second (Own (Means2 third fourth)))))
  sees_right m m1 m2 m3 m4 a b c d h1 h2 h3 h4 =
      let back = Own (Means2 third fourth) in
      let rest = Own (Means2 second back) in
      subst (λ (v : DelayedResult (A' × (B' × (C' × D')))). SeenAs (view2 f (view2 g (view2 h k))) (Means2 first rest) m m4 v) (right a b c d)
      (sees2 f (view2 g (view2 h k)) first rest m m1 m4 a (list2 b (list2 c d)) h1
      (own_seen (view2 g (view2 h k)) (Means2 second back) m1 m4 (list2 b (list2 c d)) (sees2 g (view2 h k) second back m1 m2 m4 b (list2 c d) h2
      (own_seen (view2 h k) (Means2 third fourth) m2 m4 (list2 c d) (sees2 h k third fourth m2 m3 m4 c d h3 h4)))))

  pub sees_left : SeesList4 f g h k first second third fourth (view2 (view2 (view2 f g) h) k) (λ v. (((v.0, v.1), v.2), v.3))
      (Means2 (Own (Means2 (Own (Means2 first second)) third)) fourth)
  sees_left m m1 m2 m3 m4 a b c d h1 h2 h3 h4 =
      let front = Own (Means2 first second) in
      let most = Own (Means2 front third) in
      subst (λ (v : DelayedResult (((A' × B') × C') × D')). SeenAs (view2 (view2 (view2 f g) h) k) (Means2 most fourth) m m4 v) (left a b c d)
      (sees2 (view2 (view2 f g) h) k most fourth m m3 m4 (list2 (list2 a b) c) d
      (own_seen (view2 (view2 f g) h) (Means2 front third) m m3 (list2 (list2 a b) c) (sees2 (view2 f g) h front third m m2 m3 (list2 a b) c
      (own_seen (view2 f g) (Means2 first second) m m2 (list2 a b) (sees2 f g first second m m1 m2 a b h1 h2)) h3)) h4)

  pub sees_inner : SeesList4 f g h k first second third fourth (view2 f (view2 (view2 g h) k)) (λ v. (v.0, ((v.1, v.2), v.3)))
      (Means2 first (Own (Means2 (Own (Means2 second third)) fourth)))
  sees_inner m m1 m2 m3 m4 a b c d h1 h2 h3 h4 =
      let middle = Own (Means2 second third) in
      let rest = Own (Means2 middle fourth) in
      subst (λ (v : DelayedResult (A' × ((B' × C') × D'))). SeenAs (view2 f (view2 (view2 g h) k)) (Means2 first rest) m m4 v) (inner a b c d)
      (sees2 f (view2 (view2 g h) k) first rest m m1 m4 a (list2 (list2 b c) d) h1
      (own_seen (view2 (view2 g h) k) (Means2 middle fourth) m1 m4 (list2 (list2 b c) d) (sees2 (view2 g h) k middle fourth m1 m3 m4 (list2 b c) d
      (own_seen (view2 g h) (Means2 second third) m1 m3 (list2 b c) (sees2 g h second third m1 m2 m3 b c h2 h3)) h4)))

  pub sees_outer : SeesList4 f g h k first second third fourth (view2 (view2 f (view2 g h)) k) (λ v. ((v.0, (v.1, v.2)), v.3))
      (Means2 (Own (Means2 first (Own (Means2 second third)))) fourth)
  sees_outer m m1 m2 m3 m4 a b c d h1 h2 h3 h4 =
      let middle = Own (Means2 second third) in
      let most = Own (Means2 first middle) in
      subst (λ (v : DelayedResult ((A' × (B' × C')) × D')). SeenAs (view2 (view2 f (view2 g h)) k) (Means2 most fourth) m m4 v) (outer a b c d)
      (sees2 (view2 f (view2 g h)) k most fourth m m3 m4 (list2 a (list2 b c)) d
      (own_seen (view2 f (view2 g h)) (Means2 first middle) m m3 (list2 a (list2 b c)) (sees2 f (view2 g h) first middle m m1 m3 a (list2 b c) h1
      (own_seen (view2 g h) (Means2 second third) m1 m3 (list2 b c) (sees2 g h second third m1 m2 m3 b c h2 h3)))) h4)

-- a place that leaves the marks, and gives a value at once that is seen so
pub place_now : {T E U : Type 0} (view : T → U) (converts : E → Fault → Type 0) (means : List Mark → List Mark → ℕ → Result T E → Type 0) (m rest : List Mark) (y : U)
    → ((left : List Mark) (n : ℕ) (x : Result T E) → means m left n x → (left ≡ rest) × (n ≡ 0) × (v : T) × (x ≡ Ok v) × (view v ≡ y))
    → SeenAs view (Member converts means) m rest (immediate (Ok y))
place_now {T} {E} {U} view converts means m rest y h left n (Ok v) d =
    let q = h left n (Ok v) d in
    let e : v ≡ q.2 = cc (q.3) in
    (q.0, q.1, ap (λ (u : U). let r : Result U Fault = Ok u in r) (ap view e ∙ q.4))
place_now view converts means m rest y h left n (Err x) d = absurd (cc ((h left n (Err d.0) d.1).3))

request_now : {L D C E : Type 0} (q : Request L D C) (m left : List Mark) (n : ℕ) (x : Result (Record L D C) E) → AllowsNow (IsRequest q) m left n x
    → (left ≡ m) × (n ≡ 0) × (v : Record L D C) × (x ≡ Ok v) × (v.request ≡ q)
request_now q m left n (Ok r) d = (d.0, d.1, r, refl, d.2.0)
request_now q m left n (Err e) d = elim d.2 [ ]

pub place_request : {L D C E : Type 0} (converts : E → Fault → Type 0) (q : Request L D C) (m : List Mark)
    → SeenAs (λ (r : Record L D C). r.request) (Member converts (AllowsNow (IsRequest q))) m m (immediate (Ok q))
place_request {L} {D} {C} converts q m = place_now (λ (r : Record L D C). r.request) converts (AllowsNow (IsRequest q)) m m q (request_now q m)

target_now : {E : Type 0} (head : Head) (u : Uri) → uri_view u ≡ head_target head → (m left : List Mark) (n : ℕ) (x : Result Uri E) → MeansUri head m left n x
    → (left ≡ m) × (n ≡ 0) × (v : Uri) × (x ≡ Ok v) × (uri_view v ≡ head_target head)
target_now head u is m left n (Ok v) d = (d.0, d.1, v, refl, elim d.2 [ inl h ↦ h | inr none ↦ absurd (none (Ok u) is) ])
target_now head u is m left n (Err e) d = absurd (elim d.2 [ inl h ↦ h | inr none ↦ none (Ok u) is ])

pub place_target : {E : Type 0} (converts : E → Fault → Type 0) (head : Head) (u : Uri) → uri_view u ≡ head_target head → (m : List Mark)
    → SeenAs uri_view (Member converts (MeansUri head)) m m (immediate (Ok (head_target head)))
place_target converts head u is m = place_now uri_view converts (MeansUri head) m m (head_target head) (target_now head u is m)

payload_now : {S : Type 0} (feed : S → Feed) (p : Payload S) (m : List Mark) → (payload_feed feed p).marks ≡ Some m
    → (left : List Mark) (n : ℕ) (x : Result (Payload S) Fault) → MeansPayload feed m left n x
    → (left ≡ []) × (n ≡ 0) × (v : Payload S) × (x ≡ Ok v) × ((payload_feed feed v).marks ≡ Some m)
payload_now feed p m is left n (Ok v) d = (d.0, d.1, v, refl, elim d.2 [ inl h ↦ h | inr none ↦ absurd (none (Ok p) is) ])
payload_now feed p m is left n (Err e) d = absurd (elim d.2 [ inl h ↦ h | inr none ↦ none (Ok p) is ])

pub place_payload : {S : Type 0} (converts : Fault → Fault → Type 0) (feed : S → Feed) (p : Payload S) (m : List Mark) → (payload_feed feed p).marks ≡ Some m
    → SeenAs (λ (v : Payload S). (payload_feed feed v).marks) (Member converts (MeansPayload feed)) m [] (payload_result m)
place_payload {S} converts feed p m is = place_now (λ (v : Payload S). (payload_feed feed v).marks) converts (MeansPayload feed) m [] (Some m) (payload_now feed p m is)

pub place_own : {T U : Type 0} (view : T → U) (means : Meaning T) (m rest : List Mark) (v : DelayedResult U) → SeenAs view means m rest v → SeenAs view (Own means) m rest v
place_own view means m rest v h = own_seen view means m rest v h

module _ (settings : PayloadSettings) (headers : Entries FieldValue) (m : List Mark) where
  same_value : {T : Type 0} (x : Result T Fault) → map_value (λ v. v) x ≡ x
  same_value (Ok v) = refl
  same_value (Err e) = refl

  pub place_bytes : SeenAs (λ v. v) (Own (MeansBytes settings headers)) m (bytes_rest settings headers m) (bytes_result settings headers m)
  place_bytes =
      own_seen (λ v. v) (MeansBytes settings headers) m (bytes_rest settings headers m) (bytes_result settings headers m)
      (λ left n x d. (d.0, d.1, same_value x ∙ d.2))

  pub place_string : SeenAs string_bytes (Own (MeansString settings headers)) m (string_rest settings headers m) (string_result settings headers m)
  place_string =
      own_seen string_bytes (MeansString settings headers) m (string_rest settings headers m) (string_result settings headers m)
      (λ left n x d. (d.1.0, d.1.1, d.2 ∙ ap decoded d.1.2))
