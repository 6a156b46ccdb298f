-- Results that are collected in nested pairs, and all at once.
use Rattle.std.proofs.Common.{◌≡◌, List, [], ◌∷◌, ◌++◌, refl, sym, ap, ◌∙◌, append_assoc, append-nil}
use Rattle.std.specs.Prelude.{⊤, Option, None, Some, Result, Ok, Err}
use Rattle.web_reply.specs.JoinedErrors.{cause_members, join, members}
use Rattle.web_reply.specs.Replies.{Fault, fault_of}
use Rattle.web_reply.specs.declared.errors.cause.Cause.TheVariants.{Several}
use Rattle.web_reply.specs.declared.errors.several.Member.{Member}
use Rattle.web_extract.specs.CollectedResults.{collected2, collected3, collected4, map_value, refusal, refused, unless_refused, values2, values3, values4}

-- two errors, each of them maybe absent, as one
abbrev join_two : Option Fault → Option Fault → Option Fault
join_two None o = o
join_two (Some e) None = Some e
join_two (Some e) (Some f) = join (e ∷ f ∷ [])

abbrev several : List Member → Option Fault
several ms = Some (fault_of (Several ms))

several_assoc : (a b c : List Member) → (a ++ (b ++ [])) ++ (c ++ []) ≡ a ++ ((b ++ (c ++ [])) ++ [])
several_assoc a b c = rw (append-nil b, append-nil c, append-nil (b ++ c)) (append_assoc a b c)

assoc : (p q r : Option Fault) → join_two (join_two p q) r ≡ join_two p (join_two q r)
assoc None q r = refl
assoc (Some e) None r = refl
assoc (Some e) (Some f) None = refl
assoc (Some e) (Some f) (Some g) = ap several (several_assoc (cause_members e.cause) (cause_members f.cause) (cause_members g.cause))

-- all errors joined at once are the first and the others joined
join_first : (e : Fault) (es : List Fault) → join (e ∷ es) ≡ join_two (Some e) (join es)
join_first e [] = refl
join_first e (f ∷ []) = refl
join_first e (f ∷ g ∷ es) = ap several (ap (λ ms. cause_members e.cause ++ ms) (sym (append-nil (members (f ∷ g ∷ es)))))

join_places : (o : Option Fault) (os : List (Option Fault)) → join (refused (o ∷ os)) ≡ join_two o (join (refused os))
join_places None os = refl
join_places (Some e) os = join_first e (refused os)

join_last : (o : Option Fault) → join (refused (o ∷ [])) ≡ o
join_last None = refl
join_last (Some e) = refl

module _ (a b c : Option Fault) where
  joined_three : join_two a (join_two b c) ≡ join (refused (a ∷ b ∷ c ∷ []))
  joined_three = sym (join_places a (b ∷ c ∷ []) ∙ ap (λ o. join_two a o) (join_places b (c ∷ []) ∙ ap (λ o. join_two b o) (join_last c)))

module _ (a b c d : Option Fault) where
  joined_right : join_two a (join_two b (join_two c d)) ≡ join (refused (a ∷ b ∷ c ∷ d ∷ []))
  joined_right = ap (λ o. join_two a o) (joined_three b c d) ∙ sym (join_places a (b ∷ c ∷ d ∷ []))

  joined_pairs : join_two (join_two a b) (join_two c d) ≡ join (refused (a ∷ b ∷ c ∷ d ∷ []))
  joined_pairs = assoc a b (join_two c d) ∙ joined_right

  joined_left : join_two (join_two (join_two a b) c) d ≡ join (refused (a ∷ b ∷ c ∷ d ∷ []))
  joined_left = assoc (join_two a b) c d ∙ joined_pairs

  joined_inner : join_two a (join_two (join_two b c) d) ≡ join (refused (a ∷ b ∷ c ∷ d ∷ []))
  joined_inner = ap (λ o. join_two a o) (assoc b c d) ∙ joined_right

  joined_outer : join_two (join_two a (join_two b c)) d ≡ join (refused (a ∷ b ∷ c ∷ d ∷ []))
  joined_outer = assoc a (join_two b c) d ∙ joined_inner

abbrev IsValue : {T : Type 0} → Result T Fault → Type 0
IsValue (Ok v) = ⊤
IsValue (Err e) = ⊥

-- a result as what makes it: the values are all there where there is no error
record Collected {T : Type 0} (x : Result T Fault) : Type 0 where
  error : Option Fault
  values : Result T Fault
  is : x ≡ unless_refused error values
  there : error ≡ None → IsValue values

leaf_is : {T : Type 0} (x : Result T Fault) → x ≡ unless_refused (refusal x) x
leaf_is (Ok v) = refl
leaf_is (Err e) = refl

leaf_there : {T : Type 0} (x : Result T Fault) → refusal x ≡ None → IsValue x
leaf_there (Ok v) h = tt
leaf_there (Err e) h = absurd (cc h)

abbrev leaf : {T : Type 0} (x : Result T Fault) → Collected x
leaf x = record { error = refusal x; values = x; is = leaf_is x; there = leaf_there x }

node_is : {A B : Type 0} (p q : Option Fault) (x : Result A Fault) (y : Result B Fault) → (p ≡ None → IsValue x) → (q ≡ None → IsValue y)
    → collected2 (unless_refused p x) (unless_refused q y) ≡ unless_refused (join_two p q) (values2 x y)
node_is (Some e) (Some f) x y g h = refl
node_is (Some e) None x (Ok b) g h = refl
node_is (Some e) None x (Err f) g h = absurd (h refl)
node_is None (Some f) (Ok a) y g h = refl
node_is None (Some f) (Err e) y g h = absurd (g refl)
node_is None None (Ok a) (Ok b) g h = refl
node_is None None (Err e) y g h = absurd (g refl)
node_is None None (Ok a) (Err f) g h = absurd (h refl)

node_there : {A B : Type 0} (p q : Option Fault) (x : Result A Fault) (y : Result B Fault) → (p ≡ None → IsValue x) → (q ≡ None → IsValue y)
    → join_two p q ≡ None → IsValue (values2 x y)
node_there None q (Ok a) (Ok b) g h none = tt
node_there None q (Ok a) (Err f) g h none = h none
node_there None q (Err e) y g h none = g refl
node_there (Some e) None x y g h none = absurd (cc none)
node_there (Some e) (Some f) x y g h none = absurd (cc none)

abbrev node : {A B : Type 0} (x : Result A Fault) (y : Result B Fault) → Collected x → Collected y → Collected (collected2 x y)
node x y s t = record {
  error = join_two s.error t.error;
  values = values2 s.values t.values;
  is = rw (s.is, t.is) (node_is s.error t.error s.values t.values s.there t.there);
  there = node_there s.error t.error s.values t.values s.there t.there;
}

regrouped_is : {T U : Type 0} (f : T → U) (o : Option Fault) (x : Result T Fault) → unless_refused o (map_value f x) ≡ map_value f (unless_refused o x)
regrouped_is f None x = refl
regrouped_is f (Some e) x = refl

same_result : {T U : Type 0} (f : T → U) (y : Result U Fault) (s : Collected y) (o : Option Fault) (x : Result T Fault)
    → s.error ≡ o → s.values ≡ map_value f x → y ≡ map_value f (unless_refused o x)
same_result f y s o x ho hx = s.is ∙ (rw (ho, hx) (regrouped_is f o x))

-- three results
values_three : {A B C : Type 0} (x : Result A Fault) (y : Result B Fault) (z : Result C Fault)
    → values2 x (values2 y z) ≡ map_value (λ v. (v.0, (v.1, v.2))) (values3 x y z)
values_three (Err e) y z = refl
values_three (Ok a) (Err e) z = refl
values_three (Ok a) (Ok b) (Err e) = refl
values_three (Ok a) (Ok b) (Ok c) = refl

pub collected_three : {A B C : Type 0} (x : Result A Fault) (y : Result B Fault) (z : Result C Fault)
    → collected2 x (collected2 y z) ≡ map_value (λ v. (v.0, (v.1, v.2))) (collected3 x y z)
collected_three x y z =
    same_result (λ v. (v.0, (v.1, v.2))) (collected2 x (collected2 y z)) (node x (collected2 y z) (leaf x) (node y z (leaf y) (leaf z)))
    (join (refused (refusal x ∷ refusal y ∷ refusal z ∷ []))) (values3 x y z) (joined_three (refusal x) (refusal y) (refusal z)) (values_three x y z)

-- four results in each nesting of pairs
module _ {A B C D : Type 0} where
  values_pairs : (x : Result A Fault) (y : Result B Fault) (z : Result C Fault) (w : Result D Fault)
      → values2 (values2 x y) (values2 z w) ≡ map_value (λ v. ((v.0, v.1), (v.2, v.3))) (values4 x y z w)
  values_pairs (Err e) y z w = refl
  values_pairs (Ok a) (Err e) z w = refl
  values_pairs (Ok a) (Ok b) (Err e) w = refl
  values_pairs (Ok a) (Ok b) (Ok c) (Err e) = refl
  values_pairs (Ok a) (Ok b) (Ok c) (Ok d) = refl

  values_right : (x : Result A Fault) (y : Result B Fault) (z : Result C Fault) (w : Result D Fault)
      → values2 x (values2 y (values2 z w)) ≡ map_value (λ v. (v.0, (v.1, (v.2, v.3)))) (values4 x y z w)
  values_right (Err e) y z w = refl
  values_right (Ok a) (Err e) z w = refl
  values_right (Ok a) (Ok b) (Err e) w = refl
  values_right (Ok a) (Ok b) (Ok c) (Err e) = refl
  values_right (Ok a) (Ok b) (Ok c) (Ok d) = refl

  values_left : (x : Result A Fault) (y : Result B Fault) (z : Result C Fault) (w : Result D Fault)
      → values2 (values2 (values2 x y) z) w ≡ map_value (λ v. (((v.0, v.1), v.2), v.3)) (values4 x y z w)
  values_left (Err e) y z w = refl
  values_left (Ok a) (Err e) z w = refl
  values_left (Ok a) (Ok b) (Err e) w = refl
  values_left (Ok a) (Ok b) (Ok c) (Err e) = refl
  values_left (Ok a) (Ok b) (Ok c) (Ok d) = refl

  values_inner : (x : Result A Fault) (y : Result B Fault) (z : Result C Fault) (w : Result D Fault)
      → values2 x (values2 (values2 y z) w) ≡ map_value (λ v. (v.0, ((v.1, v.2), v.3))) (values4 x y z w)
  values_inner (Err e) y z w = refl
  values_inner (Ok a) (Err e) z w = refl
  values_inner (Ok a) (Ok b) (Err e) w = refl
  values_inner (Ok a) (Ok b) (Ok c) (Err e) = refl
  values_inner (Ok a) (Ok b) (Ok c) (Ok d) = refl

  values_outer : (x : Result A Fault) (y : Result B Fault) (z : Result C Fault) (w : Result D Fault)
      → values2 (values2 x (values2 y z)) w ≡ map_value (λ v. ((v.0, (v.1, v.2)), v.3)) (values4 x y z w)
  values_outer (Err e) y z w = refl
  values_outer (Ok a) (Err e) z w = refl
  values_outer (Ok a) (Ok b) (Err e) w = refl
  values_outer (Ok a) (Ok b) (Ok c) (Err e) = refl
  values_outer (Ok a) (Ok b) (Ok c) (Ok d) = refl

  module _ (x : Result A Fault) (y : Result B Fault) (z : Result C Fault) (w : Result D Fault) where
    four : {T : Type 0} (f : A × B × C × D → T) (u : Result T Fault) (s : Collected u)
        → s.error ≡ join (refused (refusal x ∷ refusal y ∷ refusal z ∷ refusal w ∷ []))
        → s.values ≡ map_value f (values4 x y z w)
        → u ≡ map_value f (collected4 x y z w)
    four f u s ho hx = same_result f u s (join (refused (refusal x ∷ refusal y ∷ refusal z ∷ refusal w ∷ []))) (values4 x y z w) ho hx

    pub collected_pairs : collected2 (collected2 x y) (collected2 z w) ≡ map_value (λ v. ((v.0, v.1), (v.2, v.3))) (collected4 x y z w)
    collected_pairs =
        four (λ v. ((v.0, v.1), (v.2, v.3))) (collected2 (collected2 x y) (collected2 z w))
        (node (collected2 x y) (collected2 z w) (node x y (leaf x) (leaf y)) (node z w (leaf z) (leaf w)))
        (joined_pairs (refusal x) (refusal y) (refusal z) (refusal w)) (values_pairs x y z w)

    pub collected_right : collected2 x (collected2 y (collected2 z w)) ≡ map_value (λ v. (v.0, (v.1, (v.2, v.3)))) (collected4 x y z w)
    collected_right =
        four (λ v. (v.0, (v.1, (v.2, v.3)))) (collected2 x (collected2 y (collected2 z w)))
        (node x (collected2 y (collected2 z w)) (leaf x) (node y (collected2 z w) (leaf y) (node z w (leaf z) (leaf w))))
        (joined_right (refusal x) (refusal y) (refusal z) (refusal w)) (values_right x y z w)

    pub collected_left : collected2 (collected2 (collected2 x y) z) w ≡ map_value (λ v. (((v.0, v.1), v.2), v.3)) (collected4 x y z w)
    collected_left =
        four (λ v. (((v.0, v.1), v.2), v.3)) (collected2 (collected2 (collected2 x y) z) w)
        (node (collected2 (collected2 x y) z) w (node (collected2 x y) z (node x y (leaf x) (leaf y)) (leaf z)) (leaf w))
        (joined_left (refusal x) (refusal y) (refusal z) (refusal w)) (values_left x y z w)

    pub collected_inner : collected2 x (collected2 (collected2 y z) w) ≡ map_value (λ v. (v.0, ((v.1, v.2), v.3))) (collected4 x y z w)
    collected_inner =
        four (λ v. (v.0, ((v.1, v.2), v.3))) (collected2 x (collected2 (collected2 y z) w))
        (node x (collected2 (collected2 y z) w) (leaf x) (node (collected2 y z) w (node y z (leaf y) (leaf z)) (leaf w)))
        (joined_inner (refusal x) (refusal y) (refusal z) (refusal w)) (values_inner x y z w)

    pub collected_outer : collected2 (collected2 x (collected2 y z)) w ≡ map_value (λ v. ((v.0, (v.1, v.2)), v.3)) (collected4 x y z w)
    collected_outer =
        four (λ v. ((v.0, (v.1, v.2)), v.3)) (collected2 (collected2 x (collected2 y z)) w)
        (node (collected2 x (collected2 y z)) w (node x (collected2 y z) (leaf x) (node y z (leaf y) (leaf z))) (leaf w))
        (joined_outer (refusal x) (refusal y) (refusal z) (refusal w)) (values_outer x y z w)
