-- What a pool keeps, after a record is taken or comes back.
use Rattle.std.proofs.Common.{◌≡◌, ℕ, zero, suc, ◌-◌, ◌<◌, ◌≤◌, Bool, true, false, List, [], ◌∷◌, ◌++◌, map, length, nat_lt, refl, sym, ◌∙◌, ap, arith, subst, length-append}
use Rattle.std.specs.Prelude.{Option, take, ◌&&◌, option_to_list}
use Rattle.std.specs.List.{All}
use Rattle.std.proofs.lemmas.Bool.Decides.{nat_tests}
use Rattle.std.proofs.lemmas.List.{length-map, map_push}
use Rattle.std.proofs.lemmas.List.Elements.{All-pop, All-push}
use Rattle.web_request.specs.Pool.{Clean, Pool, but_last, made_after, after_start}
use Rattle.web_request.specs.KeptRecords.{KeptRecords}
use Rattle.web_request.specs.Request.{Record}

map_take : {X Y : Type 0} (f : X → Y) (n : ℕ) (xs : List X) → map f (take n xs) ≡ take n (map f xs)
map_take f zero xs = refl
map_take f (suc n) [] = refl
map_take f (suc n) (x ∷ xs) = ap (λ ys. f x ∷ ys) (map_take f n xs)

length_take : {X : Type 0} (n : ℕ) (xs : List X) → length (take n xs) ≤ length xs
length_take zero xs = omega arith
length_take (suc n) [] = omega arith
length_take (suc n) (x ∷ xs) = let h = length_take n xs in omega arith

take_none : {X : Type 0} (n : ℕ) → take {A = X} n [] ≡ []
take_none zero = refl
take_none (suc n) = refl

both : (a b : Bool) → (a && b) ≡ true → (a ≡ true) × (b ≡ true)
both true b h = (refl, h)
both false b h = (h, grind arith)

is_less : (n c : ℕ) → nat_lt n c ≡ true → n < c
is_less n c h = grind (arith, nat_tests)

-- after a record was taken, `made` stays
made_stays : (n : ℕ) (xs : List ℕ) → 0 < length xs → made_after n xs ≡ n
made_stays n [] h = grind arith
made_stays n (x ∷ xs) h = refl

pub taken_is : {L : Type 0} (p : Pool L) (ys : List ℕ) → ys ≡ but_last p.serials → 0 < length p.serials → record p { serials = ys } ≡ after_start p
taken_is p ys e h = rw (e, made_stays p.made p.serials h) refl

-- what a list's pop leaves, where n is the length that the list says of itself
pub shorter : {X : Type 0} (xs ys : List X) (n : ℕ) → ys ≡ take (n - 1) xs → n ≡ length xs → ys ≡ take (length xs - 1) xs
shorter xs ys n e same = e ∙ ap (λ m. take (m - 1) xs) same

pub some_there : {X : Type 0} (xs ys : List X) (x : X) → xs ≡ ys ++ x ∷ [] → 0 < length xs
some_there xs ys x h = let e = ap length h ∙ length-append ys (x ∷ []) in omega arith

-- as long as it is said to be
take_exact : {X : Type 0} (n : ℕ) (xs : List X) → n ≤ length xs → length (take n xs) ≡ n
take_exact zero xs h = refl
take_exact (suc n) [] h = grind arith
take_exact (suc n) (x ∷ xs) h = let e = take_exact n xs (omega arith) in omega arith

one_less : {X : Type 0} (xs ys : List X) → ys ≡ take (length xs - 1) xs → length ys ≡ length xs - 1
one_less xs ys h = ap length h ∙ take_exact (length xs - 1) xs (omega arith)

module _ {L D C : Type 0} {xs : List ℕ} {rs : List (Record L D C)} {c : ℕ} {e : Bool} {room places : ℕ} (k : KeptRecords xs rs c e room places) where
  pub keeps_taken : (xs2 : List ℕ) (rs2 : List (Record L D C)) (o : Option (Record L D C)) (room2 places2 : ℕ) → rs ≡ rs2 ++ option_to_list o
      → rs2 ≡ take (length rs - 1) rs → xs2 ≡ take (length xs - 1) xs → room2 ≡ room → places2 ≡ places → KeptRecords xs2 rs2 c e room2 places2
  keeps_taken xs2 rs2 o room2 places2 p q t u v = record {
    clean = (All-pop Clean rs rs2 o p k.clean).0;
    fewer = (let m = one_less rs rs2 q in let n = one_less xs xs2 t in let f = k.fewer in omega arith);
    within = (let w = k.within in let n = one_less xs xs2 t in omega arith);
    records_fit = rw u k.records_fit;
    numbers_fit = rw v k.numbers_fit;
    off = λ z. t ∙ ap (take (length xs - 1)) (k.off z) ∙ take_none (length xs - 1);
  }

  pub keeps_as_before : (rs2 : List (Record L D C)) (room2 : ℕ) → rs2 ≡ rs → room ≤ room2 → KeptRecords xs rs2 c e room2 places
  keeps_as_before rs2 room2 p h = record {
    clean = rw p k.clean;
    fewer = rw p k.fewer;
    within = k.within;
    records_fit = (let f = k.records_fit in omega arith);
    numbers_fit = k.numbers_fit;
    off = k.off;
  }

  pub room_left : (e && nat_lt (length xs) c) ≡ true → length rs < room
  room_left h = let lt = is_less (length xs) c (both e _ h).1 in let f = k.records_fit in let s = k.fewer in omega arith

  pub place_left : (e && nat_lt (length xs) c) ≡ true → length xs < places
  place_left h = let lt = is_less (length xs) c (both e _ h).1 in let f = k.numbers_fit in omega arith

  -- a number more
  pub keeps_number : (n : ℕ) (xs2 : List ℕ) (places2 : ℕ) → (e && nat_lt (length xs) c) ≡ true
      → xs2 ≡ xs ++ n ∷ [] → places ≤ places2 → KeptRecords xs2 rs c e room places2
  keeps_number n xs2 places2 a p v = record {
    clean = k.clean;
    fewer = (let f = k.fewer in rw p (omega (arith, length-append {A = ℕ} xs (n ∷ []))));
    within = (let lt = is_less (length xs) c (both e _ a).1 in rw p (omega (arith, length-append {A = ℕ} xs (n ∷ []))));
    records_fit = k.records_fit;
    numbers_fit = (let f = k.numbers_fit in omega arith);
    off = λ z. grind (arith, both e _ a);
  }

  -- a number and a record more
  pub keeps_given : (r : Record L D C) (n : ℕ) (xs2 : List ℕ) (rs2 : List (Record L D C)) (room2 places2 : ℕ) → (e && nat_lt (length xs) c) ≡ true → Clean r
      → xs2 ≡ xs ++ n ∷ [] → rs2 ≡ rs ++ r ∷ [] → room ≤ room2 → places ≤ places2 → KeptRecords xs2 rs2 c e room2 places2
  keeps_given r n xs2 rs2 room2 places2 a clean p q u v = record {
    clean = subst (All Clean) (sym q) (All-push Clean rs r k.clean clean);
    fewer = (let f = k.fewer in let m = ap length q ∙ length-append rs (r ∷ []) in let l = ap length p ∙ length-append xs (n ∷ []) in omega arith);
    within = (let lt = is_less (length xs) c (both e _ a).1 in rw p (omega (arith, length-append {A = ℕ} xs (n ∷ []))));
    records_fit = (let f = k.records_fit in omega arith);
    numbers_fit = (let f = k.numbers_fit in omega arith);
    off = λ z. grind (arith, both e _ a);
  }
