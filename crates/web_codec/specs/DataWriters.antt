-- What JSON values are written for values.
use Rattle.std.specs.Prelude.{◌≡◌, ◌||◌, ℕ, ℤ, pos, negsuc, Bool, true, false, List, [], ◌∷◌}
use Rattle.std.specs.Prelude.{Option, None, Some, map, refl}
use Rattle.std.specs.declared.cmp.Ordering.{Ordering}
use Rattle.std.specs.declared.cmp.Ordering.TheVariants.{Less, Equal, Greater}
use Rattle.std.specs.Ordering.{match_ordering, nat_cmp}
use Rattle.std.specs.Cmp.Lexicographic.{slice_cmp}
use Rattle.serde_json.specs.Data.{Members, no_members, member, put, object}
use Rattle.serde_json.specs.Written.{has_float, items_have_float, members_have_float}
use Rattle.serde_json.specs.Data.{Data, null, array, boolean, number, string, unsigned}
use Rattle.serde_json.specs.Find.{of_integer}
use Rattle.serde_json.specs.View.{items_of}

abbrev pub data_of_text : List ℕ → Data
data_of_text x = string x

abbrev pub data_of_bool : Bool → Data
data_of_bool x = boolean x

abbrev pub data_of_unsigned : ℕ → Data
data_of_unsigned x = number (unsigned x)

abbrev pub data_of_signed : ℤ → Data
data_of_signed x = number (of_integer x)

abbrev pub data_of_option : {T : Type 0} → (T → Data) → Option T → Data
data_of_option written None = null
data_of_option written (Some x) = written x

abbrev pub data_of_list : {T : Type 0} → (T → Data) → List T → Data
data_of_list written xs = array (items_of (map written xs))

pub text_no_float : (x : List ℕ) → has_float (data_of_text x) ≡ false
text_no_float x = refl

pub bool_no_float : (x : Bool) → has_float (data_of_bool x) ≡ false
bool_no_float x = refl

pub unsigned_no_float : (x : ℕ) → has_float (data_of_unsigned x) ≡ false
unsigned_no_float x = refl

pub signed_no_float : (x : ℤ) → has_float (data_of_signed x) ≡ false
signed_no_float (pos n) = refl
signed_no_float (negsuc n) = refl

pub option_no_float : {T : Type 0} (written : T → Data) → ((x : T) → has_float (written x) ≡ false)
    → (x : Option T) → has_float (data_of_option written x) ≡ false
option_no_float written none None = refl
option_no_float written none (Some x) = none x

or_right : (a b : Bool) → (a || b) ≡ false → b ≡ false
or_right false b p = p
or_right true b p = absurd (cc)

or_left : (a b : Bool) → (a || b) ≡ false → a ≡ false
or_left false b p = refl
or_left true b p = absurd (cc)

neither : (a b : Bool) → a ≡ false → b ≡ false → (a || b) ≡ false
neither false b p q = q
neither true b p q = absurd (cc)

placed : (o : Ordering) (k : List ℕ) (d : Data) (l : List ℕ) (e : Data) (ms : Members)
    → has_float d ≡ false → members_have_float (member l e ms) ≡ false
    → members_have_float (put k d ms) ≡ false
    → members_have_float
    (match_ordering o (member k d (member l e ms)) (member l d ms) (member l e (put k d ms)))
    ≡ false
placed Less k d l e ms p q r = neither (has_float d) (members_have_float (member l e ms)) p q
placed Equal k d l e ms p q r =
    neither (has_float d) (members_have_float ms) p
    (or_right (has_float e) (members_have_float ms) q)
placed Greater k d l e ms p q r =
    neither (has_float e) (members_have_float (put k d ms))
    (or_left (has_float e) (members_have_float ms) q) r

pub put_no_float : (k : List ℕ) (d : Data) (ms : Members) → has_float d ≡ false
    → members_have_float ms ≡ false → members_have_float (put k d ms) ≡ false
put_no_float k d no_members p q = neither (has_float d) false p refl
put_no_float k d (member l e ms) p q =
    placed (slice_cmp nat_cmp k l) k d l e ms p q
    (put_no_float k d ms p (or_right (has_float e) (members_have_float ms) q))

pub list_no_float : {T : Type 0} (written : T → Data) → ((x : T) → has_float (written x) ≡ false)
    → (xs : List T) → has_float (data_of_list written xs) ≡ false
list_no_float written none [] = refl
list_no_float written none (x ∷ xs) =
    neither (has_float (written x)) (items_have_float (items_of (map written xs))) (none x)
    (list_no_float written none xs)
