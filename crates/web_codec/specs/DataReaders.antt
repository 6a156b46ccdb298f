-- What values are read from JSON values.
use Rattle.std.specs.Prelude.{◌≡◌, ℕ, List, [], ◌∷◌, ◌++◌, ◌||◌, Bool, false, is_some, ⊤}
use Rattle.std.specs.Prelude.{Option, None, Some, Result, Ok, Err, codes, if◌then◌else◌}
use Rattle.std.specs.Str.{bytes_eq}
use Rattle.serde_json.specs.View.{view}
use Rattle.serde_json.specs.declared.value.Value.{Value}
use Rattle.serde_json.specs.Data.{Data, Items, no_items, item, Members, no_members, member}
use Rattle.serde_json.specs.Find.{get, as_null, as_bool, as_str, as_array, as_object}
use Rattle.web_codec.specs.Answers.{or_refuse, and_then}
use Rattle.web_codec.specs.declared.faults.ReadFault.{ReadFault}

-- what is read from a value
abbrev pub DataReader : Type 0 → Type 0
DataReader T = Data → Result T ReadFault

abbrev pub text_of : DataReader (List ℕ)
text_of d = or_refuse (record { text = codes "no text" }) (as_str d) (λ x. Ok x)

abbrev pub bool_of : DataReader Bool
bool_of d = or_refuse (record { text = codes "neither true nor false" }) (as_bool d) (λ x. Ok x)

abbrev pub option_of : {T : Type 0} → DataReader T → DataReader (Option T)
option_of read d =
    if is_some (as_null d) then Ok None else and_then (read d) (λ x. Ok (Some x))

-- the items that were read so far, and those that are read of the others
abbrev pub items_onto : {T : Type 0}
    → DataReader T → List T → Items → Result (List T) ReadFault
items_onto read so_far no_items = Ok so_far
items_onto read so_far (item d ds) =
    and_then (read d) (λ x. items_onto read (so_far ++ x ∷ []) ds)

abbrev pub list_of : {T : Type 0} → DataReader T → DataReader (List T)
list_of read d = or_refuse (record { text = codes "no list" }) (as_array d) (items_onto read [])

-- a refusal names the member
abbrev pub in_member : {T : Type 0} → List ℕ → Result T ReadFault → Result T ReadFault
in_member name (Ok x) = Ok x
in_member name (Err e) = Err (record { text = name ++ (codes ": " ++ e.text) })

abbrev pub missing : List ℕ → ReadFault
missing name = record { text = name ++ codes ": missing" }

abbrev pub required_in : {T : Type 0}
    → DataReader T → List ℕ → Option Data → Result T ReadFault
required_in read name None = Err (missing name)
required_in read name (Some d) = in_member name (read d)

-- the value of a member that has to be there
abbrev pub required : {T : Type 0} → DataReader T → List ℕ → DataReader T
required read name d = required_in read name (get name d)

abbrev pub member_or_in : {T : Type 0}
    → DataReader T → List ℕ → T → Option Data → Result T ReadFault
member_or_in read name default None = Ok default
member_or_in read name default (Some d) = in_member name (read d)

-- the value of a member, or a default where it is not there
abbrev pub member_or : {T : Type 0} → DataReader T → List ℕ → T → DataReader T
member_or read name default d = member_or_in read name default (get name d)

-- an object, then what follows
abbrev pub in_object : {T : Type 0} → Data → Result T ReadFault → Result T ReadFault
in_object d after =
    if is_some (as_object d) then after else Err (record { text = codes "no object" })

-- a value that is this one
abbrev pub IsValue : Data → Result Value ReadFault → Type 0
IsValue d (Ok v) = view v ≡ d
IsValue d (Err e) = ⊥

-- whether a text is one of these
abbrev pub is_one_of : List ℕ → List (List ℕ) → Bool
is_one_of text [] = false
is_one_of text (n ∷ ns) = bytes_eq n text || is_one_of text ns

abbrev pub known_members : List (List ℕ) → Members → Result ⊤ ReadFault
known_members names no_members = Ok tt
known_members names (member k d ms) =
    if is_one_of k names then known_members names ms
    else Err (record { text = codes "unknown member" })

abbrev pub known_in : List (List ℕ) → Option Members → Result ⊤ ReadFault
known_in names None = Ok tt
known_in names (Some ms) = known_members names ms

-- an object has no member of another name
abbrev pub deny_unknown : List (List ℕ) → DataReader ⊤
deny_unknown names d = known_in names (as_object d)
