-- What an item is read from, and what it is written as.
use Rattle.std.specs.Prelude.{ℕ, List, [], ◌∷◌, ◌++◌, Result, Ok, Err, codes, decimal}
use Rattle.std.specs.Prelude.{option_and_then}
use Rattle.serde_json.specs.Data.{Data, number, string, object, unsigned, member, no_members}
use Rattle.serde_json.specs.Find.{get_member, as_object, as_str, as_number, as_u64}
use Rattle.web_texts.specs.Digits.{digits_up_to}
use Rattle.web_texts.specs.Pairs.{Pair}
use Rattle.web_codec.specs.declared.faults.ReadFault.{ReadFault}
use Rattle.web_codec.specs.Answers.{and_then, or_refuse}
use Rattle.web_codec.specs.FormPairs.{values_of}
use Rattle.demo_app.specs.declared.item.Item.{Item}

abbrev pub because : List ℕ → ReadFault
because text = record { text = text }

-- An object with a text `name` and a whole number `n`: the first test that is not met refuses.
abbrev pub item_of_json : Data → Result Item ReadFault
item_of_json d =
    or_refuse (because (codes "no object")) (as_object d)
    (λ members. or_refuse (because (codes "missing name")) (get_member (codes "name") members)
    (λ name. or_refuse (because (codes "name is no text")) (as_str name)
    (λ text. or_refuse (because (codes "missing n")) (get_member (codes "n") members)
    (λ n. or_refuse (because (codes "n is no whole number"))
    (option_and_then as_u64 (as_number n))
    (λ k. Ok (record { name = text; n = k }))))))

abbrev pub json_of_item : Item → Data
json_of_item item =
    object (member (codes "n") (number (unsigned item.n))
    (member (codes "name") (string item.name) no_members))

-- the one value; else the refusal of none, or that of more than one
abbrev pub one_value : ReadFault → ReadFault → List (List ℕ) → Result (List ℕ) ReadFault
one_value missing twice [] = Err missing
one_value missing twice (value ∷ []) = Ok value
one_value missing twice (value ∷ other ∷ more) = Err twice

-- One value of `name`, and one of `n`, which is a number: the first test that is not met refuses.
abbrev pub item_of_pairs : List Pair → Result Item ReadFault
item_of_pairs pairs =
    and_then
    (one_value (because (codes "missing name")) (because (codes "duplicate name"))
    (values_of (codes "name") pairs))
    (λ name. and_then
    (one_value (because (codes "missing n")) (because (codes "duplicate n"))
    (values_of (codes "n") pairs))
    (λ n. or_refuse (because (codes "n is no number")) (digits_up_to 18446744073709551615 n)
    (λ k. Ok (record { name = name; n = k }))))

abbrev pub pairs_of_item : Item → List Pair
pairs_of_item item =
    record { name = codes "name"; value = item.name }
    ∷ record { name = codes "n"; value = decimal item.n } ∷ []

-- the name, a space and the number
abbrev pub item_text : Item → List ℕ
item_text item = item.name ++ (codes " " ++ decimal item.n)
