-- What `Payment` is read from, and written as. Written by tools/new-type.
use Rattle.std.specs.Prelude.{◌≡◌, ◌∷◌, ℕ, List, [], false, Result, Ok, Err, codes, refl, bytes_eq}
use Rattle.std.specs.Prelude.{if◌then◌else◌}
use Rattle.serde_json.specs.Data.{Data, string}
use Rattle.serde_json.specs.Find.{as_str}
use Rattle.serde_json.specs.Written.{has_float}
use Rattle.web_codec.specs.Answers.{or_refuse}
use Rattle.web_codec.specs.declared.faults.ReadFault.{ReadFault}
use Rattle.test_types.specs.declared.payment.Payment.{Payment}
use Rattle.test_types.specs.declared.payment.Payment.TheVariants.{Cash, ByCard, Later}

abbrev pub name_of_payment : Payment → List ℕ
name_of_payment Cash = codes "cash"
name_of_payment ByCard = codes "by-card"
name_of_payment Later = codes "later"

abbrev pub payment_field : List ℕ → Result Payment ReadFault
payment_field t =
    if bytes_eq t (codes "cash") then Ok Cash
    else if bytes_eq t (codes "by-card") then Ok ByCard
    else if bytes_eq t (codes "later") then Ok Later
    else Err (record { text = codes "none of cash, by-card, later" })

abbrev pub payment_of : Data → Result Payment ReadFault
payment_of d = or_refuse (record { text = codes "no text" }) (as_str d) payment_field

abbrev pub data_of_payment : Payment → Data
data_of_payment x = string (name_of_payment x)

pub payment_no_float : (x : Payment) → has_float (data_of_payment x) ≡ false
payment_no_float x = refl

abbrev pub texts_of_payment : Payment → List (List ℕ)
texts_of_payment x = name_of_payment x ∷ []
