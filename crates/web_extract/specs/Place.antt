-- One place of an argument list.
use Rattle.std.specs.Prelude.{◌≡◌, ℕ, suc, Bool, true, false, Result, Ok, Err, ⊤}
use Rattle.web_texts.specs.declared.memory.NoMemory.{NoMemory}
use Rattle.web_reply.specs.Replies.{Fault}
use Rattle.web_extract.specs.ArgumentLists.{Gives, ConvertsRefusal}
use Rattle.web_extract.specs.declared.lists.place.Place.{Place}
use Rattle.web_extract.specs.declared.lists.place.Place.TheVariants.{Waiting, Done, Taken}

abbrev pub place_finished : {F T : Type 0} → (F → Bool) → Place F T → Bool
place_finished finished (Waiting f) = finished f
place_finished finished (Done x) = false
place_finished finished Taken = true

-- a result that is there comes at the next poll; a refusal that is to come is converted
abbrev pub place_comes :
    {F T E : Type 0} → (E → Fault → Type 0) → (F → ℕ → Result T E → Type 0) → Place F T → Gives T
place_comes converts gives (Waiting f) n x = ConvertsRefusal converts (gives f) n x
place_comes converts gives (Done y) n x = (n ≡ 0) × (x ≡ y)
place_comes converts gives Taken n x = ⊥

-- the place holds its result, which came at this poll or before; or all that may come comes one
-- poll later than before
abbrev pub HoldsOrWaits :
    {F T : Type 0} → (Place F T → Gives T) → Place F T → Bool → Place F T → Type 0
HoldsOrWaits {F} {T} comes old true new =
    (x : Result T Fault) × (new ≡ Done x) × comes old 0 x
HoldsOrWaits {F} {T} comes old false new =
    (n : ℕ) (x : Result T Fault) → comes new n x → comes old (suc n) x

-- what one poll makes of a place: whether its result is there, or an allocation failed
abbrev pub Advances :
    {F T : Type 0} → (F → Bool) → (Place F T → Gives T) → Place F T → Result Bool NoMemory
    → Place F T → Type 0
Advances finished comes old (Ok here) new =
    (place_finished finished new ≡ false) × HoldsOrWaits comes old here new
Advances finished comes old (Err e) new = place_finished finished new ≡ true

-- what makes the next poll of a place allocate nothing
abbrev pub PlaceNeedsNoMemory : {F T : Type 0} → (F → Type 0) → Place F T → Type 0
PlaceNeedsNoMemory needs (Waiting f) = needs f
PlaceNeedsNoMemory needs (Done x) = ⊤
PlaceNeedsNoMemory needs Taken = ⊤
