-- What a refusal of a part says of the whole.
use Rattle.std.proofs.Common.{◌≡◌, Bool, true, false, ◌&&◌, Option, Some, None, refl}
use Rattle.web_texts.specs.declared.memory.Fail.{Fail}
use Rattle.web_texts.specs.declared.memory.Fail.TheVariants as fail
use Rattle.cli_script.specs.Acceptance.{Refuses}
use Rattle.cli_script.specs.LineFaults.{unless}
use Rattle.cli_script.specs.declared.reason.LineFault.{LineFault}

pub passed_on : {E : Type 0} (e : Fail E) (one : Option E) (all : Option E) → ((x : E) → one ≡ Some x → all ≡ Some x) → Refuses e one → Refuses e all
passed_on fail.NoMemory one all whole refused = tt
passed_on (fail.Of x) one all whole refused = whole x refused

pub none_unless : (b : Bool) (r : LineFault) → b ≡ true → unless b r ≡ None
none_unless b r is = rw is refl

pub some_unless : (b : Bool) (r : LineFault) → b ≡ false → unless b r ≡ Some r
some_unless b r is = rw is refl

-- what a test that meets no fault says, and one that meets a fault
pub met : (b : Bool) (r : LineFault) → unless b r ≡ None → b ≡ true
met true r none = refl
met false r none = absurd (cc)

pub not_met : (b : Bool) (r s : LineFault) → unless b r ≡ Some s → (b ≡ false) × (s ≡ r)
not_met true r s some = absurd (cc)
not_met false r s some = (refl, cc)

-- two tests with one reason
pub first_unmet : (a b : Bool) (r s : LineFault) → unless a r ≡ Some s → unless (a && b) r ≡ Some s
first_unmet a b r s some =
    let bad = not_met a r s some in
    rw (bad.0, bad.1) refl

pub second_unmet : (a b : Bool) (r s : LineFault) → unless b r ≡ Some s → unless (a && b) r ≡ Some s
second_unmet true b r s some = some
second_unmet false b r s some =
    let bad = not_met b r s some in
    rw bad.1 refl

pub both_met : (a b : Bool) (r : LineFault) → unless a r ≡ None → unless b r ≡ None → unless (a && b) r ≡ None
both_met true b r first second = second
both_met false b r first second = first
