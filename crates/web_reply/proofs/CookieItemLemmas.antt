-- How many items the cookies of a response have.
use Rattle.std.proofs.Common.{◌≡◌, ◌+◌, ◌<◌, ◌≤◌, List, [], ◌∷◌, length, arith, ap}
use Rattle.std.specs.Prelude.{Result, Ok, Err, Some}
use Rattle.http_header.specs.FieldValue.{FieldValue}
use Rattle.web_texts.specs.declared.memory.NoMemory.{NoMemory}
use Rattle.web_cookies.specs.CookieFields.{CookieFields}
use Rattle.web_reply.specs.ResponseCookies.{GivesCookie, GivesCookies}

fewer : (old new : List FieldValue) (item : Result CookieFields NoMemory) → GivesCookie old (Some item) new → length new < length old
fewer old new (Ok cookie) given = given.1
fewer old new (Err e) given = let none : length new ≡ 0 = ap length given.0 in omega arith

pub items_bounded : (old new : List FieldValue) (items : List (Result CookieFields NoMemory)) → GivesCookies old items new
    → length items + length new ≤ length old
items_bounded old new [] given = let same : length old ≡ length new = ap length given in omega arith
items_bounded old new (item ∷ more) given =
    let one = fewer old given.0 item given.1 in
    let rest = items_bounded given.0 new more given.2 in omega arith
