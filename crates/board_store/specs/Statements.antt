-- The statements of the board, as texts and parameters.
use Rattle.std.specs.Prelude.{ℤ, pos, Bool, if◌then◌else◌, List, [], ◌∷◌, ◌++◌, ℕ, codes}
use Rattle.std.specs.Prelude.{Option, None, Some}
use Rattle.sqlite.specs.Order.{Row}
use Rattle.sqlite.specs.Value.{owned}
use Rattle.sqlite.specs.Values.{bound_value}
use Rattle.sqlite.specs.declared.types.Value.{Value}
use Rattle.sqlite.specs.declared.types.ValueRef.{ValueRef}
use Rattle.sqlite.specs.declared.types.Value.TheVariants.{Null, Int, Text as Words}
use Rattle.board_store.specs.declared.draft.Draft.{Draft}

abbrev pub table_text : List ℕ
table_text =
    codes "CREATE TABLE item (id INTEGER PRIMARY KEY, "
    ++ codes "title TEXT NOT NULL UNIQUE CHECK (length(title) BETWEEN 1 AND 80), "
    ++ codes "seats INTEGER NOT NULL CHECK (seats BETWEEN 1 AND 8), "
    ++ codes "done INTEGER NOT NULL CHECK (done IN (0, 1))) STRICT"

abbrev pub insert_text : List ℕ
insert_text =
    codes "INSERT INTO item (id, title, seats, done) VALUES (?1, ?2, ?3, ?4) "
    ++ codes "RETURNING id, title, seats, done"

abbrev pub list_text : List ℕ
list_text =
    codes "SELECT id, title, seats, done FROM item WHERE id > ?1 ORDER BY id LIMIT 100"

abbrev pub find_text : List ℕ
find_text = codes "SELECT id, title, seats, done FROM item WHERE id = ?1"

abbrev pub update_text : List ℕ
update_text =
    codes "UPDATE item SET title = ?2, seats = ?3, done = ?4 WHERE id = ?1 "
    ++ codes "RETURNING id, title, seats, done"

abbrev pub delete_text : List ℕ
delete_text = codes "DELETE FROM item WHERE id = ?1"

abbrev pub count_text : List ℕ
count_text = codes "SELECT count(*) FROM item"

abbrev pub objects_text : List ℕ
objects_text = codes "SELECT name, sql FROM sqlite_schema"

-- no title is NULL
abbrev pub title_value : Option (List ℕ) → Value
title_value None = Null
title_value (Some title) = Words title

abbrev pub truth : Bool → ℤ
truth b = if b then pos 1 else pos 0

abbrev pub draft_values : Draft → Row
draft_values d = title_value d.title ∷ Int d.seats ∷ Int (truth d.done) ∷ []

-- a number that is NULL is chosen by the database
abbrev pub insert_values : Draft → Row
insert_values d = Null ∷ draft_values d

abbrev pub four_values : ValueRef → ValueRef → ValueRef → ValueRef → Row
four_values a b c d =
    bound_value (owned a) ∷ bound_value (owned b) ∷ bound_value (owned c) ∷ bound_value (owned d)
    ∷ []

abbrev pub update_values : ℤ → Draft → Row
update_values id d = Int id ∷ draft_values d

abbrev pub id_value : ℤ → Row
id_value id = Int id ∷ []

abbrev pub most_items : ℕ
most_items = 100000
