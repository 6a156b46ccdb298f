-- The status and the text of several refusals.
use Rattle.std.specs.Prelude.{ℕ, List, [], ◌∷◌, flat_map}
use Rattle.std.specs.List.{join_by}
use Rattle.web_reply.specs.declared.errors.several.Member.{Member}

-- the status of the first; several are never none, of which the definition has to name some status
abbrev pub several_status : List Member → ℕ
several_status [] = 500
several_status (m ∷ ms) = m.status

-- the texts, one a line
abbrev pub several_text : List Member → List ℕ
several_text ms = join_by (λ m. m.text) (10 ∷ []) ms

-- each text after the end of a line
abbrev pub later_text : List Member → List ℕ
later_text ms = flat_map (λ m. 10 ∷ m.text) ms
