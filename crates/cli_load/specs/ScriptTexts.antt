-- The text of the script of a load.
use Rattle.std.specs.Prelude.{ℕ, ◌+◌, List, [], ◌∷◌, ◌++◌, codes, decimal, flat_map, replicate}
use Rattle.std.specs.List.{range_with_len}
use Rattle.cli_load.specs.Drawing.{drawn_of, state_after}
use Rattle.cli_load.specs.declared.drawn.Drawn.{Drawn}
use Rattle.cli_load.specs.declared.drawn.Route.{Route}
use Rattle.cli_load.specs.declared.drawn.Route.TheVariants.{Bytes, Json, Form}

-- a line of the script
abbrev pub line : List ℕ → List ℕ
line text = text ++ 10 ∷ []

abbrev pub type_line : List ℕ → List ℕ
type_line media_type = line (codes "header content-type " ++ media_type)

-- the lines before the stalls: the exchange, its content type, and the first piece of its body
abbrev pub head_text : Route → List ℕ
head_text Bytes = line (codes "exchange POST /bytes") ++ line (codes "text v")
head_text Json =
    line (codes "exchange POST /json")
    ++ type_line (codes "application/json")
    ++ line (codes "text {\"name\":\"x\",\"n\":")
head_text Form =
    line (codes "exchange POST /form")
    ++ type_line (codes "application/x-www-form-urlencoded")
    ++ line (codes "text name=x&n=")

-- the stalls, and the word of the line after them
abbrev pub stalled_text : ℕ → List ℕ
stalled_text stalls = flat_map line (replicate stalls (codes "stall")) ++ codes "text "

-- what stands after the number
abbrev pub end_text : Route → List ℕ
end_text Bytes = line []
end_text Json = line (codes "}")
end_text Form = line []

-- an exchange: a body in two pieces, with the stalls between them
abbrev pub exchange_text : Drawn → List ℕ
exchange_text d =
    head_text d.route ++ stalled_text d.stalls ++ decimal d.number ++ end_text d.route

-- the exchanges in their order, each drawn from the next state
abbrev pub exchanges_from : ℕ → ℕ → List ℕ
exchanges_from seed count =
    flat_map (λ k. exchange_text (drawn_of (state_after seed (k + 1)))) (range_with_len 0 count)

-- a line of the plan for each exchange, counted from 0
abbrev pub plan_line : ℕ → List ℕ
plan_line k = line (codes "plan " ++ decimal k)

abbrev pub plan_round : ℕ → List ℕ
plan_round count = flat_map plan_line (range_with_len 0 count)

-- the exchanges, and then two rounds of the plan
unfoldable pub script_text : ℕ → ℕ → List ℕ
script_text seed count = exchanges_from seed count ++ plan_round count ++ plan_round count
