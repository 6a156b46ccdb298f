-- The exchanges of a load, as they are drawn.
use Rattle.std.specs.Prelude.{ℕ, zero, suc, ◌+◌, ◌*◌, ◌/◌, ◌%◌, ◌^◌, ◌==◌, if◌then◌else◌}
use Rattle.cli_load.specs.declared.drawn.Drawn.{Drawn}
use Rattle.cli_load.specs.declared.drawn.Route.{Route}
use Rattle.cli_load.specs.declared.drawn.Route.TheVariants.{Bytes, Json, Form}

-- the state after this one, by the linear congruential generator of MMIX
abbrev pub next_state : ℕ → ℕ
next_state x = (x * 6364136223846793005 + 1442695040888963407) % (2 ^ 64)

-- the state after so many steps
abbrev pub state_after : ℕ → ℕ → ℕ
state_after seed zero = seed
state_after seed (suc n) = next_state (state_after seed n)

abbrev pub route_of : ℕ → Route
route_of draw = if draw % 3 == 0 then Bytes else if draw % 3 == 1 then Json else Form

-- the route, the stalls and the number: each its own digits of the upper 31 bits of the state
abbrev pub drawn_from : ℕ → Drawn
drawn_from draw = record {
  route = route_of draw;
  stalls = (draw / 3) % 3;
  number = (draw / 9) % 1000;
}

abbrev pub drawn_of : ℕ → Drawn
drawn_of state = drawn_from (state / 2 ^ 33)
