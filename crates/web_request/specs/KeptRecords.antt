-- The invariant of a pool. Contracts speak of it nowhere but in the pool's `impl Model`.
use Rattle.std.specs.Prelude.{ℕ, ◌≡◌, ◌≤◌, List, [], Bool, false, length}
use Rattle.std.specs.List.{All}
use Rattle.web_request.specs.Pool.{Clean}
use Rattle.web_request.specs.Request.{Record}

-- What holds of the records whose memory is kept, of the numbers, and of the capacities of both
-- lists. There may be fewer records than numbers.
pub record KeptRecords {L D C : Type 0} (serials : List ℕ) (kept : List (Record L D C))
    (capacity : ℕ) (enabled : Bool) (room : ℕ) (places : ℕ) : Type 0 where
  pub clean : All Clean kept
  pub fewer : length kept ≤ length serials
  pub within : length serials ≤ capacity
  pub records_fit : capacity ≤ room
  pub numbers_fit : capacity ≤ places
  pub off : enabled ≡ false → serials ≡ []
