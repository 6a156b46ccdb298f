-- The arguments of the command.
use Rattle.std.specs.Prelude.{◌≡◌, ℕ, ◌==◌, List, [], ◌∷◌, ◌++◌, Option, None, Some, codes}
use Rattle.std.specs.Prelude.{bytes_eq, if◌then◌else◌, ⊤}
use Rattle.std.specs.Option.{option_and_then, option_map}
use Rattle.web_texts.specs.Cut.{split_once}
use Rattle.web_texts.specs.Digits.{digits_up_to}
use Rattle.web_request_log.specs.HeaderDescriptions.{newline}
use Rattle.cli_load.specs.declared.load.Load.{Load}
use Rattle.web_cli.specs.declared.words.Command.{Command}
use Rattle.web_cli.specs.declared.words.Command.TheVariants.{Serve, Generate, Replay, Connect}

-- a count of exchanges, in digits: 1 to 50,000
abbrev pub count_of : List ℕ → Option ℕ
count_of text =
    option_and_then (λ n. if n == 0 then None else Some n) (digits_up_to 50000 text)

abbrev pub new_load : ℕ → ℕ → Load
new_load seed count = record { seed = seed; count = count }

-- a seed of 0 to 2^64 - 1 and a count, both in digits
abbrev pub load_of : List ℕ → List ℕ → Option Load
load_of seed count =
    option_and_then (λ s. option_map (new_load s) (count_of count))
    (digits_up_to 18446744073709551615 seed)

-- how many records the pool keeps: the setting `pool` is digits, of 0 to 1024
abbrev pub capacity_in : Option (List ℕ × List ℕ) → Option ℕ
capacity_in None = None
capacity_in (Some (name, number)) =
    if bytes_eq name (codes "--pool") then digits_up_to 1024 number else None

abbrev pub capacity_of : List ℕ → Option ℕ
capacity_of text = capacity_in (split_once 61 text)

-- the command of this word, with a load
abbrev pub load_command : List ℕ → Option Load → Option Command
load_command word load =
    if bytes_eq word (codes "generate") then option_map (λ l. Generate l) load
    else if bytes_eq word (codes "replay") then option_map (λ l. Replay l) load
    else None

-- the command of this word, with the capacity of a pool
abbrev pub pool_command : List ℕ → Option ℕ → Option Command
pool_command word capacity =
    if bytes_eq word (codes "serve") then option_map (λ n. Serve n) capacity
    else if bytes_eq word (codes "http1") then option_map (λ n. Connect n) capacity
    else None

-- the command that the arguments ask for
abbrev pub command_of : List (List ℕ) → Option Command
command_of (word ∷ pool ∷ []) = pool_command word (capacity_of pool)
command_of (word ∷ seed ∷ count ∷ []) = load_command word (load_of seed count)
command_of _ = None

-- the arguments ask for `serve` with a pool of this capacity, for `generate` with this load, for
-- `replay` with this load, or for `http1` with a pool of this capacity
abbrev pub IsServe : List (List ℕ) → ℕ → Type 0
IsServe words capacity = command_of words ≡ Some (Serve capacity)

abbrev pub IsGenerate : List (List ℕ) → Load → Type 0
IsGenerate words load = command_of words ≡ Some (Generate load)

abbrev pub IsReplay : List (List ℕ) → Load → Type 0
IsReplay words load = command_of words ≡ Some (Replay load)

abbrev pub IsConnect : List (List ℕ) → ℕ → Type 0
IsConnect words capacity = command_of words ≡ Some (Connect capacity)

-- P, where there is no command, or one that calls no handler
abbrev pub IfUncalled : Option Command → Type 0 → Type 0
IfUncalled None P = P
IfUncalled (Some (Serve capacity)) P = ⊤
IfUncalled (Some (Generate load)) P = P
IfUncalled (Some (Replay load)) P = ⊤
IfUncalled (Some (Connect capacity)) P = ⊤

-- the text that is written where the arguments are no command
abbrev pub usage : List ℕ
usage =
    codes "usage: serve --pool=N | generate SEED COUNT | replay SEED COUNT | http1 --pool=N"
    ++ newline
