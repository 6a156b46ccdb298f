-- What the first segment of a path asks for.
use Rattle.std.specs.Prelude.{ℕ, List, codes, if◌then◌else◌}
use Rattle.std.specs.Str.{bytes_eq}
use Rattle.cli_script.specs.Segments.{first_segment}
use Rattle.demo_arguments.specs.declared.choice.Choice.{Choice}
use Rattle.demo_arguments.specs.declared.choice.Choice.TheVariants as choice
use Rattle.demo_arguments.specs.declared.choice.DecodedChoice.TheVariants as decoded
use Rattle.demo_arguments.specs.declared.choice.HeadChoice.TheVariants as head
use Rattle.demo_arguments.specs.declared.choice.ReadChoice.TheVariants as read
use Rattle.demo_arguments.specs.declared.choice.RequestChoice.TheVariants as request

-- what this segment asks for
abbrev pub choice_named : List ℕ → Choice
choice_named segment =
    if bytes_eq segment (codes "bytes") then choice.Bytes
    else if bytes_eq segment (codes "text") then choice.Text
    else if bytes_eq segment (codes "json") then choice.Decoded decoded.Json
    else if bytes_eq segment (codes "form") then choice.Decoded decoded.Form
    else if bytes_eq segment (codes "either") then choice.Decoded decoded.Either
    else if bytes_eq segment (codes "option") then choice.Decoded decoded.Option
    else if bytes_eq segment (codes "result") then choice.Decoded decoded.Result
    else if bytes_eq segment (codes "path") then choice.Read read.Path
    else if bytes_eq segment (codes "query") then choice.Read read.Query
    else if bytes_eq segment (codes "header") then choice.Read read.Header
    else if bytes_eq segment (codes "data") then choice.Data
    else if bytes_eq segment (codes "raw") then choice.Read read.Raw
    else if bytes_eq segment (codes "who") then choice.Head head.Who
    else if bytes_eq segment (codes "cookies") then choice.Head (head.Request request.Cookies)
    else if bytes_eq segment (codes "lines") then choice.Lines
    else if bytes_eq segment (codes "both") then choice.Both
    else if bytes_eq segment (codes "wait") then choice.Head head.Wait
    else if bytes_eq segment (codes "capped") then choice.Capped
    else if bytes_eq segment (codes "capped-json") then choice.Decoded decoded.CappedJson
    else if bytes_eq segment (codes "parts") then choice.Decoded decoded.Parts
    else if bytes_eq segment (codes "doc") then choice.Head (head.Request request.Document)
    else if bytes_eq segment (codes "variant") then choice.Head (head.Request request.Variant)
    else choice.Head head.Other

-- what a path asks for: its first segment alone decides
abbrev pub choice_of : List ℕ → Choice
choice_of path = choice_named (first_segment path)
