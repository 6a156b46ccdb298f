-- What a typed header as an argument gives where its values say exactly one thing.
use Rattle.std.proofs.Common.{◌≡◌, ℕ, List, refl, inl, inr, ap}
use Rattle.std.specs.Prelude.{Option, None, Some, Result, Ok, Err}
use Rattle.web_texts.specs.declared.errors.ParseError.{ParseError}
use Rattle.web_texts.specs.declared.errors.ParseError.TheVariants as refusal
use Rattle.web_codec.specs.Answers.{OrAll}
use Rattle.web_extract_head.specs.declared.header_argument.Header.{Header}
use Rattle.web_headers.specs.HeaderLaws.{SaysOneThing, SaysOnly}
use Rattle.web_extract_head.specs.HeaderArgument.{GivesOne, GivesOnly, MeansHeader, SaysHeader}
use Rattle.web_extract_head.specs.HeaderArgument.{header_result}

module _ {T : Type 0} (says : Option T → Type 0) (said : Option T) (only : SaysOnly says said) where
  -- the result of what is said is a result that is said
  result_said : (said : Option T) → says said → SaysHeader says (header_result said)
  result_said None h = h
  result_said (Some x) h = h

  result_of : (x : Result (Header T) ParseError) → SaysHeader says x → x ≡ header_result said
  result_of (Ok x) h = ap header_result (only.1 (Some x.0) h)
  result_of (Err refusal.Header) h = ap header_result (only.1 None h)

  allowed : (x : Result (Header T) ParseError) → OrAll (SaysHeader says) x
      → x ≡ header_result said
  allowed x (inl h) = result_of x h
  allowed x (inr none) = absurd (none (header_result said) (result_said said only.0))

pub gives_only : {T : Type 0} (says : Option T → Type 0) → GivesOnly says (MeansHeader says)
gives_only says said only m = (
  (refl, refl, inl (result_said says said only said only.0)),
  λ rest n x h. (h.0, h.1, allowed says said only x h.2),
)

pub gives_one : {T : Type 0} (says : List (List ℕ) → Option T → Type 0) → SaysOneThing says
    → (values : List (List ℕ)) → GivesOne (MeansHeader (says values))
gives_one says one values = let said = one values in (said.0, gives_only (says values) said.0 said.1)
