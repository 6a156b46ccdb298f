-- When the text of a cache directive reads back as the directive.
use Rattle.std.specs.Prelude.{◌≡◌, List, [], ◌∷◌, Some, Result, Ok, Err}
use Rattle.web_texts.specs.declared.memory.Fail.{Fail}
use Rattle.web_texts.specs.declared.memory.Fail.TheVariants as fail
use Rattle.web_headers.specs.CacheDirectives.{cache_directive_text}
use Rattle.web_headers.specs.ListHeaders.{cache_control_of}
use Rattle.web_headers.specs.declared.cache_control.CacheDirective.{CacheDirective}

-- A Cache-Control of the text that the directive prints says this directive alone.
abbrev pub ReadsBack : CacheDirective → Type 0
ReadsBack d = cache_control_of (cache_directive_text d ∷ []) ≡ Some (d ∷ [])

-- The extension comes exactly where it reads back; allocation may always fail.
abbrev pub GivesChecked : {E : Type 0} → CacheDirective → Result CacheDirective (Fail E) → Type 0
GivesChecked d (Ok made) = (made ≡ d) × ReadsBack d
GivesChecked d (Err fail.NoMemory) = Unit {0}
GivesChecked d (Err (fail.Of e)) = ¬ ReadsBack d
