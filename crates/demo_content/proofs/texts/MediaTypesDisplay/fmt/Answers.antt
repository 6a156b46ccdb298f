use Rattle.std.specs.Prelude.{refl}
use Rattle.web_texts.specs.MediaTypeTexts.{media_type_text}
use Rattle.demo_content.proofs.texts.MediaTypesDisplay.fmt.Goals as goal

pub returns-clause-writes : goal.returns-clause-writes
returns-clause-writes g c =
    rw c.as_slice.ensures.value at (c.fmt_comma_delimited.ensures (λ mime. media_type_text mime.now) (λ x. refl))
