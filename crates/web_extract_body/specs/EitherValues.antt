-- The value of a JSON body or of a form.
use Rattle.web_extract_body.specs.declared.either.Either.{Either}
use Rattle.web_extract_body.specs.declared.either.Either.TheVariants.{Left, Right}
use Rattle.web_extract_body.specs.declared.form_value.Form.{Form}
use Rattle.web_extract_body.specs.declared.json_value.Json.{Json}

abbrev pub json_or_form : {T : Type 0} → Either (Json T) (Form T) → T
json_or_form (Left json) = json.0
json_or_form (Right form) = form.0

abbrev pub form_or_json : {T : Type 0} → Either (Form T) (Json T) → T
form_or_json (Left form) = form.0
form_or_json (Right json) = json.0
