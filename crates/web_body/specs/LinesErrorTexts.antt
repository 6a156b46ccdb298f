-- The texts of errors of lines.
use Rattle.std.specs.Prelude.{ℕ, ◌++◌, List, codes}
use Rattle.web_body.specs.declared.errors.lines_error.ReadlinesError.{ReadlinesError}
use Rattle.web_body.specs.declared.errors.lines_error.ReadlinesError.TheVariants as lines
use Rattle.web_body.specs.ErrorTexts.{payload_error_text}

abbrev pub lines_error_text : ReadlinesError → List ℕ
lines_error_text lines.EncodingError = codes "Encoding error"
lines_error_text (lines.Payload error) =
    codes "Error that occur during reading payload: " ++ payload_error_text error
lines_error_text lines.LimitOverflow = codes "Line limit exceeded"
lines_error_text (lines.ContentTypeError error) = codes "Content-type error"
