-- The texts of the errors of tests.
use Rattle.std.specs.Prelude.{ℕ, List, codes}
use Rattle.web_reply.specs.Causes.{http_text}
use Rattle.web_testing.specs.declared.error.TestError.{TestError}
use Rattle.web_testing.specs.declared.error.TestError.TheVariants as error

abbrev pub error_text : TestError → List ℕ
error_text error.Target = codes "no request target"
error_text (error.Header e) = http_text e
error_text error.Unfinished = codes "no response after 64 polls"
error_text error.Body = codes "the body of the reply could not be read"
error_text error.NoMemory = codes "memory allocation failed"
