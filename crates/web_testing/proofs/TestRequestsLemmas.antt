use Rattle.std.proofs.Common.{◌≡◌, Result, Ok, Err}
use Rattle.web_testing.specs.declared.error.TestError.{TestError}
use Rattle.web_testing.specs.declared.error.TestError.TheVariants as error
use Rattle.web_testing.specs.TestRequests.{ComesTo, Sent}

pub as_expected : (expected found : Result Sent TestError) → found ≡ expected
    → ComesTo expected found
as_expected expected (Ok sent) same = same
as_expected expected (Err error.Target) same = same
as_expected expected (Err (error.Header e)) same = same
as_expected expected (Err error.Unfinished) same = same
as_expected expected (Err error.Body) same = same
as_expected expected (Err error.NoMemory) same = tt
