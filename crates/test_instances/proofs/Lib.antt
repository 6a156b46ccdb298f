-- Lemmas of the tests.
mod UntoldArgumentsLemmas
