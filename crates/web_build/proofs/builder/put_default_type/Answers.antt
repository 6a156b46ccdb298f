use Rattle.std.proofs.Common.{refl}
use Rattle.std.proofs.lemmas.Bool.{false≢true}
use Rattle.web_build.proofs.BuiltLemmas.{is_typed, is_untyped}
use Rattle.web_build.proofs.builder.put_default_type.Goals as goal

pub returns-then-contains_key : goal.returns-then-contains_key
returns-then-contains_key c = rw (is_typed c.args.headers.now (c.if-contains_key.ensures.0 refl)) refl

pub returns : goal.returns
returns c =
    rw (is_untyped c.args.headers.now (λ h. absurd (false≢true (c.if-contains_key.ensures.1 h))), ← c.from_static-value.ensures)
    c.place_header.ensures
