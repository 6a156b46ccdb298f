-- Text that is borrowed or owned.
use Rattle.std.specs.Prelude.{ℕ, List}
use Rattle.web_reply.specs.declared.cow_str.CowStr.{CowStr}
use Rattle.web_reply.specs.declared.cow_str.CowStr.TheVariants.{Borrowed, Owned}

-- the bytes of the text
abbrev pub cow_bytes : CowStr → List ℕ
cow_bytes (Borrowed s) = s.now
cow_bytes (Owned t) = t
