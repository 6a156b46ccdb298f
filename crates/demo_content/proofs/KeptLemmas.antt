-- What is kept is one value.
use Rattle.std.proofs.Common.{◌≡◌, Some}

pub same_kept : {T : Type 0} {a b : T} → Some a ≡ Some b → a ≡ b
same_kept is = cc
