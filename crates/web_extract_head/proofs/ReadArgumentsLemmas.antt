-- What a reader makes of pairs where it allows one thing, and each of its refusals has one error.
use Rattle.std.proofs.Common.{◌≡◌, ap, inl, ◌∙◌, subst}
use Rattle.std.specs.Prelude.{Result, Ok, Err}
use Rattle.web_codec.specs.declared.faults.ReadFault.{ReadFault}
use Rattle.web_reply.specs.Replies.{Fault}
use Rattle.web_extract.specs.Extracts.{AllowsOnly}
use Rattle.web_extract.proofs.RefusalsLemmas.{or_all_only}
use Rattle.web_extract_head.specs.ReadArguments.{IsReadAs, MeansOnlyRead, MeansRead, read_as}

module _ {T X : Type 0} (value : T → X) (refused : ReadFault → Fault → Type 0) (error : ReadFault → Fault)
    (errors : (e : ReadFault) → AllowsOnly (refused e) (error e)) where
  read_is : (y : Result T ReadFault) (x : Result X Fault) → IsReadAs value refused y x → x ≡ read_as value error y
  read_is (Ok v) x h = h
  read_is (Err e) x h = h.2 ∙ ap Err ((errors e).1 h.0 h.1)

  read_back : (y : Result T ReadFault) (x : Result X Fault) → x ≡ read_as value error y → IsReadAs value refused y x
  read_back (Ok v) x h = h
  read_back (Err e) x h = (error e, (errors e).0, h)

pub only_read : {T X : Type 0} (value : T → X) (refused : ReadFault → Fault → Type 0) (reads : Result T ReadFault → Type 0)
    → MeansOnlyRead value refused reads (MeansRead value refused reads)
only_read {T} {X} value refused reads y error m only errors left n x = (
  λ h.
      let z = h.2 in
      let same = or_all_only reads y only z.0 z.1 in
      (h.0, h.1, read_is value refused error errors y x (subst (λ (r : Result T ReadFault). IsReadAs value refused r x) same z.2)),
  λ e. (e.0, e.1, (y, inl only.0, read_back value refused error errors y x e.2)),
)
