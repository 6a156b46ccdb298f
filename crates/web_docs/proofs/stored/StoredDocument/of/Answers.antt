use Rattle.std.proofs.Common.{[], refl, sym, ap, ◌∙◌}
use Rattle.std.specs.Prelude.{codes}
use Rattle.http_header.specs.FieldValue.{plain_value}
use Rattle.http_header.specs.HeaderMap.{insert}
use Rattle.web_docs.specs.Descriptions.{description}
use Rattle.web_docs.proofs.FieldValueLemmas.{values_given, values_refused}
use Rattle.web_docs.proofs.HeaderMapLemmas.{part_is, validators_are, whole_are}
use Rattle.web_docs.proofs.stored.StoredDocument.of.Goals as goal

pub invariant_of-result : goal.invariant_of-result
invariant_of-result c =
    let given = values_given c.args.document c.in-Some.values (sym c.in-Some.is ∙ c.in_ok-values.ensures) in
    let kind = ap (λ v. v.0) given.1 in
    let version = ap (λ v. v.1) given.1 in
    let date = c.in_ok-modified-in-Some.ensures in
    let whole = c.in_ok-whole-in-Some.ensures ∙ whole_are c.args.document c.in-Some.values.0 c.in-Some.values.1 c.in_ok-modified-in-Some.modified kind version date in
    record {
      validators = c.in_ok-validators-in-Some.ensures ∙ validators_are c.args.document c.in-Some.values.0 c.in-Some.values.1 c.in_ok-modified-in-Some.modified kind version date;
      whole = whole;
      part = c.in_ok-part-in-Some.ensures ∙ ap (λ map. insert map (codes "content-range") (plain_value [])) whole ∙ part_is (description c.args.document) (plain_value []);
    }

pub returns-in_ok-part-in-Some : goal.returns-in_ok-part-in-Some
returns-in_ok-part-in-Some c = (refl, (values_given c.args.document c.in-Some.values (sym c.in-Some.is ∙ c.in_ok-values.ensures)).0)

pub returns-in-None : goal.returns-in-None
returns-in-None c = (refl, values_refused c.args.document (sym c.in-None.is ∙ c.in_ok-values.ensures))
