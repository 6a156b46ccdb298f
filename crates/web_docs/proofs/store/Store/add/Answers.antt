use Rattle.std.proofs.Common.{◌≡◌, false, ap, sym, ◌∙◌}
use Rattle.std.specs.FinMap as map
use Rattle.std.specs.FinMap.{contains_key}
use Rattle.std.specs.Prelude.{string_bytes}
use Rattle.std.proofs.lemmas.Result.{err_from_is_err_and}
use Rattle.web_docs.proofs.StoreLemmas.{beside_duplicate, beside_none, beside_refused, has_text, inserted}
use Rattle.web_docs.proofs.store.Store.add.Goals as goal

pub returns-then-contains_key : goal.returns-then-contains_key
returns-then-contains_key c =
    beside_duplicate c.args.self.now c.args.document
    (ap (λ s. contains_key s c.args.document.path) (sym c.self.view_is)
    ∙ has_text c.self.inside.documents.entries c.args.document.path
    ∙ sym (rw c.as_str.ensures at c.contains_key.ensures)
    ∙ c.if-contains_key.true)

pub returns-in_err-stored : goal.returns-in_err-stored
returns-in_err-stored c =
    let absent : contains_key c.args.self.now c.args.document.path ≡ false =
    ap (λ s. contains_key s c.args.document.path) (sym c.self.view_is)
    ∙ has_text c.self.inside.documents.entries c.args.document.path
    ∙ sym (rw c.as_str.ensures at c.contains_key.ensures)
    ∙ c.if-contains_key.false in
    let p = err_from_is_err_and c.from_residual-in_err-stored.result c.from_residual-in_err-stored.ensures.1 in
    rw (p.1, p.2) (beside_refused c.args.self.now c.args.document c.in_err-stored.field-0.0 _ absent c.in_err-stored.ensures)

pub returns : goal.returns
returns c =
    let absent : contains_key c.args.self.now c.args.document.path ≡ false =
    ap (λ s. contains_key s c.args.document.path) (sym c.self.view_is)
    ∙ has_text c.self.inside.documents.entries c.args.document.path
    ∙ sym (rw c.as_str.ensures at c.contains_key.ensures)
    ∙ c.if-contains_key.false in (
      inserted c.self.inside.documents c.insert.new.self c.in_ok-path.path c.in_ok-stored.stored c.in_ok-insert.ensures.updates
          ∙ ap (λ s. map.insert s (string_bytes c.in_ok-path.path) c.in_ok-stored.stored) c.self.view_is
          ∙ ap (λ key. map.insert c.args.self.now key c.in_ok-stored.stored) (c.in_ok-path.ensures.ok ∙ c.as_str-2.ensures)
          ∙ ap (λ d. map.insert c.args.self.now c.args.document.path d) c.in_ok-stored.ensures.0,
      beside_none c.args.self.now c.args.document absent c.in_ok-stored.ensures.1,
    )
