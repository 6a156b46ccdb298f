use Rattle.std.proofs.Common.{◌≡◌, ◌∙◌, ◌++◌, [], ap, append-nil, arith, rules, subst, sym}
use Rattle.std.proofs.lemmas.Grind.{common_steps}
use Rattle.std.proofs.lemmas.List.{nil_from_length}
use Rattle.std.proofs.lemmas.Result.{err_from_is_err_and}
use Rattle.std.specs.Vec.Iter.{into_iter_items}
use Rattle.web_docs.specs.Stores.{HasNoFault, store_of}
use Rattle.web_docs.proofs.StoreLemmas.{first_refused, no_fault, sound_step, store_step}
use Rattle.web_docs.proofs.store.Store.new.Goals as goal

pub loop-document-init : goal.loop-document-init
loop-document-init c = record {
  parts = search rules;
  sound = no_fault;
  is = search rules;
}

pub loop-document-preserved : goal.loop-document-preserved
loop-document-preserved c = record {
  parts = grind (arith, common_steps);
  sound = sound_step c.loop-document.yielded c.in-Some.document c.loop-document.store c.loop-document.invariant.is c.loop-document.invariant.sound c.in_ok-add.ensures.1;
  is = store_step c.loop-document.yielded c.in-Some.document c.loop-document.store c.loop-document.invariant.is c.add.new.self c.in_ok-add.ensures.0 c.in_ok-add.ensures.1;
}

pub returns-in_err-add : goal.returns-in_err-add
returns-in_err-add c =
    let p = err_from_is_err_and c.from_residual.result c.from_residual.ensures.1 in
    rw (p.1, p.2)
    (first_refused c.loop-document.yielded c.in-Some.document c.loop-document.store c.loop-document.invariant.is c.args.documents.items
    (into_iter_items c.loop-document.document-iterator) _ c.in_err-add.field-0.0 c.add.new.self c.loop-document.invariant.parts c.in-Some.ensures.steps.0
    c.loop-document.invariant.sound c.in_err-add.ensures)

pub returns : goal.returns
returns c =
    let rest = into_iter_items c.loop-document.document-iterator in
    let none : rest ≡ [] = nil_from_length rest (sym c.loop-document.document-iterator.rest.ok.0 ∙ c.in-None.ensures.steps.0) in
    let whole : c.loop-document.yielded ≡ c.args.documents.items =
    sym (append-nil c.loop-document.yielded) ∙ ap (λ ds. c.loop-document.yielded ++ ds) (sym none) ∙ c.loop-document.invariant.parts in
    (c.loop-document.invariant.is ∙ ap store_of whole, subst HasNoFault whole c.loop-document.invariant.sound)
