use Rattle.std.proofs.Common.{◌≡◌, ◌++◌}
use Rattle.std.specs.Vec.Iter.{into_iter_items}
use Rattle.web_docs.specs.Stores.{HasNoFault, store_of}
use Rattle.web_docs.proofs.store.Store.new.Given as goal

abbrev pub invariant-loop-document : goal.invariant-loop-document
invariant-loop-document l = record {
  parts : l.yielded ++ into_iter_items l.document-iterator ≡ l.fn.documents.items;
  sound : HasNoFault l.yielded;
  is : l.store ≡ store_of l.yielded;
}
