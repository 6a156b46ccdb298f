use Rattle.std.proofs.Common.{◌≡◌, ◌++◌, drop}
use Rattle.web_codec.specs.FieldWriters.{named_pairs, texts_of_list}
use Rattle.web_codec.proofs.field_writers.ItemsWriteField.write_field.Given as goal

abbrev pub invariant-loop-item : goal.invariant-loop-item
invariant-loop-item g l =
    l.pairs.items ++ named_pairs l.name (texts_of_list g.T.WriteField.texts (drop l.item-index l.item-items))
    ≡ l.fn.pairs.items ++ named_pairs l.name (texts_of_list g.T.WriteField.texts l.item-items)
