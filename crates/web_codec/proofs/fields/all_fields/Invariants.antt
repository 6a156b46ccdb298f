use Rattle.std.proofs.Common.{◌≡◌, [], drop}
use Rattle.web_codec.specs.FieldReaders.{fields_onto}
use Rattle.web_codec.specs.FormPairs.{values_of}
use Rattle.web_codec.proofs.fields.all_fields.Given as goal

abbrev pub invariant-loop-pair : goal.invariant-loop-pair
invariant-loop-pair g l =
    fields_onto g.T.ReadField.field l.name l.items.items (values_of l.name (drop l.pair-index l.pairs))
    ≡ fields_onto g.T.ReadField.field l.name [] (values_of l.name l.pairs)
