use Rattle.std.proofs.Common.{◌≡◌, [], drop}
use Rattle.serde_json.specs.View.{items_view}
use Rattle.web_codec.specs.DataReaders.{items_onto}
use Rattle.web_codec.proofs.data_readers.ItemsReadData.read_data.Given as goal

abbrev pub invariant-loop-member : goal.invariant-loop-member
invariant-loop-member g l =
    items_onto g.T.ReadData.read l.items.items (items_view (drop l.member-index l.member-items))
    ≡ items_onto g.T.ReadData.read [] (items_view l.member-items)
