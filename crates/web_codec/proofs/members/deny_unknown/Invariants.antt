use Rattle.std.proofs.Common.{◌≡◌, map}
use Rattle.serde_json.specs.View.{members_view, view}
use Rattle.web_codec.specs.DataReaders.{deny_unknown, known_members}
use Rattle.web_codec.proofs.members.deny_unknown.Given as goal

abbrev pub invariant-loop-key : goal.invariant-loop-key
invariant-loop-key l =
    deny_unknown (map (λ n. n.now) l.names) (view l.value)
    ≡ known_members (map (λ n. n.now) l.names) (members_view l.key-iterator)
