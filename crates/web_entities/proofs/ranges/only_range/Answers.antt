use Rattle.std.proofs.Common.{[], ap, not, rules, sym, ◌++◌, ◌≡◌, ◌∙◌}
use Rattle.std.proofs.lemmas.List.{append-nil}
use Rattle.web_texts.specs.PieceItems.{one_or_none}
use Rattle.web_texts.specs.Pieces.{pieces, pieces_behind}
use Rattle.web_headers.specs.HeaderReaders.{each_comma}
use Rattle.web_headers.proofs.ValueListLemmas.{comma_pieces}
use Rattle.web_entities.specs.ByteRanges.{only_spec}
use Rattle.web_entities.proofs.ByteRangeLemmas.{one_piece_more, only_back, specs_of, split_specs, taken, two_ranges}
use Rattle.web_entities.proofs.ranges.only_range.Goals.{in-Some, in-None}
use Rattle.web_entities.proofs.ranges.only_range.Goals as goal

pub returns-in-Some-2 : goal.returns-in-Some-2
returns-in-Some-2 c =
    two_ranges c.parts.only c.parts.rest.now c.first_piece.result.0.now _ _ (split_specs c.parts.rest.now c.first_piece.result.0.now (pieces_behind each_comma c.first_piece.result.1) c.first_piece.ensures.pieces) c.parts.invariant.so_far
    c.in-Some-2.field-0 c.in-Some-2.ensures (c.is_none.ensures ∙ ap not c.if-is_none.false)

pub parts-preserved : goal.parts-preserved
parts-preserved c =
    let cut = rw c.in-Some-behind.is at c.first_piece.ensures.pieces in
    let joined : one_or_none c.parts.only ++ one_or_none c.spec_of_piece.result ≡ one_or_none c.match-spec_of_piece.only =
    elim c.match-spec_of_piece.branch [
      | in-Some w ↦ rw (w.in-Some.is, w.only-is) (taken c.parts.only w.in-Some.spec (w.is_none.ensures ∙ ap not w.if-is_none.true))
      | in-None w ↦ rw (w.in-None.is, w.only-is) (append-nil (one_or_none c.parts.only))
    ] in
    record {
      so_far = ap (λ ps. only_spec (one_or_none c.match-spec_of_piece.only ++ specs_of ps)) (sym (comma_pieces c.in-Some-behind.behind.now))
          ∙ one_piece_more c.parts.only c.parts.rest.now c.first_piece.result.0.now _ _ (split_specs c.parts.rest.now c.first_piece.result.0.now (pieces each_comma (record {}) c.in-Some-behind.behind.now) cut) c.parts.invariant.so_far c.spec_of_piece.result c.match-spec_of_piece.only c.spec_of_piece.ensures joined;
      text = search rules;
    }

pub returns-in-None-behind : goal.returns-in-None-behind
returns-in-None-behind c =
    let cut = rw c.in-None-behind.is at c.first_piece.ensures.pieces in
    let joined : one_or_none c.parts.only ++ one_or_none c.spec_of_piece.result ≡ one_or_none c.match-spec_of_piece.only =
    elim c.match-spec_of_piece.branch [
      | in-Some w ↦ rw (w.in-Some.is, w.only-is) (taken c.parts.only w.in-Some.spec (w.is_none.ensures ∙ ap not w.if-is_none.true))
      | in-None w ↦ rw (w.in-None.is, w.only-is) (append-nil (one_or_none c.parts.only))
    ] in
    sym (only_back c.match-spec_of_piece.only)
    ∙ ap only_spec (sym (append-nil (one_or_none c.match-spec_of_piece.only)))
    ∙ one_piece_more c.parts.only c.parts.rest.now c.first_piece.result.0.now [] _ (split_specs c.parts.rest.now c.first_piece.result.0.now [] cut) c.parts.invariant.so_far c.spec_of_piece.result c.match-spec_of_piece.only c.spec_of_piece.ensures joined
