-- The equality of media types is an equivalence.
use Rattle.std.specs.Cmp.{IsEquivalence, on_equiv, and_equiv}
use Rattle.std.specs.Cmp.Lexicographic.{on_texts_equal, lists_equiv}
use Rattle.web_texts.specs.MediaTypes.{essence_of, media_type_eq}
use Rattle.web_texts.specs.Pairs.{pair_eq_law}

pub media_type_eq_law : IsEquivalence media_type_eq
media_type_eq_law = and_equiv (on_texts_equal essence_of)
    (on_equiv (λ m. m.params) (lists_equiv pair_eq_law))
