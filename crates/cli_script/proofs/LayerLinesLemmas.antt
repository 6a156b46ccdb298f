-- Settings, piece by piece.
use Rattle.std.proofs.Common.{◌≡◌, ℕ, true, false, List, [], ◌∷◌, map, length, Option, Some, None, refl, sym, ◌∙◌}
use Rattle.std.specs.Prelude.{unwrap_or, is_some, Result, IfOk}
use Rattle.std.specs.List.{list_any, slice_split, position_or_len}
use Rattle.std.specs.Option.{option_map, option_and_then}
use Rattle.std.specs.Str.{is_utf8}
use Rattle.std.proofs.lemmas.List.Folds.{list_any-append}
use Rattle.web_texts.specs.Bytes.{is_equals}
use Rattle.web_texts.specs.Cut.{IsCut}
use Rattle.web_texts.specs.MediaTypes.{MediaType, media_type_of}
use Rattle.web_texts.proofs.SplitLemmas.{split_cut, split_whole, cut_parts, no_cut}
use Rattle.cli_script.specs.Line.{is_space}
use Rattle.cli_script.specs.PlanEntries.{all_values}
use Rattle.cli_script.specs.LayerLines.{is_layer, mime_of, plain_setting, valued_setting, setting_of, settings_of, layer_of, no_settings, with_setting, with_settings, IsSet}
use Rattle.cli_script.specs.LineFaults.{unless}
use Rattle.cli_script.specs.declared.layer.LayerSettings.{LayerSettings}
use Rattle.cli_script.specs.declared.layer.Setting.{Setting}
use Rattle.cli_script.specs.declared.reason.LineFault.{LineFault}
use Rattle.cli_script.specs.declared.reason.LineFault.TheVariants as reason

-- one setting

setting_cut : (text name value : List ℕ) → IsCut 61 text name value → setting_of text ≡ valued_setting name value
unfolding setting_of
setting_cut text name value cut =
    let parts = cut_parts 61 text name value cut in
    let has : list_any is_equals text ≡ true = rw (parts.text_is, list_any-append is_equals name (61 ∷ value), parts.none) refl in
    rw (has, cut.before_is, cut.after_is) refl

pub setting_read : {E : Type 0} (r : Result (Option Setting) E) (text name value : List ℕ) → IsCut 61 text name value → IfOk r (λ read. read ≡ valued_setting name value) → IfOk r (λ read. read ≡ setting_of text)
setting_read r text name value cut read = rw (setting_cut text name value cut) read

pub setting_alone : (text : List ℕ) → position_or_len is_equals text ≡ length text → setting_of text ≡ plain_setting text
unfolding setting_of
setting_alone text whole = rw (no_cut 61 text whole) refl

pub mime_read : {E : Type 0} (r : Result (Option MediaType) E) (text read : List ℕ) → read ≡ text → is_utf8 text ≡ true → IfOk r (λ x. x ≡ media_type_of read) → IfOk r (λ x. x ≡ mime_of text)
mime_read r text read same good told = rw good (rw same at told)

pub mime_unread : (text : List ℕ) → is_utf8 text ≡ false → None ≡ mime_of text
mime_unread text bad = rw bad refl

-- the layer after more pieces
pub layer_on : LayerSettings → List (List ℕ) → Option LayerSettings
layer_on layer [] = Some layer
layer_on layer (p ∷ ps) = option_and_then (λ x. layer_on (with_setting layer x) ps) (setting_of p)

one_more : (layer : LayerSettings) (x : Setting) (o : Option (List Setting))
    → option_map (with_settings (with_setting layer x)) o ≡ option_map (with_settings layer) (option_map (λ rest. x ∷ rest) o)
one_more layer x None = refl
one_more layer x (Some xs) = refl

by_first : (layer : LayerSettings) (o : Option Setting) (ps : List (List ℕ))
    → ((l : LayerSettings) → layer_on l ps ≡ option_map (with_settings l) (all_values (map setting_of ps)))
    → option_and_then (λ x. layer_on (with_setting layer x) ps) o
    ≡ option_map (with_settings layer) (option_and_then (λ first. option_map (λ rest. first ∷ rest) (all_values (map setting_of ps))) o)
by_first layer None ps rest = refl
by_first layer (Some x) ps rest = rest (with_setting layer x) ∙ one_more layer x (all_values (map setting_of ps))

all_read : (layer : LayerSettings) (ps : List (List ℕ)) → layer_on layer ps ≡ option_map (with_settings layer) (all_values (map setting_of ps))
unfolding layer_on
all_read layer [] = refl
all_read layer (p ∷ ps) = by_first layer (setting_of p) ps (λ l. all_read l ps)

-- one setting was read

set_one : (old new : LayerSettings) (o : Option Setting) (ps : List (List ℕ)) → IsSet old new o
    → option_and_then (λ x. layer_on (with_setting old x) ps) o ≡ layer_on new ps
set_one old new None ps is = absurd is
set_one old new (Some x) ps is = rw is refl

abbrev pub pieces : List ℕ → List (List ℕ)
pieces text = slice_split is_space text

pub next_setting : (text part behind : List ℕ) (old new : LayerSettings) (all : Option LayerSettings) → IsCut 32 text part behind → IsSet old new (setting_of part)
    → layer_on old (pieces text) ≡ all → layer_on new (pieces behind) ≡ all
unfolding layer_on
next_setting text part behind old new all cut is so_far =
    sym (set_one old new (setting_of part) (pieces behind) is) ∙ rw (split_cut 32 text part behind cut) at so_far

last_cut : (text : List ℕ) → position_or_len is_space text ≡ length text → pieces text ≡ text ∷ []
last_cut text whole = split_whole is_space text whole

pub last_setting : (text : List ℕ) (old new : LayerSettings) (all : Option LayerSettings) → position_or_len is_space text ≡ length text → IsSet old new (setting_of text)
    → layer_on old (pieces text) ≡ all → all ≡ Some new
unfolding layer_on
last_setting text old new all whole is so_far =
    sym (rw (last_cut text whole) at so_far) ∙ set_one old new (setting_of text) [] is

-- a setting is none

refused_one : (o : Option Setting) (r : LineFault) → unless (is_some o) reason.BadLayer ≡ Some r → (o ≡ None) × (r ≡ reason.BadLayer)
refused_one None r some = (refl, cc)
refused_one (Some x) r some = absurd (cc)

none_is_fault : (o : Option (List Setting)) → option_map (with_settings no_settings) o ≡ None → unless (is_some o) reason.BadLayer ≡ Some reason.BadLayer
none_is_fault None none = refl
none_is_fault (Some xs) none = absurd (cc)

pub no_setting : (whole text part behind : List ℕ) (old : LayerSettings) (r : LineFault) → IsCut 32 text part behind → layer_on old (pieces text) ≡ layer_on no_settings (pieces whole)
    → unless (is_some (setting_of part)) reason.BadLayer ≡ Some r → unless (is_layer whole) reason.BadLayer ≡ Some r
unfolding layer_on
no_setting whole text part behind old r cut so_far bad =
    let none = refused_one (setting_of part) r bad in
    let all : layer_on no_settings (pieces whole) ≡ None = sym so_far ∙ rw (split_cut 32 text part behind cut, none.0) refl in
    rw none.1 (none_is_fault (settings_of whole) (sym (all_read no_settings (pieces whole)) ∙ all))

pub no_last_setting : (whole text : List ℕ) (old : LayerSettings) (r : LineFault) → position_or_len is_space text ≡ length text → layer_on old (pieces text) ≡ layer_on no_settings (pieces whole)
    → unless (is_some (setting_of text)) reason.BadLayer ≡ Some r → unless (is_layer whole) reason.BadLayer ≡ Some r
unfolding layer_on
no_last_setting whole text old r end so_far bad =
    let none = refused_one (setting_of text) r bad in
    let all : layer_on no_settings (pieces whole) ≡ None = sym so_far ∙ rw (last_cut text end, none.0) refl in
    rw none.1 (none_is_fault (settings_of whole) (sym (all_read no_settings (pieces whole)) ∙ all))

-- all settings were read

told : (o : Option (List Setting)) (layer : LayerSettings) → option_map (with_settings no_settings) o ≡ Some layer
    → (unless (is_some o) reason.BadLayer ≡ None) × (layer ≡ with_settings no_settings (unwrap_or o []))
told None layer is = absurd (cc)
told (Some xs) layer is = (refl, cc)

pub all_set : (whole : List ℕ) (layer : LayerSettings) → layer_on no_settings (pieces whole) ≡ Some layer
    → (unless (is_layer whole) reason.BadLayer ≡ None) × (layer ≡ layer_of whole)
all_set whole layer is = told (settings_of whole) layer (sym (all_read no_settings (pieces whole)) ∙ is)
