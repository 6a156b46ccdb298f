-- The settings of a `layer` line.
use Rattle.std.specs.Prelude.{◌≡◌, ℕ, Bool, true, false, List, [], map, codes}
use Rattle.std.specs.Prelude.{Option, None, Some, is_some, unwrap_or, if◌then◌else◌}
use Rattle.std.specs.List.{list_any, fold, before_first, after_first, slice_split}
use Rattle.std.specs.Option.{option_map}
use Rattle.std.specs.Str.{bytes_eq, is_utf8}
use Rattle.web_texts.specs.Bytes.{is_equals}
use Rattle.web_texts.specs.MediaTypes.{MediaType, media_type_of}
use Rattle.cli_script.specs.Line.{is_space}
use Rattle.web_texts.specs.Digits.{number_of}
use Rattle.cli_script.specs.PlanEntries.{all_values}
use Rattle.cli_script.specs.declared.layer.LayerSettings.{LayerSettings}
use Rattle.cli_script.specs.declared.layer.Setting.{Setting}
use Rattle.cli_script.specs.declared.layer.Setting.TheVariants as setting

-- a media type in UTF-8
abbrev pub mime_of : List ℕ → Option MediaType
mime_of text = if is_utf8 text then media_type_of text else None

-- the setting NAME=VALUE
abbrev pub valued_setting : List ℕ → List ℕ → Option Setting
valued_setting name value =
    if bytes_eq name (codes "mime") then option_map (λ m. setting.Mime m) (mime_of value)
    else if bytes_eq name (codes "payload")
    then option_map (λ n. setting.Payload n) (number_of value)
    else if bytes_eq name (codes "shared-payload")
    then option_map (λ n. setting.SharedPayload n) (number_of value)
    else if bytes_eq name (codes "json") then option_map (λ n. setting.Json n) (number_of value)
    else if bytes_eq name (codes "form") then option_map (λ n. setting.Form n) (number_of value)
    else if bytes_eq name (codes "number")
    then option_map (λ n. setting.Number n) (number_of value)
    else None

-- the setting NAME, which has no value
abbrev pub plain_setting : List ℕ → Option Setting
plain_setting name =
    if bytes_eq name (codes "json-any") then Some setting.JsonAny
    else if bytes_eq name (codes "json-vendor") then Some setting.JsonVendor
    else if bytes_eq name (codes "json-teapot") then Some setting.JsonTeapot
    else if bytes_eq name (codes "form-teapot") then Some setting.FormTeapot
    else if bytes_eq name (codes "path-teapot") then Some setting.PathTeapot
    else if bytes_eq name (codes "query-teapot") then Some setting.QueryTeapot
    else None

-- the setting of a text without spaces
unfoldable pub setting_of : List ℕ → Option Setting
setting_of text =
    if list_any is_equals text
    then valued_setting (before_first is_equals text) (after_first is_equals text)
    else plain_setting text

-- one or more settings with one space between
abbrev pub settings_of : List ℕ → Option (List Setting)
settings_of text = all_values (map setting_of (slice_split is_space text))

-- the argument of a `layer` line is one
abbrev pub is_layer : List ℕ → Bool
is_layer text = is_some (settings_of text)

abbrev pub no_settings : LayerSettings
no_settings = record {
  payload = None;
  mime = None;
  shared_payload = None;
  json = None;
  json_any = false;
  json_vendor = false;
  json_teapot = false;
  form = None;
  form_teapot = false;
  path_teapot = false;
  query_teapot = false;
  number = None;
}

-- the layer with one more setting, in place of an earlier one of its name
abbrev pub with_setting : LayerSettings → Setting → LayerSettings
with_setting layer (setting.Payload n) = record layer { payload = Some n }
with_setting layer (setting.Mime m) = record layer { mime = Some m }
with_setting layer (setting.SharedPayload n) = record layer { shared_payload = Some n }
with_setting layer (setting.Json n) = record layer { json = Some n }
with_setting layer setting.JsonAny = record layer { json_any = true }
with_setting layer setting.JsonVendor = record layer { json_vendor = true }
with_setting layer setting.JsonTeapot = record layer { json_teapot = true }
with_setting layer (setting.Form n) = record layer { form = Some n }
with_setting layer setting.FormTeapot = record layer { form_teapot = true }
with_setting layer setting.PathTeapot = record layer { path_teapot = true }
with_setting layer setting.QueryTeapot = record layer { query_teapot = true }
with_setting layer (setting.Number n) = record layer { number = Some n }

-- the text is a setting, which was set
abbrev pub IsSet : LayerSettings → LayerSettings → Option Setting → Type 0
IsSet old new None = ⊥
IsSet old new (Some x) = new ≡ with_setting old x

abbrev pub with_settings : LayerSettings → List Setting → LayerSettings
with_settings layer settings = fold with_setting layer settings

-- what the argument of a `layer` line sets
abbrev pub layer_of : List ℕ → LayerSettings
layer_of text = with_settings no_settings (unwrap_or (settings_of text) [])
