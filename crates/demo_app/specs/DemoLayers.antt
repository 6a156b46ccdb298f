-- The layers that the lines of a script configure.
use Rattle.std.specs.Prelude.{ℕ, Bool, not, ◌||◌, if◌then◌else◌}
use Rattle.std.specs.Prelude.{Option, None, Some, is_some, unwrap_or, option_map}
use Rattle.web_texts.specs.MediaTypes.{MediaType}
use Rattle.web_body.specs.PayloadSettings.{PayloadSettings, default_payload_settings}
use Rattle.web_body.specs.DecoderSettings.{JsonSettings, FormSettings, HandlerSettings}
use Rattle.web_extract.specs.LayerConfigurations.{Configurations, holds_nothing}
use Rattle.cli_script.specs.declared.layer.LayerSettings.{LayerSettings}
use Rattle.demo_app.specs.declared.layer.DemoLayer.{DemoLayer}
use Rattle.demo_app.specs.declared.teapot.Teapot.{Teapot}
use Rattle.demo_app.specs.declared.teapot.VendorType.{VendorType}

abbrev pub limited : ℕ → PayloadSettings
limited limit = record (default_payload_settings) { limit = limit }

-- Where the limit or the required media type is named: what is not named has its default.
abbrev pub own_payload : Option ℕ → Option MediaType → Option PayloadSettings
own_payload None None = None
own_payload (Some limit) required = Some (record { limit = limit; required_type = required })
own_payload None (Some media_type) =
    Some (record (default_payload_settings) { required_type = Some media_type })

-- the handler, where it is named
abbrev pub teapot_where : Bool → Option Teapot
teapot_where named = if named then Some record {} else None

-- the predicate, where it is named
abbrev pub vendor_type_where : Bool → Option VendorType
vendor_type_where named = if named then Some record {} else None

-- Where some setting of JSON is named: what is not named has its default.
abbrev pub json_config : LayerSettings → Option (JsonSettings Teapot VendorType)
json_config s =
    if is_some s.json || s.json_any || s.json_vendor || s.json_teapot
    then Some (record {
      limit = unwrap_or s.json 2097152;
      handler = teapot_where s.json_teapot;
      predicate = vendor_type_where s.json_vendor;
      type_required = not s.json_any;
    })
    else None

-- Where the limit or the handler is named: what is not named has its default.
abbrev pub form_config : Option ℕ → Bool → Option (FormSettings Teapot)
form_config limit has_teapot =
    if is_some limit || has_teapot
    then Some (record { limit = unwrap_or limit 16384; handler = teapot_where has_teapot })
    else None

-- where the handler is named
abbrev pub handled : Bool → Option (HandlerSettings Teapot)
handled has_teapot = if has_teapot then Some (record { handler = Some record {} }) else None

abbrev pub no_layer : DemoLayer
no_layer = record {
  payload = None;
  shared_payload = None;
  json = None;
  form = None;
  path = None;
  query = None;
  number = None;
}

-- what the settings of a line make of a layer, each configuration where it is named
abbrev pub demo_layer : LayerSettings → DemoLayer
demo_layer settings = record {
  payload = own_payload settings.payload settings.mime;
  shared_payload = option_map limited settings.shared_payload;
  json = json_config settings;
  form = form_config settings.form settings.form_teapot;
  path = handled settings.path_teapot;
  query = handled settings.query_teapot;
  number = settings.number;
}

-- what a layer has is what it lends to arguments
abbrev pub demo_configurations :
    DemoLayer → Configurations Teapot Teapot Teapot Teapot VendorType
demo_configurations layer = record (holds_nothing) {
  payload = layer.payload;
  shared_payload = layer.shared_payload;
  json = layer.json;
  form = layer.form;
  path = layer.path;
  query = layer.query;
}
