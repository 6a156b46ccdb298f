-- The configurations that a layer has, and the one that counts for a request.
use Rattle.std.specs.Prelude.{◌≡◌, List, Option, None, Some, IfSome, option_copied}
use Rattle.std.specs.Option.{unwrap_or}
use Rattle.web_request.specs.Nearest.{nearest_config}
use Rattle.web_body.specs.PayloadSettings.{PayloadSettings, default_payload_settings}
use Rattle.web_body.specs.DecoderSettings.{JsonSettings, FormSettings, HandlerSettings}
use Rattle.web_body.specs.DecoderSettings.{default_json_settings, default_form_settings}
use Rattle.web_body.specs.DecoderSettings.{default_handler_settings}
use Rattle.web_extract.specs.declared.config.layer_configs.LayerConfigs.{LayerConfigs}

-- J, F, P and Q: the handlers of faults in JSON, forms, paths and queries; T: the predicate of
-- media types
pub record Configurations (J F P Q T : Type 0) : Type 0 where
  pub payload : Option PayloadSettings
  pub shared_payload : Option PayloadSettings
  pub json : Option (JsonSettings J T)
  pub shared_json : Option (JsonSettings J T)
  pub form : Option (FormSettings F)
  pub shared_form : Option (FormSettings F)
  pub path : Option (HandlerSettings P)
  pub shared_path : Option (HandlerSettings P)
  pub query : Option (HandlerSettings Q)

abbrev pub holds_nothing : {J F P Q T : Type 0} → Configurations J F P Q T
holds_nothing = record {
  payload = None;
  shared_payload = None;
  json = None;
  shared_json = None;
  form = None;
  shared_form = None;
  path = None;
  shared_path = None;
  query = None;
}

-- what is lent is what the layer has
pub record Lends {J F P Q T : Type 0} (lent : LayerConfigs J F P Q T)
    (held : Configurations J F P Q T) : Type 0 where
  pub payload_is : option_copied lent.payload ≡ held.payload
  pub shared_payload_is : option_copied lent.shared_payload ≡ held.shared_payload
  pub json_is : option_copied lent.json ≡ held.json
  pub shared_json_is : option_copied lent.shared_json ≡ held.shared_json
  pub form_is : option_copied lent.form ≡ held.form
  pub shared_form_is : option_copied lent.shared_form ≡ held.shared_form
  pub path_is : option_copied lent.path ≡ held.path
  pub shared_path_is : option_copied lent.shared_path ≡ held.shared_path
  pub query_is : option_copied lent.query ≡ held.query

-- what is there is ready
abbrev pub IsReady : {H : Type 0} → (H → Type 0) → Option H → Type 0
IsReady {H} ready held = (h : H) → held ≡ Some h → ready h

-- the handler and the predicate may be called
abbrev pub IsUsableJson : {J T : Type 0}
    → (J → Type 0) → (T → Type 0) → JsonSettings J T → Type 0
IsUsableJson handler predicate c = IsReady handler c.handler × IsReady predicate c.predicate

abbrev pub IsUsableForm : {F : Type 0} → (F → Type 0) → FormSettings F → Type 0
IsUsableForm handler c = IsReady handler c.handler

abbrev pub IsUsable : {H : Type 0} → (H → Type 0) → HandlerSettings H → Type 0
IsUsable handler c = IsReady handler c.handler

-- the handlers and the predicates of what is lent may be called
pub record AreUsable {J F P Q T : Type 0} (on_json : J → Type 0) (on_form : F → Type 0)
    (on_path : P → Type 0) (on_query : Q → Type 0) (json_type : T → Type 0)
    (lent : LayerConfigs J F P Q T) : Type 0 where
  pub json : IfSome lent.json (λ c. IsUsableJson on_json json_type c.now)
  pub shared_json : IfSome lent.shared_json (λ c. IsUsableJson on_json json_type c.now)
  pub form : IfSome lent.form (λ c. IsUsableForm on_form c.now)
  pub shared_form : IfSome lent.shared_form (λ c. IsUsableForm on_form c.now)
  pub path : IfSome lent.path (λ c. IsUsable on_path c.now)
  pub shared_path : IfSome lent.shared_path (λ c. IsUsable on_path c.now)
  pub query : IfSome lent.query (λ c. IsUsable on_query c.now)

-- The configuration for these layers: the nearest own one; where there is none, the nearest shared
-- one; else the default. A configuration of queries is not shared.
module _ {L J F P Q T : Type 0} (of_layer : L → Configurations J F P Q T) (layers : List L) where
  abbrev pub payload_settings : PayloadSettings
  payload_settings = unwrap_or
      (nearest_config (λ l. (of_layer l).payload) (λ l. (of_layer l).shared_payload) layers)
      default_payload_settings

  abbrev pub json_settings : JsonSettings J T
  json_settings = unwrap_or
      (nearest_config (λ l. (of_layer l).json) (λ l. (of_layer l).shared_json) layers)
      default_json_settings

  abbrev pub form_settings : FormSettings F
  form_settings = unwrap_or
      (nearest_config (λ l. (of_layer l).form) (λ l. (of_layer l).shared_form) layers)
      default_form_settings

  abbrev pub path_settings : HandlerSettings P
  path_settings = unwrap_or
      (nearest_config (λ l. (of_layer l).path) (λ l. (of_layer l).shared_path) layers)
      default_handler_settings

  abbrev pub query_settings : HandlerSettings Q
  query_settings = unwrap_or
      (nearest_config (λ l. (of_layer l).query) (λ _. None) layers)
      default_handler_settings
