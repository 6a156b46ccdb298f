-- The argument under the configuration that counts.
use Rattle.std.proofs.Common.{◌≡◌, ℕ, List, subst, ap, ◌∙◌}
use Rattle.std.specs.Prelude.{Option, Result}
use Rattle.std.specs.Option.{unwrap_or}
use Rattle.web_request.specs.declared.source.Mark.{Mark}
use Rattle.web_request.specs.Nearest.{nearest_config}
use Rattle.web_request.specs.Request.{Request, Record}
use Rattle.web_codec.specs.DecodedJson.{JsonReader}
use Rattle.web_body.specs.declared.errors.json_error.JsonPayloadError.{JsonPayloadError}
use Rattle.web_body.specs.DecoderSettings.{JsonSettings, default_json_settings}
use Rattle.web_decoders.specs.TypePredicates.{Predicate}
use Rattle.web_extract.specs.Extracts.{Extracts}
use Rattle.web_extract.specs.LayerConfigurations.{Configurations, json_settings}
use Rattle.web_extract.specs.Refusals.{Handler, json_fault}
use Rattle.web_extract_body.specs.HandledBodies.{GivesHandled, IsKept, KeptErrors}
use Rattle.web_extract_body.specs.JsonArgument.{MeansJson, MeansJsonBody, json_handler, json_of}
use Rattle.web_extract_body.proofs.HandledLemmas.{extracts_kept}

module _ {L D C J F P Q T V : Type 0} (of_layer : L → Configurations J F P Q T) (refuses : Handler J JsonPayloadError)
    (allows : Predicate T) (reads : JsonReader V) (q : Request L D C) where
  abbrev lowered : (ℕ → ℕ) → JsonSettings J T → JsonSettings J T
  lowered lower settings = record settings { limit = lower settings.limit }

  pub json_extracted : (lower : ℕ → ℕ) (handler : Option J) (config : Option (JsonSettings J T))
      → handler ≡ (unwrap_or config default_json_settings).handler
      → (limit : ℕ) → limit ≡ lower (unwrap_or config default_json_settings).limit
      → config ≡ nearest_config (λ l. (of_layer l).json) (λ l. (of_layer l).shared_json) q.layers
      → (kept : Option (Record L D C)) → IsKept handler q kept
      → (gives : ℕ → Result V JsonPayloadError → Type 0) (old new : Option (List Mark))
      → Extracts (λ m rest n y. MeansJsonBody (record (unwrap_or config default_json_settings) { limit = limit }) allows reads q.head.headers m rest n y) gives old new
      → Extracts (λ m rest n x. MeansJson (lowered lower (json_settings of_layer q.layers)) refuses allows reads q.head m rest n x)
      (λ n x. GivesHandled json_of (KeptErrors refuses json_fault (json_handler of_layer) kept) gives n x) old new
  json_extracted lower handler config is limit is_limit counts kept k gives old new h =
      let found = is ∙ ap (λ (c : Option (JsonSettings J T)). (unwrap_or c default_json_settings).handler) counts in
      extracts_kept refuses json_fault (json_handler of_layer) q json_of kept
      (subst (λ (o : Option J). IsKept o q kept) found k)
      (MeansJsonBody (lowered lower (json_settings of_layer q.layers)) allows reads q.head.headers) gives old new
      (subst (λ (c : Option (JsonSettings J T)). Extracts (λ m rest n y. MeansJsonBody (lowered lower (unwrap_or c default_json_settings)) allows reads q.head.headers m rest n y) gives old new) counts
      (subst (λ (l : ℕ). Extracts (λ m rest n y. MeansJsonBody (record (unwrap_or config default_json_settings) { limit = l }) allows reads q.head.headers m rest n y) gives old new) is_limit h))
