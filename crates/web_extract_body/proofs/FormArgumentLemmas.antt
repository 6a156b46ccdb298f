-- The argument under the configuration that counts.
use Rattle.std.proofs.Common.{◌≡◌, ℕ, List, subst, ap, ◌∙◌}
use Rattle.std.specs.Prelude.{Option, Result}
use Rattle.std.specs.Option.{unwrap_or}
use Rattle.web_request.specs.declared.source.Mark.{Mark}
use Rattle.web_request.specs.Nearest.{nearest_config}
use Rattle.web_request.specs.Request.{Request, Record}
use Rattle.web_codec.specs.DecodedForms.{PairReader}
use Rattle.web_body.specs.declared.errors.form_error.UrlencodedError.{UrlencodedError}
use Rattle.web_body.specs.DecoderSettings.{FormSettings, default_form_settings}
use Rattle.web_extract.specs.Extracts.{Extracts}
use Rattle.web_extract.specs.LayerConfigurations.{Configurations, form_settings}
use Rattle.web_extract.specs.Refusals.{Handler, form_fault}
use Rattle.web_extract_body.specs.HandledBodies.{GivesHandled, IsKept, KeptErrors}
use Rattle.web_extract_body.specs.FormArgument.{MeansForm, MeansFormBody, form_handler, form_of}
use Rattle.web_extract_body.proofs.HandledLemmas.{extracts_kept}

module _ {L D C J F P Q T V : Type 0} (of_layer : L → Configurations J F P Q T) (refuses : Handler F UrlencodedError)
    (reads : PairReader V) (q : Request L D C) where
  abbrev lowered : (ℕ → ℕ) → FormSettings F → FormSettings F
  lowered lower settings = record settings { limit = lower settings.limit }

  pub form_extracted : (lower : ℕ → ℕ) (handler : Option F) (config : Option (FormSettings F))
      → handler ≡ (unwrap_or config default_form_settings).handler
      → (limit : ℕ) → limit ≡ lower (unwrap_or config default_form_settings).limit
      → config ≡ nearest_config (λ l. (of_layer l).form) (λ l. (of_layer l).shared_form) q.layers
      → (kept : Option (Record L D C)) → IsKept handler q kept
      → (gives : ℕ → Result V UrlencodedError → Type 0) (old new : Option (List Mark))
      → Extracts (λ m rest n y. MeansFormBody limit reads q.head.headers m rest n y) gives old new
      → Extracts (λ m rest n x. MeansForm (lowered lower (form_settings of_layer q.layers)) refuses reads q.head m rest n x)
      (λ n x. GivesHandled form_of (KeptErrors refuses form_fault (form_handler of_layer) kept) gives n x) old new
  form_extracted lower handler config is limit is_limit counts kept k gives old new h =
      let found = is ∙ ap (λ (c : Option (FormSettings F)). (unwrap_or c default_form_settings).handler) counts in
      extracts_kept refuses form_fault (form_handler of_layer) q form_of kept
      (subst (λ (o : Option F). IsKept o q kept) found k)
      (MeansFormBody (lower (form_settings of_layer q.layers).limit) reads q.head.headers) gives old new
      (subst (λ (c : Option (FormSettings F)). Extracts (λ m rest n y. MeansFormBody (lower (unwrap_or c default_form_settings).limit) reads q.head.headers m rest n y) gives old new) counts
      (subst (λ (l : ℕ). Extracts (λ m rest n y. MeansFormBody l reads q.head.headers m rest n y) gives old new) is_limit h))
