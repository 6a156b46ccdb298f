-- JSON bodies, forms, and one of two, in every cutting.
use Rattle.std.proofs.Common.{ℕ, ◌+◌, Bool, true, false, List, [], refl}
use Rattle.web_request.specs.declared.source.Mark.{Mark}
use Rattle.web_request.specs.Head.{Head}
use Rattle.web_codec.specs.DecodedForms.{PairReader}
use Rattle.web_codec.specs.DecodedJson.{JsonReader}
use Rattle.web_body.specs.Cuttings.{SameBody}
use Rattle.web_body.specs.declared.errors.form_error.UrlencodedError.{UrlencodedError}
use Rattle.web_body.specs.declared.errors.json_error.JsonPayloadError.{JsonPayloadError}
use Rattle.web_body.specs.DecoderSettings.{FormSettings, JsonSettings}
use Rattle.web_decoders.specs.FormBodies.{FormAnswer}
use Rattle.web_decoders.specs.FormHeads.{form_head, form_refusal, takes_form}
use Rattle.web_decoders.specs.JsonBodies.{JsonAnswer}
use Rattle.web_decoders.specs.TypePredicates.{Predicate}
use Rattle.web_reply.specs.Replies.{Fault}
use Rattle.web_extract.specs.Refusals.{Handler}
use Rattle.web_extract.specs.ListMeanings.{ArgumentMeaning}
use Rattle.web_extract_body.specs.EitherArgument.{MeansEither}
use Rattle.web_extract_body.specs.FormArgument.{MeansForm, form_rest}
use Rattle.web_extract_body.specs.HandledBodies.{rest_where}
use Rattle.web_extract_body.specs.JsonArgument.{MeansJson, json_head_refusal}
use Rattle.web_cutting.specs.CutFree.{CutFree, CutFreeWithin}
use Rattle.web_cutting.proofs.CutFreeLemmas.{decoded_cut, within_cut}

empty_same : SameBody [] []
empty_same = record { bytes = refl; ending = refl }

rest_same : (is_taken : Bool) (m n : List Mark) → SameBody m n → SameBody (rest_where is_taken m) (rest_where is_taken n)
rest_same true m n same = empty_same
rest_same false m n same = same

module _ {H P T : Type 0} (settings : JsonSettings H P) (refuses : Handler H JsonPayloadError)
    (allows : Predicate P) (reads : JsonReader T) (head : Head) where
  pub json_cut : CutFree (MeansJson settings refuses allows reads head)
  json_cut m n rest d x same (y, (is_read, type, left, body), converts) =
      let cut = decoded_cut (JsonAnswer reads settings.limit) (λ a b z h. h) settings.limit
      (json_head_refusal settings.limit is_read head.headers) m n same d y body in
      (rest_where is_read n, cut.0, (y, (is_read, type, refl, cut.1), converts), rw left (rest_same is_read m n same))

module _ {H T : Type 0} (settings : FormSettings H) (refuses : Handler H UrlencodedError)
    (reads : PairReader T) (head : Head) where
  pub form_cut : CutFreeWithin settings.limit (MeansForm settings refuses reads head)
  form_cut m n rest d x same small (y, (left, body), converts) =
      let cut = within_cut (FormAnswer reads settings.limit) settings.limit
      (form_refusal (form_head head.headers) settings.limit) m n same small d y body in
      (form_rest head.headers n, cut.0, (y, (refl, cut.1), converts), rw left (rest_same (takes_form (form_head head.headers)) m n same))

pub either_cut : {V W E F : Type 0} (body : ArgumentMeaning (List ℕ) Fault) (left : ArgumentMeaning V E) (right : ArgumentMeaning W F)
    → CutFree body → CutFree (MeansEither body left right)
either_cut body left right free m n rest d x same (k, j, y, first, after, is) =
    let a = free m n rest k y same first in
    (a.0, a.1 + j, (a.1, j, y, a.2, after, refl), a.3)
