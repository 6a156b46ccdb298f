-- How bookings are read.
use Rattle.std.specs.Prelude.{ℕ, Bool, true, Some, bytes_eq, codes}
use Rattle.web_texts.specs.MediaTypes.{MediaType, essence_of}
use Rattle.web_codec.specs.declared.faults.ReadFault.{ReadFault}
use Rattle.web_codec.specs.declared.faults.JsonFault.TheVariants.{Target}
use Rattle.web_body.specs.declared.errors.json_error.JsonPayloadError.{JsonPayloadError}
use Rattle.web_body.specs.declared.errors.json_error.JsonPayloadError.TheVariants.{Deserialize}
use Rattle.web_body.specs.declared.errors.form_error.UrlencodedError.{UrlencodedError}
use Rattle.web_body.specs.declared.errors.form_error.UrlencodedError.TheVariants.{Parse}
use Rattle.web_reply.specs.declared.errors.cause.Cause.TheVariants.{Custom}
use Rattle.web_reply.specs.Replies.{Fault, fault_of}
use Rattle.web_extract.specs.LayerConfigurations.{Configurations, holds_nothing}
use Rattle.web_extract.specs.Refusals.{form_fault, json_fault}
use Rattle.web_extract.specs.declared.config.refuse.NoHandler.{NoHandler}
use Rattle.example_handlers.specs.declared.bookings.booking_layer.BookingLayer.{BookingLayer}
use Rattle.example_handlers.specs.declared.bookings.booking_layer.PlainText.{PlainText}
use Rattle.example_handlers.specs.declared.bookings.booking_layer.Unprocessable.{Unprocessable}

-- status 422 with the reason of a reader
abbrev pub reader_refusal : ReadFault → Fault
reader_refusal e = fault_of (Custom 422 e.text)

-- what a reader refused has that status; other refusals keep their own errors
abbrev pub json_refusal : JsonPayloadError → Fault
json_refusal (Deserialize (Target e)) = reader_refusal e
json_refusal e = json_fault e

abbrev pub form_refusal : UrlencodedError → Fault
form_refusal (Parse e) = reader_refusal e
form_refusal e = form_fault e

abbrev pub is_plain_text : MediaType → Bool
is_plain_text m = bytes_eq (essence_of m) (codes "text/plain")

-- a limit for JSON bodies and for forms, with the handler and the predicate
abbrev pub limited_layer : ℕ → BookingLayer
limited_layer limit = record {
  json = record {
    limit = limit;
    handler = Some (record {});
    predicate = Some (record {});
    type_required = true;
  };
  form = record { limit = limit; handler = Some (record {}) };
}

abbrev pub configurations_of : BookingLayer
    → Configurations Unprocessable Unprocessable NoHandler NoHandler PlainText
configurations_of l = record (holds_nothing) { json = Some l.json; form = Some l.form }
