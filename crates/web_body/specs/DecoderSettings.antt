-- How JSON bodies, forms, paths and queries are read.
use Rattle.std.specs.Prelude.{ℕ, Bool, true, Option, None}

-- H: the handler of faults; P: the predicate of media types
pub record JsonSettings (H P : Type 0) : Type 0 where
  pub limit : ℕ
  pub handler : Option H
  pub predicate : Option P
  pub type_required : Bool

abbrev pub default_json_settings : {H P : Type 0} → JsonSettings H P
default_json_settings = record {
  limit = 2097152;
  handler = None;
  predicate = None;
  type_required = true;
}

pub record FormSettings (H : Type 0) : Type 0 where
  pub limit : ℕ
  pub handler : Option H

abbrev pub default_form_settings : {H : Type 0} → FormSettings H
default_form_settings = record { limit = 16384; handler = None }

-- what answers refusals of the parameters of a path, and of a query
pub record HandlerSettings (H : Type 0) : Type 0 where
  pub handler : Option H

abbrev pub default_handler_settings : {H : Type 0} → HandlerSettings H
default_handler_settings = record { handler = None }
