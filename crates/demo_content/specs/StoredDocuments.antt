-- The documents of `/doc`.
use Rattle.std.specs.Prelude.{◌≡◌, true, false, List, [], ◌∷◌, codes, refl}
use Rattle.std.specs.Prelude.{Option, None, IfSome}
use Rattle.std.specs.FinMap.{get}
use Rattle.std.proofs.Common.{arith}
use Rattle.httpdate.specs.Calendar.{days_of_months, days_of_years}
use Rattle.httpdate.specs.declared.date.HttpDate.{HttpDate}
use Rattle.web_texts.specs.MediaTypes.{MediaType}
use Rattle.web_request.specs.Head.{Head, head_path}
use Rattle.web_docs.specs.Stores.{Documents, store_of}
use Rattle.web_docs.specs.declared.document.Document.{Document}

-- `text/plain`
abbrev pub plain_text : MediaType
plain_text =
    record { type_ = codes "text"; subtype = codes "plain"; suffix = None; params = [] }

-- Tue, 14 Nov 2023 22:13:20 GMT
unfoldable pub demo_date : HttpDate
unfolding days_of_months days_of_years
demo_date = record {
  parts = record { year = 2023; mon = 11; day = 14; hour = 22; min = 13; sec = 20; wday = 2 };
  civil = ((omega arith, omega arith), (omega arith, omega arith), (omega arith, omega arith));
  time = (omega arith, omega arith, omega arith);
  right_day = refl;
}

-- `/doc/a`, of the tag `v1`
abbrev pub digits_document : Document
digits_document = record {
  path = codes "/doc/a";
  media_type = plain_text;
  tag = record { weak = false; tag = codes "v1" };
  modified = demo_date;
  body = codes "0123456789";
}

-- `/doc/empty`, of the weak tag `e`
abbrev pub empty_document : Document
empty_document = record {
  path = codes "/doc/empty";
  media_type = plain_text;
  tag = record { weak = true; tag = codes "e" };
  modified = demo_date;
  body = [];
}

abbrev pub demo_documents : List Document
demo_documents = digits_document ∷ empty_document ∷ []

-- A store, where one was made, has these documents.
abbrev pub IsKeptStore : Option Documents → Type 0
IsKeptStore kept = IfSome kept (λ store. store ≡ store_of demo_documents)

-- the document of a request's path
abbrev pub found_document : Head → Option Document
found_document head = get (store_of demo_documents) (head_path head)
