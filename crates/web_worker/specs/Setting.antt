-- What the polls of a worker are judged by.
use Rattle.std.specs.Prelude.{List}
use Rattle.web_request.specs.declared.source.Mark.{Mark}
use Rattle.web_request.specs.Feed.{Feed}
use Rattle.web_request.specs.Pool.{Pool}
use Rattle.web_request.specs.Request.{Request}
use Rattle.web_worker.specs.Exchanges.{ExchangeView, request_of}
use Rattle.web_worker.specs.ServicePromises.{Promise}

-- S, L, D and C: a source, a layer, the data of a request and that of a connection; V and K: the
-- extractors of the service's handler, and a call under way.
pub record Setting (S L D C V K : Type 0) : Type 1 where
  -- the request as its call sees it
  pub completed : Request L D C → Request L D C
  -- what is promised of a request whose payload has these marks
  pub promise : Request L D C → List Mark → Promise V
  -- what is promised of a call under way
  pub left : K → Request L D C → Promise V
  -- the request of an exchange
  pub request : ExchangeView S L D C → Request L D C
  -- what a source states of itself
  pub feed : S → Feed

abbrev pub setting_with : {S L D C V K : Type 0}
    → (Request L D C → Request L D C)
    → (Request L D C → List Mark → Promise V)
    → (K → Request L D C → Promise V)
    → (S → Feed)
    → (ExchangeView S L D C → Request L D C)
    → Setting S L D C V K
setting_with completed promise left feed request = record {
  completed = completed;
  promise = promise;
  left = left;
  request = request;
  feed = feed;
}

-- the setting of a worker with this pool
abbrev pub setting_of : {S L D C V K : Type 0}
    → (Request L D C → Request L D C)
    → (Request L D C → List Mark → Promise V)
    → (K → Request L D C → Promise V)
    → (S → Feed)
    → Pool L
    → Setting S L D C V K
setting_of completed promise left feed pool =
    setting_with completed promise left feed (request_of pool)
