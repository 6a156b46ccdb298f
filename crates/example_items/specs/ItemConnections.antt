-- The site over a connection.
use Rattle.std.specs.Prelude.{◌≡◌, ◌<◌, ⊤}
use Rattle.web_request.specs.Feed.{Feed}
use Rattle.web_request.specs.Pool.{Pool}
use Rattle.web_worker.specs.ServicePromises.{Promise}
use Rattle.web_worker.specs.Setting.{Setting, setting_of}
use Rattle.web_worker.specs.declared.service.Whole.{Whole}
use Rattle.example_items.specs.ItemReplies.{DelayedReply}
use Rattle.example_items.specs.ItemSites.{item_reply}

-- this reply after this delay, and no other
abbrev pub exactly : DelayedReply → Promise Whole
exactly r = record {
  gives = λ d p. (d ≡ r.delay) × (p ≡ r.reply);
  before = λ n. r.delay < n;
  arguments = λ k y. ⊤;
}

-- A worker with this pool where each request has the reply that `item_reply` gives. No call is
-- under way.
abbrev pub item_setting : {S L D C : Type 0} → (S → Feed) → Pool L → Setting S L D C Whole ⊥
item_setting feed pool =
    setting_of (λ q. q) (λ q m. exactly (item_reply q m)) (λ k q. absurd k) feed pool
