-- A client that begins to serve.
use Rattle.std.specs.Prelude.{ℕ, ◌==◌, if◌then◌else◌, None, replicate}
use Rattle.xfs_base.specs.Limits.{slot_count}
use Rattle.client_log.specs.LogState as log
use Rattle.client_log.specs.LogState.{LogState}
use Rattle.client_serving.specs.declared.lasting.Lasting.{Lasting}
use Rattle.client_serving.specs.declared.serving.Serving.{Serving}
use Rattle.coop_cache.specs.CacheState as cache
use Rattle.delta_feed.specs.FeedState as feed
use Rattle.delta_feed.specs.FeedState.{FeedState}
use Rattle.group_map.specs.GroupMapState.{GroupMapState}
use Rattle.log_owner.specs.declared.promised.Promised.{Promised}
use Rattle.log_owner.specs.Promised.{managers_start}
use Rattle.node_base.specs.declared.maps.Maps.{Maps}
use Rattle.node_base.specs.Maps.{maps_start}
use Rattle.token_client.specs.State as tokens
use Rattle.token_client.specs.State.{tokens_start}
use Rattle.xfs_base.specs.declared.segment.End.{End}

-- the end of an empty log
abbrev pub empty_end : End
empty_end = record { seq = 0; pass = record { inc = 0; att = 0 }; group = 0 }

-- a client caches one block at least
abbrev pub cached_upto : ℕ → ℕ
cached_upto capacity = if capacity == 0 then 1 else capacity

-- nothing is cached, and the log is empty
abbrev pub serves_first : Lasting → ℕ → ℕ → GroupMapState → Serving
serves_first l managers capacity groups =
    record {
      lasting = l;
      maps = maps_start groups;
      managers = managers_start managers;
      tokens = tokens.tokens_start 1 (replicate slot_count 1);
      log = log.log_start (record { 0 = l.number }) 1 empty_end groups;
      feed = feed.feed_start 0;
      cache = cache.cache_start (cached_upto capacity);
      call = None;
    }

-- a client whose log is open again: nothing is cached
abbrev pub serves_again : Lasting → ℕ → Maps → Promised → LogState → FeedState → Serving
serves_again l capacity maps promised log feed =
    record {
      lasting = l;
      maps = maps;
      managers = promised.managers;
      tokens = tokens_start l.inc promised.epochs;
      log = log;
      feed = feed;
      cache = cache.cache_start (cached_upto capacity);
      call = None;
    }
