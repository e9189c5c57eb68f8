-- The moves that a client that serves doesn't make for its open call: nothing is read, written or synced for it, and it neither waits nor goes on.
use Rattle.std.specs.Prelude.{ℕ, List, [], ◌∷◌, ◌++◌}
use Rattle.client_log.specs.declared.input.In.{In as LogIn}
use Rattle.client_log.specs.Transition as log
use Rattle.client_serving.specs.declared.serving.Serving.{Serving}
use Rattle.client_serving.specs.Reads.{ends_reading}
use Rattle.coop_cache.specs.declared.input.In.{In as CacheIn}
use Rattle.coop_cache.specs.Transition as cache
use Rattle.delta_feed.specs.declared.input.In.{In as FeedIn}
use Rattle.delta_feed.specs.Transition as feed
use Rattle.log_owner.specs.Promised.{managers_set}
use Rattle.node_base.specs.declared.effects.Effect.{Effect}
use Rattle.token_client.specs.declared.input.In.{In}
use Rattle.token_client.specs.Transition as client
use Rattle.client_moves.specs.Moves.{Moves, Said}
use Rattle.client_moves.specs.Moves.Moves.{CacheTakes as AnyCacheTakes, EndsReading as AnyEndsReading, FeedTakes as AnyFeedTakes, LogTakes as AnyLogTakes, Promises as AnyPromises, Rests as AnyRests, Says as AnySays, Then as AnyThen, TokensTake as AnyTokensTake}
use Rattle.client_moves.specs.Moves.Said.{HasRead, HasSynced, HasWritten}
use Rattle.client_moves.specs.Tokens.{NotGranted}

abbrev pub NoAct : {s : Serving} {e : Effect} → Said s e → Type 0
NoAct (HasRead block ver value) = ⊥
NoAct (HasWritten block value) = ⊥
NoAct HasSynced = ⊥
NoAct _ = Unit {0}

pub data Uncalled : Serving → Serving → List Effect → Type 0 where
  Rests : (s : Serving) → Uncalled s s []
  Then : {s t u : Serving} {o m : List Effect} → Uncalled s t o → Uncalled t u m → Uncalled s u (o ++ m)
  TokensTake : (s : Serving) (i : In) → NotGranted i → Uncalled s (record s { tokens = (client.transition s.tokens i).state }) []
  LogTakes : (s : Serving) (i : LogIn) → Uncalled s (record s { log = (log.transition s.log i).state }) []
  FeedTakes : (s : Serving) (i : FeedIn) → Uncalled s (record s { feed = (feed.transition s.feed i).state }) []
  CacheTakes : (s : Serving) (i : CacheIn) → Uncalled s (record s { cache = (cache.transition s.cache i).state }) []
  Promises : (s : Serving) (slot manager : ℕ) → Uncalled s (record s { managers = managers_set s.managers slot manager }) []
  EndsReading : (s : Serving) → Uncalled s (ends_reading s) []
  Says : (s : Serving) (e : Effect) (said : Said s e) → NoAct said → Uncalled s s (e ∷ [])

moves_of : (s t : Serving) (o : List Effect) → Uncalled s t o → Moves s t o
moves_of s t o (Rests u) = AnyRests u
moves_of s t o (Then {t = v} {o = first} {m = more} a b) = AnyThen (moves_of s v first a) (moves_of v t more b)
moves_of s t o (TokensTake u i none) = AnyTokensTake u i none
moves_of s t o (LogTakes u i) = AnyLogTakes u i
moves_of s t o (FeedTakes u i) = AnyFeedTakes u i
moves_of s t o (CacheTakes u i) = AnyCacheTakes u i
moves_of s t o (Promises u slot manager) = AnyPromises u slot manager
moves_of s t o (EndsReading u) = AnyEndsReading u
moves_of s t o (Says u e said none) = AnySays u e said

pub all_moves : {s t : Serving} {o : List Effect} → Uncalled s t o → Moves s t o
all_moves {s} {t} {o} moves = moves_of s t o moves
