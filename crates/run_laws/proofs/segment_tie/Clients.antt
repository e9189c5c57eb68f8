-- What a client writes: each thing that it does keeps it that what waits and what is in flight are versions of its own.
use Rattle.std.proofs.Common.{◌≡◌, ℕ, true, ◌&&◌, not, List, [], ◌∷◌, Option, Some, None, refl}
use Rattle.std.specs.Prelude.{fold}
use Rattle.std.specs.List.{list_any}
use Rattle.client_log.specs.declared.input.In as log_in
use Rattle.client_log.specs.declared.input.In.TheVariants as log_ins
use Rattle.client_log.specs.declared.output.Out as log_out
use Rattle.client_log.specs.declared.output.Out.TheVariants.{Send, Settled}
use Rattle.client_log.specs.LogState.{LogState}
use Rattle.client_log.specs.Transition as log
use Rattle.node_slots.proofs.client_law.Happening.{AnyBlock, AnyMap, OpensSo, PhaseHolds, Reopens, Starts, arrives_any, brings_any, takes-so}
use Rattle.node_slots.proofs.client_law.Keeping.{Fact, IsOuter, Keeps, TakesKeep, note_gone-keeps, serving_seal-keeps, take_back-keeps}
use Rattle.client_node.specs.declared.phase.Phase.TheVariants.{Down, Opening, Serving as Serves}
use Rattle.client_node.specs.declared.phase.Phase.{Phase}
use Rattle.client_node.specs.Phases.{takes}
use Rattle.client_running.specs.Blocks.{changes, wrote}
use Rattle.client_serving.specs.declared.serving.Serving.{Serving}
use Rattle.client_serving.specs.Flights.{feeds, give_if_clean, gives_up, held_at, keep_row, notes_settled, settle_rows, serving_settle, serving_write, write_one}
use Rattle.client_serving.specs.Follow.{evicts, note_clean, note_gone, serving_seal}
use Rattle.client_serving.specs.Sends as client
use Rattle.coop_cache.specs.declared.output.Out as cache_out
use Rattle.coop_cache.specs.declared.output.Out.TheVariants.{Victim}
use Rattle.coop_cache.specs.Transition.{cache_clean}
use Rattle.log_owner.specs.declared.opened.Progress.{Progress}
use Rattle.log_owner.specs.declared.opened.Progress.TheVariants as progress
use Rattle.log_owner.specs.declared.opening.Opening as openings
use Rattle.log_owner.specs.Sealing.{is_settling}
use Rattle.node_slots.proofs.node_tie.ClientPuts.{written_some}
use Rattle.token_client.specs.declared.held.Giving.{Giving}
use Rattle.token_client.specs.Held.{is_dirty, may_write}
use Rattle.token_client.specs.Settling.{is_giving}
use Rattle.token_client.specs.State.{dirty_in, with_held}
use Rattle.token_client.specs.Transition.{on_evict}
use Rattle.xfs_base.specs.declared.block.BlockId.{BlockId}
use Rattle.xfs_base.specs.declared.entry.Entry.{Entry}
use Rattle.xfs_base.specs.declared.segment.End.{End}
use Rattle.xfs_base.specs.Modes.{is_held}
use Rattle.xfs_base.specs.Steps.{steps, still}
use Rattle.xfs_base.proofs.Booleans.{by_test}
use Rattle.run_laws.specs.segment_tie.Clients.{StageWrites, ClientWrites, ClientsStartWriting, ClientsWriteOriginals}
use Rattle.run_laws.specs.segment_tie.Segments.{IsOriginal, IsFirstHand, WritesNothing, WritesOriginals}
use Rattle.run_laws.proofs.segment_tie.Logs as logs
use Rattle.run_laws.proofs.segment_tie.Logs.{originals}
use Rattle.run_laws.proofs.segment_tie.Openings.{ProgressWrites, opens_originals, packet_writes, tick_writes}

-- ---- the fact

abbrev B : Fact
B t l c = WritesOriginals l

abbrev P : ℕ → Fact
P n t l c = WritesOriginals l

abbrev So : Serving → Type 0
So s = WritesOriginals s.log

takes_keep : (n : ℕ) → TakesKeep (P n)
takes_keep n = record {
  quiet = λ t u l c q p. p;
  puts_off = λ t l c block g dirty fact p. p;
  lets = λ t l c block g clean fact p. p;
  lowers = λ t l c block g clean fact p. p;
  leaves = λ t l c block nothing p. p;
  seals = λ t l c p. logs.log_so IsFirstHand IsOriginal originals l log_ins.Seal tt p;
}

-- ---- the cache

all_evicted : (s : Serving) (outs : List cache_out.Out) → So s → So (fold evicts s outs)
unfolding evicts
all_evicted s [] p = p
all_evicted s (Victim block ∷ outs) p = all_evicted (evicts s (Victim block)) outs p

clean_noted : (s : Serving) (block : BlockId) → So s → So (note_clean s block)
unfolding note_clean
clean_noted s block p = all_evicted (record s { cache = (cache_clean s.cache block).state }) (cache_clean s.cache block).outs p

clean_kept : (s : Serving) (row : BlockId × Entry) → So s → So (keep_row s row)
unfolding keep_row
clean_kept s row p =
    by_test So (not (is_dirty (held_at s row.0)) && is_held (held_at s row.0).mode) (note_clean s row.0) s (λ x. clean_noted s row.0 p) (λ x. p)

rows_kept : (s : Serving) (rows : List (BlockId × Entry)) → So s → So (fold keep_row s rows)
rows_kept s [] p = p
rows_kept s (row ∷ rows) p = rows_kept (keep_row s row) rows (clean_kept s row p)

-- ---- a segment is settled

rows_noted : (s : Serving) (rows : List (BlockId × Entry)) → So s → So (fold notes_settled s rows)
unfolding notes_settled
rows_noted s [] p = p
rows_noted s (row ∷ rows) p = rows_noted (notes_settled s row) rows p

given_up : (s : Serving) (block : BlockId) (g : Option Giving) → So s → So (gives_up s block g).state
given_up s block None p = p
given_up s block (Some g) p = take_back-keeps (P 0) (takes_keep 0) s p block g.stamp g.keep

given_if_clean : (s : Serving) (block : BlockId) → So s → So (give_if_clean s block).state
unfolding give_if_clean
given_if_clean s block p =
    by_test (λ (d : client.Done). So d.state) (is_dirty (held_at s block)) (still s) (gives_up s block (held_at s block).giving) (λ x. p)
    (λ x. given_up s block (held_at s block).giving p)

all_given : (s : Serving) (blocks : List BlockId) → So s → So (steps give_if_clean s blocks).state
all_given s [] p = p
all_given s (block ∷ blocks) p = all_given (give_if_clean s block).state blocks (given_if_clean s block p)

settled_so : (s : Serving) (end : End) (rows : List (BlockId × Entry)) → So s → So (serving_settle s end rows).state
unfolding serving_settle
settled_so s end rows p =
    all_given (feeds (settle_rows s rows) end rows) (dirty_in s.tokens.blocks) (rows_kept (fold notes_settled s rows) rows (rows_noted s rows p))

all_done : (s : Serving) (outs : List log_out.Out) → So s → So (steps write_one s outs).state
unfolding write_one
all_done s [] p = p
all_done s (Send fragment member ∷ outs) p = all_done s outs p
all_done s (Settled end rows ∷ outs) p = all_done (serving_settle s end rows).state outs (settled_so s end rows p)

-- the log took an input, and what it says is done
wrote_so : (s : Serving) (i : log_in.In) → WritesOriginals (log.transition s.log i).state → So (serving_write s i).state
unfolding serving_write
wrote_so s i p =
    let outs : List log_out.Out = (log.transition s.log i).outs in
    let u : Serving = (steps write_one (record s { log = (log.transition s.log i).state }) outs).state in
    by_test (λ (d : client.Done). So d.state) (list_any is_settling outs && is_giving u.tokens) (serving_seal u) (still u)
    (λ x. serving_seal-keeps (P 0) (takes_keep 0) u (all_done (record s { log = (log.transition s.log i).state }) outs p))
    (λ x. all_done (record s { log = (log.transition s.log i).state }) outs p)

outer_so : (s : LogState) (i : log_in.In) → IsOuter AnyMap i → WritesOriginals s → WritesOriginals (log.transition s i).state
outer_so s (log_ins.Put block entry value) outer p = absurd outer
outer_so s (log_ins.Parts items) outer p = absurd outer
outer_so s log_ins.Seal outer p = absurd outer
outer_so s i outer p = logs.log_so IsFirstHand IsOriginal originals s i tt p

-- a block is written: its new version waits, at first hand
changed_so : (s : Serving) (block : BlockId) (value : Option (List ℕ)) → may_write (held_at s block) ≡ true → So s → So (changes s block value).done.state
unfolding changes
changed_so s block value may p =
    let w : Serving = wrote s block value in
    let entry : Entry = record { ver = (held_at w block).ver; hop = 0; place = None } in
    wrote_so w (log_ins.Put block entry value)
    (logs.log_so IsFirstHand IsOriginal originals w.log (log_ins.Put block entry value)
    (record { version = written_some s.tokens block value may; hop = refl }) p)

gone_so : (s : Serving) (block : BlockId) → So s → So (note_gone s block)
gone_so s block p = note_gone-keeps (P 0) (takes_keep 0) s block p

keeps : Keeps AnyBlock AnyMap B P (λ block. P 0)
keeps = record {
  begins = λ t l c p room. p;
  less = λ t l c p. p;
  ends = λ t l c p. p;
  takes = takes_keep;
  touches = λ t l c block p. p;
  copies = λ s block g may sound fact p. clean_noted (record s { tokens = with_held s.tokens block g }) block p;
  owns = λ t l c block g may sound fact p. p;
  logs = λ s i outer sound p. wrote_so s i (outer_so s.log i outer p);
  puts = λ s block value sound may p. changed_so s block value may p;
  puts_owned = λ s block value sound may p. changed_so s block value may p;
  lets_owned = λ s block sound p. gone_so (record s { tokens = (on_evict s.tokens block).state }) block p;
}

-- ---- openings

abbrev Opens : openings.Opening → Type 0
Opens o = StageWrites o.stage

progressed : (p : Progress) → ProgressWrites p → OpensSo Opens WritesNothing p
progressed (progress.Opening o) h = h
progressed (progress.Opened o) h = h
progressed (progress.Lost seg) h = tt

reopens : Reopens AnyMap Opens WritesNothing
reopens = record {
  first = λ owner servers q. tt;
  packet = λ o q p brings h. progressed _ (packet_writes o q p h);
  tick = λ o q h. progressed _ (tick_writes o q h);
}

starts : Starts B WritesNothing
starts inc epochs l capacity empty = opens_originals l empty

-- ---- the law

stands : (p : Phase) → ClientWrites p → PhaseHolds AnyBlock AnyMap B P (λ block. P 0) keeps Opens WritesNothing reopens starts p
stands (Down l) h = tt
stands (Opening l o) h = h
stands (Serves s) h = h

holds : (p : Phase) → PhaseHolds AnyBlock AnyMap B P (λ block. P 0) keeps Opens WritesNothing reopens starts p → ClientWrites p
holds (Down l) h = tt
holds (Opening l o) h = h
holds (Serves s) h = h

pub clients_write : ClientsWriteOriginals
clients_write client what asks h =
    holds (takes client what).state
    (takes-so AnyBlock AnyMap B P (λ block. P 0) keeps Opens WritesNothing reopens starts client what (arrives_any client.phase what) (brings_any what) asks
    (stands client.phase h))

pub client_starts : ClientsStartWriting
client_starts number setup works = record { once = tt; each = tt; flies = tt }
