-- The map over which a client stripes is always one that came, or the setup's: what is true of these is true of it.
use Rattle.std.proofs.Common.{◌≡◌, ℕ, ◌&&◌, not, nat_lt, length, List, [], ◌∷◌, Option, Some, None, refl, sym, subst}
use Rattle.std.specs.Prelude.{fold}
use Rattle.std.specs.List.{list_any}
use Rattle.client_log.specs.declared.input.In as log_in
use Rattle.client_log.specs.declared.input.In.TheVariants as log_ins
use Rattle.client_log.specs.declared.output.Out as log_out
use Rattle.client_log.specs.declared.output.Out.TheVariants.{Send, Settled}
use Rattle.client_log.specs.LogState.{LogState}
use Rattle.client_log.specs.Transition as log
use Rattle.client_log.specs.Transition.{can_go_on, has_next, log_go_on, is_idle, on_acked, on_maps, on_put, on_seal, on_tick, log_seal, waits}
use Rattle.client_running.specs.Blocks.{changes, wrote}
use Rattle.client_serving.specs.declared.serving.Serving.{Serving}
use Rattle.client_serving.specs.Flights.{feeds, give_if_clean, gives_up, held_at, keep_row, notes_settled, settle_rows, serving_settle, serving_write, write_one}
use Rattle.client_serving.specs.Follow.{evicts, note_clean, serving_seal}
use Rattle.client_serving.specs.Sends as client
use Rattle.coop_cache.specs.declared.output.Out as cache_out
use Rattle.coop_cache.specs.declared.output.Out.TheVariants.{Victim}
use Rattle.coop_cache.specs.Transition.{cache_clean}
use Rattle.group_map.specs.GroupMapState.{GroupMapState}
use Rattle.group_map.specs.WellFormed.{IsGroupMap}
use Rattle.group_map.proofs.Presence.{is_present}
use Rattle.log_flight.specs.declared.dirty.Change.{Change}
use Rattle.log_owner.specs.declared.opened.Progress.{Progress}
use Rattle.log_owner.specs.declared.opened.Progress.TheVariants as progress
use Rattle.node_slots.specs.client_law.Grouped.{HasSuchMaps}
use Rattle.node_slots.proofs.client_law.Grouped.{OpensBySuch}
use Rattle.log_owner.specs.Opening as opening
use Rattle.log_owner.specs.Sealing.{is_settling}
use Rattle.node_slots.proofs.client_law.Grouping.{Has, acked_has, log_go_on_groups, mapped_has, packet_groups, sealed_groups, tick_groups, ticked_has}
use Rattle.token_client.specs.declared.held.Giving.{Giving}
use Rattle.token_client.specs.Held.{is_dirty}
use Rattle.token_client.specs.Settling.{is_giving}
use Rattle.token_client.specs.State.{dirty_in}
use Rattle.token_client.specs.Transition.{on_evict}
use Rattle.xfs_base.specs.declared.block.BlockId.{BlockId}
use Rattle.xfs_base.specs.declared.entry.Entry.{Entry}
use Rattle.xfs_base.specs.declared.segment.End.{End}
use Rattle.xfs_base.specs.Modes.{is_held}
use Rattle.xfs_base.specs.Steps.{steps, still}
use Rattle.xfs_base.proofs.Booleans.{by_test}
use Rattle.node_slots.specs.client_law.Groups.{HasPresentGroups, StripesByPresentGroupsAlways}
use Rattle.node_slots.proofs.client_law.Happening.{AnyBlock, OpensSo, Reopens, always_where, arrives_any, where_weaker}
use Rattle.node_slots.proofs.client_law.Keeping.{At, Fact, IsOuter, Keeps, TakesKeep, note_gone-keeps, serving_seal-keeps, take_back-keeps}

-- ---- the log keeps its groups

on_seal-groups : (l : LogState) → (on_seal l).state.groups ≡ l.groups
unfolding on_seal
on_seal-groups l =
    by_test (λ (d : log.Done). d.state.groups ≡ l.groups) (is_idle l && nat_lt 0 (length l.dirty) && has_next l.end.seq) (log_seal l) (still l)
    (λ x. sealed_groups l)
    (λ x. refl)

module _ (Is : GroupMapState → Type 0) where
  module _ (l : LogState) (p : Is l.groups) where
    put-has : (block : BlockId) (change : Change) → Has Is (on_put l block change)
    unfolding on_put
    put-has block change =
        by_test (Has Is) (can_go_on (waits l block change)) (log_go_on (waits l block change)) (still l)
        (λ x. subst Is (sym (log_go_on_groups (waits l block change))) p) (λ x. p)

    outer-has : (i : log_in.In) → IsOuter Is i → Has Is (log.transition l i)
    unfolding on_acked on_maps on_tick
    outer-has (log_ins.Acked name index generation) outer = acked_has Is l p name index generation l.flight
    outer-has (log_ins.Maps groups) outer = mapped_has Is l p groups outer l.flight
    outer-has log_ins.Tick outer = ticked_has Is l p l.flight
    outer-has _ outer = absurd outer

  -- ---- what a client does

  abbrev pub S : Fact
  S t l c = Is l.groups

  takes-stripes : TakesKeep S
  takes-stripes = record {
    quiet = λ t u l c q p. p;
    puts_off = λ t l c block g dirty fact p. p;
    lets = λ t l c block g clean fact p. p;
    lowers = λ t l c block g clean fact p. p;
    leaves = λ t l c block nothing p. p;
    seals = λ t l c p. subst Is (sym (on_seal-groups l)) p;
  }

  all_evicted : (s : Serving) (outs : List cache_out.Out) → At S s → At S (fold evicts s outs)
  unfolding evicts
  all_evicted s [] p = p
  all_evicted s (Victim block ∷ outs) p = all_evicted (evicts s (Victim block)) outs p

  note_clean-stripes : (s : Serving) (block : BlockId) → At S s → At S (note_clean s block)
  unfolding note_clean
  note_clean-stripes s block p = all_evicted (record s { cache = (cache_clean s.cache block).state }) (cache_clean s.cache block).outs p

  keep_row-stripes : (s : Serving) (row : BlockId × Entry) → At S s → At S (keep_row s row)
  unfolding keep_row
  keep_row-stripes s row p =
      by_test (At S) (not (is_dirty (held_at s row.0)) && is_held (held_at s row.0).mode) (note_clean s row.0) s (λ x. note_clean-stripes s row.0 p) (λ x. p)

  rows_clean : (s : Serving) (rows : List (BlockId × Entry)) → At S s → At S (fold keep_row s rows)
  rows_clean s [] p = p
  rows_clean s (row ∷ rows) p = rows_clean (keep_row s row) rows (keep_row-stripes s row p)

  rows_settled : (s : Serving) (rows : List (BlockId × Entry)) → At S s → At S (fold notes_settled s rows)
  unfolding notes_settled
  rows_settled s [] p = p
  rows_settled s (row ∷ rows) p = rows_settled (notes_settled s row) rows p

  gives_up-stripes : (s : Serving) (block : BlockId) (g : Option Giving) → At S s → At S (gives_up s block g).state
  gives_up-stripes s block None p = p
  gives_up-stripes s block (Some g) p = take_back-keeps S takes-stripes s p block g.stamp g.keep

  give_if_clean-stripes : (s : Serving) (block : BlockId) → At S s → At S (give_if_clean s block).state
  unfolding give_if_clean
  give_if_clean-stripes s block p =
      by_test (λ (d : client.Done). At S d.state) (is_dirty (held_at s block)) (still s) (gives_up s block (held_at s block).giving) (λ x. p)
      (λ x. gives_up-stripes s block (held_at s block).giving p)

  all_given : (s : Serving) (xs : List BlockId) → At S s → At S (steps give_if_clean s xs).state
  all_given s [] p = p
  all_given s (x ∷ xs) p = all_given (give_if_clean s x).state xs (give_if_clean-stripes s x p)

  serving_settle-stripes : (s : Serving) (end : End) (rows : List (BlockId × Entry)) → At S s → At S (serving_settle s end rows).state
  unfolding serving_settle
  serving_settle-stripes s end rows p =
      all_given (feeds (settle_rows s rows) end rows) (dirty_in s.tokens.blocks) (rows_clean (fold notes_settled s rows) rows (rows_settled s rows p))

  all_written : (s : Serving) (outs : List log_out.Out) → At S s → At S (steps write_one s outs).state
  unfolding write_one
  all_written s [] p = p
  all_written s (Send fragment member ∷ outs) p = all_written s outs p
  all_written s (Settled end rows ∷ outs) p = all_written (serving_settle s end rows).state outs (serving_settle-stripes s end rows p)

  written : (s : Serving) (i : log_in.In) → Has Is (log.transition s.log i) → At S (serving_write s i).state
  unfolding serving_write
  written s i p =
      let outs : List log_out.Out = (log.transition s.log i).outs in
      let u : Serving = (steps write_one (record s { log = (log.transition s.log i).state }) outs).state in
      let q : At S u = all_written (record s { log = (log.transition s.log i).state }) outs p in
      by_test (λ (d : client.Done). At S d.state) (list_any is_settling outs && is_giving u.tokens) (serving_seal u) (still u) (λ x. serving_seal-keeps S takes-stripes u q)
      (λ x. q)

  changes-stripes : (s : Serving) (block : BlockId) (value : Option (List ℕ)) → At S s → At S (changes s block value).done.state
  unfolding changes
  changes-stripes s block value p =
      let w : Serving = wrote s block value in
      let entry : Entry = record { ver = (held_at w block).ver; hop = 0; place = None } in
      written w (log_ins.Put block entry value) (put-has s.log p block (record { entry = entry; value = value }))

  -- where each map that comes is so, the log's is
  pub keeps-stripes : Keeps AnyBlock Is S (λ n. S) (λ block. S)
  keeps-stripes = record {
    begins = λ t l c p room. p;
    less = λ t l c p. p;
    ends = λ t l c p. p;
    takes = λ n. takes-stripes;
    touches = λ t l c block p. p;
    copies = λ s block g may sound fact p. note_clean-stripes (record s { tokens = _ }) block p;
    owns = λ t l c block g may sound fact p. p;
    logs = λ s i outer sound p. written s i (outer-has s.log p i outer);
    puts = λ s block value sound may p. changes-stripes s block value p;
    puts_owned = λ s block value sound may p. changes-stripes s block value p;
    lets_owned = λ s block sound p. note_gone-keeps S takes-stripes (record s { tokens = (on_evict s.tokens block).state }) block p;
  }

  -- ---- openings

  abbrev pub StripesSo : LogState → Type 0
  StripesSo l = Is l.groups

  opens_so : (p : Progress) → OpensBySuch Is p → OpensSo (HasSuchMaps Is) StripesSo p
  opens_so (progress.Opening o) h = h
  opens_so (progress.Opened d) h = h
  opens_so (progress.Lost seg) h = tt

  pub reopens-stripes : Reopens Is (HasSuchMaps Is) StripesSo
  reopens-stripes = record {
    first = λ owner servers q. record { known = tt; log = tt };
    packet = λ o q p brings h. opens_so (opening.opening_take o q p).progress (packet_groups Is o q p brings h);
    tick = λ o q h. opens_so (opening.on_tick o q).progress (tick_groups Is o q h);
  }

pub has_present : (groups : GroupMapState) → IsGroupMap groups → HasPresentGroups groups
has_present groups whole = record { whole = whole; present = λ id group found current. is_present groups id group whole.present found current }

pub present : (s : Serving) → At (S IsGroupMap) s → HasPresentGroups s.log.groups
present s p = has_present s.log.groups p

pub stripes_by_present_groups : StripesByPresentGroupsAlways
stripes_by_present_groups number setup works events first brings =
    where_weaker (At (S IsGroupMap)) (λ s. HasPresentGroups s.log.groups) present _
    (always_where AnyBlock IsGroupMap (S IsGroupMap) (λ n. S IsGroupMap) (λ block. S IsGroupMap) (keeps-stripes IsGroupMap) (HasSuchMaps IsGroupMap)
    (StripesSo IsGroupMap) (reopens-stripes IsGroupMap) (λ inc epochs l capacity h. h) arrives_any number setup works events first brings)
