-- A block that is written waits; and so after any events just the dirty blocks wait to be written or are in flight.
use Rattle.std.proofs.Common.{◌≡◌, ℕ, ◌+◌, ◌<◌, true, false, not, nat_lt, List, [], map, Option, None, refl, sym, subst, ◌∙◌, arith}
use Rattle.std.proofs.lemmas.Bool.Decides.{nat_tests}
use Rattle.client_log.specs.declared.input.In.TheVariants as log_ins
use Rattle.client_log.specs.LogState.{LogState}
use Rattle.client_log.specs.Transition.{can_go_on, has_next, log_go_on, is_full, on_put, waits}
use Rattle.client_running.specs.Blocks.{changes}
use Rattle.client_serving.specs.declared.serving.Serving.{Serving}
use Rattle.client_serving.specs.Flights.{held_at, serving_write}
use Rattle.client_serving.specs.Follow.{note_clean}
use Rattle.coop_cache.specs.Transition.{cache_leave}
use Rattle.group_map.specs.GroupMapState.{GroupMapState}
use Rattle.log_flight.specs.declared.dirty.Change.{Change}
use Rattle.log_owner.specs.declared.opened.Progress.{Progress}
use Rattle.log_owner.specs.declared.opened.Progress.TheVariants as progress
use Rattle.log_owner.specs.declared.opening.Opening as openings
use Rattle.node_slots.specs.client_law.Empty.{WaitsForNothing}
use Rattle.node_slots.proofs.client_law.Empty.{OpensEmpty}
use Rattle.log_owner.specs.Opening as opening
use Rattle.node_base.specs.declared.questions.Questions.{Questions}
use Rattle.node_base.specs.Room.{has_room}
use Rattle.token_client.specs.declared.held.Held.{Held}
use Rattle.token_client.specs.Held.{is_dirty, may_write, held_write}
use Rattle.token_client.specs.State.{TokensState, held_of, with_held}
use Rattle.token_client.specs.Transition.{Done, on_evict, on_wrote}
use Rattle.token_client.proofs.Tables.{held_of-put_itself}
use Rattle.wire_msg.specs.declared.packet.Packet.{Packet}
use Rattle.xfs_base.specs.declared.block.BlockId.{BlockId}
use Rattle.xfs_base.specs.declared.entry.Entry.{Entry}
use Rattle.xfs_base.specs.Limits.{u32_end}
use Rattle.xfs_base.specs.Steps.{still}
use Rattle.xfs_base.proofs.Booleans.{by_test, contrary, or_second}
use Rattle.node_slots.specs.client_law.Unsettled.{WritesJustWhatIsDirty, WritesWhatIsDirty, versions_flown, versions_waiting}
use Rattle.node_slots.proofs.client_law.Caching.{settled_clean}
use Rattle.node_slots.proofs.client_law.Happening.{AnyBlock, AnyMap, OpensSo, Reopens, Starts, after_weaker, always}
use Rattle.node_slots.proofs.client_law.Keeping.{At, IsCopied, Keeps, Sound, note_gone-keeps}
use Rattle.node_slots.proofs.client_law.Unsettled.{AreUnsettled, none_unsettled, unsettled-held_write}
use Rattle.node_slots.proofs.client_law.UnsettledSteps.{B, NextTo, P, Unsettled, Writes, WroteSo, clean-unsettled, evict-unsettled, log_go_on-end, log_go_on-sends, log_go_on-writes, logs-unsettled, note_clean-unsettled, room_same, sent-so, takes-unsettled, written-so}
use Rattle.node_slots.proofs.client_law.Versions.{put, version_of, versions_put}

-- ---- a block is written

module _ (s : Serving) (block : BlockId) (change : Change) where
  abbrev l : LogState
  l = s.log

  waits-writes : AreUnsettled s.tokens (put block change.entry.ver (versions_waiting l)) (versions_flown l.flight) → NextTo l.flight l.end.seq
      → Writes s.tokens (waits l block change)
  waits-writes versions next = record {
    versions = subst (λ w. AreUnsettled s.tokens w (versions_flown l.flight)) (sym (versions_put block change l.dirty)) versions;
    next = next;
  }

  -- the numbers don't end yet
  goes_on : l.end.seq + 0 < u32_end → can_go_on (waits l block change) ≡ true
  goes_on room = or_second (not (is_full (waits l block change))) (has_next l.end.seq) (below l.end.seq room)
    where
      below : (n : ℕ) → n + 0 < u32_end → nat_lt n u32_end ≡ true
      below n room = grind (arith, nat_tests)

  put-so : AreUnsettled s.tokens (put block change.entry.ver (versions_waiting l)) (versions_flown l.flight) → NextTo l.flight l.end.seq
      → l.end.seq + 0 < u32_end → WroteSo s (on_put l block change)
  unfolding on_put
  put-so versions next room =
      let m : LogState = waits l block change in
      by_test (WroteSo s) (can_go_on m) (log_go_on m) (still l)
      (λ x. sent-so s (log_go_on m) (log_go_on-sends m)
      (record { log = log_go_on-writes s.tokens m (waits-writes versions next); room = room_same 0 m.end (log_go_on m).state.end (log_go_on-end m) room }))
      (λ x. contrary (sym x ∙ goes_on room))

changes-unsettled : (s : Serving) (block : BlockId) (value : Option (List ℕ)) → Sound s → may_write (held_at s block) ≡ true → At (P 0) s
    → At (P 0) (changes s block value).done.state
unfolding changes on_wrote
changes-unsettled s block value sound may p =
    let h : Held = held_at s block in
    let g : Held = held_write h value in
    let t : TokensState = with_held s.tokens block g in
    by_test (λ (d : Done). At (P 0)
    (serving_write (record s { tokens = d.state; cache = cache_leave s.cache block })
    (log_ins.Put block (record { ver = (held_of d.state.blocks block).ver; hop = 0; place = None }) value)).state)
    (may_write h) (still t) (still s.tokens)
    (λ x. wrote_now t g (held_of-put_itself block g s.tokens.blocks)
    (unsettled-held_write s.tokens (versions_waiting s.log) (versions_flown s.log.flight) p.log.versions block value (sound.each block).settled_below))
    (λ x. contrary (sym x ∙ may))
  where
    wrote_now : (t : TokensState) (g : Held) → held_of t.blocks block ≡ g
        → AreUnsettled t (put block g.ver (versions_waiting s.log)) (versions_flown s.log.flight)
        → At (P 0)
        (serving_write (record s { tokens = t; cache = cache_leave s.cache block })
        (log_ins.Put block (record { ver = (held_of t.blocks block).ver; hop = 0; place = None }) value)).state
    wrote_now t g now versions =
        let w : Serving = record s { tokens = t; cache = cache_leave s.cache block } in
        let entry : Entry = record { ver = (held_of t.blocks block).ver; hop = 0; place = None } in
        written-so w (log_ins.Put block entry value)
        (put-so w block (record { entry = entry; value = value })
        (subst (λ (f : Held). AreUnsettled t (put block f.ver (versions_waiting s.log)) (versions_flown s.log.flight)) (sym now) versions) p.log.next p.room)

-- ---- what arrives

copies-unsettled : (s : Serving) (block : BlockId) (g : Held) → Sound s → IsCopied (held_at s block) g → At (P 1) s
    → At (P 1) (note_clean (record s { tokens = with_held s.tokens block g }) block)
copies-unsettled s block g sound fact p =
    note_clean-unsettled 1 (record s { tokens = with_held s.tokens block g }) block
    (clean-unsettled 1 s.tokens s.log block g ((sound.each block).asks_clean fact.asks) (settled_clean g fact.clean) p)

lessened : (t : TokensState) (l : LogState) → Unsettled 1 t l → Unsettled 0 t l
lessened t l p = record { log = p.log; room = less l.end.seq p.room }
  where
    less : (n : ℕ) → n + 1 < u32_end → n + 0 < u32_end
    less n room = omega (arith, room)

begun : (n : ℕ) → has_room n ≡ true → n + 1 < u32_end
begun n room = grind (arith, nat_tests)

pub keeps-unsettled : Keeps AnyBlock AnyMap B P (λ block. P 0)
keeps-unsettled = record {
  begins = λ t l c p room. record { log = p; room = begun l.end.seq room };
  less = λ t l c p. lessened t l p;
  ends = λ t l c p. p.log;
  takes = takes-unsettled;
  touches = λ t l c block p. p;
  copies = λ s block g may sound fact p. copies-unsettled s block g sound fact p;
  owns = λ t l c block g may sound fact p.
      lessened (with_held t block g) l (clean-unsettled 1 t l block g ((sound.each block).asks_clean fact.asks) (settled_clean g fact.clean) p);
  logs = λ s i outer sound p. logs-unsettled s i (λ g. Unit {0}) outer p;
  puts = changes-unsettled;
  puts_owned = changes-unsettled;
  lets_owned = λ s block sound p.
      note_gone-keeps (P 0) (takes-unsettled 0) (record s { tokens = (on_evict s.tokens block).state }) block (evict-unsettled 0 s.tokens s.log block p);
}

-- ---- openings

abbrev pub WaitsNot : openings.Opening → Type 0
WaitsNot o = WaitsForNothing o.stage

abbrev pub IsEmpty : LogState → Type 0
IsEmpty l = (l.dirty ≡ []) × (l.flight ≡ None)

-- an opening that ends leaves a log in which nothing waits or flies
pub record OpensEmptyLogs : Type 0 where
  pub packet : (o : openings.Opening) (q : Questions) (p : Packet) → WaitsForNothing o.stage → OpensEmpty (opening.opening_take o q p).progress
  pub tick : (o : openings.Opening) (q : Questions) → WaitsForNothing o.stage → OpensEmpty (opening.on_tick o q).progress

opens_so : (p : Progress) → OpensEmpty p → OpensSo WaitsNot IsEmpty p
opens_so (progress.Opening o) h = h
opens_so (progress.Opened d) h = h
opens_so (progress.Lost seg) h = h

pub starts-writing : (t : TokensState) (l : LogState) → ((b : BlockId) → is_dirty (held_of t.blocks b) ≡ false) → IsEmpty l → Writes t l
starts-writing t l clean empty = record {
  versions =
      subst (λ cs. AreUnsettled t (map version_of cs) (versions_flown l.flight)) (sym empty.0)
      (subst (λ o. AreUnsettled t [] (versions_flown o)) (sym empty.1) (none_unsettled t clean));
  next = subst (λ o. NextTo o l.end.seq) (sym empty.1) tt;
}

pub writes_what_is_dirty : (s : Serving) → At B s → WritesWhatIsDirty s
writes_what_is_dirty s p = record {
  waits_once = p.versions.waits_once;
  flies_once = p.versions.flies_once;
  newest = p.versions.newest;
  unsettled = p.versions.unsettled;
  unflown = p.versions.unflown;
  all = p.versions.all;
  flown_above = p.versions.above;
  flown_upto = p.versions.upto;
}

pub reopens-empty : OpensEmptyLogs → (M : GroupMapState → Type 0) → Reopens M WaitsNot IsEmpty
reopens-empty opens M = record {
  first = λ owner servers q. tt;
  packet = λ o q p brings h. opens_so (opening.opening_take o q p).progress (opens.packet o q p h);
  tick = λ o q h. opens_so (opening.on_tick o q).progress (opens.tick o q h);
}

pub starts-empty : Starts B IsEmpty
starts-empty inc epochs l capacity empty = starts-writing _ l (λ b. refl) empty

pub writes_just_what_is_dirty : OpensEmptyLogs → WritesJustWhatIsDirty
writes_just_what_is_dirty opens =
    after_weaker (At B) WritesWhatIsDirty writes_what_is_dirty
    (always B P (λ block. P 0) keeps-unsettled WaitsNot IsEmpty (reopens-empty opens AnyMap) starts-empty (λ l map. (refl, refl)))
