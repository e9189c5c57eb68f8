-- What the tokens of a client hold of where blocks lie, at each input: a fetch begins by a grant, and is of the place that the grant tells.
use Rattle.std.proofs.Common.{◌≡◌, ℕ, ◌&&◌, Bool, List, [], ◌∷◌, Option, Some, None, is_some, refl, sym, subst, nat_lt}
use Rattle.std.specs.List.{list_any}
use Rattle.std.specs.Map.{values_of}
use Rattle.token_client.proofs.Tables.{put_each, held_of-changed}
use Rattle.token_client.specs.declared.held.Fetch.{Fetch}
use Rattle.token_client.specs.declared.held.Held.{Held}
use Rattle.token_client.specs.declared.held.Wanted.{Wanted}
use Rattle.token_client.specs.declared.input.In.{In}
use Rattle.token_client.specs.declared.input.In.TheVariants as input
use Rattle.token_client.specs.Held.{is_dirty, is_asking, must_ask, may_write, is_settled_by, may_end_fetch, may_evict, held_ask, asked_again, held_own, copy_of, take_copy, take_grant, end_fetch, held_write, version_settled, let_go, quit, unfetched, drop_promised, gives_after, put_off, give_up}
use Rattle.token_client.specs.State.{TokensState, held_of, with_held, is_in_slot}
use Rattle.token_client.specs.Transition.{Done, tokens_ask, on_need, accepts, grant_next, on_granted, on_supplied, serves, supplies, on_forwarded, refetch, give, can_refetch, recalled_above, was_answered, recalled_again, recalled, is_promised, on_recalled, on_wrote, on_settled, on_fetched, on_evict, on_reask, on_quit, fetched_blocks, drop_in, raised, ask_copy, may_promise, on_promise, wanted_blocks, is_spent, repeated, ask_again, on_tick, transition}
use Rattle.xfs_base.proofs.Booleans.{by_test}
use Rattle.xfs_base.specs.declared.block.BlockId.{BlockId}
use Rattle.xfs_base.specs.declared.entry.Entry.{Entry}
use Rattle.xfs_base.specs.declared.entry.Place.{Place}
use Rattle.xfs_base.specs.declared.token.Mode.{Mode}
use Rattle.xfs_base.specs.declared.token.Mode.TheVariants.{Copy}
use Rattle.xfs_base.specs.declared.token.Stamp.{Stamp}
use Rattle.xfs_base.specs.Limits.{u32_end}
use Rattle.xfs_base.specs.Modes.{is_own, is_held}
use Rattle.xfs_base.specs.Stamps.{is_later}
use Rattle.xfs_base.specs.Steps.{still, saying, steps}
use Rattle.node_tellings.specs.entry_tie.ClientTells.{FetchTold}
use Rattle.node_moves.proofs.client_walk.Laws.{Takes}
use Rattle.node_tellings.specs.entry_tie.Told.{Told}

module _ (told : Told) where
  -- each block that is being fetched lies where it is told
  abbrev pub FetchesTold : TokensState → Type 0
  FetchesTold s = (block : BlockId) → FetchTold told block (held_of s.blocks block).fetch

  abbrev Keeps : Done → Type 0
  Keeps d = FetchesTold d.state

  -- a grant tells what is told
  abbrev pub InputTold : In → Type 0
  InputTold i = Takes told i

  -- ---- one block

  put_so : (s : TokensState) (block : BlockId) (h : Held) → FetchTold told block h.fetch → FetchesTold s → FetchesTold (with_held s block h)
  put_so s block h here all = put_each (λ (b : BlockId) (g : Held). FetchTold told b g.fetch) block h s.blocks here all

  granted_so : (h : Held) (block : BlockId) (stamp : Stamp) (ver hop : ℕ) (place : Option Place) → told block (record { ver = ver; hop = hop; place = place })
      → FetchTold told block (take_copy h stamp ver place).fetch
  granted_so h block stamp ver hop None fact = tt
  granted_so h block stamp ver hop (Some place) fact = record { hop = hop; place_told = fact }

  taken_so : (h : Held) (block : BlockId) (stamp : Stamp) (mode : Mode) (entry : Entry) → told block entry
      → FetchTold told block (take_grant h stamp mode entry).fetch
  taken_so h block stamp mode entry fact =
      by_test (λ (g : Held). FetchTold told block g.fetch) (is_own mode) (held_own h stamp entry.ver) (take_copy h stamp entry.ver entry.place)
      (λ t. tt) (λ t. granted_so h block stamp entry.ver entry.hop entry.place fact)

  ended_so : (h : Held) (block : BlockId) (fetch : Option Fetch) (value : Option (List ℕ)) → FetchTold told block h.fetch
      → FetchTold told block (end_fetch h fetch value).fetch
  ended_so h block None value fact = fact
  ended_so h block (Some fetch) value fact = tt

  put_off_so : (h : Held) (block : BlockId) (stamp : Stamp) (keep : Bool) → FetchTold told block h.fetch → FetchTold told block (put_off h stamp keep).fetch
  put_off_so h block stamp keep fact =
      by_test (λ (g : Held). FetchTold told block g.fetch) (gives_after h.giving stamp) h (record h { giving = Some (record { stamp = stamp; keep = keep }) })
      (λ t. fact) (λ t. fact)

  give_up_so : (h : Held) (block : BlockId) (stamp : Stamp) (keep : Bool) → FetchTold told block h.fetch → FetchTold told block (give_up h stamp keep).fetch
  give_up_so h block stamp keep fact =
      by_test (λ (g : Held). FetchTold told block g.fetch) (keep && is_held h.mode) (record h { mode = Copy; stamp = stamp; giving = None }) _
      (λ t. fact) (λ t. fact)

  -- ---- wants

  tokens_ask_so : (s : TokensState) (block : BlockId) (mode : Mode) → FetchesTold s → Keeps (tokens_ask s block mode)
  unfolding tokens_ask
  tokens_ask_so s block mode all =
      by_test Keeps (nat_lt s.req u32_end) _ (still s) (λ t. put_so s block (held_ask (held_of s.blocks block) _ mode) (all block) all) (λ t. all)

  need_so : (s : TokensState) (block : BlockId) (mode : Mode) → FetchesTold s → Keeps (on_need s block mode)
  unfolding on_need
  need_so s block mode all =
      by_test Keeps (must_ask (held_of s.blocks block) mode) (tokens_ask s block mode) (still s) (λ t. tokens_ask_so s block mode all) (λ t. all)

  on_granted_so : (s : TokensState) (block : BlockId) (stamp : Stamp) (inc req : ℕ) (mode : Mode) (entry : Entry) → told block entry → FetchesTold s
      → Keeps (on_granted s block stamp inc req mode entry)
  unfolding on_granted
  on_granted_so s block stamp inc req mode entry fact all =
      by_test Keeps (accepts s block stamp inc req mode)
      (record { state = with_held s block (take_grant (held_of s.blocks block) stamp mode entry); outs = grant_next block mode entry.place ∷ [] }) (still s)
      (λ t. put_so s block (take_grant (held_of s.blocks block) stamp mode entry) (taken_so (held_of s.blocks block) block stamp mode entry fact) all)
      (λ t. all)

  supplied_so : (s : TokensState) (block : BlockId) (stamp : Stamp) (inc req ver : ℕ) (value : Option (List ℕ)) → FetchesTold s
      → Keeps (on_supplied s block stamp inc req ver value)
  unfolding on_supplied
  supplied_so s block stamp inc req ver value all =
      by_test Keeps (accepts s block stamp inc req Copy) _ (still s) (λ t. put_so s block (copy_of (held_of s.blocks block) stamp ver value) tt all) (λ t. all)

  pub forwarded_so : (s : TokensState) (block : BlockId) (stamp : Stamp) (ver : ℕ) → FetchesTold s → FetchesTold (on_forwarded s block stamp ver).state
  unfolding on_forwarded
  forwarded_so s block stamp ver all =
      by_test Keeps (serves s block stamp ver) (record { state = s; outs = supplies block ver (held_of s.blocks block).value }) (still s) (λ t. all) (λ t. all)

  -- ---- recalls

  refetch_so : (s : TokensState) (block : BlockId) → FetchesTold s → Keeps (refetch s block)
  unfolding refetch
  refetch_so s block all =
      let t : TokensState = with_held s block (unfetched (held_of s.blocks block)) in
      by_test Keeps (is_some (held_of s.blocks block).fetch) (tokens_ask t block Copy) (still s)
      (λ e. tokens_ask_so t block Copy (put_so s block (unfetched (held_of s.blocks block)) tt all)) (λ e. all)

  give_so : (s : TokensState) (block : BlockId) (stamp : Stamp) (keep : Bool) → FetchesTold s → Keeps (give s block stamp keep)
  unfolding give
  give_so s block stamp keep all =
      let h : Held = held_of s.blocks block in
      by_test Keeps (is_dirty h) _ _ (λ t. put_so s block (put_off h stamp keep) (put_off_so h block stamp keep (all block)) all)
      (λ t. put_so s block (give_up h stamp keep) (give_up_so h block stamp keep (all block)) all)

  above_so : (s : TokensState) (block : BlockId) (stamp : Stamp) (keep : Bool) → FetchesTold s → Keeps (recalled_above s block stamp keep)
  unfolding recalled_above
  above_so s block stamp keep all =
      by_test Keeps (can_refetch s block) (saying (refetch s block).outs (give (refetch s block).state block stamp keep)) (still s)
      (λ t. give_so (refetch s block).state block stamp keep (refetch_so s block all)) (λ t. all)

  again_so : (s : TokensState) (block : BlockId) (stamp : Stamp) → FetchesTold s → Keeps (recalled_again s block stamp)
  unfolding recalled_again
  again_so s block stamp all = by_test Keeps (was_answered (held_of s.blocks block) stamp) _ (still s) (λ t. all) (λ t. all)

  recalled_so : (s : TokensState) (block : BlockId) (stamp : Stamp) (keep : Bool) → FetchesTold s → Keeps (recalled s block stamp keep)
  unfolding recalled
  recalled_so s block stamp keep all =
      by_test Keeps (is_later stamp (held_of s.blocks block).stamp) (recalled_above s block stamp keep) (recalled_again s block stamp)
      (λ t. above_so s block stamp keep all) (λ t. again_so s block stamp all)

  pub on_recalled_so : (s : TokensState) (block : BlockId) (stamp : Stamp) (keep : Bool) → FetchesTold s → FetchesTold (on_recalled s block stamp keep).state
  unfolding on_recalled
  on_recalled_so s block stamp keep all =
      by_test Keeps (is_promised s block stamp) (recalled s block stamp keep) (still s) (λ t. recalled_so s block stamp keep all) (λ t. all)

  -- ---- the node's own doings

  pub wrote_so : (s : TokensState) (block : BlockId) (value : Option (List ℕ)) → FetchesTold s → FetchesTold (on_wrote s block value).state
  unfolding on_wrote
  wrote_so s block value all =
      by_test Keeps (may_write (held_of s.blocks block)) _ (still s) (λ t. put_so s block (held_write (held_of s.blocks block) value) (all block) all) (λ t. all)

  pub settled_so : (s : TokensState) (block : BlockId) (ver : ℕ) → FetchesTold s → FetchesTold (on_settled s block ver).state
  unfolding on_settled
  settled_so s block ver all =
      by_test Keeps (is_settled_by (held_of s.blocks block) ver) _ (still s)
      (λ t. put_so s block (version_settled (held_of s.blocks block) ver) (all block) all)
      (λ t. all)

  fetched_so : (s : TokensState) (block : BlockId) (value : Option (List ℕ)) → FetchesTold s → Keeps (on_fetched s block value)
  unfolding on_fetched
  fetched_so s block value all =
      let h : Held = held_of s.blocks block in
      by_test Keeps (may_end_fetch h) _ (still s) (λ t. put_so s block (end_fetch h h.fetch value) (ended_so h block h.fetch value (all block)) all)
      (λ t. all)

  pub evict_so : (s : TokensState) (block : BlockId) → FetchesTold s → FetchesTold (on_evict s block).state
  unfolding on_evict
  evict_so s block all =
      by_test Keeps (may_evict (held_of s.blocks block)) _ (still s) (λ t. put_so s block (let_go (held_of s.blocks block)) (all block) all) (λ t. all)

  reask_so : (s : TokensState) (block : BlockId) → FetchesTold s → Keeps (on_reask s block)
  unfolding on_reask
  reask_so s block all =
      by_test Keeps (is_some (held_of s.blocks block).fetch) (tokens_ask s block Copy) (still s) (λ t. tokens_ask_so s block Copy all) (λ t. all)

  pub quit_so : (s : TokensState) (block : BlockId) → FetchesTold s → FetchesTold (on_quit s block).state
  unfolding on_quit
  quit_so s block all =
      by_test Keeps (is_asking (held_of s.blocks block)) _ (still s) (λ t. put_so s block (quit (held_of s.blocks block)) tt all) (λ t. all)

  -- ---- promises, and time

  steps_so : (f : TokensState → BlockId → Done) → ((s : TokensState) (block : BlockId) → FetchesTold s → Keeps (f s block)) → (s : TokensState)
      (blocks : List BlockId) → FetchesTold s → Keeps (steps f s blocks)
  steps_so f each s [] all = all
  steps_so f each s (b ∷ bs) all = steps_so f each (f s b).state bs (each s b all)

  dropped_so : (slot : ℕ) (block : BlockId) (h : Held) → FetchTold told block h.fetch → FetchTold told block (drop_in slot block h).fetch
  dropped_so slot block h fact = by_test (λ (g : Held). FetchTold told block g.fetch) (is_in_slot slot block) (drop_promised h) h (λ t. tt) (λ t. fact)

  same_dropped : (slot : ℕ) (block : BlockId) → drop_in slot block (held_of [] block) ≡ held_of [] block
  same_dropped slot block = by_test (λ (g : Held). g ≡ held_of [] block) (is_in_slot slot block) _ _ (λ t. refl) (λ t. refl)

  raised_so : (s : TokensState) (slot epoch : ℕ) → FetchesTold s → FetchesTold (raised s slot epoch)
  raised_so s slot epoch all block =
      subst (λ (h : Held). FetchTold told block h.fetch) (sym (held_of-changed (drop_in slot) block s.blocks (same_dropped slot block)))
      (dropped_so slot block (held_of s.blocks block) (all block))

  ask_copy_so : (s : TokensState) (block : BlockId) → FetchesTold s → Keeps (ask_copy s block)
  ask_copy_so s block all = tokens_ask_so s block Copy all

  pub promise_so : (s : TokensState) (slot epoch : ℕ) → FetchesTold s → FetchesTold (on_promise s slot epoch).state
  unfolding on_promise
  promise_so s slot epoch all =
      by_test Keeps (may_promise s slot epoch) (steps ask_copy (raised s slot epoch) (fetched_blocks slot s.blocks)) (still s)
      (λ t. steps_so ask_copy ask_copy_so (raised s slot epoch) (fetched_blocks slot s.blocks) (raised_so s slot epoch all)) (λ t. all)

  repeated_so : (s : TokensState) (block : BlockId) (want : Option Wanted) → FetchesTold s → Keeps (repeated s block want)
  repeated_so s block None all = all
  repeated_so s block (Some w) all = put_so s block (asked_again (held_of s.blocks block) w) (all block) all

  ask_again_so : (s : TokensState) (block : BlockId) → FetchesTold s → Keeps (ask_again s block)
  unfolding ask_again
  ask_again_so s block all =
      by_test Keeps (is_spent (held_of s.blocks block).want) (still s) (repeated s block (held_of s.blocks block).want) (λ t. all)
      (λ t. repeated_so s block (held_of s.blocks block).want all)

  tick_so : (s : TokensState) → FetchesTold s → Keeps (on_tick s)
  unfolding on_tick
  tick_so s all =
      by_test Keeps (list_any (λ h. is_spent h.want) (values_of s.blocks)) (still s) (steps ask_again s (wanted_blocks s.blocks)) (λ t. all)
      (λ t. steps_so ask_again ask_again_so s (wanted_blocks s.blocks) all)

  -- ---- any input

  pub tokens_so : (s : TokensState) (i : In) → InputTold i → FetchesTold s → FetchesTold (transition s i).state
  tokens_so s (input.Need block mode) fact all = need_so s block mode all
  tokens_so s (input.Granted block stamp inc req mode entry) fact all = on_granted_so s block stamp inc req mode entry fact all
  tokens_so s (input.Supplied block stamp inc req ver value) fact all = supplied_so s block stamp inc req ver value all
  tokens_so s (input.Forwarded block stamp ver) fact all = forwarded_so s block stamp ver all
  tokens_so s (input.Recalled block stamp keep) fact all = on_recalled_so s block stamp keep all
  tokens_so s (input.Wrote block value) fact all = wrote_so s block value all
  tokens_so s (input.Settled block ver) fact all = settled_so s block ver all
  tokens_so s (input.Fetched block value) fact all = fetched_so s block value all
  tokens_so s (input.Evict block) fact all = evict_so s block all
  tokens_so s (input.Reask block) fact all = reask_so s block all
  tokens_so s (input.Quit block) fact all = quit_so s block all
  tokens_so s (input.Promise slot epoch) fact all = promise_so s slot epoch all
  tokens_so s input.Tick fact all = tick_so s all
