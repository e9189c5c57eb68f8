-- A fact of a client's tokens alone is kept where a segment is settled, where the log takes an input and where a block is written, if what is put of one
-- block keeps it.
use Rattle.std.proofs.Common.{ℕ, ◌&&◌, not, List, [], ◌∷◌, Option, Some, None}
use Rattle.std.specs.Prelude.{fold}
use Rattle.client_log.specs.declared.input.In as log_in
use Rattle.client_log.specs.declared.input.In.TheVariants as log_ins
use Rattle.client_running.specs.Blocks.{changes, wrote}
use Rattle.client_serving.specs.declared.serving.Serving.{Serving}
use Rattle.client_serving.specs.Flights.{feeds, give_if_clean, gives_up, held_at, keep_row, notes_settled, settle_rows, serving_settle, serving_write}
use Rattle.client_serving.specs.Follow.{note_clean, note_gone}
use Rattle.client_serving.specs.Sends as client
use Rattle.token_client.specs.declared.held.Giving.{Giving}
use Rattle.token_client.specs.declared.held.Held.{Held}
use Rattle.token_client.specs.Held.{is_dirty, is_settled_by, let_go, may_evict, may_write, version_settled, held_write}
use Rattle.token_client.specs.State.{TokensState, dirty_in, held_of, with_held}
use Rattle.token_client.specs.Transition.{Done, on_evict, on_settled, on_wrote}
use Rattle.xfs_base.specs.declared.block.BlockId.{BlockId}
use Rattle.xfs_base.specs.declared.entry.Entry.{Entry}
use Rattle.xfs_base.specs.declared.segment.End.{End}
use Rattle.xfs_base.specs.Modes.{is_held}
use Rattle.xfs_base.specs.Steps.{steps, still}
use Rattle.xfs_base.proofs.Booleans.{by_test}
use Rattle.node_slots.proofs.client_law.Keeping.{TakesKeep, take_back-keeps}
use Rattle.node_slots.proofs.client_law.Writing.{note_clean-tokens, note_gone-tokens, serving_write-tokens}

-- what gives nothing new keeps the fact, and so does a block that is let go, whose version is settled, or that is written
pub record PutsKeep (R : TokensState → Type 0) : Type 0 where
  pub takes : TakesKeep (λ t l c. R t)
  pub lets_go : (t : TokensState) (b : BlockId) → R t → R (with_held t b (let_go (held_of t.blocks b)))
  pub settles : (t : TokensState) (b : BlockId) (ver : ℕ) → R t → R (with_held t b (version_settled (held_of t.blocks b) ver))
  pub writes : (t : TokensState) (b : BlockId) (value : Option (List ℕ)) → R t → R (with_held t b (held_write (held_of t.blocks b) value))

module _ (R : TokensState → Type 0) (k : PutsKeep R) where
  evict-tokens : (t : TokensState) (b : BlockId) → R t → R (on_evict t b).state
  unfolding on_evict
  evict-tokens t b p =
      let h : Held = held_of t.blocks b in
      by_test (λ (d : Done). R d.state) (may_evict h) (still (with_held t b (let_go h))) (still t) (λ x. k.lets_go t b p) (λ x. p)

  settled-tokens : (t : TokensState) (b : BlockId) (ver : ℕ) → R t → R (on_settled t b ver).state
  unfolding on_settled
  settled-tokens t b ver p =
      let h : Held = held_of t.blocks b in
      by_test (λ (d : Done). R d.state) (is_settled_by h ver) (still (with_held t b (version_settled h ver))) (still t) (λ x. k.settles t b ver p) (λ x. p)

  wrote-tokens : (t : TokensState) (b : BlockId) (value : Option (List ℕ)) → R t → R (on_wrote t b value).state
  unfolding on_wrote
  wrote-tokens t b value p =
      let h : Held = held_of t.blocks b in
      by_test (λ (d : Done). R d.state) (may_write h) (still (with_held t b (held_write h value))) (still t) (λ x. k.writes t b value p) (λ x. p)

  -- ---- the cache

  pub cleaned-tokens : (s : Serving) (b : BlockId) → R s.tokens → R (note_clean s b).tokens
  cleaned-tokens s b p = note_clean-tokens R evict-tokens s b p

  -- a block leaves the cache, and is let go
  pub gone-tokens : (s : Serving) (b : BlockId) → R s.tokens → R (note_gone (record s { tokens = (on_evict s.tokens b).state }) b).tokens
  gone-tokens s b p = note_gone-tokens R (record s { tokens = (on_evict s.tokens b).state }) b (evict-tokens s.tokens b p)

  -- ---- a segment is settled

  rows_settled : (s : Serving) (rows : List (BlockId × Entry)) → R s.tokens → R (fold notes_settled s rows).tokens
  unfolding notes_settled
  rows_settled s [] p = p
  rows_settled s (row ∷ rows) p = rows_settled (notes_settled s row) rows (settled-tokens s.tokens row.0 row.1.ver p)

  keep_row-tokens : (s : Serving) (row : BlockId × Entry) → R s.tokens → R (keep_row s row).tokens
  unfolding keep_row
  keep_row-tokens s row p =
      by_test (λ (t : Serving). R t.tokens) (not (is_dirty (held_at s row.0)) && is_held (held_at s row.0).mode) (note_clean s row.0) s
      (λ x. cleaned-tokens s row.0 p) (λ x. p)

  rows_clean : (s : Serving) (rows : List (BlockId × Entry)) → R s.tokens → R (fold keep_row s rows).tokens
  rows_clean s [] p = p
  rows_clean s (row ∷ rows) p = rows_clean (keep_row s row) rows (keep_row-tokens s row p)

  gives_up-tokens : (s : Serving) (b : BlockId) (g : Option Giving) → R s.tokens → R (gives_up s b g).state.tokens
  gives_up-tokens s b None p = p
  gives_up-tokens s b (Some g) p = take_back-keeps (λ t l c. R t) k.takes s p b g.stamp g.keep

  give_if_clean-tokens : (s : Serving) (b : BlockId) → R s.tokens → R (give_if_clean s b).state.tokens
  unfolding give_if_clean
  give_if_clean-tokens s b p =
      by_test (λ (d : client.Done). R d.state.tokens) (is_dirty (held_at s b)) (still s) (gives_up s b (held_at s b).giving) (λ x. p)
      (λ x. gives_up-tokens s b (held_at s b).giving p)

  all_given : (s : Serving) (xs : List BlockId) → R s.tokens → R (steps give_if_clean s xs).state.tokens
  all_given s [] p = p
  all_given s (x ∷ xs) p = all_given (give_if_clean s x).state xs (give_if_clean-tokens s x p)

  serving_settle-tokens : (s : Serving) (end : End) (rows : List (BlockId × Entry)) → R s.tokens → R (serving_settle s end rows).state.tokens
  unfolding serving_settle
  serving_settle-tokens s end rows p =
      all_given (feeds (settle_rows s rows) end rows) (dirty_in s.tokens.blocks) (rows_clean (fold notes_settled s rows) rows (rows_settled s rows p))

  -- ---- the log, and a write

  pub logs-tokens : (s : Serving) (i : log_in.In) → R s.tokens → R (serving_write s i).state.tokens
  logs-tokens s i p = serving_write-tokens R serving_settle-tokens s i p

  pub changes-tokens : (s : Serving) (b : BlockId) (value : Option (List ℕ)) → R s.tokens → R (changes s b value).done.state.tokens
  unfolding changes
  changes-tokens s b value p =
      let w : Serving = wrote s b value in
      logs-tokens w (log_ins.Put b (record { ver = (held_at w b).ver; hop = 0; place = None }) value) (wrote-tokens s.tokens b value p)
