-- What a client that serves does once a segment of its log is settled: clean blocks go into the cache, and what is to be given up is.
use Rattle.std.proofs.Common.{◌≡◌, ◌<◌, ℕ, ◌&&◌, not, Bool, true, false, List, ◌∷◌, Option, Some, None, refl}
use Rattle.std.specs.Prelude.{fold}
use Rattle.std.proofs.lemmas.List.Elements.{All-cons}
use Rattle.client_log.specs.LogState.{LogState}
use Rattle.client_serving.specs.declared.serving.Serving.{Serving}
use Rattle.client_serving.specs.Flights.{held_at, notes_settled, keep_row, gives_up, give_if_clean, feeds, settle_rows, serving_settle}
use Rattle.client_serving.specs.Follow.{note_clean}
use Rattle.client_serving.specs.Lasting.{log_of}
use Rattle.client_serving.specs.Sends.{Done}
use Rattle.log_owner.specs.Sending.{name_of, push_all}
use Rattle.node_base.specs.declared.effects.Effect.{Effect}
use Rattle.node_base.specs.declared.effects.Effect.TheVariants.{Does}
use Rattle.token_client.specs.declared.held.Giving.{Giving}
use Rattle.token_client.specs.declared.input.In.TheVariants as input
use Rattle.token_client.specs.Held.{is_dirty}
use Rattle.token_client.specs.State.{dirty_in, is_in_slot}
use Rattle.token_client.specs.Transition as client
use Rattle.token_law.specs.Net.{Net, Happens, IsServing, after_client}
use Rattle.token_law.specs.Net.Happens.{Elsewhere, GetsRecall}
use Rattle.token_law.specs.Net.Packet.{RecallSent}
use Rattle.version_model.specs.declared.act.Act.TheVariants.{Filed}
use Rattle.xfs_base.proofs.Booleans.{by_test}
use Rattle.xfs_base.specs.declared.block.BlockId.{BlockId}
use Rattle.xfs_base.specs.declared.entry.Entry.{Entry}
use Rattle.xfs_base.specs.declared.segment.End.{End}
use Rattle.xfs_base.specs.declared.token.Stamp.{Stamp}
use Rattle.xfs_base.specs.Modes.{is_held}
use Rattle.xfs_base.specs.Steps.{still, saying, steps}
use Rattle.node_slots.specs.node_tie.Sight.{SentOf}
use Rattle.node_slots.proofs.node_tie.ClientFrames as frames
use Rattle.node_slots.proofs.node_tie.ClientTaking as taking
use Rattle.node_slots.proofs.node_tie.ClientTokens as tokens

module _ (logs : Bool) (members part limit c life room highest : ℕ) (pos : 0 < c) (less : c < members) where
  abbrev At : Net → Serving → Type 0
  At n s = frames.At logs members part limit c life room highest n s

  abbrev Goes : Net → Done → Type 0
  Goes n d = frames.Goes logs members part limit c life room highest n d

  -- a recall that was sent, or is of another slot, may be taken
  pub recall_may : (n : Net) (l : LogState) (block : BlockId) (stamp : Stamp) (keep : Bool) → SentOf part n.sent block (RecallSent c block stamp keep)
      → taking.MayTake logs members part limit c life room highest n l (input.Recalled block stamp keep)
  recall_may n l block stamp keep sent = record { happens = λ end serves. by_slot end serves (is_in_slot part block) refl; allowed = sent }
    where
      by_slot : (end : ℕ) → IsServing logs members n c end → (t : Bool) → is_in_slot part block ≡ t
          → Happens logs members part n (after_client n c end (client.transition (n.tokens c) (input.Recalled block stamp keep)))
      by_slot end serves true fact = GetsRecall c end block stamp keep serves (sent fact)
      by_slot end serves false fact = Elsewhere c end (input.Recalled block stamp keep) serves fact

  -- ---- a segment is settled

  keep_row_so : (n : Net) (s : Serving) (row : BlockId × Entry) → At n s → Goes n (still (keep_row s row))
  unfolding keep_row
  keep_row_so n s row h =
      by_test (λ (t : Serving). Goes n (still t)) (not (is_dirty (held_at s row.0)) && is_held (held_at s row.0).mode) (note_clean s row.0) s
      (λ t. tokens.note_clean_so logs members part limit c life room highest pos less n s row.0 h)
      (λ t. frames.goes_still logs members part limit c life room highest n s h)

  gives_up_so : (n : Net) (s : Serving) (block : BlockId) (g : Option Giving) → frames.Sent part c n.sent block g → At n s
      → Goes n (gives_up s block g)
  gives_up_so n s block None sent h = frames.goes_still logs members part limit c life room highest n s h
  gives_up_so n s block (Some g) sent h = tokens.take_back_so logs members part limit c life room highest pos less n s block g.stamp g.keep
      (recall_may n s.log block g.stamp g.keep sent) h

  give_if_clean_so : (n : Net) (s : Serving) (block : BlockId) → At n s → Goes n (give_if_clean s block)
  unfolding give_if_clean
  give_if_clean_so n s block h =
      by_test (λ (d : Done). Goes n d) (is_dirty (held_at s block)) (still s) (gives_up s block (held_at s block).giving)
      (λ t. frames.goes_still logs members part limit c life room highest n s h) (λ t. gives_up_so n s block (held_at s block).giving (h.bears.giving block) h)

  -- once the versions of a segment are settled
  pub settles_from : (n : Net) (s : Serving) (end : End) (rows : List (BlockId × Entry)) → At n (fold notes_settled s rows) → Goes n (serving_settle s end rows)
  unfolding serving_settle
  settles_from n s end rows h =
      let noted : Serving = fold notes_settled s rows in
      let kept : Serving = settle_rows s rows in
      let fed : Serving = feeds kept end rows in
      let given : Done = steps give_if_clean fed (dirty_in s.tokens.blocks) in
      let said : List Effect = Does (Filed (name_of (log_of s.lasting) end)) ∷ push_all fed.managers fed.feed in
      frames.goes_on logs members part limit c life room highest n (still kept) (saying said given)
      (frames.goes_fold logs members part limit c life room highest keep_row keep_row_so n noted rows h)
      (λ m k. frames.goes_after logs members part limit c life room highest m fed said given
      (All-cons (frames.May part c life) _ _ tt (tokens.plain_pushes_all part c life fed.managers fed.feed)) k
      (λ o i. frames.goes_steps logs members part limit c life room highest give_if_clean give_if_clean_so o fed (dirty_in s.tokens.blocks) i))
