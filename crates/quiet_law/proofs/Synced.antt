-- A client that was idle, synced, and heard that its segment is settled: it is idle, and of no slot does it hold more, or under a later stamp, than before.
use Rattle.std.proofs.Common.{◌≡◌, ℕ, zero, suc, ◌+◌, ◌≤◌, ◌<◌, ◌^◌, true, List, [], ◌∷◌, ◌++◌, drop, take, length, None, refl, sym, ap, subst, ◌∙◌, arith}
use Rattle.std.proofs.lemmas.Bool.{false≢true}
use Rattle.std.specs.List.{AllByRecursion, list_any}
use Rattle.client_node.specs.Serving.{cached_upto}
use Rattle.log_flight.specs.declared.dirty.Change.{Change}
use Rattle.log_flight.specs.Flights.{FlightState}
use Rattle.segment_format.specs.Rows.{rows_of}
use Rattle.token_client.specs.declared.held.Held.{Held}
use Rattle.token_client.specs.Held.{is_dirty}
use Rattle.token_client.specs.State.{held_of}
use Rattle.version_model.specs.declared.work.Work.{Work}
use Rattle.xfs_base.specs.Blocks.{same_block, slot_of}
use Rattle.xfs_base.specs.declared.block.BlockId.{BlockId}
use Rattle.xfs_base.specs.declared.entry.Entry.{Entry}
use Rattle.xfs_base.specs.declared.node.NodeId.{NodeId}
use Rattle.xfs_base.specs.declared.setup.Setup.{Setup}
use Rattle.xfs_base.specs.declared.token.Stamp.{Stamp}
use Rattle.delta_feed.specs.declared.feed.FiledDeltas.{FiledDeltas}
use Rattle.xfs_base.proofs.Alls.{all_append, all_weaker}
use Rattle.quiet_law.specs.Drained.{IsIdle, IsLow, IsNewest, IsQuietBlock, IsWritable, WaitsForDirty, mode_number}
use Rattle.quiet_nodes.specs.Scene.{ClientPart}
use Rattle.quiet_law.proofs.Keeping.{lower, quiet_more}
use Rattle.quiet_law.proofs.Rows.{AreLying, rows_count, rows_lie}
use Rattle.quiet_nodes.proofs.Sealing.{its_flight}
use Rattle.client_log.specs.Transition.{prior_from}
use Rattle.segment_format.specs.Format.{IsLog}
use Rattle.segment_format.specs.Ranges.{FitsPrior}
use Rattle.quiet_law.proofs.Spelling.{IsSpelled, spelled}
use Rattle.quiet_law.proofs.Settled.{AreNewest, mode_falls, none_dirty, settled_blocks, settled_quiet, settled_stamp}
use Rattle.quiet_law.proofs.Told.{rows_named, rows_newest}

-- fewer than 24 wait: all are taken
all_taken : {X : Type 0} (n : ℕ) (xs : List X) → length xs ≤ n → take n xs ≡ xs
all_taken zero [] h = refl
all_taken (suc n) [] h = refl
all_taken zero (x ∷ xs) h = absurd (omega arith)
all_taken (suc n) (x ∷ xs) h = ap (λ ys. x ∷ ys) (all_taken n xs (omega (arith, h)))

all_dropped : {X : Type 0} (n : ℕ) (xs : List X) → length xs ≤ n → drop n xs ≡ []
all_dropped zero [] h = refl
all_dropped (suc n) [] h = refl
all_dropped zero (x ∷ xs) h = absurd (omega arith)
all_dropped (suc n) (x ∷ xs) h = all_dropped n xs (omega (arith, h))

-- A client that can write all that waits in one segment, and is idle again then: 24 blocks wait at most, and it asks for nothing.
pub record CanSeal (k : ℕ) (p : ClientPart) : Type 0 where
  pub blocks : (b : BlockId) → IsQuietBlock k (held_of p.blocks b)
  pub few : length p.dirty ≤ 24
  pub waits : WaitsForDirty p.blocks p.dirty
  pub fits : AllByRecursion IsWritable p.dirty
  pub filed : AllByRecursion (λ (f : FiledDeltas). f.seq ≤ p.end.seq) p.filed
  pub acked : length p.acked ≡ 8
  pub asked_low : IsLow k p.asked
  pub req_low : IsLow k p.req
  pub end_low : IsLow k (p.end.seq + 1)

-- one that is idle can
pub idle_can : (k : ℕ) (p : ClientPart) → IsIdle k p → CanSeal (suc k) p
idle_can k p idle = record {
  blocks = λ b. quiet_more k (held_of p.blocks b) (idle.blocks b);
  few = (let few = idle.few in omega arith);
  waits = idle.waits;
  fits = idle.fits;
  filed = idle.filed;
  acked = idle.acked;
  asked_low = lower k p.asked idle.asked_low;
  req_low = lower k p.req idle.req_low;
  end_low = next p.end.seq idle.end_low;
}
  where
    next : (n : ℕ) → IsLow k n → IsLow (suc k) (n + 1)
    next n low = omega arith

module _ (setup : Setup) (works : NodeId → List Work) (k c : ℕ) (p : ClientPart) (can : CanSeal k p) where
  -- the segment in which all is written that waits
  abbrev pub its_segment : FlightState
  its_segment = its_flight setup works c p

  abbrev pub its_rows : List (BlockId × Entry)
  its_rows = rows_of its_segment.segment

  taken : take 24 p.dirty ≡ p.dirty
  taken = all_taken 24 p.dirty can.few

  pub none_waits : drop 24 p.dirty ≡ []
  none_waits = all_dropped 24 p.dirty can.few

  pub newest : AreNewest p.blocks its_rows
  newest = rows_newest its_segment.segment p.blocks 0 (take 24 p.dirty) (subst (AllByRecursion (IsNewest p.blocks)) (sym taken) can.waits.newest)

  pub named : (x : BlockId) → is_dirty (held_of p.blocks x) ≡ true → list_any (λ (row : BlockId × Entry). same_block x row.0) its_rows ≡ true
  named x dirty =
      rows_named its_segment.segment x 0 (take 24 p.dirty)
      ∙ ap (λ cs. list_any (λ (e : BlockId × Change). same_block x e.0) cs) taken
      ∙ can.waits.all x dirty

  pub rows_few : length its_rows ≤ 24
  rows_few = subst (λ n. n ≤ 24) (sym (rows_count its_segment.segment 0 (take 24 p.dirty) ∙ ap length taken)) can.few

  newest_low : (rows : List (BlockId × Entry)) → AreNewest p.blocks rows → AllByRecursion (λ (row : BlockId × Entry). IsLow k row.1.ver) rows
  newest_low [] all = tt
  newest_low (row ∷ rows) all = (subst (IsLow k) (sym all.0) (can.blocks row.0).low, newest_low rows all.1)

  pub rows_low : AllByRecursion (λ (row : BlockId × Entry). IsLow k row.1.ver) its_rows
  rows_low = newest_low its_rows newest

  pub rows_lying : AreLying its_segment.segment its_rows
  rows_lying = rows_lie its_segment.segment [] (take 24 p.dirty) refl

  -- its text says it, where the numbers of its name, of the segment before it and of its group are in range
  pub seals_text : IsLog c → p.end.seq + 1 < 2 ^ 32 → FitsPrior (prior_from p.end) → its_segment.segment.group < 2 ^ 32 → IsSpelled its_segment.segment
  seals_text log next prior group =
      spelled its_segment.segment (take 24 p.dirty) (subst (λ cs. length cs ≤ 24) (sym taken) can.few)
      (subst (AllByRecursion IsWritable) (sym taken) can.fits) refl log (next, (omega arith, omega arith)) prior group

  abbrev pub blocks_then : List (BlockId × Held)
  blocks_then = settled_blocks (cached_upto setup.cache) p.blocks p.cached its_rows newest named

  module _ (q : ClientPart) where
    -- the client then: what of it counts
    pub record HasSynced : Type 0 where
      pub call : q.call ≡ None
      pub item : q.item ≡ None
      pub flight : q.flight ≡ None
      pub dirty : q.dirty ≡ []
      pub blocks : q.blocks ≡ blocks_then
      pub asked : q.asked ≡ p.asked
      pub req : q.req ≡ p.req
      pub end : q.end.seq ≡ p.end.seq + 1
      pub filed : q.filed ≡ p.filed ++ record { seq = p.end.seq + 1; rows = its_rows } ∷ []
      pub acked : length q.acked ≡ 8

    module _ (h : HasSynced) where
      up : (f : FiledDeltas) → f.seq ≤ p.end.seq → f.seq ≤ p.end.seq + 1
      up f least = omega arith

      filed_then : AllByRecursion (λ (f : FiledDeltas). f.seq ≤ p.end.seq + 1) (p.filed ++ record { seq = p.end.seq + 1; rows = its_rows } ∷ [])
      filed_then =
          all_append (λ (f : FiledDeltas). f.seq ≤ p.end.seq + 1) p.filed (record { seq = p.end.seq + 1; rows = its_rows } ∷ [])
          (all_weaker (λ (f : FiledDeltas). f.seq ≤ p.end.seq) (λ (f : FiledDeltas). f.seq ≤ p.end.seq + 1) up p.filed can.filed) (omega arith, tt)

      pub synced_idle : IsIdle k q
      synced_idle = record {
        call = h.call;
        item = h.item;
        flight = h.flight;
        blocks = subst (λ bs. (b : BlockId) → IsQuietBlock k (held_of bs b)) (sym h.blocks)
            (settled_quiet (cached_upto setup.cache) p.blocks p.cached its_rows newest named k can.blocks);
        few = subst (λ ds. length ds ≤ 23) (sym h.dirty) (omega arith);
        waits = subst (λ ds. WaitsForDirty q.blocks ds) (sym h.dirty) (record {
          newest = tt;
          once = tt;
          all = λ b dirty. absurd (false≢true
              (sym (none_dirty (cached_upto setup.cache) p.blocks p.cached its_rows newest named b) ∙ subst (λ bs. is_dirty (held_of bs b) ≡ true) h.blocks dirty));
        });
        fits = subst (AllByRecursion IsWritable) (sym h.dirty) tt;
        filed = subst (λ n. AllByRecursion (λ (f : FiledDeltas). f.seq ≤ n) q.filed) (sym h.end)
            (subst (AllByRecursion (λ (f : FiledDeltas). f.seq ≤ p.end.seq + 1)) (sym h.filed) filed_then);
        acked = h.acked;
        asked_low = subst (IsLow k) (sym h.asked) can.asked_low;
        req_low = subst (IsLow k) (sym h.req) can.req_low;
        end_low = subst (IsLow k) (sym h.end) can.end_low;
      }

      -- no stamp is later, and no more is held
      pub synced_below : (i turn : ℕ) → ((b : BlockId) → slot_of b.ino.0 ≡ i → ((held_of p.blocks b).stamp.epoch ≤ 1) × ((held_of p.blocks b).stamp.turn ≤ turn))
          → (b : BlockId) → slot_of b.ino.0 ≡ i → ((held_of q.blocks b).stamp.epoch ≤ 1) × ((held_of q.blocks b).stamp.turn ≤ turn)
      synced_below i turn below b of_slot =
          subst (λ (st : Stamp). (st.epoch ≤ 1) × (st.turn ≤ turn))
          (sym (ap (λ bs. (held_of bs b).stamp) h.blocks ∙ settled_stamp (cached_upto setup.cache) p.blocks p.cached its_rows newest named b)) (below b of_slot)

      pub synced_covered : (b : BlockId) (most : ℕ) → mode_number (held_of p.blocks b).mode ≤ most → mode_number (held_of q.blocks b).mode ≤ most
      synced_covered b most covered =
          subst (λ bs. mode_number (held_of bs b).mode ≤ most) (sym h.blocks)
          (let falls = mode_falls (cached_upto setup.cache) p.blocks p.cached its_rows b in chain (mode_number (held_of blocks_then b).mode) _ most falls covered)
        where
          chain : (n m l : ℕ) → n ≤ m → m ≤ l → n ≤ l
          chain n m l a b = omega arith
