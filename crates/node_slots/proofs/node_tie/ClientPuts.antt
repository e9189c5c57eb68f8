-- A block is written: the tokens take the write, and its new version waits in the log.
use Rattle.std.proofs.Common.{◌≡◌, ℕ, ◌+◌, ◌<◌, ◌++◌, Bool, true, false, cond, List, [], ◌∷◌, Option, None, refl, sym, ap, subst, ◌∙◌, arith}
use Rattle.client_log.specs.LogState.{LogState}
use Rattle.client_log.specs.Transition.{waits}
use Rattle.log_flight.specs.declared.dirty.Change.{Change}
use Rattle.token_client.specs.declared.held.Held.{Held}
use Rattle.token_client.specs.declared.input.In.TheVariants as input
use Rattle.token_client.specs.Held.{may_write, held_write}
use Rattle.token_client.specs.Laws.{IsSound}
use Rattle.token_client.specs.State.{TokensState, held_of, with_held}
use Rattle.token_client.specs.Transition as client
use Rattle.token_client.proofs.AllInputs.{transition-follows}
use Rattle.token_client.proofs.Tables.{held_of-put_itself}
use Rattle.token_law.specs.Books.{Books, AreOnce, row_in}
use Rattle.token_law.specs.Net.{Net, Happens, acts_by, after_client}
use Rattle.token_law.specs.Net.Happens.{Acts}
use Rattle.token_protocol.specs.Premises.{Premise}
use Rattle.version_model.specs.declared.act.Act.TheVariants.{Wrote}
use Rattle.xfs_base.specs.Blocks.{same_block}
use Rattle.xfs_base.specs.declared.block.BlockId.{BlockId}
use Rattle.xfs_base.specs.Steps.{still}
use Rattle.xfs_base.proofs.Booleans.{by_test, contrary}
use Rattle.node_slots.specs.node_tie.ClientLogs.{AreVersions, IsUnsettled}
use Rattle.node_slots.specs.node_tie.LogRows.{row_of, rows_flown, rows_waiting}
use Rattle.node_slots.proofs.node_tie.ClientBearing.{Bears, IsValued, no_fact, transition-bears}
use Rattle.node_slots.proofs.node_tie.ClientFrames as frames
use Rattle.node_slots.proofs.node_tie.ClientFrames.{Known, LogStands, Promised, Sent}
use Rattle.node_slots.proofs.node_tie.ClientRows.{Rows, once_put, put_row, rows_put, some_put}
use Rattle.node_slots.proofs.node_tie.ClientSeals.{all_known, premise_at}
use Rattle.node_slots.proofs.node_tie.ClientTaking as taking
use Rattle.node_slots.proofs.node_tie.ClientUnsettled.{AllUnsettled, all_written, put_cases}
use Rattle.node_slots.proofs.node_tie.SmallWorld.{premise_by}

-- the change that waits once the tokens have the write
abbrev pub change_of : TokensState → BlockId → Option (List ℕ) → Change
change_of t block value = record { entry = record { ver = (held_of t.blocks block).ver; hop = 0; place = None }; value = value }

-- what waits then, where the version is this
rows_then : (l : LogState) (block : BlockId) (change : Change) → rows_waiting (waits l block change) ≡ put_row block (row_of change) (rows_waiting l)
rows_then l block change = rows_put row_of block change l.dirty

-- the version that is written is one
pub written_some : (t : TokensState) (block : BlockId) (value : Option (List ℕ)) → may_write (held_of t.blocks block) ≡ true
    → 0 < (held_of (client.on_wrote t block value).state.blocks block).ver
unfolding client.on_wrote
written_some t block value may =
    let g : Held = held_write (held_of t.blocks block) value in
    by_test (λ (d : client.Done). 0 < (held_of d.state.blocks block).ver) (may_write (held_of t.blocks block)) (still (with_held t block g)) (still t)
    (λ fact. subst (λ (k : Held). 0 < k.ver) (sym (held_of-put_itself block g t.blocks)) (some (held_of t.blocks block).ver)) (λ fact. contrary (sym fact
    ∙ may))
  where
    some : (ver : ℕ) → 0 < ver + 1
    some ver = omega arith

module _ (logs : Bool) (block : BlockId) (value : Option (List ℕ)) where
  -- the log stands with it
  pub waits_stands : (k : Books) (c : ℕ) (l : LogState) (change : Change) → 0 < change.entry.ver → Premise logs (LogStands k c l)
      → Premise logs (LogStands k c (waits l block change))
  waits_stands k c l change some h = premise_by logs (λ (x : LogStands k c l). record {
    seen = record { end = x.seen.end; flying = x.seen.flying; flight = x.seen.flight };
    said = x.said;
    beyond = x.beyond;
    waits_once = subst AreOnce (sym (rows_then l block change)) (once_put block (row_of change) (rows_waiting l) x.waits_once);
    flies_once = x.flies_once;
    waits_some = subst AreVersions (sym (rows_then l block change)) (some_put block (row_of change) some (rows_waiting l) x.waits_some);
    flies_some = x.flies_some;
  }) h

  module _ (t : TokensState) (l : LogState) (sound : IsSound t) (may : may_write (held_of t.blocks block) ≡ true)
      (valued : (b : BlockId) → same_block block b ≡ false → IsValued (held_of t.blocks b))
      (unsettled : Premise logs (AllUnsettled t (row_in (rows_waiting l)) (row_in (rows_flown l.flight)))) where
    abbrev h : Held
    h = held_of t.blocks block

    abbrev wrote : TokensState
    wrote = with_held t block (held_write h value)

    values : (b : BlockId) → IsValued (held_of wrote.blocks b)
    values b = put_cases (λ b g. IsValued g) block (held_write h value) t.blocks (λ held. refl) valued b

    rows_are : put_row block (row_of (change_of wrote block value)) (rows_waiting l) ≡ put_row block (record { version = h.ver + 1; value = value })
        (rows_waiting l)
    rows_are = ap (λ (g : Held). put_row block (record { version = g.ver; value = value }) (rows_waiting l))
        (held_of-put_itself block (held_write h value) t.blocks)

    unsettled_then : Premise logs (AllUnsettled wrote (row_in (rows_waiting (waits l block (change_of wrote block value)))) (row_in (rows_flown l.flight)))
    unsettled_then = premise_by logs (λ (p : AllUnsettled t (row_in (rows_waiting l)) (row_in (rows_flown l.flight))).
        subst (λ (w : Rows). AllUnsettled wrote (row_in w) (row_in (rows_flown l.flight))) (sym (rows_then l block (change_of wrote block value) ∙ rows_are))
        (all_written t block value (rows_waiting l) (row_in (rows_flown l.flight)) (sound.each block).settled_below p)) unsettled

    -- and so is known of each block what is to be
    pub written_known : (b : BlockId)
        → Known logs (waits l block (change_of (client.on_wrote t block value).state block value)) b (held_of (client.on_wrote t block value).state.blocks b)
    unfolding client.on_wrote
    written_known =
        by_test (λ (d : client.Done). (b : BlockId) → Known logs (waits l block (change_of d.state block value)) b (held_of d.state.blocks b)) (may_write h)
        (still wrote) (still t) (λ fact b. (
          values b,
          premise_at logs
              (λ b. IsUnsettled (held_of wrote.blocks b) (row_in (rows_waiting (waits l block (change_of wrote block value))) b)
              (row_in (rows_flown l.flight) b))
              unsettled_then b,
        )) (λ fact. contrary (sym fact ∙ may))

module _ (logs : Bool) (members part limit c life room highest : ℕ) (pos : 0 < c) (less : c < members) where
  -- the net in which the block is written, and its version waits
  pub record Written (n : Net) (t : TokensState) (l : LogState) (number inc : ℕ) (block : BlockId) (value : Option (List ℕ)) : Type 0 where
    pub next : Net
    pub grown : frames.Grown logs members part c n next (Wrote c block value ∷ [])
    pub stands : frames.Stands logs members part limit c life room highest next (client.on_wrote t block value).state
        (waits l block (change_of (client.on_wrote t block value).state block value)) number inc

  pub written_so : (n : Net) (t : TokensState) (l : LogState) (number inc : ℕ) (block : BlockId) (value : Option (List ℕ))
      → may_write (held_of t.blocks block) ≡ true
      → frames.Stands logs members part limit c life room highest n t l number inc → Written n t l number inc block value
  written_so n t l number inc block value may h =
      let d : client.Done = client.on_wrote t block value in
      let m : LogState = waits l block (change_of d.state block value) in
      let plain : Bears (Sent part c n.sent) (Promised part limit) (λ b g. Unit {0}) life d.state =
      transition-bears (Sent part c n.sent) (Promised part limit) (λ b g. Unit {0}) life no_fact
      (taking.none_sent logs members part limit c life room highest n.sent) t h.sound (input.Wrote block value) (λ g q. tt)
      (record { life_is = h.bears.life_is; promised = h.bears.promised; giving = h.bears.giving; held = λ b. tt }) in
      let k : taking.Taken logs members part limit c life room highest n m l.end.seq number inc d (Wrote c block value ∷ []) =
      taking.acting logs members part limit c life room highest n m l.end.seq number inc d (Wrote c block value ∷ [])
      (n.acts ++ Wrote c block value ∷ []) h.up h.number_is h.inc_is
      h.numbers refl happens
      (transition-follows (λ b. Unit {0}) t h.sound (input.Wrote block value) (λ b k. tt)).sound
      (record {
        life_is = plain.life_is;
        promised = plain.promised;
        giving = plain.giving;
        held = written_known logs block value t l h.sound may (λ b other. (h.bears.held b).0)
            (all_known logs members part limit c life room highest l t h.bears.held);
      })
      (waits_stands logs block value n.books c l (change_of d.state block value) (written_some t block value may) h.logged) in
      record { next = k.next; grown = k.grown; stands = k.stands }
    where
      happens : Happens logs members part n
          (record (after_client n c l.end.seq (client.on_wrote t block value)) { acts = n.acts ++ Wrote c block value ∷ [] })
      happens =
          subst (λ x. Happens logs members part n
          (record (after_client n c l.end.seq (client.on_wrote t block value)) { acts = n.acts ++ cond x (Wrote c block value ∷ []) [] })) may
          (subst (λ (u : TokensState). Happens logs members part n
          (record (after_client n c l.end.seq (client.on_wrote u block value)) { acts = n.acts ++ acts_by c u (input.Wrote block value) }))
          h.tokens
          (Acts c l.end.seq (input.Wrote block value) (taking.is_serving logs members part limit c life room highest n t l number inc pos less h) tt))
