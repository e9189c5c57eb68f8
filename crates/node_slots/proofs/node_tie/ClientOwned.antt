-- A client that serves gets a grant to own, which the open call asked for: before its call runs on, what the tokens make of it and of the write, or of
-- letting it go, is seen in the small world, in the slot and elsewhere.
use Rattle.std.proofs.Common.{◌≡◌, ◌<◌, ◌++◌, ℕ, ◌==◌, ◌&&◌, not, Bool, true, false, cond, List, [], ◌∷◌, Option, Some, None, is_none, nat_lt, refl, sym, ap, subst, ◌∙◌}
use Rattle.client_log.specs.LogState.{LogState}
use Rattle.client_log.specs.Transition as log
use Rattle.client_call.specs.declared.call.Call.{Call}
use Rattle.client_serving.specs.declared.serving.Serving.{Serving}
use Rattle.client_serving.specs.Flights.{held_at}
use Rattle.file_plan.specs.declared.block_call.BlockCall.{BlockCall}
use Rattle.file_plan.specs.declared.block_call.BlockCall.TheVariants.{Get, Put, PutAt, Sync}
use Rattle.token_client.specs.declared.held.Held.{Held}
use Rattle.token_client.specs.declared.held.Wanted.{Wanted}
use Rattle.token_client.specs.declared.input.In as inputs
use Rattle.token_client.specs.declared.input.In.TheVariants as input
use Rattle.token_client.specs.declared.output.Out.TheVariants as output
use Rattle.token_client.specs.Held.{is_dirty, is_wanted, is_answer, may_evict, may_write, take_grant, let_go, held_own}
use Rattle.token_client.specs.Laws.{IsSound}
use Rattle.token_client.specs.State.{TokensState, held_of, with_held, is_in_slot}
use Rattle.token_client.specs.Transition as client
use Rattle.token_client.proofs.AllInputs.{transition-follows}
use Rattle.token_client.proofs.SoundBlocks.{asks_by_want}
use Rattle.token_client.proofs.Tables.{held_of-put_itself}
use Rattle.token_client.proofs.Transitions.{answered_want}
use Rattle.token_law.specs.Books.{row_in}
use Rattle.token_law.specs.Net.{Net, Happens, IsServing, acted, acts_by, after_client, client_packets}
use Rattle.token_law.specs.Net.Happens.{Acts, Elsewhere, GetsOwn, Declines}
use Rattle.token_law.specs.Net.Packet.{GrantSent}
use Rattle.token_law.specs.Net.Runs.{Begun, On}
use Rattle.token_protocol.specs.Premises.{Premise}
use Rattle.token_tie.specs.Inputs.{granted_and_wrote, granted_and_evicted}
use Rattle.version_model.specs.declared.act.Act.TheVariants.{Wrote}
use Rattle.xfs_base.proofs.BlockOrder.{same_block_itself}
use Rattle.xfs_base.proofs.Booleans.{by_test, and_first, and_second, contrary}
use Rattle.xfs_base.specs.Blocks.{same_block}
use Rattle.xfs_base.specs.declared.block.BlockId.{BlockId}
use Rattle.xfs_base.specs.declared.entry.Entry.{Entry}
use Rattle.xfs_base.specs.declared.token.Mode.{Mode}
use Rattle.xfs_base.specs.declared.token.Mode.TheVariants.{Nothing, Copy, Own}
use Rattle.xfs_base.specs.declared.token.Stamp.{Stamp}
use Rattle.xfs_base.specs.Modes.{is_held, same_mode}
use Rattle.xfs_base.specs.Stamps.{is_later}
use Rattle.xfs_base.specs.Steps.{still}
use Rattle.xfs_base.specs.Limits.{u64_end}
use Rattle.node_slots.specs.node_tie.Asks.{needed, needed_by, AsksForCall}
use Rattle.node_slots.specs.node_tie.ClientLogs.{IsUnsettled}
use Rattle.node_slots.specs.node_tie.LogRows.{rows_flown, rows_waiting}
use Rattle.node_slots.specs.node_tie.Sight.{SentOf}
use Rattle.node_slots.proofs.node_tie.ClientBearing.{Allowed, Bears, IsValued, asked_clean, itself_clean, no_fact, transition-bears}
use Rattle.node_slots.proofs.node_tie.ClientBooks.{put_here, put_there, same_log}
use Rattle.node_slots.proofs.node_tie.ClientFrames as frames
use Rattle.node_slots.proofs.node_tie.ClientPuts as putting
use Rattle.node_slots.proofs.node_tie.ClientPuts.{change_of, waits_stands, written_known, written_some}
use Rattle.node_slots.proofs.node_tie.ClientSeals.{all_known, premise_at}
use Rattle.node_slots.proofs.node_tie.ClientTaking as taking
use Rattle.node_slots.proofs.node_tie.ClientUnsettled.{AllUnsettled, put_cases, stays_clean}
use Rattle.node_slots.proofs.node_tie.SmallWorld.{premise_by}

-- ---- what an accepted grant says

same_mode_is : (a b : Mode) → same_mode a b ≡ true → a ≡ b
same_mode_is Nothing Nothing h = refl
same_mode_is Nothing Copy h = contrary h
same_mode_is Nothing Own h = contrary h
same_mode_is Copy Nothing h = contrary h
same_mode_is Copy Copy h = refl
same_mode_is Copy Own h = contrary h
same_mode_is Own Nothing h = contrary h
same_mode_is Own Copy h = contrary h
same_mode_is Own Own h = refl

-- an answered want is of the answer's mode
record WantOf (want : Option Wanted) (mode : Mode) : Type 0 where
  open_want : Wanted
  wants : want ≡ Some open_want
  mode_is : open_want.mode ≡ mode

want_of : (want : Option Wanted) (req : ℕ) (mode : Mode) → is_wanted want req mode ≡ true → WantOf want mode
want_of None req mode h = contrary h
want_of (Some w) req mode h = record { open_want = w; wants = refl; mode_is = same_mode_is w.mode mode (and_second (w.req == req) (same_mode w.mode mode) h) }

module _ (s : Serving) (asks : AsksForCall s) (block : BlockId) (stamp : Stamp) (inc req : ℕ) (mode : Mode)
    (taken : client.accepts s.tokens block stamp inc req mode ≡ true) where
  answer : is_answer (held_at s block) stamp req mode ≡ true
  answer = and_second (client.is_promised s.tokens block stamp && (inc == s.tokens.inc)) (is_answer (held_at s block) stamp req mode) taken

  wanted : is_wanted (held_at s block).want req mode ≡ true
  wanted = and_first (is_wanted (held_at s block).want req mode) (is_later stamp (held_at s block).stamp) answer

  -- the open call needs just that
  pub call_needs : needed s.call ≡ Some (block, mode)
  call_needs =
      let w : WantOf (held_at s block).want mode = want_of (held_at s block).want req mode wanted in
      asks.wanted block w.open_want w.wants ∙ ap (λ m. Some (block, m)) w.mode_is

  -- and the block isn't being given up
  ungiven : is_none (held_at s block).giving ≡ true
  ungiven = (asks.sound.each block).asks_ungiven (asks_by_want (held_at s block) (answered_want (held_at s block).want req mode wanted))

-- the block and the mode of a need
unfoldable pub block_in : BlockId → Option (BlockId × Mode) → BlockId
block_in other None = other
block_in other (Some need) = need.0

unfoldable pub mode_in : Option (BlockId × Mode) → Mode
mode_in None = Nothing
mode_in (Some need) = need.1

-- no call needs to hold nothing
pub no_call_needs : (call : Option Call) (block : BlockId) → needed call ≡ Some (block, Nothing) → ⊥
unfolding mode_in
no_call_needs None block h = cc
no_call_needs (Some call) block h = by_step call.step h
  where
    by_step : (step : BlockCall) → needed_by step ≡ Some (block, Nothing) → ⊥
    by_step (Get b) h = (let e : Copy ≡ Nothing = ap mode_in h in cc)
    by_step (Put b value) h = (let e : Own ≡ Nothing = ap mode_in h in cc)
    by_step (PutAt b ver value) h = (let e : Own ≡ Nothing = ap mode_in h in cc)
    by_step Sync h = cc

-- what is known of a block that was granted to own, and what the tokens say
pub record Owned (s : TokensState) (block : BlockId) (stamp : Stamp) (entry : Entry) (d : client.Done) : Type 0 where
  pub outs_are : d.outs ≡ output.Ready block ∷ []
  pub known : held_of d.state.blocks block ≡ held_own (held_of s.blocks block) stamp entry.ver

pub owned_so : (s : TokensState) (block : BlockId) (stamp : Stamp) (inc req : ℕ) (entry : Entry) → client.accepts s block stamp inc req Own ≡ true
    → Owned s block stamp entry (client.on_granted s block stamp inc req Own entry)
unfolding client.on_granted
owned_so s block stamp inc req entry fact =
    let g : Held = take_grant (held_of s.blocks block) stamp Own entry in
    let d : client.Done = record { state = with_held s block g; outs = output.Ready block ∷ [] } in
    by_test (λ (d : client.Done). Owned s block stamp entry d) (client.accepts s block stamp inc req Own) d (still s)
    (λ t. record { outs_are = refl; known = held_of-put_itself block g s.blocks }) (λ t. contrary (sym t ∙ fact))

pub refused : (s : TokensState) (block : BlockId) (stamp : Stamp) (inc req : ℕ) (mode : Mode) (entry : Entry)
    → client.accepts s block stamp inc req mode ≡ false
    → client.on_granted s block stamp inc req mode entry ≡ still s
unfolding client.on_granted
refused s block stamp inc req mode entry fact = ap
    (λ t. cond t (record {
      state = with_held s block (take_grant (held_of s.blocks block) stamp mode entry);
      outs = client.grant_next block mode
          entry.place ∷ [];
    }) (still s)) fact

module _ (logs : Bool) (members part limit c life room highest : ℕ) (pos : 0 < c) (less : c < members) where
  abbrev At : Net → Serving → Type 0
  At n s = frames.At logs members part limit c life room highest n s

  -- ---- a grant to own is accepted

  module _ (n : Net) (s : Serving) (h : At n s) (asks : AsksForCall s) (block : BlockId) (stamp : Stamp) (inc req : ℕ) (entry : Entry)
      (sent : SentOf part n.sent block (GrantSent c block stamp inc req Own entry)) (below : nat_lt entry.ver u64_end ≡ true)
      (taken : client.accepts s.tokens block stamp inc req Own ≡ true) where
    abbrev pub granted : client.Done
    granted = client.on_granted s.tokens block stamp inc req Own entry

    accepts_here : client.accepts (n.tokens c) block stamp inc req Own ≡ true
    accepts_here = subst (λ (t : TokensState). client.accepts t block stamp inc req Own ≡ true) (sym h.tokens) taken

    granted_sound : IsSound granted.state
    granted_sound = (transition-follows (λ b. Unit {0}) s.tokens h.sound (input.Granted block stamp inc req Own entry) (λ b k. tt)).sound

    -- it bears the same, but for what is known of the block, which has no value
    abbrev Borne : TokensState → Type 0
    Borne t = Bears (frames.Sent part c n.sent) (frames.Promised part limit) (λ b g. Unit {0}) life t

    borne : (t : TokensState) → IsSound t → (i : inputs.In) → Allowed (frames.Sent part c n.sent) (frames.Promised part limit) (λ b g. Unit {0}) life i
        → Borne t
        → Borne (client.transition t i).state
    borne t sound i allowed k =
        transition-bears (frames.Sent part c n.sent) (frames.Promised part limit) (λ b g. Unit {0}) life no_fact
        (taking.none_sent logs members part limit c life room highest n.sent) t sound i allowed k

    granted_bears : Borne granted.state
    granted_bears =
        borne s.tokens h.sound (input.Granted block stamp inc req Own entry) (λ own g q. tt)
        (record { life_is = h.bears.life_is; promised = h.bears.promised; giving = h.bears.giving; held = λ b. tt })

    -- what is known of the block then
    pub known : held_of granted.state.blocks block ≡ held_own (held_of s.tokens.blocks block) stamp entry.ver
    known = (owned_so s.tokens block stamp inc req entry taken).known

    -- each block but it is as it was
    others_known : (P : BlockId → Held → Type 0) → P block (held_own (held_of s.tokens.blocks block) stamp entry.ver)
        → ((b : BlockId) → same_block block b ≡ false → P b (held_of s.tokens.blocks b)) → (b : BlockId) → P b (held_of granted.state.blocks b)
    unfolding client.on_granted
    others_known P here there =
        by_test (λ (d : client.Done). (b : BlockId) → P b (held_of d.state.blocks b)) (client.accepts s.tokens block stamp inc req Own)
        (record { state = with_held s.tokens block (take_grant (held_of s.tokens.blocks block) stamp Own entry); outs = output.Ready block ∷ [] })
        (still s.tokens)
        (λ t. put_cases P block (take_grant (held_of s.tokens.blocks block) stamp Own entry) s.tokens.blocks here there) (λ t. contrary (sym t ∙ taken))

    valued : (b : BlockId) → same_block block b ≡ false → IsValued (held_of granted.state.blocks b)
    valued = others_known (λ b g. same_block block b ≡ false → IsValued g) (λ other. contrary (sym other ∙ same_block_itself block))
        (λ b other o. (h.bears.held b).0)

    unsettled : Premise logs (AllUnsettled granted.state (row_in (rows_waiting s.log)) (row_in (rows_flown s.log.flight)))
    unsettled = premise_by logs (λ (p : AllUnsettled s.tokens (row_in (rows_waiting s.log)) (row_in (rows_flown s.log.flight))).
        others_known (λ b g. IsUnsettled g (row_in (rows_waiting s.log) b) (row_in (rows_flown s.log.flight) b))
        (stays_clean (row_in (rows_waiting s.log) block) (row_in (rows_flown s.log.flight) block) (held_of s.tokens.blocks block)
        (held_own (held_of s.tokens.blocks block) stamp entry.ver) (asked_clean s.tokens h.sound block stamp inc req Own taken) (itself_clean entry.ver) (p block))
        (λ b other. p b)) (all_known logs members part limit c life room highest s.log s.tokens h.bears.held)

    pub may : may_write (held_of granted.state.blocks block) ≡ true
    may = ap may_write known ∙ ap (λ t. t && nat_lt entry.ver u64_end) (ungiven s asks block stamp inc req Own taken) ∙ below

    pub valueless : is_none (held_of granted.state.blocks block).value ≡ true
    valueless = ap (λ (g : Held). is_none g.value) known

    -- ---- it is written

    abbrev pub wrote : Option (List ℕ) → TokensState
    wrote value = (client.on_wrote granted.state block value).state

    abbrev pub waiting : Option (List ℕ) → LogState
    waiting value = log.waits s.log block (change_of (wrote value) block value)

    abbrev pub Written : Option (List ℕ) → Type 0
    Written value = putting.Written logs members part limit c life room highest pos less n granted.state s.log s.lasting.number s.lasting.inc block value

    wrote_sound : (value : Option (List ℕ)) → IsSound (wrote value)
    wrote_sound value = (transition-follows (λ b. Unit {0}) granted.state granted_sound (input.Wrote block value) (λ b k. tt)).sound

    wrote_bears : (value : Option (List ℕ)) → frames.Bear logs members part limit c life room highest n.sent (waiting value) (wrote value)
    wrote_bears value =
        let k : Borne (wrote value) = borne granted.state granted_sound (input.Wrote block value) (λ g q. tt) granted_bears in
        record {
          life_is = k.life_is;
          promised = k.promised;
          giving = k.giving;
          held = written_known logs block value granted.state s.log granted_sound may valued unsettled;
        }

    wrote_stands : (value : Option (List ℕ)) → Premise logs (frames.LogStands n.books c (waiting value))
    wrote_stands value =
        waits_stands logs block value n.books c s.log (change_of (wrote value) block value) (written_some granted.state block value may) h.logged

    serving : IsServing logs members n c s.log.end.seq
    serving = taking.is_serving logs members part limit c life room highest n s.tokens s.log s.lasting.number s.lasting.inc pos less h

    written_inside : is_in_slot part block ≡ true → (value : Option (List ℕ)) → Written value
    written_inside inside value =
        let k : taking.Taken logs members part limit c life room highest n (waiting value) s.log.end.seq s.lasting.number s.lasting.inc
        (granted_and_wrote s.tokens stamp inc req block entry value) (Wrote c block value ∷ []) =
        taking.acting logs members part limit c life room highest n (waiting value) s.log.end.seq s.lasting.number s.lasting.inc
        (granted_and_wrote s.tokens stamp inc req block entry value) (Wrote c block value ∷ [])
        (n.acts ++ Wrote c block value ∷ []) h.up h.number_is h.inc_is h.numbers refl
        (subst (λ (t : TokensState). Happens logs members part n
        (acted (after_client n c s.log.end.seq (granted_and_wrote t stamp inc req block entry value)) (Wrote c block value ∷ []))) h.tokens
        (GetsOwn c s.log.end.seq block stamp inc req entry value serving (sent inside) accepts_here below))
        (wrote_sound value) (wrote_bears value) (wrote_stands value) in
        record { next = k.next; grown = k.grown; stands = k.stands }

    -- ---- of another slot it is granted, and then written, or let go

    abbrev outside : Net
    outside = after_client n c s.log.end.seq granted

    module _ (other : is_in_slot part block ≡ false) where
      outside_grown : frames.Grown logs members part c n outside []
      outside_grown = record {
        runs = On Begun
            (subst (λ (t : TokensState). Happens logs members part n (after_client n c s.log.end.seq (client.on_granted t block stamp inc req Own entry)))
            h.tokens
            (Elsewhere c s.log.end.seq (input.Granted block stamp inc req Own entry) serving other));
        others = λ k o. (put_there n.tokens c granted.state k o, refl);
        slots = λ e. refl;
        grows = taking.in_second (client_packets c granted.state.inc s.log.end.seq granted.outs) n.sent;
        books = λ k o. same_log n.books k;
        acts = (frames.grown_still logs members part c n).acts;
        own = (frames.grown_still logs members part c n).own;
      }

      outside_tokens : outside.tokens c ≡ granted.state
      outside_tokens = put_here n.tokens c granted.state

      outside_serving : IsServing logs members outside c s.log.end.seq
      outside_serving = record { some = pos; within = less; up = serving.up; end_is = serving.end_is }

      written_outside : (value : Option (List ℕ)) → Written value
      written_outside value =
          let k : taking.Taken logs members part limit c life room highest outside (waiting value) s.log.end.seq s.lasting.number s.lasting.inc
          (client.on_wrote granted.state block value) (Wrote c block value ∷ []) =
          taking.acting logs members part limit c life room highest outside (waiting value) s.log.end.seq s.lasting.number s.lasting.inc
          (client.on_wrote granted.state block value)
          (Wrote c block value ∷ []) (n.acts ++ Wrote c block value ∷ []) h.up h.number_is h.inc_is h.numbers refl happens (wrote_sound value)
          (taking.bears_more logs members part limit c life room highest n.sent outside.sent outside_grown.grows (waiting value) (wrote value)
          (wrote_bears value))
          (wrote_stands value) in
          record {
            next = k.next;
            grown = frames.grown_on logs members part c n outside k.next [] (Wrote c block value ∷ []) outside_grown k.grown;
            stands = k.stands;
          }
        where
          happens : Happens logs members part outside
              (record (after_client outside c s.log.end.seq (client.on_wrote granted.state block value)) { acts = n.acts ++ Wrote c block value ∷ [] })
          happens =
              subst (λ x. Happens logs members part outside
              (record (after_client outside c s.log.end.seq (client.on_wrote granted.state block value))
              { acts = n.acts ++ cond x (Wrote c block value ∷ []) [] })) may
              (subst (λ (u : TokensState). Happens logs members part outside
              (record (after_client outside c s.log.end.seq (client.on_wrote u block value)) { acts = n.acts ++ acts_by c u (input.Wrote block value) }))
              outside_tokens
              (Acts c s.log.end.seq (input.Wrote block value) outside_serving tt))

    by_slot : {P : Type 0} → (is_in_slot part block ≡ true → P) → (is_in_slot part block ≡ false → P) → P
    by_slot {P = P} inside out = cases (is_in_slot part block) refl
      where
        cases : (t : Bool) → is_in_slot part block ≡ t → P
        cases true fact = inside fact
        cases false fact = out fact

    pub written : (value : Option (List ℕ)) → Written value
    written value = by_slot (λ fact. written_inside fact value) (λ fact. written_outside fact value)

    -- ---- it is let go

    abbrev pub gone : TokensState
    gone = (client.on_evict granted.state block).state

    abbrev pub Gone : Type 0
    Gone = frames.Passes logs members part limit c life room highest n gone s.log s.lasting.number s.lasting.inc

    clean : is_dirty (held_of granted.state.blocks block) ≡ false
    clean = ap is_dirty known ∙ itself_clean entry.ver

    may_go : may_evict (held_of granted.state.blocks block) ≡ true
    may_go = ap (λ (g : Held). is_held g.mode && not (is_dirty (held_of granted.state.blocks block))) known ∙ ap not clean

    gone_known : (b : BlockId) → frames.Known logs s.log b (held_of gone.blocks b)
    unfolding client.on_evict
    gone_known =
        let g : Held = held_of granted.state.blocks block in
        by_test (λ (d : client.Done). (b : BlockId) → frames.Known logs s.log b (held_of d.state.blocks b)) (may_evict g)
        (still (with_held granted.state block (let_go g)))
        (still granted.state)
        (λ t. put_cases (λ b k. frames.Known logs s.log b k) block (let_go g) granted.state.blocks (
          λ held. contrary held,
          premise_by logs (λ (p : AllUnsettled granted.state (row_in (rows_waiting s.log)) (row_in (rows_flown s.log.flight))).
              stays_clean (row_in (rows_waiting s.log) block) (row_in (rows_flown s.log.flight) block) g (let_go g) clean clean (p block)) unsettled,
        )
        (λ b other. (
          valued b other,
          premise_at logs (λ b. IsUnsettled (held_of granted.state.blocks b) (row_in (rows_waiting s.log) b) (row_in (rows_flown s.log.flight) b)) unsettled b,
        )))
        (λ t. contrary (sym t ∙ may_go))

    gone_sound : IsSound gone
    gone_sound = (transition-follows (λ b. Unit {0}) granted.state granted_sound (input.Evict block) (λ b k. tt)).sound

    gone_bears : frames.Bear logs members part limit c life room highest n.sent s.log gone
    gone_bears =
        let k : Borne gone = borne granted.state granted_sound (input.Evict block) tt granted_bears in
        record { life_is = k.life_is; promised = k.promised; giving = k.giving; held = gone_known }

    gone_inside : is_in_slot part block ≡ true → Gone
    gone_inside inside =
        let k : taking.Taken logs members part limit c life room highest n s.log s.log.end.seq s.lasting.number s.lasting.inc
        (granted_and_evicted s.tokens stamp inc req block entry) [] =
        taking.taken logs members part limit c life room highest n s.tokens s.log s.lasting.number s.lasting.inc
        (granted_and_evicted s.tokens stamp inc req block entry) h
        (subst (λ (t : TokensState). Happens logs members part n (after_client n c s.log.end.seq (granted_and_evicted t stamp inc req block entry))) h.tokens
        (Declines c s.log.end.seq block stamp inc req entry serving (sent inside) accepts_here)) gone_sound gone_bears in
        record { next = k.next; grown = k.grown; stands = k.stands }

    gone_outside : is_in_slot part block ≡ false → Gone
    gone_outside other =
        let k : taking.Taken logs members part limit c life room highest outside s.log s.log.end.seq s.lasting.number s.lasting.inc
        (client.on_evict granted.state block) [] =
        taking.acting logs members part limit c life room highest outside s.log s.log.end.seq s.lasting.number s.lasting.inc
        (client.on_evict granted.state block) []
        (n.acts ++ []) h.up h.number_is h.inc_is h.numbers refl
        (subst (λ (u : TokensState). Happens logs members part outside
        (record (after_client outside c s.log.end.seq (client.on_evict u block)) { acts = n.acts ++ [] })) (outside_tokens other)
        (Acts c s.log.end.seq (input.Evict block) (outside_serving other) tt))
        gone_sound
        (taking.bears_more logs members part limit c life room highest n.sent outside.sent (outside_grown other).grows s.log gone gone_bears) h.logged in
        record {
          next = k.next;
          grown = frames.grown_on logs members part c n outside k.next [] [] (outside_grown other) k.grown;
          stands = k.stands;
        }

    pub let_gone : Gone
    let_gone = by_slot gone_inside gone_outside
