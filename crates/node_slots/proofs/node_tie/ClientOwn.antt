-- A client that serves gets a grant. One to own is used in its event: the open call, for which it was asked, runs on and writes, or lets it go.
use Rattle.std.proofs.Common.{◌≡◌, ◌<◌, ◌+◌, ℕ, ◌==◌, ◌&&◌, not, Bool, true, false, cond, List, [], Option, Some, None, is_none, nat_lt, refl, sym, ap, subst, ◌∙◌, arith}
use Rattle.std.proofs.lemmas.Bool.Decides.{nat_tests}
use Rattle.client_call.specs.declared.call.Call.{Call}
use Rattle.client_call.specs.Fitting.{put_fits}
use Rattle.client_call.specs.Reads.{kept_while, reading_in, set_reading}
use Rattle.client_running.specs.Blocks.{Made, changes, blocks_change, blocks_put, blocks_need, changed, held_back, puts_again, blocks_put_at, blocks_make}
use Rattle.client_serving.specs.declared.serving.Serving.{Serving}
use Rattle.client_serving.specs.Flights.{held_at}
use Rattle.client_serving.specs.Follow.{note_clean, note_copy, note_gone, follow_one, serving_follow, hand}
use Rattle.client_serving.specs.Packets.{on_grant}
use Rattle.client_serving.specs.Reads.{ends_reading}
use Rattle.client_running.specs.Running.{runs_call, run_once, run}
use Rattle.client_serving.specs.Sends.{Done}
use Rattle.file_plan.specs.declared.block_call.BlockCall.{BlockCall}
use Rattle.file_plan.specs.declared.block_call.BlockCall.TheVariants.{Get, Put, PutAt, Sync}
use Rattle.node_base.specs.Room.{has_long_room}
use Rattle.token_client.specs.declared.held.Held.{Held}
use Rattle.token_client.specs.declared.input.In.TheVariants as input
use Rattle.token_client.specs.Held.{may_write, held_own}
use Rattle.token_client.specs.State.{held_of, is_in_slot}
use Rattle.token_client.specs.Transition as client
use Rattle.token_law.specs.Net.{Net, Happens, IsServing, after_client}
use Rattle.token_law.specs.Net.Happens.{Elsewhere, GetsCopy}
use Rattle.token_law.specs.Net.Packet.{GrantSent}
use Rattle.wire_msg.specs.declared.tokens.Grant.{Grant}
use Rattle.xfs_base.proofs.Booleans.{by_test, contrary}
use Rattle.xfs_base.specs.declared.block.BlockId.{BlockId}
use Rattle.xfs_base.specs.declared.entry.Entry.{Entry}
use Rattle.xfs_base.specs.declared.token.Mode.{Mode}
use Rattle.xfs_base.specs.declared.token.Mode.TheVariants.{Nothing, Copy, Own}
use Rattle.xfs_base.specs.declared.token.Stamp.{Stamp}
use Rattle.xfs_base.specs.Modes.{is_own, same_mode}
use Rattle.xfs_base.specs.Steps.{still, saying, steps}
use Rattle.xfs_base.specs.Limits.{u64_end}
use Rattle.node_slots.specs.node_tie.Asks.{needed, needed_by, AsksForCall}
use Rattle.node_slots.specs.node_tie.Sight.{SentOf}
use Rattle.node_slots.proofs.node_tie.ClientBlocks as blocks
use Rattle.node_slots.proofs.node_tie.ClientFrames as frames
use Rattle.node_slots.proofs.node_tie.ClientOwned as owning
use Rattle.node_slots.proofs.node_tie.ClientOwned.{block_in, call_needs, mode_in, no_call_needs, owned_so, refused}
use Rattle.node_slots.proofs.node_tie.ClientTokens as tokens

module _ (logs : Bool) (members part limit c life room highest : ℕ) (pos : 0 < c) (less : c < members) where
  abbrev At : Net → Serving → Type 0
  At n s = frames.At logs members part limit c life room highest n s

  abbrev Goes : Net → Done → Type 0
  Goes n d = frames.Goes logs members part limit c life room highest n d

  -- what is done, and then the open call runs
  abbrev pub and_runs : Done → Done
  and_runs d = saying d.outs (run d.state)

  pub runs_after : (n : Net) (d : Done) → Goes n d → Goes n (and_runs d)
  runs_after n d p =
      frames.goes_on logs members part limit c life room highest n d (run d.state) p
      (λ m k. blocks.run_so logs members part limit c life room highest pos less m d.state k)

  -- ---- a grant to own is accepted

  module _ (n : Net) (s : Serving) (h : At n s) (asks : AsksForCall s) (block : BlockId) (stamp : Stamp) (inc req : ℕ) (entry : Entry)
      (sent : SentOf part n.sent block (GrantSent c block stamp inc req Own entry)) (below : nat_lt entry.ver u64_end ≡ true)
      (taken : client.accepts s.tokens block stamp inc req Own ≡ true) where
    abbrev granted : client.Done
    granted = client.on_granted s.tokens block stamp inc req Own entry

    -- the client that has it, and the same while the call runs
    abbrev owner : Serving
    owner = ends_reading (record s { tokens = granted.state })

    abbrev running : Serving
    running = record owner { call = None }

    known : held_of granted.state.blocks block ≡ held_own (held_of s.tokens.blocks block) stamp entry.ver
    known = (owned_so s.tokens block stamp inc req entry taken).known

    may : may_write (held_of granted.state.blocks block) ≡ true
    may = owning.may logs members part limit c life room highest pos less n s h asks block stamp inc req entry sent below taken

    -- it is written
    writes_it : (value : Option (List ℕ)) → Goes n (changes running block value).done
    writes_it value =
        let k : owning.Written logs members part limit c life room highest pos less n s h asks block stamp inc req entry sent below taken value =
        owning.written logs members part limit c life room highest pos less n s h asks block stamp inc req entry sent below taken value in
        blocks.changes_after logs members part limit c life room highest pos less n running block value k.next k.grown h.number_is k.stands

    -- it is let go
    lets_it_go : Goes n (changed running block).done
    lets_it_go =
        let k : owning.Gone logs members part limit c life room highest pos less n s h asks block stamp inc req entry sent below taken =
        owning.let_gone logs members part limit c life room highest pos less n s h asks block stamp inc req entry sent below taken in
        let gone : Serving = note_gone (record running { tokens = (client.on_evict granted.state block).state }) block in
        by_test (λ (t : Serving). Goes n (still t)) (is_none (held_at running block).value) gone running
        (λ fact. frames.goes_from logs members part limit c life room highest n k.next (still gone) k.grown
        (blocks.gone_from logs members part limit c life room highest pos less k.next running block k.stands))
        (λ fact. contrary (sym fact ∙ ap (λ (g : Held). is_none g.value) known))

    writes_if_fits : (value : Option (List ℕ)) → Goes n (blocks_change running block value).done
    unfolding blocks_change
    writes_if_fits value =
        by_test (λ (m : Made). Goes n m.done) (put_fits block ((held_at running block).ver + 1) value) (changes running block value) (held_back running block)
        (λ t. writes_it value) (λ t. lets_it_go)

    -- PutAt
    puts_it_at : (ver : ℕ) (value : Option (List ℕ)) → Goes n (blocks_put_at running block ver value).done
    unfolding blocks_put_at
    puts_it_at ver value =
        by_test (λ (m : Made). Goes n m.done) (may_write (held_at running block)) (puts_again running block ver value) (blocks_need running block Own)
        (λ t. by_test (λ (m : Made). Goes n m.done) ((held_at running block).ver == ver) (blocks_change running block value) (changed running block)
        (λ u. writes_if_fits value) (λ u. lets_it_go))
        (λ t. contrary (sym t ∙ may))

    -- Put
    puts_it : (value : Option (List ℕ)) → Goes n (blocks_put running block value).done
    unfolding blocks_put
    puts_it value =
        by_test (λ (m : Made). Goes n m.done) (may_write (held_at running block)) (blocks_change running block value) (blocks_need running block Own)
        (λ t. writes_if_fits value) (λ t. contrary (sym t ∙ may))

    -- the call on blocks that needs it
    makes_it : (step : BlockCall) → needed_by step ≡ Some (block, Own) → Goes n (blocks_make running step).done
    unfolding blocks_make mode_in block_in
    makes_it (Get b) e = (let e : Copy ≡ Own = ap mode_in e in absurd (cc))
    makes_it (Put b value) e = subst (λ k. Goes n (blocks_put running k value).done) (sym (ap (block_in block) e)) (puts_it value)
    makes_it (PutAt b ver value) e = subst (λ k. Goes n (blocks_put_at running k ver value).done) (sym (ap (block_in block) e)) (puts_it_at ver value)
    makes_it Sync e = absurd (cc)

    -- the open call's first turn
    runs_it : (call : Option Call) → s.call ≡ call → needed call ≡ Some (block, Own) → Goes n (run_once owner).done
    unfolding run_once
    runs_it None fact e = absurd (cc)
    runs_it (Some call) fact e =
        let kept : Call = record call { reading = kept_while granted.state call.reading } in
        let now : owner.call ≡ Some kept = ap (λ (k : Option Call). set_reading k (kept_while granted.state (reading_in k))) fact in
        subst (λ (k : Option Call). Goes n (runs_call owner k).done) (sym now)
        (blocks.ran_so logs members part limit c life room highest pos less n kept (blocks_make running kept.step) (makes_it call.step e))

    -- it stays out of the cache
    uncached : note_copy owner block ≡ owner
    unfolding note_copy
    uncached = ap (λ t. cond t (note_clean owner block) owner) (ap (λ (g : Held). same_mode g.mode Copy) known)

    owns_so : Goes n (and_runs (hand s (input.Granted block stamp inc req Own entry)))
    unfolding hand serving_follow follow_one
    owns_so =
        subst (λ outs. Goes n (and_runs (steps follow_one owner outs))) (sym (owned_so s.tokens block stamp inc req entry taken).outs_are)
        (subst (λ t. Goes n (and_runs (still t))) (sym uncached)
        (blocks.runs_from logs members part limit c life room highest pos less n owner (runs_it s.call refl (call_needs s asks block stamp inc req Own taken))))

  -- ---- any grant

  -- one that isn't accepted changes nothing
  refused_so : (n : Net) (s : Serving) → At n s → (block : BlockId) (stamp : Stamp) (inc req : ℕ) (mode : Mode) (entry : Entry)
      → client.accepts s.tokens block stamp inc req mode ≡ false
      → Goes n (hand s (input.Granted block stamp inc req mode entry))
  unfolding hand
  refused_so n s h block stamp inc req mode entry fact =
      subst (λ (d : client.Done). Goes n (serving_follow (ends_reading (record s { tokens = d.state })) d.outs))
      (sym (refused s.tokens block stamp inc req mode entry fact))
      (tokens.serving_follow_so logs members part limit c life room highest pos less n (ends_reading s) [] h tt)

  -- one of a copy, of the slot or of another
  copy_so : (n : Net) (s : Serving) → At n s → (block : BlockId) (stamp : Stamp) (inc req : ℕ) (entry : Entry)
      → SentOf part n.sent block (GrantSent c block stamp inc req Copy entry) → Goes n (and_runs (hand s (input.Granted block stamp inc req Copy entry)))
  copy_so n s h block stamp inc req entry sent =
      runs_after n (hand s (input.Granted block stamp inc req Copy entry))
      (tokens.hand_so logs members part limit c life room highest pos less n s (input.Granted block stamp inc req Copy entry)
      (record { happens = λ end serves. by_slot end serves (is_in_slot part block) refl; allowed = λ own g q. contrary own }) h)
    where
      by_slot : (end : ℕ) → IsServing logs members n c end → (t : Bool) → is_in_slot part block ≡ t
          → Happens logs members part n (after_client n c end (client.transition (n.tokens c) (input.Granted block stamp inc req Copy entry)))
      by_slot end serves true fact = GetsCopy c end block stamp inc req entry serves (sent fact)
      by_slot end serves false fact = Elsewhere c end (input.Granted block stamp inc req Copy entry) serves fact

  granted_so : (n : Net) (s : Serving) → At n s → AsksForCall s → (block : BlockId) (stamp : Stamp) (inc req : ℕ) (mode : Mode) (entry : Entry)
      → SentOf part n.sent block (GrantSent c block stamp inc req mode entry)
      → (is_own mode && not (has_long_room entry.ver)) ≡ false → Goes n (and_runs (hand s (input.Granted block stamp inc req mode entry)))
  granted_so n s h asks block stamp inc req Copy entry sent low = copy_so n s h block stamp inc req entry sent
  granted_so n s h asks block stamp inc req Own entry sent low =
      by_accepts (client.accepts s.tokens block stamp inc req Own) refl
    where
      is_below : (ver : ℕ) → not (has_long_room ver) ≡ false → nat_lt ver u64_end ≡ true
      is_below ver r = grind (arith, nat_tests)

      by_accepts : (t : Bool) → client.accepts s.tokens block stamp inc req Own ≡ t
          → Goes n (and_runs (hand s (input.Granted block stamp inc req Own entry)))
      by_accepts true fact = owns_so n s h asks block stamp inc req entry sent (is_below entry.ver low) fact
      by_accepts false fact = runs_after n (hand s (input.Granted block stamp inc req Own entry)) (refused_so n s h block stamp inc req Own entry fact)
  granted_so n s h asks block stamp inc req Nothing entry sent low =
      by_accepts (client.accepts s.tokens block stamp inc req Nothing) refl
    where
      by_accepts : (t : Bool) → client.accepts s.tokens block stamp inc req Nothing ≡ t
          → Goes n (and_runs (hand s (input.Granted block stamp inc req Nothing entry)))
      by_accepts true fact = absurd (no_call_needs s.call block (call_needs s asks block stamp inc req Nothing fact))
      by_accepts false fact = runs_after n (hand s (input.Granted block stamp inc req Nothing entry)) (refused_so n s h block stamp inc req Nothing entry fact)

  -- a grant, and then the open call runs
  pub on_grant_so : (n : Net) (s : Serving) (g : Grant) → At n s → AsksForCall s
      → SentOf part n.sent g.block (GrantSent c g.block g.stamp g.inc g.req g.mode g.entry) → Goes n (and_runs (on_grant s g))
  unfolding on_grant
  on_grant_so n s g h asks sent =
      by_test (λ (d : Done). Goes n (and_runs d)) (is_own g.mode && not (has_long_room g.entry.ver)) (still s)
      (hand s (input.Granted g.block g.stamp g.inc g.req g.mode g.entry))
      (λ t. runs_after n (still s) (frames.goes_still logs members part limit c life room highest n s h))
      (λ t. granted_so n s h asks g.block g.stamp g.inc g.req g.mode g.entry sent t)
