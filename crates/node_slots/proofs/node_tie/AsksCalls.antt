-- A client whose open call runs asks for its call still: while a call on blocks waits, for the block that it needs; once it is answered, for none.
use Rattle.std.proofs.Common.{◌≡◌, ℕ, zero, suc, ◌+◌, Bool, true, false, ◌||◌, ◌&&◌, ◌==◌, nat_lt, List, Option, Some, None, is_none, is_some, refl, sym, ap, subst, ◌∙◌}
use Rattle.client_log.specs.declared.input.In.TheVariants as log_in
use Rattle.client_call.specs.Calls.{plan_answered}
use Rattle.client_call.specs.declared.call.Call.{Call}
use Rattle.client_call.specs.declared.call.Going.TheVariants.{On, Ends}
use Rattle.client_call.specs.declared.call.Going.{Going}
use Rattle.client_call.specs.Fitting.{put_fits}
use Rattle.client_running.specs.Blocks.{Made, changed, changes, blocks_change, got, blocks_get, held_back, blocks_let_go, blocks_make, blocks_need, put_of, blocks_put, puts_again, blocks_put_at, synced_answer, blocks_sync, waits, wrote}
use Rattle.client_serving.specs.declared.serving.Serving.{Serving}
use Rattle.client_serving.specs.Flights.{held_at}
use Rattle.client_serving.specs.Follow.{hand, note_gone, serving_seal}
use Rattle.client_running.specs.Running.{Ran, take_answer, running_go_on, most_steps, run, runs_call, run_once, run_upto}
use Rattle.client_serving.specs.Sends.{Done}
use Rattle.file_plan.specs.declared.block_call.BlockAnswer.{BlockAnswer}
use Rattle.file_plan.specs.declared.block_call.BlockCall.{BlockCall}
use Rattle.file_plan.specs.declared.block_call.BlockCall.TheVariants.{Get, Put, PutAt, Sync}
use Rattle.node_base.specs.Beginning.{items_answer}
use Rattle.token_client.specs.declared.held.Held.{Held}
use Rattle.token_client.specs.declared.held.Wanted.{Wanted}
use Rattle.token_client.specs.declared.input.In.TheVariants as input
use Rattle.token_client.specs.Held.{is_asking, may_write}
use Rattle.token_client.specs.State.{TokensState}
use Rattle.token_client.specs.Transition.{on_evict}
use Rattle.xfs_base.specs.declared.block.BlockId.{BlockId}
use Rattle.xfs_base.specs.declared.token.Mode.{Mode}
use Rattle.xfs_base.specs.declared.token.Mode.TheVariants.{Nothing, Copy, Own}
use Rattle.xfs_base.specs.Modes.{allows, is_held, is_nothing, is_own}
use Rattle.xfs_base.specs.Steps.{saying}
use Rattle.xfs_base.proofs.Booleans.{by_test, and_first, contrary}
use Rattle.xfs_base.specs.Limits.{u64_end}
use Rattle.node_slots.specs.node_tie.Asks.{AsksForCall, needed, needed_by}
use Rattle.node_slots.proofs.node_tie.AsksBlock.{Need, WantSuits}
use Rattle.node_slots.proofs.node_tie.AsksInputs.{AsksAs, none_asks, nothing_asks, transition-asks}
use Rattle.node_slots.proofs.node_tie.AsksFrames.{Keeps, Kept, asks_as, asks_for, asks_none, closed_same, keeps_same, keeps_through, open_in, step_of, takes-keeps}
use Rattle.node_slots.proofs.node_tie.AsksFollow.{hand-keeps, note_gone-keeps, serving_seal-keeps}
use Rattle.node_slots.proofs.node_tie.AsksFlights.{serving_write-keeps}

-- what is needed still, once a call on blocks is answered so
abbrev left_by : Need → Option BlockAnswer → Need
left_by n None = n
left_by n (Some a) = None

-- a call on blocks was made, and what is needed still is asked for
record MadeFor (n : Need) (s : Serving) (m : Made) : Type 0 where
  pub asks : AsksAs (left_by n m.answer) m.done.state.tokens
  pub call : step_of m.done.state.call ≡ step_of s.call
  pub item : open_in m.done.state ≡ open_in s

waits-for : (n : Need) (s : Serving) (d : Done) → Kept n s d.state → MadeFor n s (waits d)
waits-for n s d k = record { asks = k.asks; call = k.call; item = k.item }

blocks_need-for : (s : Serving) (block : BlockId) (mode : Mode) → AsksAs (Some (block, mode)) s.tokens → MadeFor (Some (block, mode)) s (blocks_need s block mode)
blocks_need-for s block mode a =
    waits-for (Some (block, mode)) s (hand s (input.Need block mode)) (hand-keeps (Some (block, mode)) s (input.Need block mode) refl a)

-- ---- Get

neither : (a b : Bool) → (a ≡ true → false ≡ true) → (b ≡ true → false ≡ true) → (a || b) ≡ false
neither true b f g = contrary (f refl)
neither false true f g = contrary (g refl)
neither false false f g = refl

something_held : (mode : Mode) → is_nothing mode ≡ false → is_held mode ≡ true
something_held Nothing h = sym h
something_held Copy h = refl
something_held Own h = refl

abbrev mode_in : Need → Mode
mode_in None = Copy
mode_in (Some e) = e.1

-- a block that is held has no want to read it
held_unwanted : (block : BlockId) (mode : Mode) (w : Option Wanted) → is_held mode ≡ true → WantSuits (Some (block, Copy)) block mode w → is_some w ≡ true
    → false ≡ true
held_unwanted block mode None held p h = h
held_unwanted block mode (Some w) held p h = sym p.1 ∙ ap (allows mode) (sym (ap mode_in p.0)) ∙ held

module _ (s : Serving) (block : BlockId) where
  -- a block that is held asks for nothing while it is needed to be read
  held_idle : AsksAs (Some (block, Copy)) s.tokens → is_held (held_at s block).mode ≡ true → is_asking (held_at s block) ≡ false
  held_idle a held =
      let h : Held = held_at s block in
      neither (is_some h.want) (is_some h.fetch) (held_unwanted block h.mode h.want held (a.suits block).want)
      (λ t. sym ((a.sound.each block).fetch_unheld t) ∙ held)

  got-for : AsksAs (Some (block, Copy)) s.tokens → is_nothing (held_at s block).mode ≡ false → MadeFor (Some (block, Copy)) s (got s block (held_at s block))
  got-for a held = record {
    asks = nothing_asks (Some (block, Copy)) block Copy refl s.tokens a (held_idle a (something_held (held_at s block).mode held));
    call = refl;
    item = refl;
  }

  blocks_get-for : AsksAs (Some (block, Copy)) s.tokens → MadeFor (Some (block, Copy)) s (blocks_get s block)
  unfolding blocks_get
  blocks_get-for a =
      by_test (MadeFor (Some (block, Copy)) s) (is_nothing (held_at s block).mode) (blocks_need s block Copy) (got s block (held_at s block))
      (λ t. blocks_need-for s block Copy a) (λ t. got-for a t)

  -- ---- Put and PutAt

  unasked_where_owned : (asks own : Bool) → (asks ≡ true → own ≡ false) → own ≡ true → asks ≡ false
  unasked_where_owned true own f h = contrary (sym (f refl) ∙ h)
  unasked_where_owned false own f h = refl

  module _ (value : Option (List ℕ)) where
    changes-kept : AsksAs None s.tokens → Kept None s (changes s block value).done.state
    unfolding changes
    changes-kept a =
        let w : Serving = wrote s block value in
        keeps_through None s w (put_of w block value).state
        (λ b. record { asks = transition-asks None s.tokens b (input.Wrote block value) tt; call = refl; item = refl })
        (serving_write-keeps None w (log_in.Put block (record { ver = (held_at w block).ver; hop = 0; place = None }) value)) a

    -- a block that may be written asks for nothing
    written_none : AsksAs (Some (block, Own)) s.tokens → may_write (held_at s block) ≡ true → AsksAs None s.tokens
    written_none a t =
        let h : Held = held_at s block in
        let own : is_own h.mode ≡ true = and_first (is_own h.mode) (is_none h.giving)
        (and_first (is_own h.mode && is_none h.giving) (nat_lt h.ver u64_end) t) in
        nothing_asks (Some (block, Own)) block Own refl s.tokens a (unasked_where_owned (is_asking h) (is_own h.mode) (a.sound.each block).asks_unowned own)

    changes-for : AsksAs None s.tokens → MadeFor (Some (block, Own)) s (changes s block value)
    unfolding changes
    changes-for a = (let k : Kept None s (changes s block value).done.state = changes-kept a in record { asks = k.asks; call = k.call; item = k.item })

    blocks_let_go-keeps : Keeps None s (blocks_let_go s block)
    blocks_let_go-keeps =
        let t : Serving = record s { tokens = (on_evict s.tokens block).state } in
        by_test (Keeps None s) (is_none (held_at s block).value) (note_gone t block) s
        (λ x. keeps_through None s t (note_gone t block) (takes-keeps None s (input.Evict block) tt) (note_gone-keeps None t block)) (λ x. keeps_same None s)

    changed-for : AsksAs None s.tokens → MadeFor (Some (block, Own)) s (changed s block)
    changed-for a = (let k : Kept None s (blocks_let_go s block) = blocks_let_go-keeps a in record { asks = k.asks; call = k.call; item = k.item })

    -- it waits, and asks for nothing
    held_back-for : AsksAs None s.tokens → MadeFor (Some (block, Own)) s (held_back s block)
    held_back-for a =
        let k : Kept None s (blocks_let_go s block) = blocks_let_go-keeps a in
        record { asks = none_asks (Some (block, Own)) (blocks_let_go s block).tokens k.asks; call = k.call; item = k.item }

    blocks_change-for : AsksAs None s.tokens → MadeFor (Some (block, Own)) s (blocks_change s block value)
    unfolding blocks_change
    blocks_change-for a =
        by_test (MadeFor (Some (block, Own)) s) (put_fits block ((held_at s block).ver + 1) value) (changes s block value) (held_back s block)
        (λ t. changes-for a) (λ t. held_back-for a)

    blocks_put-for : AsksAs (Some (block, Own)) s.tokens → MadeFor (Some (block, Own)) s (blocks_put s block value)
    unfolding blocks_put
    blocks_put-for a =
        by_test (MadeFor (Some (block, Own)) s) (may_write (held_at s block)) (blocks_change s block value) (blocks_need s block Own)
        (λ t. blocks_change-for (written_none a t)) (λ t. blocks_need-for s block Own a)

    blocks_put_at-for : (ver : ℕ) → AsksAs (Some (block, Own)) s.tokens → MadeFor (Some (block, Own)) s (blocks_put_at s block ver value)
    unfolding blocks_put_at
    blocks_put_at-for ver a =
        by_test (MadeFor (Some (block, Own)) s) (may_write (held_at s block)) (puts_again s block ver value) (blocks_need s block Own)
        (λ t. by_test (MadeFor (Some (block, Own)) s) ((held_at s block).ver == ver) (blocks_change s block value) (changed s block)
        (λ same. blocks_change-for (written_none a t)) (λ other. changed-for (written_none a t))) (λ t. blocks_need-for s block Own a)

-- ---- Sync

none_left : (t : TokensState) (o : Option BlockAnswer) → AsksAs None t → AsksAs (left_by None o) t
none_left t None a = a
none_left t (Some answer) a = a

blocks_sync-for : (s : Serving) → AsksAs None s.tokens → MadeFor None s (blocks_sync s)
unfolding blocks_sync
blocks_sync-for s a =
    let d : Done = serving_seal s in
    let k : Kept None s d.state = serving_seal-keeps None s a in
    record { asks = none_left d.state.tokens (synced_answer d.state) k.asks; call = k.call; item = k.item }

blocks_make-for : (s : Serving) (b : BlockCall) → AsksAs (needed_by b) s.tokens → MadeFor (needed_by b) s (blocks_make s b)
unfolding blocks_make
blocks_make-for s (Get block) a = blocks_get-for s block a
blocks_make-for s (Put block value) a = blocks_put-for s block value a
blocks_make-for s (PutAt block ver value) a = blocks_put_at-for s block value ver a
blocks_make-for s Sync a = blocks_sync-for s a

-- ---- the open call

-- where none asks and no call is open, one may be opened for an item that waits
pub running_go_on-asks : (s : Serving) (g : Going) → AsksAs None s.tokens → s.call ≡ None → (open_in s ≡ None → ⊥) → AsksForCall (running_go_on s g).state
unfolding running_go_on
running_go_on-asks s (On call) a closed busy = asks_none (record s { call = Some call }) a (λ none. absurd (busy none))
running_go_on-asks s (Ends answer) a closed busy = asks_none (record s { lasting = record s.lasting { items = items_answer s.lasting.items } }) a (λ none. closed)

take_answer-asks : (s : Serving) (call : Call) (o : Option BlockAnswer) → AsksAs (left_by (needed_by call.step) o) s.tokens → s.call ≡ None
    → (open_in s ≡ None → ⊥) → AsksForCall (take_answer s call o).done.state
take_answer-asks s call None a closed busy = asks_for (record s { call = Some call }) a (λ none. absurd (busy none))
take_answer-asks s call (Some answer) a closed busy = running_go_on-asks s (plan_answered call.plan answer) a closed busy

runs_call-asks : (s : Serving) (c : Option Call) → s.call ≡ c → AsksForCall s → AsksForCall (runs_call s c).done.state
runs_call-asks s None fact p = p
runs_call-asks s (Some call) fact p =
    let u : Serving = record s { call = None } in
    let m : Made = blocks_make u call.step in
    let a : AsksAs (needed_by call.step) s.tokens = subst (λ c. AsksAs (needed c) s.tokens) fact (asks_as s p) in
    let k : MadeFor (needed_by call.step) u m = blocks_make-for u call.step a in
    take_answer-asks m.done.state call m.answer k.asks (closed_same m.done.state.call None k.call refl)
    (λ none. contrary (sym (ap is_none fact) ∙ ap is_none (p.waits (sym k.item ∙ none))))

run_once-asks : (s : Serving) → AsksForCall s → AsksForCall (run_once s).done.state
unfolding run_once
run_once-asks s p = runs_call-asks s s.call refl p

run_upto-asks : (n : ℕ) (s : Serving) → AsksForCall s → AsksForCall (run_upto n s).state
unfolding run_upto
run_upto-asks zero s p = p
run_upto-asks (suc n) s p =
    let r : Ran = run_once s in
    let q : AsksForCall r.done.state = run_once-asks s p in
    by_test (λ (d : Done). AsksForCall d.state) r.goes (saying r.done.outs (run_upto n r.done.state)) r.done (λ t. run_upto-asks n r.done.state q) (λ t. q)

-- the open call runs
pub run-asks : (s : Serving) → AsksForCall s → AsksForCall (run s).state
unfolding run
run-asks s p = run_upto-asks most_steps s p
