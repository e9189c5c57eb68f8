-- A client that answers the version of a block that it wrote holds the block, with this version and the value that it wrote.
use Rattle.std.proofs.Common.{◌≡◌, ℕ, ◌+◌, true, false, List, [], ◌∷◌, drop, take, Option, Some, None, refl, sym, ap, ◌∙◌}
use Rattle.std.specs.List.{AllByRecursion, list_any}
use Rattle.client_call.specs.Fitting.{put_fits}
use Rattle.client_log.specs.declared.input.In.TheVariants as log_in
use Rattle.client_log.specs.declared.output.Out.{Out}
use Rattle.client_log.specs.declared.output.Out.TheVariants.{Send, Settled}
use Rattle.client_log.specs.LogState.{LogState}
use Rattle.client_log.specs.Transition.{sending_send, can_go_on, log_go_on, is_full, log_launch, next_name, on_put, prior_from, log_seal, send_at, sends, waits}
use Rattle.client_log.specs.Transition as log
use Rattle.client_running.specs.Blocks.{Made, changes, blocks_change, held_back, blocks_need, put_of, blocks_put, wrote}
use Rattle.client_serving.specs.declared.serving.Serving.{Serving}
use Rattle.client_serving.specs.Flights.{held_at, seals_again, serving_write, write_one}
use Rattle.file_plan.specs.declared.block_call.BlockAnswer.TheVariants.{Put as Written}
use Rattle.log_flight.specs.declared.dirty.Change.{Change}
use Rattle.log_flight.specs.Flights.{FlightState, flown, group_for, is_noted}
use Rattle.log_flight.specs.Fragments.{flight_fragment}
use Rattle.log_flight.specs.Items.{items_of}
use Rattle.group_map.specs.declared.group.Member.{Member}
use Rattle.log_owner.specs.Sealing.{is_settling}
use Rattle.segment_format.specs.declared.segment.Item.{Item}
use Rattle.token_client.proofs.Tables.{held_of-put_itself}
use Rattle.token_client.specs.declared.held.Held.{Held}
use Rattle.token_client.specs.Held.{may_write, held_write}
use Rattle.token_client.specs.State.{TokensState, held_of, with_held}
use Rattle.token_client.specs.Transition.{on_wrote}
use Rattle.xfs_base.proofs.Alls.{all_append}
use Rattle.xfs_base.proofs.Booleans.{and_first, by_test}
use Rattle.xfs_base.specs.declared.block.BlockId.{BlockId}
use Rattle.xfs_base.specs.declared.entry.Entry.{Entry}
use Rattle.xfs_base.specs.declared.segment.Prior.{Prior}
use Rattle.xfs_base.specs.declared.segment.SegName.{SegName}
use Rattle.xfs_base.specs.declared.token.Mode.{Mode}
use Rattle.xfs_base.specs.declared.token.Mode.TheVariants.{Nothing, Copy, Own}
use Rattle.xfs_base.specs.Limits.{segment_blocks}
use Rattle.xfs_base.specs.Modes.{is_held, is_own}
use Rattle.xfs_base.specs.Steps.{steps, still}

-- ---- a version that waits for the log settles nothing

abbrev pub IsSend : Out → Type 0
IsSend (Send fragment member) = Unit {0}
IsSend (Settled end rows) = ⊥

abbrev Sends : log.Done → Type 0
Sends d = AllByRecursion IsSend d.outs

each_sends : (f : FlightState) (members : List Member) (place : ℕ) → AllByRecursion IsSend (sends f members place)
each_sends f [] place = tt
each_sends f (m ∷ members) place =
    all_append IsSend (send_at f m place) (sends f members (place + 1))
    (by_test (AllByRecursion IsSend) (is_noted f.noted place) [] (Send (flight_fragment f.segment f.group place) m ∷ []) (λ _. tt) (λ _. (tt, tt)))
    (each_sends f members (place + 1))

pub all_sent : (f : FlightState) → AllByRecursion IsSend (sending_send f)
unfolding sending_send
all_sent f = each_sends f f.group.members 0

launched_sends : (s : LogState) (name : SegName) (prior : Prior) (items : List Item) → Sends (log_launch s name prior items)
unfolding log_launch
launched_sends s name prior items = all_sent (flown name prior items (group_for s.groups s.log.0 name.seq))

sealed_sends : (s : LogState) → Sends (log_seal s)
unfolding log_seal
sealed_sends s =
    let t : LogState = record s { dirty = drop segment_blocks s.dirty } in
    launched_sends t (next_name t) (prior_from s.end) (items_of 0 (take segment_blocks s.dirty))

full_sends : (s : LogState) → Sends (log_go_on s)
unfolding log_go_on
full_sends s = by_test Sends (is_full s) (log_seal s) (still s) (λ _. sealed_sends s) (λ _. tt)

put_sends : (s : LogState) (block : BlockId) (change : Change) → Sends (on_put s block change)
unfolding on_put
put_sends s block change =
    by_test Sends (can_go_on (waits s block change)) (log_go_on (waits s block change)) (still s) (λ _. full_sends (waits s block change)) (λ _. tt)

sent_state : (s : Serving) (outs : List Out) → AllByRecursion IsSend outs → (steps write_one s outs).state ≡ s
unfolding write_one
sent_state s [] all = refl
sent_state s (Send fragment member ∷ outs) all = sent_state s outs all.1
sent_state s (Settled end rows ∷ outs) all = absurd all.0

none_settles : (outs : List Out) → AllByRecursion IsSend outs → list_any is_settling outs ≡ false
none_settles [] all = refl
none_settles (Send fragment member ∷ outs) all = none_settles outs all.1
none_settles (Settled end rows ∷ outs) all = absurd all.0

pub put_tokens : (s : Serving) (block : BlockId) (entry : Entry) (value : Option (List ℕ)) → (serving_write s (log_in.Put block entry value)).state.tokens ≡ s.tokens
unfolding serving_write
put_tokens s block entry value =
    let r : log.Done = on_put s.log block (record { entry = entry; value = value }) in
    let sent : Sends r = put_sends s.log block (record { entry = entry; value = value }) in
    let now : Serving = (steps write_one (record s { log = r.state }) r.outs).state in
    ap (λ settling. (seals_again now settling).state.tokens) (none_settles r.outs sent)
    ∙ ap (λ (t : Serving). t.tokens) (sent_state (record s { log = r.state }) r.outs sent)

-- ---- what is held then

pub record IsWritten (t : TokensState) (block : BlockId) (value : Option (List ℕ)) (ver : ℕ) : Type 0 where
  pub held : is_held (held_of t.blocks block).mode ≡ true
  pub version : (held_of t.blocks block).ver ≡ ver
  pub content : (held_of t.blocks block).value ≡ Some value

own_is_held : (mode : Mode) → is_own mode ≡ true → is_held mode ≡ true
own_is_held Nothing own = own
own_is_held Copy own = refl
own_is_held Own own = refl

wrote_held : (s : Serving) (block : BlockId) (value : Option (List ℕ)) → may_write (held_at s block) ≡ true
    → held_at (wrote s block value) block ≡ held_write (held_at s block) value
unfolding on_wrote
wrote_held s block value may =
    by_test (λ d. held_of d.state.blocks block ≡ held_write (held_at s block) value) (may_write (held_at s block))
    (still (with_held s.tokens block (held_write (held_at s block) value))) (still s.tokens)
    (λ _. held_of-put_itself block (held_write (held_at s block) value) s.tokens.blocks) (λ none. contrary (sym may ∙ none))
  where
    contrary : {A : Type 0} → true ≡ false → A
    contrary e = absurd cc

abbrev Puts : BlockId → Option (List ℕ) → Made → Type 0
Puts block value m = (ver : ℕ) → m.answer ≡ Some (Written ver) → IsWritten m.done.state.tokens block value ver

pub changes_put : (s : Serving) (block : BlockId) (value : Option (List ℕ)) → may_write (held_at s block) ≡ true → Puts block value (changes s block value)
unfolding changes
changes_put s block value may ver answers = record {
  held = ap (λ (h : Held). is_held h.mode) now ∙ own_is_held (held_at s block).mode (and_first _ _ (and_first _ _ may));
  version = ap (λ (h : Held). h.ver) same ∙ version_is (held_at w block).ver answers;
  content = ap (λ (h : Held). h.value) now;
}
  where
    w : Serving
    w = wrote s block value

    same : held_at (put_of w block value).state block ≡ held_at w block
    same = ap (λ (t : TokensState). held_of t.blocks block) (put_tokens w block (record { ver = (held_at w block).ver; hop = 0; place = None }) value)

    now : held_at (put_of w block value).state block ≡ held_write (held_at s block) value
    now = same ∙ wrote_held s block value may

    version_is : (v : ℕ) → Some (Written v) ≡ Some (Written ver) → v ≡ ver
    version_is v e = cc

pub puts_put : (s : Serving) (block : BlockId) (value : Option (List ℕ)) → Puts block value (blocks_put s block value)
unfolding blocks_put blocks_change
puts_put s block value =
    by_test (Puts block value) (may_write (held_at s block)) (blocks_change s block value) (blocks_need s block Own)
    (λ may.
    by_test (Puts block value) (put_fits block ((held_at s block).ver + 1) value) (changes s block value) (held_back s block)
    (λ _. changes_put s block value may) (λ _ ver none. absurd cc))
    (λ _ ver none. absurd cc)
