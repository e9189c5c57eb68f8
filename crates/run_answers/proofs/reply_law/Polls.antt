-- A client that serves passes a copy on as it is told, and tells what it holds as it is asked.
use Rattle.std.proofs.Common.{◌≡◌, ◌<◌, ◌≤◌, ◌&&◌, ℕ, Bool, true, false, cond, List, [], ◌∷◌, ◌++◌, flat_map, Option, Some, None, nat_le, nat_lt, arith, refl, ap, subst, ◌∙◌}
use Rattle.std.proofs.lemmas.Bool.Decides.{nat_tests}
use Rattle.std.specs.List.{AllByRecursion}
use Rattle.client_running.specs.Running.{run}
use Rattle.client_serving.specs.declared.serving.Serving.{Serving}
use Rattle.client_serving.specs.Flights.{held_at}
use Rattle.client_serving.specs.Follow.{follow_one, serving_follow}
use Rattle.client_serving.specs.Grants.{send_supply}
use Rattle.client_serving.specs.Packets.{may_report, on_forward, polled, promised_by, reports, serving_promise, serving_renew}
use Rattle.client_serving.specs.Sends.{Done, wants}
use Rattle.delta_feed.specs.Transition.{new_epoch}
use Rattle.log_owner.specs.Promised.{manager_of, managers_set}
use Rattle.node_base.specs.Effects.{packets_of}
use Rattle.token_client.specs.declared.held.Held.{Held}
use Rattle.token_client.specs.declared.output.Out.{Out}
use Rattle.token_client.specs.declared.output.Out.TheVariants as output
use Rattle.token_client.specs.State.{TokensState, epoch_of, held_in}
use Rattle.token_client.specs.Transition as tokens
use Rattle.token_client.specs.Transition.{ask_copy, fetched_blocks, may_promise, on_forwarded, on_promise, raised, serves, supplies, tokens_ask}
use Rattle.token_protocol.specs.Basics.{In}
use Rattle.wire_msg.specs.declared.body.Body.TheVariants as body
use Rattle.wire_msg.specs.declared.deltas.Poll.{Poll}
use Rattle.wire_msg.specs.declared.packet.Packet.{Packet}
use Rattle.wire_msg.specs.declared.tokens.Forward.{Forward}
use Rattle.xfs_base.proofs.Alls.{all_append}
use Rattle.xfs_base.proofs.Booleans.{by_test}
use Rattle.xfs_base.specs.declared.block.BlockId.{BlockId}
use Rattle.xfs_base.specs.declared.node.NodeId.{NodeId}
use Rattle.xfs_base.specs.declared.node.NodeId.TheVariants as nodes
use Rattle.xfs_base.specs.declared.token.Mode.{Mode}
use Rattle.xfs_base.specs.Limits.{slot_count}
use Rattle.xfs_base.specs.Modes.{is_held}
use Rattle.xfs_base.specs.Steps.{steps, still}
use Rattle.run_answers.proofs.reply_law.OpenCalls.{AllSilent, IsSilent, runs_go, wants_silent}
use Rattle.run_answers.proofs.reply_law.Listed.{HoldsOn, IsListed, held_listed, listed_held, promise_holds, was_in}
use Rattle.run_answers.proofs.reply_law.Sent.{replies, replies_first, silent_none}
use Rattle.headline.specs.ClientReplies.{PassesOn, Reports, RepliesWith, TakesPoll, passed_on}

-- ---- a copy is passed on

module _ (s : Serving) where
  abbrev me : NodeId
  me = nodes.Client s.lasting.number

  -- where what is done for what came answers so, the event does: the open call answers nobody
  pub event_replies : (d : Done) (said : List Packet) → replies me d.outs ≡ said → RepliesWith s (run d.state).state (packets_of me (d.outs ++ (run d.state).outs)) said
  event_replies d said is = replies_first me d.outs (run d.state).outs (runs_go d.state).silent ∙ is

  module _ (f : Forward) where
    abbrev passed : Option (Option (List ℕ)) → List Packet
    passed None = []
    passed (Some value) =
        record {
          from = me;
          to = nodes.Client f.to;
          clock = 0;
          body = body.Supply (record { block = f.block; stamp = f.stamp; inc = f.inc; req = f.req; ver = f.ver; value = value });
        }
        ∷ []

    supplied : (o : Option (Option (List ℕ))) → replies me (flat_map (send_supply f) (supplies f.block f.ver o)) ≡ passed o
    supplied None = refl
    supplied (Some value) = refl

    forward_replies : replies me (on_forward s f).outs ≡ passed (passed_on s (run (on_forward s f).state).state (packets_of me (on_forward s f).outs) f)
    unfolding on_forward on_forwarded
    forward_replies = by (serves s.tokens f.block f.stamp f.ver)
      where
        by : (b : Bool)
            → replies me
            (flat_map (send_supply f)
            (cond b (record { state = s.tokens; outs = supplies f.block f.ver (held_at s f.block).value }) (still s.tokens)).outs)
            ≡ passed (cond b (held_at s f.block).value None)
        by true = supplied (held_at s f.block).value
        by false = refl

    as_passed : (now : Serving) (packets : List Packet) (o : Option (Option (List ℕ))) → RepliesWith s now packets (passed o) → PassesOn s now packets f o
    as_passed now packets None said = said
    as_passed now packets (Some value) said = said

    pub takes_forward : PassesOn s (run (on_forward s f).state).state (packets_of me ((on_forward s f).outs ++ (run (on_forward s f).state).outs)) f
        (passed_on s (run (on_forward s f).state).state (packets_of me ((on_forward s f).outs ++ (run (on_forward s f).state).outs)) f)
    takes_forward =
        as_passed (run (on_forward s f).state).state (packets_of me ((on_forward s f).outs ++ (run (on_forward s f).state).outs))
        (passed_on s (run (on_forward s f).state).state (packets_of me ((on_forward s f).outs ++ (run (on_forward s f).state).outs)) f)
        (event_replies (on_forward s f) _ forward_replies)

-- ---- what is held is told

-- it is a want
abbrev IsWant : Out → Type 0
IsWant (output.Want block req again mode) = Unit {0}
IsWant _ = ⊥

asks_want : (t : TokensState) (block : BlockId) → AllByRecursion IsWant (ask_copy t block).outs
unfolding tokens_ask
asks_want t block = by_test (λ (d : tokens.Done). AllByRecursion IsWant d.outs) (nat_lt t.req _) _ (still t) (λ _. (tt, tt)) (λ _. tt)

all_want : (bs : List BlockId) (t : TokensState) → AllByRecursion IsWant (steps ask_copy t bs).outs
all_want [] t = tt
all_want (b ∷ bs) t = all_append IsWant (ask_copy t b).outs (steps ask_copy (ask_copy t b).state bs).outs (asks_want t b) (all_want bs (ask_copy t b).state)

promise_wants : (t : TokensState) (slot epoch : ℕ) → AllByRecursion IsWant (on_promise t slot epoch).outs
unfolding on_promise
promise_wants t slot epoch =
    by_test (λ (d : tokens.Done). AllByRecursion IsWant d.outs) (may_promise t slot epoch) (steps ask_copy (raised t slot epoch) (fetched_blocks slot t.blocks)) (still t)
    (λ _. all_want (fetched_blocks slot t.blocks) (raised t slot epoch)) (λ _. tt)

follows_silent : (s : Serving) (outs : List Out) → AllByRecursion IsWant outs → AllSilent (steps follow_one s outs).outs
unfolding follow_one
follows_silent s [] all = tt
follows_silent s (output.Want block req again mode ∷ outs) all =
    all_append IsSilent (wants s block req again mode) (steps follow_one s outs).outs (wants_silent s block req again mode) (follows_silent s outs all.1)
follows_silent s (_ ∷ outs) all = absurd all.0

module _ (s : Serving) (manager : ℕ) (poll : Poll) where
  -- what it holds of the slot, once that is promised
  abbrev held : List (BlockId × Mode)
  held = held_in poll.slot (on_promise s.tokens poll.slot poll.epoch).state.blocks

  abbrev told : Packet
  told = record {
    from = nodes.Client s.lasting.number;
    to = manager_of (managers_set s.managers poll.slot manager) poll.slot;
    clock = 0;
    body = body.Report (record { slot = poll.slot; epoch = poll.epoch; held = held; end = s.log.end });
  }

  promised_replies : replies (me s) (reports poll.slot poll.epoch (serving_promise s poll.slot poll.epoch manager)).outs ≡ told ∷ []
  unfolding serving_promise serving_renew serving_follow
  promised_replies =
      by_test (λ (x : Serving). replies (me s) (reports poll.slot poll.epoch (promised_by x poll.slot poll.epoch manager)).outs ≡ told ∷ [])
      (nat_lt (epoch_of s.tokens.epochs poll.slot) poll.epoch) (record s { feed = new_epoch s.feed poll.slot }) s
      (λ _. ap (λ (ps : List Packet). told ∷ ps) (rest (record s { feed = new_epoch s.feed poll.slot }) refl)) (λ _. ap (λ (ps : List Packet). told ∷ ps) (rest s refl))
    where
      rest : (x : Serving) → x.tokens ≡ s.tokens
          → replies (me s) (steps follow_one (promised_by x poll.slot poll.epoch manager).state (on_promise x.tokens poll.slot poll.epoch).outs).outs ≡ []
      rest x same =
          silent_none (me s) (steps follow_one (promised_by x poll.slot poll.epoch manager).state (on_promise x.tokens poll.slot poll.epoch).outs).outs
          (follows_silent (promised_by x poll.slot poll.epoch manager).state (on_promise x.tokens poll.slot poll.epoch).outs (promise_wants x.tokens poll.slot poll.epoch))

  newer_replies : may_report s poll ≡ true → replies (me s) (polled s manager poll).outs ≡ told ∷ []
  unfolding polled
  newer_replies may =
      ap (λ (b : Bool). replies (me s) (cond b (reports poll.slot poll.epoch (serving_promise s poll.slot poll.epoch manager)) (still s)).outs) may ∙ promised_replies

  older_replies : may_report s poll ≡ false → replies (me s) (polled s manager poll).outs ≡ []
  unfolding polled
  older_replies fails = ap (λ (b : Bool). replies (me s) (cond b (reports poll.slot poll.epoch (serving_promise s poll.slot poll.epoch manager)) (still s)).outs) fails

  not_below : poll.epoch < epoch_of s.tokens.epochs poll.slot → nat_le (epoch_of s.tokens.epochs poll.slot) poll.epoch ≡ false
  not_below below = grind (arith, nat_tests)

  not_above : epoch_of s.tokens.epochs poll.slot ≤ poll.epoch → nat_le (epoch_of s.tokens.epochs poll.slot) poll.epoch ≡ true
  not_above above = grind (arith, nat_tests)

  fails_so : (a b : Bool) → b ≡ false → (a && b) ≡ false
  fails_so true b is = is
  fails_so false b is = refl

  reports_so : (now : Serving) (packets : List Packet) → RepliesWith s now packets (told ∷ []) → Reports s now packets manager poll
  reports_so now packets said =
      let holds : HoldsOn s.tokens poll.slot poll.epoch (on_promise s.tokens poll.slot poll.epoch).state = promise_holds s.tokens poll.slot poll.epoch in record {
        held = held;
        all = λ block its held_so.
            subst (λ (m : Mode). In (block, m) held) (holds.modes block)
            (held_listed poll.slot block (on_promise s.tokens poll.slot poll.epoch).state.blocks its (ap is_held (holds.modes block) ∙ held_so));
        only = λ block mode among.
            let is : IsListed poll.slot block mode (on_promise s.tokens poll.slot poll.epoch).state.blocks = listed_held poll.slot block mode _ among in
            (is.its, (is.held, only block mode is (was_in s.tokens.blocks (block, is.h) _ is.among holds.entries (ap is_held is.same ∙ is.held))));
        replies = said;
      }
    where
      only : (block : BlockId) (mode : Mode) (is : IsListed poll.slot block mode (on_promise s.tokens poll.slot poll.epoch).state.blocks)
          → (h : Held) × (In (block, h) s.tokens.blocks × (h.mode ≡ is.h.mode)) → (h : Held) × (In (block, h) s.tokens.blocks × (h.mode ≡ mode))
      only block mode is was = (was.0, (was.1.0, was.1.1 ∙ is.same))

  pub takes_poll : nat_lt poll.slot slot_count ≡ true
      → TakesPoll s (run (polled s manager poll).state).state (packets_of (me s) ((polled s manager poll).outs ++ (run (polled s manager poll).state).outs)) manager poll
  takes_poll its = record {
    older = λ below. event_replies s (polled s manager poll) [] (older_replies (fails_so (nat_lt poll.slot slot_count) _ (not_below below)));
    newer = λ above.
        reports_so (run (polled s manager poll).state).state (packets_of (me s) ((polled s manager poll).outs ++ (run (polled s manager poll).state).outs))
        (event_replies s (polled s manager poll) (told ∷ [])
        (newer_replies (ap (λ (b : Bool). b && nat_le (epoch_of s.tokens.epochs poll.slot) poll.epoch) its ∙ not_above above)));
  }
