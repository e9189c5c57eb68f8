-- A client that serves ends its call in the event in which what it wants is refused.
use Rattle.std.proofs.Common.{◌≡◌, ⊎_elim, ◌&&◌, ◌==◌, ◌||◌, ℕ, Bool, true, false, cond, ◌++◌, List, [], ◌∷◌, Option, Some, None, is_some, option_map, arith, refl, sym, ap, subst, ◌∙◌}
use Rattle.std.proofs.lemmas.Bool.Decides.{nat_tests}
use Rattle.client_node.specs.declared.client.Client.{Client}
use Rattle.client_node.specs.declared.phase.Phase.{Phase}
use Rattle.client_node.specs.Phases.{Went_to, client_has_room, happens, lasting_of, on_deliver, serves_on, takes, then_runs}
use Rattle.client_running.specs.Running.{run}
use Rattle.client_serving.specs.declared.serving.Serving.{Serving}
use Rattle.client_serving.specs.Flights.{held_at}
use Rattle.client_serving.specs.Grants.{is_want}
use Rattle.client_serving.specs.Packets.{asks_for_maps, is_gone, on_gone, serving_take, take_body}
use Rattle.client_serving.specs.Reads.{loses}
use Rattle.client_serving.specs.Sends.{Done}
use Rattle.core_world.specs.AnyNode.{any_step}
use Rattle.core_world.specs.declared.any_node.AnyNode.TheVariants as any
use Rattle.node_base.specs.Beginning.{answers_unanswered}
use Rattle.node_base.specs.declared.effects.Effect.{Effect}
use Rattle.node_base.specs.declared.effects.Effect.TheVariants.{Answer as Answers, Does, Lose, Send}
use Rattle.node_base.specs.Effects.{acts_of, packets_of}
use Rattle.node_base.specs.Known.{names_known_groups}
use Rattle.node_base.specs.Shape.{is_well_formed}
use Rattle.token_client.proofs.Tables.{held_of-put_itself}
use Rattle.token_client.specs.declared.held.Held.{Held}
use Rattle.token_client.specs.declared.held.Wanted.{Wanted}
use Rattle.token_client.specs.Held.{quit}
use Rattle.token_client.specs.State.{TokensState, epoch_of, held_of, with_held}
use Rattle.token_client.specs.Transition as tokens
use Rattle.token_client.specs.Transition.{on_quit}
use Rattle.version_model.specs.declared.act.Act.{Act}
use Rattle.version_model.specs.declared.act.Act.TheVariants as act
use Rattle.version_model.specs.declared.answer.Answer.TheVariants.{Lost}
use Rattle.wire_msg.specs.declared.body.Body.{Body}
use Rattle.wire_msg.specs.declared.body.Body.TheVariants as body
use Rattle.wire_msg.specs.declared.packet.Do.TheVariants.{Deliver}
use Rattle.wire_msg.specs.declared.packet.Packet.{Packet}
use Rattle.wire_msg.specs.declared.tokens.Gone.{Gone}
use Rattle.wire_msg.specs.NodeStep.{NodeStep}
use Rattle.xfs_base.proofs.Booleans.{and_first, and_second, by_test, contrary}
use Rattle.xfs_base.specs.Blocks.{slot_of}
use Rattle.xfs_base.specs.declared.block.BlockId.{BlockId}
use Rattle.xfs_base.specs.declared.node.NodeId.{NodeId}
use Rattle.xfs_base.specs.declared.node.NodeId.TheVariants as nodes
use Rattle.xfs_base.specs.declared.segment.SegName.{SegName}
use Rattle.xfs_base.specs.Steps.{saying, still}
use Rattle.core_world.specs.declared.any_node.AnyNode.{AnyNode}
use Rattle.run_answers.proofs.own_law.Running.{none_run}
use Rattle.client_running.specs.Running.{most_steps}
use Rattle.run_answers.proofs.reply_law.OpenCalls.{AllSilent, IsSilent, runs_go}
use Rattle.token_protocol.specs.Basics.{In}
use Rattle.headline.specs.Calls.{answered_so}
use Rattle.headline.specs.ClientRefusals.{ClientRefusals, EndsLost, Refuses, TakesRefusal}
use Rattle.headline.specs.ClientReplies.{ServesSo}

are_same : (a b : ℕ) → a ≡ b → (a == b) ≡ true
are_same a b same = grind (arith, nat_tests)

same_so : (a b : ℕ) → (a == b) ≡ true → a ≡ b
same_so a b is = grind (arith, nat_tests)

both_so : (a b : Bool) → a ≡ true → b ≡ true → (a && b) ≡ true
both_so a b first second = ap (λ (x : Bool). x && b) first ∙ second

with_none : (s : Serving) → s.call ≡ None → run s ≡ still s
unfolding run
with_none s none = none_run most_steps s none

-- a loss is acted so, and nothing is sent
module _ (me : NodeId) (seg : SegName) where
  acted : (item : Option ℕ) → acts_of me ((Lose seg ∷ answers_unanswered item (Lost seg)) ++ []) ≡ act.Lost me seg ∷ answered_so me item (Lost seg)
  acted None = refl
  acted (Some number) = refl

  sent : (item : Option ℕ) → packets_of me ((Lose seg ∷ answers_unanswered item (Lost seg)) ++ []) ≡ []
  sent None = refl
  sent (Some number) = refl

-- where nobody is answered, and no segment is said to be lost
loses_none : (me : NodeId) (outs : List Effect) → AllSilent outs → (node : NodeId) (name : SegName) → In (act.Lost node name) (acts_of me outs) → ⊥
loses_none me [] all node name among = among
loses_none me (Send to said ∷ outs) all node name among = loses_none me outs all.1 node name among
loses_none me (Answers item a ∷ outs) all node name among =
    ⊎_elim (λ (same : act.Lost node name ≡ act.Answered me item a). cc) (λ (later : In (act.Lost node name) (acts_of me outs)). loses_none me outs all.1 node name later)
    among
loses_none me (Lose seg ∷ outs) all node name among = absurd all.0
loses_none me (Does acted ∷ outs) all node name among =
    ⊎_elim (λ (same : act.Lost node name ≡ acted). subst (λ (x : Act). IsSilent (Does x)) (sym same) all.0)
    (λ (later : In (act.Lost node name) (acts_of me outs)). loses_none me outs all.1 node name later) among

abbrev quits_if : TokensState → BlockId → Bool → tokens.Done
quits_if t block b = cond b (still (with_held t block (quit (held_of t.blocks block)))) (still t)

-- a block that is wanted is wanted no more
quits : (t : TokensState) (block : BlockId) (w : Wanted) → (held_of t.blocks block).want ≡ Some w → (held_of (on_quit t block).state.blocks block).want ≡ None
unfolding on_quit
quits t block w wants =
    ap (λ (b : Bool). (held_of (quits_if t block b).state.blocks block).want)
    (ap (λ (o : Option Wanted). is_some o || is_some (held_of t.blocks block).fetch) wants)
    ∙ ap (λ (h : Held). h.want) (held_of-put_itself block (quit (held_of t.blocks block)) t.blocks)

module _ (c : Client) (s : Serving) where
  -- the client's step, where this is what the event makes of it
  abbrev stepped_to : Went_to → NodeStep AnyNode
  stepped_to w = record {
    node = any.Client (record c { phase = w.state });
    packets = packets_of (nodes.Client s.lasting.number) w.outs;
    acts = acts_of (nodes.Client s.lasting.number) w.outs;
  }

  -- where this was done for what came, the event ends its call so
  abbrev Refused : Body → Done → Type 0
  Refused b d = TakesRefusal s b (stepped_to (then_runs d))

  module _ (gone : Gone) (w : Wanted) (refuses : Refuses s gone w) where
    is_so : is_gone s gone ≡ true
    is_so =
        both_so (epoch_of s.tokens.epochs (slot_of gone.block.ino.0) == gone.epoch) _
        (are_same (epoch_of s.tokens.epochs (slot_of gone.block.ino.0)) gone.epoch (sym refuses.epoch))
        (both_so (gone.inc == s.lasting.inc) (is_want (option_map (λ want. want.req) (held_at s gone.block).want) gone.req)
        (are_same gone.inc s.lasting.inc refuses.inc)
        (ap (λ (o : Option Wanted). is_want (option_map (λ want. want.req) o) gone.req) refuses.wants ∙ are_same w.req gone.req (sym refuses.number)))

    -- with no call nothing runs
    ended : (now : Serving) × (ServesSo (stepped_to (then_runs (loses s gone.block gone.seg))).node now
        × EndsLost s gone now (stepped_to (then_runs (loses s gone.block gone.seg))))
    unfolding loses
    ended =
        let d : Done = loses s gone.block gone.seg in
        subst
        (λ (x : Done). (now : Serving) × (ServesSo (stepped_to (serves_on (saying d.outs x))).node now × EndsLost s gone now (stepped_to (serves_on (saying d.outs x)))))
        (sym (with_none d.state refl)) (
          d.state,
          (
            refl,
            record {
              acts = acted (nodes.Client s.lasting.number) gone.seg s.lasting.items.unanswered;
              call = refl;
              item = refl;
              want = quits s.tokens gone.block w refuses.wants;
              packets = sent (nodes.Client s.lasting.number) gone.seg s.lasting.items.unanswered;
            },
          ),
        )

  module _ (gone : Gone) where
    want_is : (o : Option Wanted) → (held_at s gone.block).want ≡ o → is_want (option_map (λ want. want.req) o) gone.req ≡ true
        → (w : Wanted) × (((held_at s gone.block).want ≡ Some w) × (gone.req ≡ w.req))
    want_is None same is = contrary is
    want_is (Some w) same is = (w, (same, sym (same_so w.req gone.req is)))

    -- what it refuses stands
    stands : is_gone s gone ≡ true → (w : Wanted) × Refuses s gone w
    stands is =
        let rest = and_second (epoch_of s.tokens.epochs (slot_of gone.block.ino.0) == gone.epoch) _ is in
        let found = want_is (held_at s gone.block).want refl (and_second (gone.inc == s.lasting.inc) _ rest) in (
          found.0,
          record {
            wants = found.1.0;
            number = found.1.1;
            inc = same_so gone.inc s.lasting.inc (and_first (gone.inc == s.lasting.inc) _ rest);
            epoch = sym (same_so (epoch_of s.tokens.epochs (slot_of gone.block.ino.0)) gone.epoch (and_first (epoch_of s.tokens.epochs (slot_of gone.block.ino.0) == gone.epoch) _ is));
          },
        )

    is_none : ((w : Wanted) → Refuses s gone w → ⊥) → is_gone s gone ≡ false
    is_none none = by (is_gone s gone) refl
      where
        by : (b : Bool) → is_gone s gone ≡ b → is_gone s gone ≡ false
        by true is = (let found = stands is in absurd (none found.0 found.1))
        by false is = is

  taken_so : (from : NodeId) (b : Body) → Refused b (take_body s from b)
  unfolding on_gone
  taken_so from (body.Gone gone) = record {
    ends = λ w refuses.
        subst (λ (d : Done). (now : Serving) × (ServesSo (stepped_to (then_runs d)).node now × EndsLost s gone now (stepped_to (then_runs d))))
        (sym (ap (λ (b : Bool). cond b (loses s gone.block gone.seg) (still s)) (is_so gone w refuses))) (ended gone w refuses);
    other = λ none.
        subst (λ (d : Done). (node : NodeId) (name : SegName) → In (act.Lost node name) (stepped_to (then_runs d)).acts → ⊥)
        (sym (ap (λ (b : Bool). cond b (loses s gone.block gone.seg) (still s)) (is_none gone none)))
        (loses_none (nodes.Client s.lasting.number) (run s).outs (runs_go s).silent);
  }
  taken_so from _ = tt

  -- a Gone names no group
  dropped : (b : Body) → names_known_groups s.maps b ≡ false → Refused b (asks_for_maps s)
  dropped (body.Gone gone) fails = contrary (sym fails)
  dropped _ fails = tt

  taken : (packet : Packet) → Refused packet.body (serving_take s packet)
  unfolding serving_take
  taken packet =
      by_test (Refused packet.body) (names_known_groups s.maps packet.body) (take_body s packet.from packet.body) (asks_for_maps s)
      (λ _. taken_so packet.from packet.body) (dropped packet.body)

pub client_ends : (c : Client) (packet : Packet) → client_has_room c ≡ true → is_well_formed c.peers packet ≡ true
    → ClientRefusals c packet (any_step (any.Client c) (Deliver packet))
unfolding on_deliver
client_ends c packet room well s serves =
    subst (P c.phase) (sym event) (subst (λ (p : Phase). P p (then_runs (serving_take s packet))) (sym serves) (taken c s packet))
  where
    P : Phase → Went_to → Type 0
    P p w =
        TakesRefusal s packet.body
        (record {
          node = any.Client (record c { phase = w.state });
          packets = packets_of (nodes.Client (lasting_of p).number) w.outs;
          acts = acts_of (nodes.Client (lasting_of p).number) w.outs;
        })

    event : takes c (Deliver packet) ≡ then_runs (serving_take s packet)
    event =
        ap (λ (b : Bool). cond b (happens c (Deliver packet)) (still c.phase)) room
        ∙ (ap (λ (b : Bool). cond b (on_deliver c.cache c.phase packet) (still c.phase)) well ∙ ap (λ (p : Phase). on_deliver c.cache p packet) serves)
