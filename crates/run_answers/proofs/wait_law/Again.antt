-- At a tick each want is sent once more.
use Rattle.std.proofs.Common.{◌≡◌, ◌⊎◌, ℕ, ◌+◌, ◌||◌, Bool, true, false, cond, List, [], ◌∷◌, ◌++◌, Option, Some, None, is_some, unwrap_or, inl, inr, refl, sym, ap, subst, ◌∙◌}
use Rattle.std.proofs.lemmas.Cmp.{tied_itself}
use Rattle.std.proofs.lemmas.Map.Views.{tells_apart}
use Rattle.std.specs.BTreeMap.{is_at}
use Rattle.std.specs.List.{filter, list_any}
use Rattle.std.specs.Map.{keys_of, lookup, values_of}
use Rattle.std.specs.Ordering.{eq_by_cmp, is_eq}
use Rattle.client_node.specs.declared.phase.Phase.{Phase}
use Rattle.client_node.specs.declared.phase.Phase.TheVariants.{Serving as Serves}
use Rattle.client_node.specs.declared.client.Client.{Client}
use Rattle.client_node.specs.Phases.{client_has_room, client_step, client_tick, lasting_of}
use Rattle.client_running.specs.Running.{run}
use Rattle.client_serving.specs.declared.serving.Serving.{Serving}
use Rattle.client_serving.specs.Flights.{held_at}
use Rattle.client_serving.specs.Follow.{serving_follow, follow_one, hand}
use Rattle.client_serving.specs.Packets.{on_tick}
use Rattle.client_serving.specs.Reads.{ends_reading}
use Rattle.client_serving.specs.Sends.{before_want, want, wants}
use Rattle.node_base.specs.declared.effects.Effect.{Effect}
use Rattle.node_base.specs.declared.effects.Effect.TheVariants.{Answer as Answers, Does, Lose, Send}
use Rattle.node_base.specs.Effects.{packets_of}
use Rattle.token_client.proofs.Tables.{held_of-put}
use Rattle.token_client.specs.declared.held.Held.{Held}
use Rattle.token_client.specs.declared.held.Wanted.{Wanted}
use Rattle.token_client.specs.declared.input.In.TheVariants as inputs
use Rattle.token_client.specs.declared.output.Out.{Out}
use Rattle.token_client.specs.declared.output.Out.TheVariants.{Want}
use Rattle.token_client.specs.Held.{asked_again, held_new}
use Rattle.token_client.specs.State.{TokensState, held_of}
use Rattle.token_client.specs.Transition as tokens
use Rattle.token_client.specs.Transition.{ask_again, is_spent, repeated, wanted_blocks}
use Rattle.token_protocol.specs.Basics.{In}
use Rattle.wire_msg.specs.declared.body.Body.{Body}
use Rattle.wire_msg.specs.declared.packet.Do.TheVariants.{Tick}
use Rattle.wire_msg.specs.declared.packet.Packet.{Packet}
use Rattle.xfs_base.proofs.BlockOrder.{block_cmp_exact, block_cmp_total}
use Rattle.xfs_base.proofs.Booleans.{by_test}
use Rattle.xfs_base.specs.Blocks.{block_cmp}
use Rattle.xfs_base.specs.declared.block.BlockId.{BlockId}
use Rattle.xfs_base.specs.declared.token.Mode.{Mode}
use Rattle.xfs_base.specs.declared.node.NodeId.{NodeId}
use Rattle.xfs_base.specs.declared.node.NodeId.TheVariants as nodes
use Rattle.xfs_base.specs.Steps.{steps, still}
use Rattle.run_answers.specs.wait_law.Again.{EachTickAsksAgain}
use Rattle.headline.specs.Waits.{again_of}
use Rattle.run_answers.specs.wait_law.Again.{EachTickAsksAgain}

-- ---- lists

pub in_front : {X : Type 0} (x : X) (xs ys : List X) → In x xs → In x (xs ++ ys)
in_front x [] ys among = absurd among
in_front x (y ∷ xs) ys (inl e) = inl e
in_front x (y ∷ xs) ys (inr among) = inr (in_front x xs ys among)

pub in_behind : {X : Type 0} (x : X) (xs ys : List X) → In x ys → In x (xs ++ ys)
in_behind x [] ys among = among
in_behind x (y ∷ xs) ys among = inr (in_behind x xs ys among)

neither_first : (a b : Bool) → (a || b) ≡ false → a ≡ false
neither_first true b none = absurd (let clash : true ≡ false = none in cc)
neither_first false b none = refl

neither_second : (a b : Bool) → (a || b) ≡ false → b ≡ false
neither_second true b none = absurd (let clash : true ≡ false = none in cc)
neither_second false b none = none

pub itself : (block : BlockId) → eq_by_cmp block_cmp block block ≡ true
itself block = ap is_eq (tied_itself block_cmp_total block)

-- what is sent is a packet
pub sent : (me to : NodeId) (said : Body) (outs : List Effect) → In (Send to said) outs
    → In (record { from = me; to = to; clock = 0; body = said }) (packets_of me outs)
sent me to said [] among = absurd among
sent me to said (o ∷ outs) (inl is) =
    subst (λ (e : Effect). In (record { from = me; to = to; clock = 0; body = said }) (packets_of me (e ∷ outs))) is (inl refl)
sent me to said (Send other b ∷ outs) (inr among) = inr (sent me to said outs among)
sent me to said (Answers item a ∷ outs) (inr among) = sent me to said outs among
sent me to said (Lose seg ∷ outs) (inr among) = sent me to said outs among
sent me to said (Does a ∷ outs) (inr among) = sent me to said outs among

-- ---- the tokens

module _ (block : BlockId) (w : Wanted) where
  abbrev here : BlockId → Bool
  here k = eq_by_cmp block_cmp block k

  abbrev again : Out
  again = Want block w.req (w.again + 1) w.mode

  abbrev IsOut : List (BlockId × Held) → Type 0
  IsOut es = (held_of es block).want ≡ Some w

  -- what is known of the block, where the first entry is of it or not
  abbrev known_if : Bool → Held → List (BlockId × Held) → Held
  known_if t h es = unwrap_or (cond t (Some h) (lookup (is_at (block_cmp block)) es)) held_new

  -- what has a want is among what is wanted
  wanted_so : (es : List (BlockId × Held)) → IsOut es → In block (wanted_blocks es)
  wanted_so [] is = absurd (let clash : None ≡ Some w = is in cc)
  wanted_so (e ∷ es) is = by (here e.0) refl (is_some e.1.want) refl (λ out. wanted_so es out) is
    where
      by : (t : Bool) → here e.0 ≡ t → (u : Bool) → is_some e.1.want ≡ u → (IsOut es → In block (wanted_blocks es)) → (known_if t e.1 es).want ≡ Some w
          → In block (keys_of (cond u (e ∷ filter (λ (e : BlockId × Held). is_some e.1.want) es) (filter (λ (e : BlockId × Held). is_some e.1.want) es)))
      by true at true some later out = inl (tells_apart block_cmp_exact block e.0 at)
      by true at false none later out = absurd (let clash : true ≡ false = sym (ap is_some out) ∙ none in cc)
      by false at true some later out = inr (later out)
      by false at false none later out = later out

  -- where no want is at the end of its count, none of the block is
  fresh_so : (es : List (BlockId × Held)) → list_any (λ (h : Held). is_spent h.want) (values_of es) ≡ false → is_spent (held_of es block).want ≡ false
  fresh_so [] none = refl
  fresh_so (e ∷ es) none =
      by (here e.0) (neither_first (is_spent e.1.want) (list_any (λ (h : Held). is_spent h.want) (values_of es)) none)
      (fresh_so es (neither_second (is_spent e.1.want) (list_any (λ (h : Held). is_spent h.want) (values_of es)) none))
    where
      by : (t : Bool) → is_spent e.1.want ≡ false → is_spent (held_of es block).want ≡ false → is_spent (known_if t e.1 es).want ≡ false
      by true first later = first
      by false first later = later

  module _ (fresh : is_spent (Some w) ≡ false) where
    asks_it : (t : TokensState) → IsOut t.blocks → In again (ask_again t block).outs
    unfolding ask_again
    asks_it t is =
        subst (λ (o : Option Wanted). In again (cond (is_spent o) (still t) (repeated t block o)).outs) (sym is)
        (subst (λ (b : Bool). In again (cond b (still t) (repeated t block (Some w))).outs) (sym fresh) (inl refl))

    -- one of another block leaves it as it is
    keeps_it : (t : TokensState) (b : BlockId) → here b ≡ false → held_of (ask_again t b).state.blocks block ≡ held_of t.blocks block
    unfolding ask_again
    keeps_it t b other =
        by_test (λ (d : tokens.Done). held_of d.state.blocks block ≡ held_of t.blocks block) (is_spent (held_of t.blocks b).want) (still t)
        (repeated t b (held_of t.blocks b).want) (λ _. refl) (λ _. by (held_of t.blocks b).want)
      where
        by : (o : Option Wanted) → held_of (repeated t b o).state.blocks block ≡ held_of t.blocks block
        by None = refl
        by (Some v) =
            held_of-put block b (asked_again (held_of t.blocks b) v) t.blocks
            ∙ ap (λ (is : Bool). cond is (asked_again (held_of t.blocks b) v) (held_of t.blocks block)) other

    all_ask : (bs : List BlockId) (t : TokensState) → IsOut t.blocks → In block bs → In again (steps ask_again t bs).outs
    all_ask [] t is among = absurd among
    all_ask (b ∷ bs) t is among =
        by (here b) refl (λ at later. all_ask bs (ask_again t b).state (ap (λ (h : Held). h.want) (keeps_it t b at) ∙ is) later) among
      where
        by : (same : Bool) → here b ≡ same → (here b ≡ false → In block bs → In again (steps ask_again (ask_again t b).state bs).outs) → (block ≡ b) ⊎ In block bs
            → In again ((ask_again t b).outs ++ (steps ask_again (ask_again t b).state bs).outs)
        by true at rest either =
            in_front again (ask_again t b).outs (steps ask_again (ask_again t b).state bs).outs
            (subst (λ k. In again (ask_again t k).outs) (tells_apart block_cmp_exact block b at) (asks_it t is))
        by false at rest (inl is_it) = absurd (let clash : true ≡ false = sym (itself block) ∙ (ap here is_it ∙ at) in cc)
        by false at rest (inr later) =
            in_behind again (ask_again t b).outs (steps ask_again (ask_again t b).state bs).outs (rest at later)

  tick_asks : (t : TokensState) → list_any (λ (h : Held). is_spent h.want) (values_of t.blocks) ≡ false → IsOut t.blocks → In again (tokens.on_tick t).outs
  unfolding tokens.on_tick
  tick_asks t none is =
      subst (λ (b : Bool). In again (cond b (still t) (steps ask_again t (wanted_blocks t.blocks))).outs) (sym none)
      (all_ask (subst (λ o. is_spent o ≡ false) is (fresh_so t.blocks none)) (wanted_blocks t.blocks) t is (wanted_so t.blocks is))

-- ---- what the tokens say is sent

-- it is a want
abbrev pub IsWant : Out → Type 0
IsWant (Want block req count mode) = Unit {0}
IsWant _ = ⊥

abbrev pub Wants : List Out → Type 0
Wants [] = Unit {0}
Wants (o ∷ outs) = IsWant o × Wants outs

wants_more : (xs ys : List Out) → Wants xs → Wants ys → Wants (xs ++ ys)
wants_more [] ys p q = q
wants_more (x ∷ xs) ys p q = (p.0, wants_more xs ys p.1 q)

one_wants : (t : TokensState) (b : BlockId) → Wants (ask_again t b).outs
unfolding ask_again
one_wants t b =
    by_test (λ (d : tokens.Done). Wants d.outs) (is_spent (held_of t.blocks b).want) (still t) (repeated t b (held_of t.blocks b).want) (λ _. tt)
    (λ _. by (held_of t.blocks b).want)
  where
    by : (o : Option Wanted) → Wants (repeated t b o).outs
    by None = tt
    by (Some v) = (tt, tt)

all_want : (bs : List BlockId) (t : TokensState) → Wants (steps ask_again t bs).outs
all_want [] t = tt
all_want (b ∷ bs) t = wants_more (ask_again t b).outs (steps ask_again (ask_again t b).state bs).outs (one_wants t b) (all_want bs (ask_again t b).state)

pub tick_wants : (t : TokensState) → Wants (tokens.on_tick t).outs
unfolding tokens.on_tick
tick_wants t =
    by_test (λ (d : tokens.Done). Wants d.outs) (list_any (λ (h : Held). is_spent h.want) (values_of t.blocks)) (still t) (steps ask_again t (wanted_blocks t.blocks))
    (λ _. tt) (λ _. all_want (wanted_blocks t.blocks) t)

module _ (s : Serving) (block : BlockId) (req again : ℕ) (mode : Mode) where
  follows_so : (outs : List Out) → Wants outs → In (Want block req again mode) outs → In (want s block req again mode) (steps follow_one s outs).outs
  unfolding follow_one
  follows_so [] all among = absurd among
  follows_so (Want b r a m ∷ outs) all (inl is) =
      in_front (want s block req again mode) (wants s b r a m) (steps follow_one s outs).outs
      (subst (λ (o : Out). In (want s block req again mode) (follow_one s o).outs) is
      (in_behind (want s block req again mode) (before_want s block again) (want s block req again mode ∷ []) (inl refl)))
  follows_so (Want b r a m ∷ outs) all (inr among) =
      in_behind (want s block req again mode) (wants s b r a m) (steps follow_one s outs).outs (follows_so outs all.1 among)
  follows_so (_ ∷ outs) all among = absurd all.0

-- ---- the client

module _ (s : Serving) (block : BlockId) (w : Wanted) where
  abbrev told : Effect
  told = want s block w.req (w.again + 1) w.mode

  hand_so : list_any (λ (h : Held). is_spent h.want) (values_of s.tokens.blocks) ≡ false → (held_at s block).want ≡ Some w
      → In told (hand s inputs.Tick).outs
  unfolding hand serving_follow
  hand_so none is =
      let r : tokens.Done = tokens.on_tick s.tokens in
      follows_so (ends_reading (record s { tokens = r.state })) block w.req (w.again + 1) w.mode r.outs (tick_wants s.tokens) (tick_asks block w s.tokens none is)

  tick_so : list_any (λ (h : Held). is_spent h.want) (values_of s.tokens.blocks) ≡ false → (held_at s block).want ≡ Some w → In told (on_tick s).outs
  unfolding on_tick
  tick_so none is = in_front told (hand s inputs.Tick).outs _ (hand_so none is)

  time_so : (capacity : ℕ) → list_any (λ (h : Held). is_spent h.want) (values_of s.tokens.blocks) ≡ false → (held_at s block).want ≡ Some w
      → In told (client_tick capacity (Serves s)).outs
  unfolding client_tick
  time_so capacity none is = in_front told (on_tick s).outs (run (on_tick s).state).outs (tick_so none is)

-- what is sent at a tick
pub at_tick : (c : Client) (s : Serving) → c.phase ≡ Serves s → client_has_room c ≡ true → (packet : Packet)
    → In packet (packets_of (nodes.Client s.lasting.number) (client_tick c.cache (Serves s)).outs) → In packet (client_step c Tick).packets
at_tick c s serves room packet among =
    subst (λ (p : Phase). In packet (packets_of (nodes.Client (lasting_of p).number) (cond (client_has_room c) (client_tick c.cache p) (still p)).outs)) (sym serves)
    (subst (λ (b : Bool). In packet (packets_of (nodes.Client s.lasting.number) (cond b (client_tick c.cache (Serves s)) (still (Serves s))).outs)) (sym room)
    among)

pub wants_again : (c : Client) (s : Serving) → c.phase ≡ Serves s → client_has_room c ≡ true
    → list_any (λ (h : Held). is_spent h.want) (values_of s.tokens.blocks) ≡ false → (block : BlockId) (w : Wanted) → (held_at s block).want ≡ Some w
    → In (again_of s block w) (client_step c Tick).packets
wants_again c s serves room none block w is =
    let packet : Packet = again_of s block w in
    at_tick c s serves room packet
    (sent (nodes.Client s.lasting.number) packet.to packet.body (client_tick c.cache (Serves s)).outs (time_so s block w c.cache none is))

pub each_tick : EachTickAsksAgain
each_tick c = record { wants = wants_again c }
