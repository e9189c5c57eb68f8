-- A put of a block that others hold clean: each of them is sent a recall and gives the block up, and then the put goes on as if nobody else had held it.
use Rattle.std.proofs.Common.{◌≡◌, ℕ, suc, ◌+◌, ◌*◌, ◌-◌, ◌<◌, ◌≤◌, true, false, List, [], ◌∷◌, length, slice_get, Option, refl, ap, subst, ◌∙◌, arith}
use Rattle.core_world.specs.declared.any_node.AnyNode.{AnyNode}
use Rattle.node_base.specs.Setups.{IsSetup}
use Rattle.quiet_flow.specs.Flow.{Stage}
use Rattle.slot_beliefs.specs.Beliefs.{others}
use Rattle.token_client.specs.State.{held_of}
use Rattle.token_manager.specs.SlotState.{SlotState}
use Rattle.version_model.specs.declared.work.Work.{Work}
use Rattle.version_model.specs.declared.work.Work.TheVariants as work
use Rattle.wire_msg.specs.declared.packet.Packet.{Packet}
use Rattle.xfs_base.specs.declared.block.BlockId.{BlockId}
use Rattle.xfs_base.specs.declared.node.NodeId.{NodeId}
use Rattle.xfs_base.specs.declared.node.NodeId.TheVariants.{Client}
use Rattle.xfs_base.specs.declared.setup.Setup.{Setup}
use Rattle.xfs_base.specs.declared.token.Mode.TheVariants.{Own}
use Rattle.xfs_base.specs.Modes.{is_own}
use Rattle.quiet_gives.specs.Laws.{AreClean}
use Rattle.quiet_law.proofs.PutAsking as asking
use Rattle.quiet_gives.proofs.Taking as taking
use Rattle.quiet_law.specs.Drained.{Drained, most_steps}
use Rattle.quiet_law.specs.Lines.{Ends, IsNext, Stands, holders, tail}
use Rattle.quiet_law.proofs.Alone.{puts_alone}
use Rattle.quiet_law.proofs.AsIf.{ends_as_if, ends_up}
use Rattle.quiet_law.proofs.Writes.{ends_more}
use Rattle.quiet_script.specs.Quiet.{is_in_range}
use Rattle.quiet_nodes.specs.Scene.{ClientPart, Scene}

module _ (setup : Setup) (works : NodeId → List Work) (ok : IsSetup setup) (k : ℕ) (s : Scene) (t : Stage AnyNode) (c : ℕ) (b : BlockId) (value : Option (List ℕ))
    (few : suc k < most_steps) (d : Drained setup works k s) (stands : Stands setup works s t) (next : IsNext setup works s c (work.Bput c b value))
    (range : is_in_range setup (work.Bput c b value) ≡ true) (asks : is_own (held_of (s.client c).blocks b).mode ≡ false) (clean : AreClean setup works s c b) where
  least : 1 ≤ c
  least = next.client.0

  most : c ≤ setup.clients
  most = next.client.1

  abbrev hs : List ℕ
  hs = holders setup works s c b

  abbrev m : Scene
  m = taking.m setup works ok k s t c b Own few d stands least most refl clean

  drained_m : Drained setup works (suc k) m
  drained_m = taking.drained_m setup works ok k s t c b Own few d stands least most refl clean

  same : m.client c ≡ s.client c
  same = taking.same setup works ok k s t c b Own few d stands least most refl clean

  nobody : holders setup works m c b ≡ []
  nobody =
      ap (λ (y : SlotState). others y.beliefs b c false) (taking.slot_is setup works ok k s t c b Own few d stands least most refl clean)
      ∙ taking.none_m setup works ok k s t c b Own few d stands least most refl clean

  next_m : IsNext setup works m c (work.Bput c b value)
  next_m = record { client = next.client; few = next.few; next = ap (λ (p : ClientPart). slice_get (works (Client c)) p.begun) same ∙ next.next }

  asks_m : is_own (held_of (m.client c).blocks b).mode ≡ false
  asks_m = ap (λ (p : ClientPart). is_own (held_of p.blocks b).mode) same ∙ asks

  abbrev item : ℕ
  item = (s.client c).begun + 1

  law : (t' : Stage AnyNode) → Stands setup works m t' → Ends setup works (suc k) (2 + tail setup works m c) m t' c item
  law t' there =
      subst (λ (p : ClientPart). Ends setup works (suc k) (2 + tail setup works m c) m t' c (p.begun + 1)) same
      (puts_alone setup works (suc k) m t' c drained_m there ok few b value next_m range asks_m nobody)

  -- ---- the client asks

  abbrev p : ClientPart
  p = s.client c

  sooner : k < most_steps
  sooner = omega (arith, few)

  abbrev asked : ClientPart
  asked = asking.asked setup works k s c d sooner b value next asks

  abbrev want_packet : Packet
  want_packet = taking.want_packet setup works ok k s t c b Own few d stands least most refl clean asked (p.req + 1) p.end.seq refl

  -- ---- both

  tail_as : tail setup works m c ≡ tail setup works s c
  tail_as = ap (λ (p : ClientPart). tail setup works (record s { client = λ e. p }) c) same

  counted : (a n l : ℕ) → a ≡ 1 + 2 * n → a + ((2 + l) - 1) ≤ 2 + 2 * n + l
  counted a n l is = omega arith

  from_some : (first : ℕ) (ds : List ℕ) → hs ≡ first ∷ ds → Ends setup works (suc k) (2 + 2 * length hs + tail setup works s c) s t c item
  from_some first ds are =
      subst (λ l. Ends setup works (suc k) (2 + 2 * length hs + l) s t c item) tail_as
      (ends_more setup works (suc k) (steps + ((2 + tail setup works m c) - 1)) (2 + 2 * length hs + tail setup works m c) s t c item
      (counted steps (length hs) (tail setup works m c)
      (taking.steps_are setup works ok k s t c b Own few d stands least most refl clean asked (p.req + 1) p.end.seq refl))
      (ends_as_if setup works (suc k) s m
      (taking.scene_of setup works ok k s t c b Own few d stands least most refl clean asked (p.req + 1) p.end.seq refl hs)
      (taking.h setup works ok k s t c b Own few d stands least most refl clean asked (p.req + 1) p.end.seq refl) t c item steps asked want_packet
      (taking.said_then setup works ok k s t c b Own few d stands least most refl clean asked (p.req + 1) p.end.seq refl hs) [] stands least most same
      (asking.asks_so setup works k s c d sooner b value next asks)
      (taking.really setup works ok k s t c b Own few d stands least most refl clean asked (p.req + 1) p.end.seq refl first ds are)
      (taking.as_if setup works ok k s t c b Own few d stands least most refl clean asked (p.req + 1) p.end.seq refl)
      (taking.alike setup works ok k s t c b Own few d stands least most refl clean asked (p.req + 1) p.end.seq refl) refl
      (taking.begun_as setup works ok k s t c b Own few d stands least most refl clean asked (p.req + 1) p.end.seq refl)
      (taking.fewer_then setup works ok k s t c b Own few d stands least most refl clean asked (p.req + 1) p.end.seq refl) (2 + tail setup works m c) law))
    where
      steps : ℕ
      steps = taking.steps_of setup works ok k s t c b Own few d stands least most refl clean asked (p.req + 1) p.end.seq refl hs

  more : (n l : ℕ) → 2 + l ≤ 2 + 2 * n + l
  more n l = omega arith

  from_none : hs ≡ [] → Ends setup works (suc k) (2 + 2 * length hs + tail setup works s c) s t c item
  from_none none =
      ends_more setup works (suc k) (2 + tail setup works s c) (2 + 2 * length hs + tail setup works s c) s t c item (more (length hs) (tail setup works s c))
      (ends_up setup works k (2 + tail setup works s c) s t c item
      (puts_alone setup works k s t c d stands ok sooner b value next range asks none))

  pub puts_from_clean : Ends setup works (suc k) (2 + 2 * length hs + tail setup works s c) s t c item
  puts_from_clean = by_holders hs refl
    where
      by_holders : (xs : List ℕ) → hs ≡ xs → Ends setup works (suc k) (2 + 2 * length hs + tail setup works s c) s t c item
      by_holders [] none = from_none none
      by_holders (first ∷ ds) are = from_some first ds are
