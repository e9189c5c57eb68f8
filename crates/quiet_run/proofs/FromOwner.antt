-- A get of a block that another client owns and holds clean: the owner gives way to a copy, and then the get goes on as if it had done so before.
use Rattle.std.proofs.Common.{◌≡◌, ℕ, suc, ◌+◌, ◌*◌, ◌-◌, ◌<◌, ◌≤◌, ◌⊎◌, true, false, List, [], ◌∷◌, length, slice_get, refl, sym, ap, subst, ◌∙◌, arith}
use Rattle.core_world.specs.declared.any_node.AnyNode.{AnyNode}
use Rattle.delta_index.specs.Index.{entry_of}
use Rattle.node_base.specs.Setups.{IsSetup}
use Rattle.quiet_flow.specs.Flow.{Stage}
use Rattle.slot_beliefs.specs.Beliefs.{others}
use Rattle.token_client.proofs.Tables.{InOrder}
use Rattle.token_client.specs.State.{held_of}
use Rattle.token_manager.specs.SlotState.{SlotState}
use Rattle.version_model.specs.declared.work.Work.{Work}
use Rattle.version_model.specs.declared.work.Work.TheVariants as work
use Rattle.wire_msg.specs.declared.packet.Packet.{Packet}
use Rattle.xfs_base.specs.Blocks.{slot_of}
use Rattle.xfs_base.specs.declared.block.BlockId.{BlockId}
use Rattle.xfs_base.specs.declared.node.NodeId.{NodeId}
use Rattle.xfs_base.specs.declared.node.NodeId.TheVariants.{Client}
use Rattle.xfs_base.specs.declared.setup.Setup.{Setup}
use Rattle.xfs_base.specs.declared.token.Mode.TheVariants.{Copy}
use Rattle.xfs_base.specs.Modes.{is_nothing}
use Rattle.quiet_gets.proofs.FromCopies.{from_copies}
use Rattle.quiet_gets.proofs.GetAsking as asking
use Rattle.quiet_gets.specs.Laws.{owners, told_nodes}
use Rattle.quiet_gets.specs.Passing.{AreInOrder}
use Rattle.quiet_gives.proofs.Given.{same_holders}
use Rattle.quiet_gives.proofs.GivenDrained as given
use Rattle.quiet_gives.proofs.Taking as taking
use Rattle.quiet_law.proofs.AsIf.{either_as_if}
use Rattle.quiet_law.specs.Drained.{Drained, most_steps}
use Rattle.quiet_law.specs.Lines.{Ends, EndsAfterRound, IsNext, Stands, fetching, holders, members_at}
use Rattle.quiet_run.specs.Laws.{OwnClean}
use Rattle.quiet_nodes.specs.Scene.{ClientPart, Scene}
use Rattle.quiet_reads.proofs.CopyWanted.{none_owns}

module _ (setup : Setup) (works : NodeId → List Work) (ok : IsSetup setup) (k : ℕ) (s : Scene) (t : Stage AnyNode) (c : ℕ) (b : BlockId) (o : ℕ) (os : List ℕ)
    (few : suc k < most_steps) (d : Drained setup works k s) (stands : Stands setup works s t) (sorted : AreInOrder setup works s)
    (next : IsNext setup works s c (work.Bget c b)) (asks : is_nothing (held_of (s.client c).blocks b).mode ≡ true) (are : owners setup works s c b ≡ o ∷ os)
    (clean : OwnClean setup works s c b) where
  least : 1 ≤ c
  least = next.client.0

  most : c ≤ setup.clients
  most = next.client.1

  abbrev i : ℕ
  i = slot_of b.ino.0

  abbrev p : ClientPart
  p = s.client c

  abbrev z : SlotState
  z = s.slot i

  abbrev hs : List ℕ
  hs = owners setup works s c b

  abbrev m : Scene
  m = taking.m setup works ok k s t c b Copy few d stands least most refl clean

  drained_m : Drained setup works (suc k) m
  drained_m = taking.drained_m setup works ok k s t c b Copy few d stands least most refl clean

  same : m.client c ≡ s.client c
  same = taking.same setup works ok k s t c b Copy few d stands least most refl clean

  abbrev z_then : SlotState
  z_then = taking.z_then setup works ok k s t c b Copy few d stands least most refl clean

  slot_is : m.slot i ≡ z_then
  slot_is = taking.slot_is setup works ok k s t c b Copy few d stands least most refl clean

  unowned : owners setup works m c b ≡ []
  unowned = ap (λ (y : SlotState). others y.beliefs b c true) slot_is ∙ taking.none_m setup works ok k s t c b Copy few d stands least most refl clean

  held_as : holders setup works m c b ≡ holders setup works s c b
  held_as = ap (λ (y : SlotState). others y.beliefs b c false) slot_is ∙ same_holders b c z.beliefs hs

  sorted_m : AreInOrder setup works m
  sorted_m e l h =
      given.each_client setup works k s c b true d (taking.most_clients setup works ok k s t c b Copy few d stands least most refl clean) clean
      (λ n (q : ClientPart). 1 ≤ n → n ≤ setup.clients → InOrder q.blocks) (λ n outside. sorted n) (λ n q has g l' h'. g.in_order (sorted n l' h')) e l h

  next_m : IsNext setup works m c (work.Bget c b)
  next_m = record { client = next.client; few = next.few; next = ap (λ (q : ClientPart). slice_get (works (Client c)) q.begun) same ∙ next.next }

  asks_m : is_nothing (held_of (m.client c).blocks b).mode ≡ true
  asks_m = ap (λ (q : ClientPart). is_nothing (held_of q.blocks b).mode) same ∙ asks

  abbrev item : ℕ
  item = p.begun + 1

  abbrev more : Scene → ℕ
  more u = 2 + told_nodes setup + fetching setup works u b

  abbrev Either : ℕ → ℕ → Scene → ℕ → Stage AnyNode → Type 0
  Either one two u its_item x =
      Ends setup works (suc k) one u x c its_item ⊎ EndsAfterRound setup works (suc k) two (more m) u x c its_item

  law : (first : ℕ) (ds : List ℕ) → holders setup works s c b ≡ first ∷ ds → (t' : Stage AnyNode) → Stands setup works m t' → Either 3 2 m item t'
  law first ds held t' there =
      subst (λ (q : ClientPart). Either 3 2 m (q.begun + 1) t') same
      (from_copies setup works ok (suc k) m t' c b first ds few drained_m there sorted_m next_m asks_m (held_as ∙ held) unowned)

  -- ---- the client asks

  sooner : k < 40000
  sooner = omega (arith, few)

  abbrev asked : ClientPart
  asked = asking.asked setup works k s c d sooner b next asks

  abbrev want_packet : Packet
  want_packet = taking.want_packet setup works ok k s t c b Copy few d stands least most refl clean asked (p.req + 1) p.end.seq refl

  -- ---- the whole line

  abbrev steps : ℕ
  steps = taking.steps_of setup works ok k s t c b Copy few d stands least most refl clean asked (p.req + 1) p.end.seq refl hs

  whole : (first : ℕ) (ds : List ℕ) → holders setup works s c b ≡ first ∷ ds → Either (steps + (3 - 1)) (steps + (2 - 1)) s item t
  whole first ds held =
      either_as_if setup works (suc k) s m
      (taking.scene_of setup works ok k s t c b Copy few d stands least most refl clean asked (p.req + 1) p.end.seq refl hs)
      (taking.h setup works ok k s t c b Copy few d stands least most refl clean asked (p.req + 1) p.end.seq refl) t c item steps asked want_packet
      (taking.said_then setup works ok k s t c b Copy few d stands least most refl clean asked (p.req + 1) p.end.seq refl hs) [] stands least most same
      (asking.asks_so setup works k s c d sooner b next asks)
      (taking.really setup works ok k s t c b Copy few d stands least most refl clean asked (p.req + 1) p.end.seq refl o os are)
      (taking.as_if setup works ok k s t c b Copy few d stands least most refl clean asked (p.req + 1) p.end.seq refl)
      (taking.alike setup works ok k s t c b Copy few d stands least most refl clean asked (p.req + 1) p.end.seq refl) refl
      (taking.begun_as setup works ok k s t c b Copy few d stands least most refl clean asked (p.req + 1) p.end.seq refl)
      (taking.fewer_then setup works ok k s t c b Copy few d stands least most refl clean asked (p.req + 1) p.end.seq refl) 3 2 (more m) (law first ds held)

  steps_are : steps ≡ 1 + 2 * length hs
  steps_are = taking.steps_are setup works ok k s t c b Copy few d stands least most refl clean asked (p.req + 1) p.end.seq refl

  -- the place of the block is as it was
  more_is : more m ≡ more s
  more_is = ap (λ (y : SlotState). 2 + told_nodes setup + 2 * members_at setup works (entry_of y.index.rows b).place) slot_is

  counted : (a n : ℕ) → a ≡ 1 + 2 * n → a + (3 - 1) ≡ 3 + 2 * n
  counted a n is = omega arith

  counted_later : (a n : ℕ) → a ≡ 1 + 2 * n → a + (2 - 1) ≡ 2 + 2 * n
  counted_later a n is = omega arith

  some : (xs : List ℕ) → holders setup works s c b ≡ xs → Either (steps + (3 - 1)) (steps + (2 - 1)) s item t
  some [] none = absurd (differ (sym (none_owns z.beliefs b c none) ∙ are))
    where
      differ : [] ≡ o ∷ os → ⊥
      differ is = absurd (cc)
  some (first ∷ ds) held = whole first ds held

  pub gets_from_owner : Ends setup works (suc k) (3 + 2 * length hs) s t c item ⊎ EndsAfterRound setup works (suc k) (2 + 2 * length hs) (more s) s t c item
  gets_from_owner =
      subst (λ n. Ends setup works (suc k) (3 + 2 * length hs) s t c item ⊎ EndsAfterRound setup works (suc k) (2 + 2 * length hs) n s t c item) more_is
      (subst (λ n. Ends setup works (suc k) n s t c item ⊎ EndsAfterRound setup works (suc k) (2 + 2 * length hs) (more m) s t c item) (counted steps (length hs) steps_are)
      (subst (λ n. Ends setup works (suc k) (steps + (3 - 1)) s t c item ⊎ EndsAfterRound setup works (suc k) n (more m) s t c item)
      (counted_later steps (length hs) steps_are) (some (holders setup works s c b) refl)))
