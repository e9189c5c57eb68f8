-- The scene from which a line goes on as if the owner of a block had given it up before: the want is answered there as it really is, and all nodes then are the same.
use Rattle.std.proofs.Common.{◌-◌, ◌≡◌, ℕ, ◌<◌, ◌≤◌, ◌==◌, Bool, true, false, cond, nat_lt, List, [], ◌∷◌, refl, sym, ap, ◌∙◌, arith}
use Rattle.std.proofs.lemmas.Bool.Decides.{nat_tests}
use Rattle.std.proofs.lemmas.List.{get_or-set_other}
use Rattle.core_world.specs.declared.any_node.AnyNode.{AnyNode}
use Rattle.core_world.specs.declared.any_node.AnyNode.TheVariants as any
use Rattle.manager_node.specs.Events.{manager_step}
use Rattle.slot_beliefs.specs.declared.job.Wanted.{Wanted}
use Rattle.slot_beliefs.specs.Recalls.{applied_of}
use Rattle.token_manager.specs.declared.input.In.TheVariants as input
use Rattle.token_manager.specs.declared.output.Out.{Out}
use Rattle.token_manager.specs.SlotState.{SlotState}
use Rattle.token_manager.specs.Transition.{slot_finish, transition, with_deltas, is_dropped, passers, want_of}
use Rattle.version_model.specs.declared.work.Work.{Work}
use Rattle.wire_msg.specs.declared.body.Body.{Body}
use Rattle.wire_msg.specs.declared.packet.Do.TheVariants.{Deliver}
use Rattle.wire_msg.specs.declared.packet.Packet.{Packet}
use Rattle.xfs_base.specs.declared.block.BlockId.{BlockId}
use Rattle.xfs_base.specs.declared.entry.Entry.{Entry}
use Rattle.xfs_base.specs.declared.node.NodeId.{NodeId}
use Rattle.xfs_base.specs.declared.node.NodeId.TheVariants.{Client, Manager, Cleaner, Registry, Server}
use Rattle.xfs_base.specs.declared.setup.Setup.{Setup}
use Rattle.xfs_base.specs.declared.token.Mode.{Mode}
use Rattle.quiet_nodes.specs.Layers.{with_pieces}
use Rattle.quiet_nodes.specs.Moves.{Moves}
use Rattle.quiet_nodes.specs.Scene.{ClientPart, Scene, client_at, manager_at, node_at, put_number, with_client, with_slot, manager_of_slot, managing_at, phase_at}
use Rattle.quiet_nodes.proofs.Managing.{want_comes}
use Rattle.quiet_nodes.proofs.Moving.{moves_none}
use Rattle.quiet_nodes.proofs.Rooms.{HaveTurns, manager_room, turns_put}
use Rattle.quiet_nodes.proofs.Tests.{not_lt_test, other_test, same_test}
use Rattle.quiet_nodes.proofs.Turns.{slot_takes}
use Rattle.quiet_gives.proofs.OwnerFacts as own
use Rattle.quiet_gives.proofs.OwnerFacts.{IsOwners}
use Rattle.manager_node.specs.declared.phase.Phase.TheVariants as managing
use Rattle.manager_slots.specs.declared.slot_phase.SlotPhase.{SlotPhase}
use Rattle.manager_slots.specs.declared.slot_phase.SlotPhase.TheVariants as phase
use Rattle.manager_slots.specs.Slots.{managed}
use Rattle.slot_beliefs.specs.Beliefs.{others}
use Rattle.world_base.specs.Cluster.{HasNode}
use Rattle.quiet_nodes.proofs.Eight.{eight_same}
use Rattle.quiet_gives.proofs.Recalls.{want_finishes}
use Rattle.quiet_gives.proofs.OwnerLayers.{answers_quietly}
use Rattle.quiet_gives.proofs.OwnerWay as way

module _ (setup : Setup) (works : NodeId → List Work) (k : ℕ) (s : Scene) (c o : ℕ) (b : BlockId) (mode : Mode) (g : IsOwners setup works k s c o b mode)
    (asked : ClientPart) where
  abbrev i : ℕ
  i = way.i setup works k s c o b mode g asked

  abbrev j : ℕ
  j = way.j setup works k s c o b mode g asked

  abbrev z : SlotState
  z = way.z setup works k s c o b mode g asked

  abbrev req : ℕ
  req = way.req setup works k s c o b mode g asked

  abbrev end : ℕ
  end = way.end setup works k s c o b mode g asked

  abbrev w : Wanted
  w = way.w setup works k s c o b mode g asked

  abbrev keep : Bool
  keep = way.keep setup works k s c o b mode g asked

  abbrev seq : ℕ
  seq = way.seq setup works k s c o b mode g asked

  abbrev rows : ℕ → List (BlockId × Entry)
  rows = way.rows setup works k s c o b mode g asked

  abbrev zj : SlotState
  zj = way.zj setup works k s c o b mode g asked

  abbrev z1 : SlotState
  z1 = way.z1 setup works k s c o b mode g asked

  abbrev zg : SlotState
  zg = way.zg setup works k s c o b mode g asked

  abbrev zf : SlotState
  zf = way.zf setup works k s c o b mode g asked

  abbrev q : ClientPart
  q = way.q setup works k s c o b mode g asked

  abbrev says : List Out
  says = way.says setup works k s c o b mode g asked

  abbrev sent : List Packet
  sent = way.sent setup works k s c o b mode g asked

  abbrev rest : List Packet
  rest = way.rest setup works k s c o b mode g asked

  abbrev want_packet : Packet
  want_packet = way.want_packet setup works k s c o b mode g asked

  abbrev want_is : Body
  want_is = way.want_is setup works k s c o b mode g asked

  abbrev s9 : Scene
  s9 = way.s9 setup works k s c o b mode g asked

  abbrev told_base : Scene
  told_base = way.told_base setup works k s c o b mode g asked

  -- ---- as if the owner had given it up before

  abbrev pub slot_then : ℕ → SlotState
  slot_then x = with_deltas (s.slot x) (record { 0 = o }) seq (rows x)

  -- the scene from which that is so
  abbrev pub m : Scene
  m = record { client = put_number s.client o q; slot = put_number slot_then i zg; held = with_pieces setup works s.held (way.f setup works k s c o b mode g asked) (way.ms setup works k s c o b mode g asked) 0 }

  abbrev pub last : Scene
  last = with_slot (with_client m c asked) i zf

  m_at : m.slot i ≡ zg
  m_at = ap (λ t. cond t zg (slot_then i)) (same_test i)

  applied_c : applied_of zg.applied c ≡ applied_of z.applied c
  applied_c = get_or-set_other z.applied (o - 1) (c - 1) seq 0 (λ same. g.differ (apart c o g.asker.0 g.owner.0 same))
    where
      apart : (a e : ℕ) → 1 ≤ a → 1 ≤ e → a - 1 ≡ e - 1 → e ≡ a
      apart a e l h same = omega arith

  all_applied : nat_lt (applied_of zg.applied c) end ≡ false
  all_applied =
      (let same = applied_c in let square = (g.drained.square c i g.asker.0 g.asker.1 (way.within setup works k s c o b mode g asked)).applied in not_lt_test (applied_of zg.applied c) end (omega arith))

  dropped_not : is_dropped zg w end ≡ false
  dropped_not = rw (g.wants, all_applied) refl

  m_turns : HaveTurns m.slot
  m_turns = turns_put slot_then i zg (λ x less. record { epoch = (way.turns setup works k s c o b mode g asked x less).epoch; turn = (way.turns setup works k s c o b mode g asked x less).turn }) (record { epoch = (way.its_turns setup works k s c o b mode g asked).epoch; turn = (way.its_turns setup works k s c o b mode g asked).turn })

  module _ (none : others zg.beliefs b c keep ≡ []) where
    finishes_so : transition (m.slot i) (input.Want (want_of c b 1 req 0 mode) end) ≡ slot_finish zg w
    finishes_so =
        ap (λ y. transition y (input.Want (want_of c b 1 req 0 mode) end)) m_at ∙ want_finishes c 1 req end b mode zg dropped_not none (own.more_turns setup works k s c o b mode g)

    answers_so : manager_step (manager_at setup works j m.slot) (Deliver want_packet) ≡ (way.with_acts setup works k s c o b mode g asked) (put_number m.slot i zf) []
    answers_so =
        want_comes setup works j c 0 m.slot (record { block = b; inc = 1; req = req; again = 0; mode = mode; end = end }) (way.within setup works k s c o b mode g asked)
        (same_test j) (manager_room setup works j m.slot m_turns) (own.has_asker setup works k s c o b mode g) zf says finishes_so
        ∙ ap ((way.as_gave setup works k s c o b mode g asked) (put_number m.slot i zf)) (ap (λ (y : SlotState). y.epoch) m_at)
        ∙ ap ((way.with_acts setup works k s c o b mode g asked) (put_number m.slot i zf)) (answers_quietly j i z.epoch zg w (passers zg w))

    pub as_if : Moves setup works (with_client m c asked) (want_packet ∷ []) rest [] last
    as_if = slot_takes setup works (with_client m c asked) i zf last (Client c) want_is sent [] [] [] [] (way.there setup works k s c o b mode g asked) answers_so (moves_none setup works last)

  -- ---- both scenes have the same nodes

  clients_same : (e : ℕ) → s9.client e ≡ last.client e
  clients_same e =
      elim (e == o) as (λ t. (e == o) ≡ t → cond t q (cond (e == c) asked (s.client e)) ≡ cond (e == c) asked (cond t q (s.client e))) [
        | true ↦ λ same. ap (λ t. cond t asked q) (sym (other_test e c (λ is. g.differ (sym (equal e o same) ∙ is))))
        | false ↦ λ _. refl
      ] refl
    where
      equal : (a e : ℕ) → (a == e) ≡ true → a ≡ e
      equal a e h = grind (arith, nat_tests)

  slots_same : (x : ℕ) → x < 8 → s9.slot x ≡ last.slot x
  slots_same x less =
      elim (x == i) as (λ t. (x == i) ≡ t → cond t zf (cond t z1 (told_base.slot x)) ≡ cond t zf (cond t zg (slot_then x))) [
        | true ↦ λ _. refl
        | false ↦ λ other. (way.told_at setup works k s c o b mode g asked) x less ∙ ap (λ t. with_deltas (cond t zj (s.slot x)) (record { 0 = o }) seq (rows x)) other
      ] refl

  pub alike : (other : NodeId) → HasNode setup other → node_at setup works s9 other ≡ node_at setup works last other
  alike (Client e) has = ap (λ part. any.Client (client_at setup works e part)) (clients_same e)
  alike (Manager n) has = ap with_table (eight_same (phase_at setup works s9.slot n) (phase_at setup works last.slot n) phases)
    where
      with_table : List SlotPhase → AnyNode
      with_table slots = any.Manager (record (manager_at setup works n s9.slot) { phase = managing.Serving (record (managing_at setup works n s9.slot) { slots = slots }) })

      phases : (x : ℕ) → x < 8 → phase_at setup works s9.slot n x ≡ phase_at setup works last.slot n x
      phases x less = ap (λ y. cond (manager_of_slot setup works x == n) (managed y) (phase.Away 1)) (slots_same x less)
  alike (Server v) has = refl
  alike Cleaner has = refl
  alike Registry has = refl
