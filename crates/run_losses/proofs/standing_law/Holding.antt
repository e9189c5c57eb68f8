-- At a moment that stands to the small worlds: what is known of a manager that takes a slot over, of the parts that its news name, and of a client that serves.
use Rattle.std.proofs.Common.{◌≡◌, ◌⊎◌, ⊎_elim, ℕ, zero, suc, ◌<◌, ◌≤◌, List, [], ◌∷◌, Option, None, Some, refl, sym, ap, subst, ◌∙◌, arith}
use Rattle.std.specs.List.{AllByRecursion}
use Rattle.client_node.specs.declared.phase.Phase.{Phase as ClientPhase}
use Rattle.client_node.specs.declared.phase.Phase.TheVariants as clients
use Rattle.client_serving.specs.declared.serving.Serving.{Serving as ClientServing}
use Rattle.core_world.specs.declared.any_node.AnyNode.{AnyNode}
use Rattle.core_world.specs.declared.any_node.AnyNode.TheVariants as any
use Rattle.headline.specs.Reads.{serving_at, serving_in, serving_of}
use Rattle.headline.specs.Indexes.{of_log}
use Rattle.manager_node.specs.declared.manager.Manager.{Manager as ManagerNode}
use Rattle.manager_node.specs.declared.phase.Phase.{Phase}
use Rattle.manager_node.specs.declared.phase.Phase.TheVariants.{Down, Waiting, Serving as Serves}
use Rattle.manager_slots.specs.declared.slot_phase.SlotPhase.{SlotPhase}
use Rattle.manager_slots.specs.declared.slot_phase.SlotPhase.TheVariants as phase
use Rattle.manager_slots.specs.declared.slot_phase.Taking.{Taking}
use Rattle.node_slots.specs.node_index_tie.ManagerEvents as places
use Rattle.node_slots.specs.node_index_tie.Pages.{desk_of}
use Rattle.headline.specs.Managers.{phase_at, slot_in}
use Rattle.node_tellings.specs.part_tie.ManagerNames.{PhaseNames, SlotNames}
use Rattle.node_tellings.specs.part_tie.Names.{Known}
use Rattle.takeover.specs.declared.source.Present.{Present}
use Rattle.headline.specs.Takeovers.{slot_at, slot_of}
use Rattle.token_protocol.specs.Basics.{In}
use Rattle.run_losses.proofs.torn_law.Counts.{cluster_at}
use Rattle.world_base.specs.Cluster.{cluster_of, place_of}
use Rattle.world_base.specs.declared.cluster.Cluster.{Cluster}
use Rattle.world_base.specs.declared.estate.Estate.{Estate}
use Rattle.run_laws.proofs.world_law.Places.{behind}
use Rattle.run_laws.proofs.world_law.Sent.{in_list}
use Rattle.run_laws.specs.world_law.Standing.{members}
use Rattle.headline.specs.Moments.{moment, node_in}
use Rattle.headline.specs.Logs.{IsThere}
use Rattle.headline.specs.Logs.Role.{OfManager}
use Rattle.run_laws.proofs.world_reads.EntriesSources.{ReadsFiled, ReadsPart, reads_there}
use Rattle.run_laws.proofs.world_reads.KnownLogs.{filed_known}
use Rattle.run_laws.proofs.world_reads.ManagerOwed.{one_among}
use Rattle.run_laws.specs.world_reads.Entries.{PartsNamed}
use Rattle.run_laws.specs.world_reads.Joint.{Joint, k}
use Rattle.run_laws.specs.world_reads.LoggedRuns.{LoggedRun}
use Rattle.xfs_base.specs.declared.node.NodeId.TheVariants.{Client, Manager}
use Rattle.xfs_base.specs.declared.segment.SegRef.{SegRef}
use Rattle.run_losses.proofs.standing_law.Lowest.{IsLow, part_or_low}

-- ---- what is there

away_takes_not : (t : Taking) → phase.Away 0 ≡ phase.Taking t → ⊥
away_takes_not t fact = absurd cc

-- a manager that takes a slot over is one of the setup
pub is_manager : (e : Estate AnyNode) (j slot count : ℕ) (t : Taking) → slot_at e j slot count ≡ phase.Taking t
    → IsThere e.script.setup.clients e.script.setup.managers (OfManager j)
is_manager e j slot count t fact = by (place_of (cluster_of e.script.setup) (Manager j)) refl
  where
    cl : Cluster
    cl = cluster_of e.script.setup

    at : slot_of slot (node_in (moment e count).nodes (place_of (cluster_of e.script.setup) (Manager j))) ≡ phase.Taking t
    at = sym (ap (λ c. slot_of slot (node_in (moment e count).nodes (place_of c (Manager j)))) (cluster_at e count)) ∙ fact

    by : (o : Option ℕ) → place_of (cluster_of e.script.setup) (Manager j) ≡ o → IsThere e.script.setup.clients e.script.setup.managers (OfManager j)
    by None none = absurd (away_takes_not t (sym (ap (λ o. slot_of slot (node_in (moment e count).nodes o)) none) ∙ at))
    by (Some p) some = (let b = behind e.script.setup.clients e.script.setup.managers j p some in (b.some, b.within))

same_manager : (a b : ManagerNode) → Some (any.Manager a) ≡ Some (any.Manager b) → a ≡ b
same_manager a b fact = cc

at_slot : (P : SlotPhase → Type 0) (table : List SlotPhase) (slot : ℕ) (t : Taking) → AllByRecursion P table → phase_at table slot ≡ phase.Taking t
    → P (phase.Taking t)
at_slot P [] slot t all fact = absurd (away_takes_not t fact)
at_slot P (p ∷ table) zero t all fact = subst P fact all.0
at_slot P (p ∷ table) (suc slot) t all fact = at_slot P table slot t all.1 fact

-- the parts that its news name are known
named_of : (known : Known) (p : Phase) (slot : ℕ) (t : Taking) → PhaseNames known p → slot_in slot p ≡ phase.Taking t → AllByRecursion known t.take.news.parts
named_of known (Serves s) slot t names fact = at_slot (SlotNames known) s.slots slot t names.slots fact
named_of known (Down kept) slot t names fact = absurd (away_takes_not t fact)
named_of known (Waiting kept hello) slot t names fact = absurd (away_takes_not t fact)

module _ (logged : LoggedRun) (part count : ℕ) (b : Joint logged part count) where
  open logged use {estate as e, texts}

  abbrev cl : Cluster
  cl = k logged part

  -- ---- a manager that takes the slot over

  module _ (j : ℕ) (is_there : IsThere e.script.setup.clients e.script.setup.managers (OfManager j)) (t : Taking)
      (fact : slot_at e j part count ≡ phase.Taking t) where
    node_there : node_in (moment e count).nodes (place_of cl (Manager j)) ≡ Some (any.Manager (b.idx.manager j))
    node_there = b.index_stands.placed.managers j is_there.0 is_there.1

    slot_there : slot_in part (b.idx.manager j).phase ≡ phase.Taking t
    slot_there =
        sym (ap (slot_of part) (ap (λ c. node_in (moment e count).nodes (place_of c (Manager j))) (cluster_at e count) ∙ node_there)) ∙ fact

    take_agrees : (p : Phase) → places.ManagerAgrees part texts.text b.idx.net p → slot_in part p ≡ phase.Taking t
        → places.TakingAgrees part texts.text b.idx.net t.epoch t.take
    take_agrees (Serves s) a at = subst (places.PhaseAgrees part texts.text b.idx.net (desk_of s a.0.given)) at a.0.here
    take_agrees (Down kept) a at = absurd (away_takes_not t at)
    take_agrees (Waiting kept hello) a at = absurd (away_takes_not t at)

    agrees : places.TakingAgrees part texts.text b.idx.net t.epoch t.take
    agrees = take_agrees (b.idx.manager j).phase (b.index_stands.managers j is_there.0 is_there.1) slot_there

    -- nobody manages the slot in the epoch, which has begun
    pub nobody_yet : b.idx.net.slots t.epoch ≡ None
    nobody_yet = subst (λ x. b.idx.net.slots x ≡ None) agrees.of_epoch agrees.known.free

    pub has_begun : t.epoch ≤ b.idx.net.epoch
    has_begun = subst (λ x. x ≤ b.idx.net.epoch) agrees.of_epoch agrees.known.begun

    -- what it reads is a part that its news name, or was filed
    pub part_or_filed : (p : Present) → t.take.present ≡ Some p → ReadsPart t.take.news.parts p.source ⊎ ReadsFiled b.idx.net.filed p.source
    part_or_filed p reads =
        (reads_there part texts.text b.idx.net (filed_known logged part count b).filed
        (filed_known logged part count b).texts_of t.epoch t.take agrees p reads).lies

    -- and a part, or of a log that is read down to the horizon
    part_or_log : (p : Present) → t.take.present ≡ Some p
        → ReadsPart t.take.news.parts p.source ⊎ IsLow part texts.text b.idx.net t.epoch t.take agrees p.source
    part_or_log p reads = part_or_low part texts.text b.idx.net t.epoch t.take agrees p reads

    -- so where it is no part, its number is at the horizon or above
    pub horizon_below : (p : Present) → t.take.present ≡ Some p → (ReadsPart t.take.news.parts p.source → ⊥) → (l : ℕ) → p.source.seg.name.log.0 ≡ l
        → (seq : ℕ) → p.source.low ≤ seq → of_log (b.idx.net.horizon t.epoch) l ≤ seq
    horizon_below p reads no_part l own seq above =
        ⊎_elim (λ part. absurd (no_part part))
        (λ (low : IsLow part texts.text b.idx.net t.epoch t.take agrees p.source). subst (λ x. of_log (b.idx.net.horizon t.epoch) x ≤ seq)
        (sym low.own ∙ own) (let same = low.low in omega arith)) (part_or_log p reads)

    -- each part is a segment of a manager's log
    pub parts_known : (known : Known) → PartsNamed known (moment e count).nodes (moment e count).sent → (ref : SegRef) → In ref t.take.news.parts → known ref
    parts_known known named ref among =
        one_among known t.take.news.parts ref
        (named_of known (b.idx.manager j).phase part t (named.holds (any.Manager (b.idx.manager j)) in_nodes) slot_there) among
      where
        in_nodes : In (any.Manager (b.idx.manager j)) (moment e count).nodes
        in_nodes = by (place_of cl (Manager j)) node_there
          where
            by : (o : Option ℕ) → node_in (moment e count).nodes o ≡ Some (any.Manager (b.idx.manager j))
                → In (any.Manager (b.idx.manager j)) (moment e count).nodes
            by None at = absurd cc
            by (Some place) at = in_list (moment e count).nodes place (any.Manager (b.idx.manager j)) at

  -- ---- a client that serves

  pub record ServesThere (c : ℕ) (s : ClientServing) : Type 0 where
    pub some : 0 < c
    pub less : c < members cl part
    pub serves : (b.tok.client c).phase ≡ clients.Serving s

  pub serves_there : (c : ℕ) (s : ClientServing) → serving_at e c count ≡ Some s → ServesThere c s
  serves_there c s fact = by (place_of cl (Client c)) refl
    where
      at : serving_of (node_in (moment e count).nodes (place_of cl (Client c))) ≡ Some s
      at = sym (ap (λ x. serving_of (node_in (moment e count).nodes (place_of x (Client c)))) (cluster_at e count)) ∙ fact

      none_serves : None ≡ Some s → ⊥
      none_serves clash = absurd cc

      same_serving : (x y : ClientServing) → Some x ≡ Some y → x ≡ y
      same_serving x y same = cc

      phase_is : (p : ClientPhase) → serving_in p ≡ Some s → p ≡ clients.Serving s
      phase_is (clients.Down l) serves = absurd (none_serves serves)
      phase_is (clients.Opening l o) serves = absurd (none_serves serves)
      phase_is (clients.Serving v) serves = ap clients.Serving (same_serving v s serves)

      by : (o : Option ℕ) → place_of cl (Client c) ≡ o → ServesThere c s
      by None none = absurd (none_serves (sym (ap (λ o. serving_of (node_in (moment e count).nodes o)) none) ∙ at))
      by (Some p) there =
          let f = behind 0 cl.clients c p there in
          let less : c < members cl part = (let limit = f.within in omega arith) in
          record {
            some = f.some;
            less = less;
            serves = phase_is (b.tok.client c).phase (sym (ap serving_of (b.tokens_stand.placed.clients c f.some less)) ∙ at);
          }
