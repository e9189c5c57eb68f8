-- What a manager has applied of logs, and what its checkpoints cover, keeps to any bounds that are to hold.
use Rattle.std.proofs.Common.{[], ◌∷◌}
use Rattle.log_owner.specs.Sending.{server_in}
use Rattle.manager_node.specs.declared.phase.Phase.{Phase}
use Rattle.manager_node.specs.declared.phase.Phase.TheVariants.{Down, Waiting, Serving as Serves}
use Rattle.manager_serving.specs.declared.serving.Serving.{Serving}
use Rattle.node_moves.proofs.manager_walk.Events.{AwaitedSo, DoSo, PacketSo, PhaseFlies, PhaseSo}
use Rattle.node_moves.proofs.manager_walk.Laws.{IsPlain, Walk, said_any}
use Rattle.node_moves.proofs.manager_walk.Serving.{Hears, any_answer}
use Rattle.token_manager.specs.Transition as slot
use Rattle.wire_msg.specs.declared.body.Body.{Body}
use Rattle.wire_msg.specs.declared.body.Body.TheVariants as body
use Rattle.wire_msg.specs.declared.packet.Do.{Do}
use Rattle.wire_msg.specs.declared.packet.Do.TheVariants.{Begin, Deliver, Tick}
use Rattle.wire_msg.specs.declared.packet.Packet.{Packet}
use Rattle.xfs_base.proofs.Alls.{all_append}
use Rattle.xfs_base.specs.declared.node.NodeId.{NodeId}
use Rattle.manager_serving.specs.Serving.{fed_log}
use Rattle.node_tellings.specs.filed_tie.Bounds.{BodyBounded, Bounds, DoBounded, KnownBounded, NewsBounded, PacketBounded, PhaseBounded, ReportBounded, WorkBounded}
use Rattle.node_tellings.proofs.filed_tie.Bounding.{Bounding}
use Rattle.node_tellings.proofs.filed_tie.Slots.{slot_goes}

module _ (b : Bounds) (laws : Bounding b) (node : NodeId) where
  pub plain_bounded : (said : Body) → IsPlain said → BodyBounded b node said
  plain_bounded (body.Deltas m) is = absurd is
  plain_bounded (body.Report m) is = absurd is
  plain_bounded (body.CkptDone m) is = absurd is
  plain_bounded (body.MapNews m) is = absurd is
  plain_bounded (body.Welcome m) is = absurd is
  plain_bounded _ is = tt

  abbrev pub walk : Walk
  walk = record {
    Ranges = λ log upto rows. b.told log upto;
    Reported = λ from end. b.told (fed_log from) end.seq;
    News = λ news. NewsBounded b news;
    Completes = λ s ask server t. Unit {0};
    Managed = λ k a. b.applied k a.slot.epoch a.slot.applied;
    Taken = λ k news index chain reports. KnownBounded b k news.epoch news.horizon reports;
    Read = λ rows. Unit {0};
    Handed = λ k epoch index applied. b.applied k epoch applied;
    Granted = λ block entry. Unit {0};
    Work = λ it. WorkBounded b it;
    Items = λ items. Unit {0};
    Done = λ k epoch parts horizon. b.horizon k epoch horizon;
    Log = λ s. Unit {0};
    Flies = λ l flight. Unit {0};
    Settles = λ l end. Unit {0};
    Tells = λ said. BodyBounded b node said;
    takes = λ k a given told h. slot_goes b laws k a.slot given told h;
    says = λ k a given told h. said_any (λ block entry. Unit {0}) (λ block entry. tt) (slot.transition a.slot given).outs;
    finds = λ k a block h. tt;
    named = λ k a epoch parts horizon told h. h;
    clears = λ k a h. h;
    begins = λ k a h. laws.covers k a.slot.epoch a.slot h;
    starts = λ news told. record { covered = told; reported = tt };
    heard = λ k news index chain reports report told h. record {
      covered = h.covered;
      reported = all_append (ReportBounded b) reports (report ∷ []) h.reported (told, tt);
    };
    reads = λ s ask server t p r segment owed here fact completes. tt;
    chained = λ k news index chain reports rows new h. h;
    joins = λ k news index chain reports h. h;
    hands = λ k s h. laws.begins k s.news.epoch s.news.horizon s.reports h;
    managed = λ k epoch index beliefs applied h. h;
    gives = λ it h. tt;
    left = λ it h. h;
    done = λ it h. h;
    parted = λ l it end fact h. h;
    settles = λ l f fact. tt;
    writes = λ s items fact h. tt;
    hears = λ s given is h. tt;
    fresh = λ s clear flight. tt;
    idle = λ l. tt;
    grants = λ m fact. tt;
    lives = λ m fact. tt;
    tells_done = λ m told. told;
    plain = λ said is. plain_bounded said is;
  }

  -- ---- what stands is what is bounded

  pub stands : (p : Phase) → PhaseBounded b p → PhaseSo walk p
  stands (Down life) h = tt
  stands (Waiting life hello) h = tt
  stands (Serves s) h = record { slots = h.slots; work = h.writer; job = h.checkpoint; log = tt }

  pub bounded : (p : Phase) → PhaseSo walk p → PhaseBounded b p
  bounded (Down life) h = tt
  bounded (Waiting life hello) h = tt
  bounded (Serves s) h = record { slots = h.slots; writer = h.work; checkpoint = h.job }

  pub flies : (p : Phase) → PhaseFlies walk p
  flies (Down life) = tt
  flies (Waiting life hello) = tt
  flies (Serves s) = tt

  -- ---- what is known of what comes

  hears : (s : Serving) (from : NodeId) (said : Body) → BodyBounded b from said → Hears walk s from said
  hears s from (body.Deltas m) told = told
  hears s from (body.Report m) told = told
  hears s from (body.Fragment m) told = any_answer walk (λ take ask server t. tt) s (server_in from) m.ask _
  hears s from (body.Missing m) told = any_answer walk (λ take ask server t. tt) s (server_in from) m.ask _
  hears s from (body.MapNews m) told = told
  hears s from (body.Welcome m) told = told
  hears s from _ told = tt

  awaited : (from : NodeId) (said : Body) → BodyBounded b from said → AwaitedSo walk said
  awaited from (body.Welcome m) told = told
  awaited from _ told = tt

  packet_so : (p : Phase) (packet : Packet) → PacketBounded b packet → PacketSo walk p packet
  packet_so (Down life) packet told = tt
  packet_so (Waiting life hello) packet told = awaited packet.from packet.body told
  packet_so (Serves s) packet told = hears s packet.from packet.body told

  pub known : (p : Phase) (what : Do) → DoBounded b what → DoSo walk p what
  known p Begin told = tt
  known p (Deliver packet) told = packet_so p packet told
  known p Tick told = tt
