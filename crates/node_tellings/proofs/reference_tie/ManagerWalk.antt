-- Each part of a checkpoint that a manager keeps and tells, and each end that was reported to it, is what references of any kind say.
use Rattle.std.proofs.Common.{List, [], ◌∷◌}
use Rattle.log_owner.specs.Sending.{server_in}
use Rattle.manager_node.specs.declared.phase.Phase.{Phase}
use Rattle.manager_node.specs.declared.phase.Phase.TheVariants.{Down, Waiting, Serving as Serves}
use Rattle.manager_serving.specs.declared.serving.Serving.{Serving}
use Rattle.node_moves.proofs.manager_walk.Events.{AwaitedSo, DoSo, PacketSo, PhaseFlies, PhaseSo}
use Rattle.node_moves.proofs.manager_walk.Laws.{IsPlain, Walk, said_any}
use Rattle.node_moves.proofs.manager_walk.Serving.{Hears, any_answer}
use Rattle.node_moves.proofs.SlotPhases.{numbered, unnumbered}
use Rattle.token_manager.specs.Transition as slot
use Rattle.wire_msg.specs.declared.body.Body.{Body}
use Rattle.wire_msg.specs.declared.body.Body.TheVariants as body
use Rattle.wire_msg.specs.declared.packet.Do.{Do}
use Rattle.wire_msg.specs.declared.packet.Do.TheVariants.{Begin, Deliver, Tick}
use Rattle.wire_msg.specs.declared.packet.Packet.{Packet}
use Rattle.xfs_base.proofs.Alls.{all_append}
use Rattle.xfs_base.specs.declared.node.NodeId.{NodeId}
use Rattle.checkpoint.specs.declared.plan.Plan.{Plan}
use Rattle.checkpoint.specs.Plan.{plan_of, writes_all}
use Rattle.checkpoint.specs.Transition as writer
use Rattle.client_log.specs.Transition.{end_of}
use Rattle.index_pages.specs.Pages.{PagesState, all_rows, changed_rows}
use Rattle.log_flight.specs.Flights.{FlightState}
use Rattle.slot_beliefs.specs.Index.{pages_of}
use Rattle.std.proofs.Common.{length}
use Rattle.std.specs.Prelude.{IfSome}
use Rattle.xfs_base.proofs.Booleans.{by_test}
use Rattle.xfs_base.specs.declared.segment.SegRef.{SegRef}
use Rattle.node_tellings.specs.reference_tie.Managers.{KnownRefers, PhaseFlies as FliesRefers, PhaseRefers, ReportRefers, SlotRefers, WorkRefers}
use Rattle.node_tellings.specs.reference_tie.References.{BodyRefers, DoRefers, NewsRefer, PacketRefers, PartsRefer, References}

module _ (refs : References) (node : NodeId) where
  pub plain_refers : (said : Body) → IsPlain said → BodyRefers refs node said
  plain_refers (body.Report m) is = absurd is
  plain_refers (body.CkptDone m) is = absurd is
  plain_refers (body.MapNews m) is = absurd is
  plain_refers (body.Welcome m) is = absurd is
  plain_refers _ is = tt

  -- a checkpoint that is begun names again what the one before it named
  pub plan_refers : (pages : PagesState) (parts : List SegRef) → PartsRefer refs parts → PartsRefer refs (plan_of pages parts).parts
  plan_refers pages parts h =
      by_test (λ (p : Plan). PartsRefer refs p.parts) (writes_all (length parts)) (record { pages = all_rows pages; parts = [] })
      (record { pages = changed_rows pages; parts = parts }) (λ _. tt) (λ _. h)

  abbrev pub walk : Walk
  walk = record {
    Ranges = λ log upto rows. Unit {0};
    Reported = λ from end. refs.end from end;
    News = λ news. NewsRefer refs news;
    Completes = λ s ask server t. Unit {0};
    Managed = λ k a. PartsRefer refs a.parts;
    Taken = λ k news index chain reports. KnownRefers refs news.parts reports;
    Read = λ rows. Unit {0};
    Handed = λ k epoch index applied. Unit {0};
    Granted = λ block entry. Unit {0};
    Work = λ it. WorkRefers refs it;
    Items = λ items. Unit {0};
    Done = λ k epoch parts horizon. PartsRefer refs parts;
    Log = λ s. Unit {0};
    Flies = λ l flight. IfSome flight (λ (f : FlightState). refs.part (writer.part_at l (end_of f.segment)));
    Settles = λ l end. refs.part (writer.part_at l end);
    Tells = λ said. BodyRefers refs node said;
    takes = λ k a given told h. h;
    says = λ k a given told h. said_any (λ block entry. Unit {0}) (λ block entry. tt) (slot.transition a.slot given).outs;
    finds = λ k a block h. tt;
    named = λ k a epoch parts horizon told h. told;
    clears = λ k a h. h;
    begins = λ k a h. plan_refers (pages_of a.slot.index) a.parts h;
    starts = λ news told. record { parts_refer = told; reported = tt };
    heard = λ k news index chain reports report told h. record {
      parts_refer = h.parts_refer;
      reported = all_append (ReportRefers refs) reports (report ∷ []) h.reported (told, tt);
    };
    reads = λ s ask server t p r segment owed here fact completes. tt;
    chained = λ k news index chain reports rows new h. h;
    joins = λ k news index chain reports h. h;
    hands = λ k s h. tt;
    managed = λ k epoch index beliefs applied h. tt;
    gives = λ it h. tt;
    left = λ it h. h;
    done = λ it h. h;
    parted = λ l it end fact h. all_append refs.part it.parts (writer.part_at l end ∷ []) h (fact, tt);
    settles = λ l f fact. fact;
    writes = λ s items fact h. tt;
    hears = λ s given is h. tt;
    fresh = λ s clear flight. tt;
    idle = λ l. tt;
    grants = λ m fact. tt;
    lives = λ m fact. tt;
    tells_done = λ m told. told;
    plain = λ said is. plain_refers said is;
  }

  -- ---- what stands is what refers so

  pub stands : (p : Phase) → PhaseRefers refs p → PhaseSo walk p
  stands (Down life) h = tt
  stands (Waiting life hello) h = tt
  stands (Serves s) h = record { slots = numbered (SlotRefers refs) 0 s.slots h.slots; work = h.writer; job = h.checkpoint; log = tt }

  pub refers : (p : Phase) → PhaseSo walk p → PhaseRefers refs p
  refers (Down life) h = tt
  refers (Waiting life hello) h = tt
  refers (Serves s) h = record { slots = unnumbered (SlotRefers refs) 0 s.slots h.slots; writer = h.work; checkpoint = h.job }

  pub flies : (p : Phase) → FliesRefers refs p → PhaseFlies walk p
  flies (Down life) h = tt
  flies (Waiting life hello) h = tt
  flies (Serves s) h = h

  -- ---- what is known of what comes

  hears : (s : Serving) (from : NodeId) (said : Body) → BodyRefers refs from said → Hears walk s from said
  hears s from (body.Deltas m) told = tt
  hears s from (body.Report m) told = told
  hears s from (body.Fragment m) told = any_answer walk (λ take ask server t. tt) s (server_in from) m.ask _
  hears s from (body.Missing m) told = any_answer walk (λ take ask server t. tt) s (server_in from) m.ask _
  hears s from (body.MapNews m) told = told
  hears s from (body.Welcome m) told = told
  hears s from _ told = tt

  awaited : (from : NodeId) (said : Body) → BodyRefers refs from said → AwaitedSo walk said
  awaited from (body.Welcome m) told = told
  awaited from _ told = tt

  packet_so : (p : Phase) (packet : Packet) → PacketRefers refs packet → PacketSo walk p packet
  packet_so (Down life) packet told = tt
  packet_so (Waiting life hello) packet told = awaited packet.from packet.body told
  packet_so (Serves s) packet told = hears s packet.from packet.body told

  pub known : (p : Phase) (what : Do) → DoRefers refs what → DoSo walk p what
  known p Begin told = tt
  known p (Deliver packet) told = packet_so p packet told
  known p Tick told = tt
