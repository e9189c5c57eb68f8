-- An owner of a log that has its turn leaves room: no number of what was in flight is at its end, but that after the end of the log.
use Rattle.std.proofs.Common.{◌≡◌, ◌⊎◌, ⊎_elim, ◌+◌, ◌≤◌, ℕ, Bool, true, false, refl, sym, ap, subst, ◌∙◌, inl, inr, arith}
use Rattle.std.specs.Prelude.{◌&&◌, if◌then◌else◌}
use Rattle.std.specs.List.{list_all}
use Rattle.std.proofs.lemmas.Bool.Decides.{nat_tests}
use Rattle.node_logs.specs.cleaner_log_tie.Owner.{CleanerAgrees, its_number}
use Rattle.node_logs.specs.cleaner_log_tie.OwnerEvents.{OwnerGoes}
use Rattle.cleaner_node.specs.CleanerEvents as cleaner_events
use Rattle.cleaner_node.specs.declared.cleaner.Cleaner.{Cleaner as CleanerNode}
use Rattle.cleaner_node.specs.declared.cleaner.Phase.{Phase as CleanerPhase}
use Rattle.cleaner_node.specs.declared.cleaner.Phase.TheVariants as cleaners
use Rattle.cleaner_job.specs.Lasting.{lasting_has_room}
use Rattle.client_log.specs.LogState.{LogState}
use Rattle.client_log.specs.Transition.{has_next}
use Rattle.node_logs.specs.client_log_tie.ClientEvents.{ClientGoes, FliesInBoot}
use Rattle.node_logs.specs.client_log_tie.Owner.{Scene, ClientAgrees, SeesStage}
use Rattle.client_node.specs.declared.client.Client.{Client as ClientNode}
use Rattle.client_node.specs.declared.phase.Phase.TheVariants as clients
use Rattle.client_node.specs.declared.phase.Phase.{Phase}
use Rattle.client_node.specs.Phases.{client_has_room, client_step, happens, lasting_of, phase_has_room, takes}
use Rattle.client_node.specs.Room.{tokens_room}
use Rattle.log_law.specs.Events.{Runs}
use Rattle.log_law.specs.Laws.{Moment}
use Rattle.log_law.specs.Net.{Net, Owner}
use Rattle.log_law.specs.Net.Owner.{Down, Opening, Writing, Serving}
use Rattle.log_law.specs.Openings.{AllHaveNext, FliesNext, next_number}
use Rattle.log_owner.specs.declared.known.Known.{Known}
use Rattle.log_owner.specs.declared.opening.Stage as stages
use Rattle.log_owner.specs.declared.opening.Stage.TheVariants as stage
use Rattle.log_owner.specs.Opening.{attempt_of, log_has_room, opening_has_room, stage_has_room}
use Rattle.log_protocol.specs.Tables.{In}
use Rattle.log_scan.specs.ScanState.{ScanState}
use Rattle.log_tie.specs.Setting.{Setting}
use Rattle.node_base.specs.Room.{has_room}
use Rattle.segment_format.specs.declared.segment.Segment.{Segment}
use Rattle.wire_msg.specs.declared.packet.Do.{Do}
use Rattle.run_laws.specs.world_logs.Standing.{IsRoomy}
use Rattle.xfs_base.proofs.Booleans.{and_first, and_second}
use Rattle.xfs_base.specs.Steps.{still}

room_next : (k n : ℕ) → has_room k ≡ true → n ≤ k + 1 → has_next n ≡ true
room_next k n room le = grind (arith, nat_tests)

first_next : (n : ℕ) → n ≤ 0 → has_next n ≡ true
first_next n none = grind (arith, nat_tests)

-- the numbers up to the one after the end have one after them
abbrev pub NextFits : Net → Type 0
NextFits n = (k : ℕ) → k ≤ next_number n.owner → has_next k ≡ true

log_next : (s : LogState) → log_has_room s ≡ true → (k : ℕ) → k ≤ s.end.seq + 1 → has_next k ≡ true
log_next s room k le = room_next s.end.seq k (and_first (has_room s.end.seq) (has_room (attempt_of s.flight)) room) le

-- ---- the owner's turn

-- after it the owner is the same, or the numbers up to the one after its end before have one after them
module _ (law : FliesNext) (g : Setting) (n o : Net) (at : Moment g n) (run : Runs g n o) (flies : FliesInBoot n o) (owner : (o.owner ≡ n.owner) ⊎ NextFits n)
    (room : IsRoomy n) where
  abbrev Fits : Segment → Type 0
  Fits s = (has_next s.name.seq ≡ true) ⊎ (s.name.seq ≤ next_number o.owner)

  kept : (s : Segment) → (o.owner ≡ n.owner) ⊎ NextFits n → s.name.seq ≤ next_number n.owner → Fits s
  kept s (inl same) low = inr (let e = ap next_number same in omega arith)
  kept s (inr fits) low = inl (fits s.name.seq low)

  old : (s : Segment) → In s n.flown → Fits s
  old s was = ⊎_elim (λ has. inl has) (λ low. kept s owner low) (room s was)

  pub turn_leaves_room : IsRoomy o
  turn_leaves_room s among = ⊎_elim (λ boot. ⊎_elim (old s) (λ low. inr low) (law g n o at run boot s among)) (λ same. old s (subst (In s) same.0 among)) flies

-- an opening that scans has room
pub scan_has_room : (n : Net) (s : ScanState) → n.owner ≡ Opening s → IsRoomy n → AllHaveNext n
scan_has_room n s fact room x among = ⊎_elim (λ has. has) (λ low. first_next x.name.seq (let e = ap next_number fact in omega arith)) (room x among)

-- ---- whose owner is the one of its phase

abbrev owner_at : stages.Stage → Owner
owner_at (stage.Scanning s) = Opening s.scan
owner_at (stage.Settling s) = Writing s.chain s.log

abbrev owner_by : Phase → Owner
owner_by (clients.Down l) = Down
owner_by (clients.Opening l o) = owner_at o.stage
owner_by (clients.Serving s) = Serving s.log

stage_next : (at : stages.Stage) → stage_has_room at ≡ true → (k : ℕ) → k ≤ next_number (owner_at at) → has_next k ≡ true
stage_next (stage.Scanning s) room k le = first_next k le
stage_next (stage.Settling s) room k le = log_next s.log room k le

phase_next : (p : Phase) → phase_has_room p ≡ true → (k : ℕ) → k ≤ next_number (owner_by p) → has_next k ≡ true
phase_next (clients.Down l) room k le = first_next k le
phase_next (clients.Opening l o) room k le =
    stage_next o.stage (and_second (list_all has_room o.known.promised.epochs) (stage_has_room o.stage) (and_second (has_room o.known.maps.version) _ room)) k le
phase_next (clients.Serving s) room k le =
    log_next s.log
    (and_first (log_has_room s.log) (tokens_room s)
    (and_second (has_room s.tokens.req) (log_has_room s.log && tokens_room s) (and_second (has_room s.maps.version) _ room))) k le

module _ (g : Setting) (c : ℕ) (w : Scene) where
  stage_owner : (k : Known) (last : ℕ) (at : stages.Stage) → SeesStage g c w k last at → w.net.owner ≡ owner_at at
  stage_owner k last (stage.Scanning s) sees = sees.owner
  stage_owner k last (stage.Settling s) sees = sees.owner

  its_owner : (p : Phase) → ClientAgrees g c w p → w.net.owner ≡ owner_by p
  its_owner (clients.Down l) sees = sees.1
  its_owner (clients.Opening l o) sees = stage_owner o.known l.questions.last o.stage sees.1
  its_owner (clients.Serving s) sees = sees.1.owner

pub client_leaves_room : FliesNext → (g : Setting) (c : ℕ) (w : Scene) → Moment g w.net → (node : ClientNode) (what : Do) → ClientAgrees g c w node.phase
    → (go : ClientGoes g c w (client_step node what)) → IsRoomy w.net → IsRoomy go.next.net
client_leaves_room law g c w at node what sees go room =
    turn_leaves_room law g w.net go.next.net at go.grown.runs go.flies (by (client_has_room node) refl) room
  where
    by : (t : Bool) → client_has_room node ≡ t → (go.next.net.owner ≡ w.net.owner) ⊎ NextFits w.net
    by true e = inr (λ k le.
        phase_next node.phase
        (and_second (has_room (lasting_of node.phase).questions.last) (phase_has_room node.phase) (and_second (has_room (lasting_of node.phase).inc) _ e)) k
        (let same = ap next_number (its_owner g c w node.phase sees) in omega arith))
    by false e =
        let same : (takes node what).state ≡ node.phase = ap (λ t. (if t then happens node what else still node.phase).state) e in
        inl (its_owner g c go.next node.phase (subst (ClientAgrees g c go.next) same go.agrees) ∙ sym (its_owner g c w node.phase sees))

-- ---- the cleaner

abbrev cleaner_by : CleanerPhase → Owner
cleaner_by (cleaners.Down l) = Down
cleaner_by (cleaners.Opening l o) = owner_at o.stage
cleaner_by (cleaners.Serving e) = Serving e.log

cleaner_next : (p : CleanerPhase) → cleaner_events.phase_has_room p ≡ true → (k : ℕ) → k ≤ next_number (cleaner_by p) → has_next k ≡ true
cleaner_next (cleaners.Down l) room k le = first_next k le
cleaner_next (cleaners.Opening l o) room k le =
    stage_next o.stage
    (and_second (list_all has_room o.known.promised.epochs) (stage_has_room o.stage)
    (and_second (has_room o.known.maps.version) _ (and_second (lasting_has_room l) (opening_has_room o) room))) k le
cleaner_next (cleaners.Serving e) room k le =
    log_next e.log
    (and_first (log_has_room e.log) (list_all has_room e.promised.epochs)
    (and_second (has_room e.maps.version) (log_has_room e.log && list_all has_room e.promised.epochs) (and_second (lasting_has_room e.lasting) _ room))) k le

cleaner_owner : (g : Setting) (w : Scene) (p : CleanerPhase) → CleanerAgrees g w p → w.net.owner ≡ cleaner_by p
cleaner_owner g w (cleaners.Down l) sees = sees.1
cleaner_owner g w (cleaners.Opening l o) sees = stage_owner g its_number w o.known l.questions.last o.stage sees.sees
cleaner_owner g w (cleaners.Serving e) sees = sees.log.owner

pub cleaner_leaves_room : FliesNext → (g : Setting) (w : Scene) → Moment g w.net → (node : CleanerNode) (what : Do) → CleanerAgrees g w node.phase
    → (go : OwnerGoes g w (cleaner_events.cleaner_step node what)) → IsRoomy w.net → IsRoomy go.next.net
cleaner_leaves_room law g w at node what sees go room =
    turn_leaves_room law g w.net go.next.net at go.grown.runs go.flies (by (cleaner_events.phase_has_room node.phase) refl) room
  where
    by : (t : Bool) → cleaner_events.phase_has_room node.phase ≡ t → (go.next.net.owner ≡ w.net.owner) ⊎ NextFits w.net
    by true e = inr (λ k le. cleaner_next node.phase e k (let same = ap next_number (cleaner_owner g w node.phase sees) in omega arith))
    by false e =
        let same : (cleaner_events.takes node.peers node.phase what).state ≡ node.phase =
        ap (λ t. (if t then cleaner_events.happens node.peers node.phase what else still node.phase).state) e in
        inl (cleaner_owner g go.next node.phase (subst (CleanerAgrees g go.next) same go.agrees) ∙ sym (cleaner_owner g w node.phase sees))
