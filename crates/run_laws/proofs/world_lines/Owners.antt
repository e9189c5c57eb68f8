-- An owner's own event: near the end of a counter it does nothing, else the numbers of what it files have one after them; and its line goes on.
use Rattle.std.proofs.Common.{◌≡◌, ⊎_elim, ◌+◌, ◌≤◌, ℕ, true, List, [], ◌∷◌, inl, inr, refl, sym, ap, subst, ◌∙◌, arith}
use Rattle.std.specs.Prelude.{◌&&◌}
use Rattle.std.specs.List.{list_all}
use Rattle.std.proofs.lemmas.Bool.Decides.{nat_tests}
use Rattle.node_logs.specs.cleaner_log_tie.Owner as cleaner_log
use Rattle.cleaner_node.specs.CleanerEvents as cleaners
use Rattle.cleaner_node.specs.declared.cleaner.Phase.{Phase as CleanerPhase}
use Rattle.cleaner_node.specs.declared.cleaner.Phase.TheVariants as cleaning
use Rattle.cleaner_job.specs.Lasting.{lasting_has_room}
use Rattle.client_log.specs.LogState.{LogState}
use Rattle.client_log.specs.Transition.{has_next}
use Rattle.node_logs.specs.client_log_tie.Owner.{Scene, ClientAgrees, SeesStage}
use Rattle.client_node.specs.declared.phase.Phase.TheVariants as client
use Rattle.client_node.specs.declared.phase.Phase.{Phase}
use Rattle.client_node.specs.Phases as clients
use Rattle.client_node.specs.Room.{tokens_room}
use Rattle.headline.specs.Filed.{Filed, Texts}
use Rattle.index_tie.specs.Net as index
use Rattle.log_law.specs.Ends.{EndsAreLast}
use Rattle.log_law.specs.Laws.{LogsStayWhole}
use Rattle.log_law.specs.Net.{Net, Owner}
use Rattle.log_law.specs.Net.Owner.{Down, Opening, Serving, Writing}
use Rattle.log_law.specs.Openings.{NothingFiledOpening, next_number}
use Rattle.log_owner.specs.Opening.{attempt_of, log_has_room, opening_has_room, stage_has_room}
use Rattle.log_owner.specs.declared.known.Known.{Known}
use Rattle.log_owner.specs.declared.opening.Opening.{Opening as Openings}
use Rattle.log_owner.specs.declared.opening.Stage as stages
use Rattle.log_owner.specs.declared.opening.Stage.TheVariants as stage
use Rattle.log_protocol.specs.Tables.{In}
use Rattle.log_tie.specs.Setting.{Setting}
use Rattle.node_base.specs.Effects.{acts_of}
use Rattle.node_base.specs.Room.{has_room}
use Rattle.node_base.specs.declared.effects.Effect.{Effect}
use Rattle.node_base.specs.declared.effects.Effect.TheVariants.{Send, Answer, Lose, Does}
use Rattle.node_slots.proofs.owner_index_tie.Acting.{all_then}
use Rattle.node_slots.specs.owner_index_tie.CleanerEvents as cleaner_index
use Rattle.node_slots.specs.owner_index_tie.ClientEvents as client_index
use Rattle.node_slots.specs.owner_index_tie.Filing.{filed_after}
use Rattle.token_protocol.specs.Basics as basics
use Rattle.version_model.specs.declared.act.Act.{Act}
use Rattle.version_model.specs.declared.act.Act.TheVariants.{Filed as ActsFiled}
use Rattle.xfs_base.proofs.Booleans.{and_first, and_second, by_test}
use Rattle.xfs_base.specs.Steps.{still}
use Rattle.xfs_base.specs.declared.node.NodeId.{NodeId}
use Rattle.xfs_base.specs.declared.segment.SegName.{SegName}
use Rattle.xfs_base.specs.Logs.{cleaners_number}
use Rattle.run_laws.proofs.world_lines.Turns.{lines_go_on}
use Rattle.run_laws.specs.world_lines.Lines.{IsLine}
use Rattle.run_laws.specs.world_lines.Owners.{ActsAreDone, CleanerFilesShort, CleanersLineGoesOn, ClientsFileShort, ClientsLinesGoOn, HasFlown, InBootFilesStill, IsRoomy}
use Rattle.run_laws.specs.world_lines.Turns.{ActSo, AllSo}

-- ---- acts

module _ (So : SegName → Type 0) where
  act_done : (act : Act) → ((name : SegName) → act ≡ ActsFiled name → So name) → ActSo So act
  act_done (ActsFiled name) so = so name refl
  act_done _ so = tt

  done_so : (node : NodeId) (outs : List Effect) → ((name : SegName) → basics.In (ActsFiled name) (acts_of node outs) → So name) → AllSo So outs
  done_so node [] so = tt
  done_so node (Send to m ∷ outs) so = (tt, done_so node outs so)
  done_so node (Answer item answer ∷ outs) so = (tt, done_so node outs (λ name fact. so name (inr fact)))
  done_so node (Lose seg ∷ outs) so = (tt, done_so node outs (λ name fact. so name (inr fact)))
  done_so node (Does act ∷ outs) so = (act_done act (λ name fact. so name (inl (sym fact))), done_so node outs (λ name fact. so name (inr fact)))

pub acts_are_done : ActsAreDone
acts_are_done n node outs so = done_so (λ name. In name n.filed) node outs so

-- ---- numbers

-- the numbers up to the one after the end have one after them
abbrev pub NextFits : Owner → Type 0
NextFits o = (k : ℕ) → k ≤ next_number o → has_next k ≡ true

pub short_all : (n : Net) → IsRoomy n → NextFits n.owner → (outs : List Effect) → AllSo (HasFlown n) outs → AllSo (λ name. has_next name.seq ≡ true) outs
short_all n room fits outs =
    all_then (HasFlown n) (λ name. has_next name.seq ≡ true)
    (λ name h. subst (λ (x : SegName). has_next x.seq ≡ true) h.2 (⊎_elim (λ has. has) (fits h.0.name.seq) (room h.0 h.1))) outs

first_next : (k : ℕ) → k ≤ 0 → has_next k ≡ true
first_next k none = grind (arith, nat_tests)

room_next : (k n : ℕ) → has_room k ≡ true → n ≤ k + 1 → has_next n ≡ true
room_next k n room le = grind (arith, nat_tests)

log_next : (s : LogState) → log_has_room s ≡ true → (k : ℕ) → k ≤ s.end.seq + 1 → has_next k ≡ true
log_next s room k le = room_next s.end.seq k (and_first (has_room s.end.seq) (has_room (attempt_of s.flight)) room) le

-- whose owner is the one of its phase
abbrev owner_at : stages.Stage → Owner
owner_at (stage.Scanning s) = Opening s.scan
owner_at (stage.Settling s) = Writing s.chain s.log

stage_next : (at : stages.Stage) → stage_has_room at ≡ true → NextFits (owner_at at)
stage_next (stage.Scanning s) room k le = first_next k le
stage_next (stage.Settling s) room k le = log_next s.log room k le

opening_next : (o : Openings) → opening_has_room o ≡ true → NextFits (owner_at o.stage)
opening_next o room =
    stage_next o.stage (and_second (list_all has_room o.known.promised.epochs) (stage_has_room o.stage) (and_second (has_room o.known.maps.version) _ room))

module _ (g : Setting) (c : ℕ) (w : Scene) where
  stage_fits : (k : Known) (last : ℕ) (at : stages.Stage) → SeesStage g c w k last at → NextFits (owner_at at) → NextFits w.net.owner
  stage_fits k last (stage.Scanning s) sees fits = subst NextFits (sym sees.owner) fits
  stage_fits k last (stage.Settling s) sees fits = subst NextFits (sym sees.owner) fits

  pub client_fits : (p : Phase) → ClientAgrees g c w p → clients.phase_has_room p ≡ true → NextFits w.net.owner
  client_fits (client.Down l) sees room = subst NextFits (sym sees.1) first_next
  client_fits (client.Opening l o) sees room = stage_fits o.known l.questions.last o.stage sees.1 (opening_next o room)
  client_fits (client.Serving s) sees room = subst NextFits (sym sees.1.owner)
      (log_next s.log
      (and_first (log_has_room s.log) (tokens_room s)
      (and_second (has_room s.tokens.req) (log_has_room s.log && tokens_room s) (and_second (has_room s.maps.version) _ room))))

pub cleaner_fits : (g : Setting) (w : Scene) (p : CleanerPhase) → cleaner_log.CleanerAgrees g w p → cleaners.phase_has_room p ≡ true → NextFits w.net.owner
cleaner_fits g w (cleaning.Down l) sees room = subst NextFits (sym sees.1) first_next
cleaner_fits g w (cleaning.Opening l o) sees room =
    stage_fits g cleaner_log.its_number w o.known l.questions.last o.stage sees.sees
    (opening_next o (and_second (lasting_has_room l) (opening_has_room o) room))
cleaner_fits g w (cleaning.Serving e) sees room = subst NextFits (sym sees.log.owner)
    (log_next e.log
    (and_first (log_has_room e.log) (list_all has_room e.promised.epochs)
    (and_second (has_room e.maps.version) (log_has_room e.log && list_all has_room e.promised.epochs) (and_second (lasting_has_room e.lasting) _ room))))

pub clients_file_short : ClientsFileShort
clients_file_short g c w node what sees room =
    by_test (λ (t : clients.Went_to). AllSo (HasFlown w.net) t.outs → AllSo (λ name. has_next name.seq ≡ true) t.outs) (clients.client_has_room node)
    (clients.happens node what) (still node.phase)
    (λ has. short_all w.net room
    (client_fits g c w node.phase sees
    (and_second (has_room (clients.lasting_of node.phase).questions.last) (clients.phase_has_room node.phase)
    (and_second (has_room (clients.lasting_of node.phase).inc) _ has))) (clients.happens node what).outs)
    (λ _ none. tt)

pub cleaner_files_short : CleanerFilesShort
cleaner_files_short g w node what sees room =
    by_test (λ (t : cleaners.Went_to). AllSo (HasFlown w.net) t.outs → AllSo (λ name. has_next name.seq ≡ true) t.outs) (cleaners.phase_has_room node.phase)
    (cleaners.happens node.peers node.phase what) (still node.phase)
    (λ has. short_all w.net room (cleaner_fits g w node.phase sees has) (cleaners.happens node.peers node.phase what).outs) (λ _ none. tt)

-- ---- lines

pub in_boot_files_still : NothingFiledOpening → InBootFilesStill
in_boot_files_still unfiled g n o at run flies none = ⊎_elim (λ same. unfiled g n o at run same none) (λ rests. rests.1) flies

-- the end of an owner that serves is that of the phase
log_end : (o : Owner) (s t : LogState) → o ≡ Serving t → o ≡ Serving s → s ≡ t
log_end o s t a b = (let e : Serving t ≡ Serving s = sym a ∙ b in cc)

module _ (part : ℕ) (texts : Texts) (g : Setting) where
  client_end : (c : ℕ) (v : Scene) (n : index.Net) (p : Phase) → ClientAgrees g c v p → client_index.ClientAgrees part texts n c p → (s : LogState)
      → v.net.owner ≡ Serving s → s.end.seq ≡ n.filed.head c
  client_end c v n (client.Down l) sees agrees s fact = absurd (let e : Down ≡ Serving s = sym sees.1 ∙ fact in cc)
  client_end c v n (client.Opening l o) sees agrees s fact = absurd (up o.known l.questions.last o.stage sees.1)
    where
      up : (k : Known) (last : ℕ) (at : stages.Stage) → SeesStage g c v k last at → ⊥
      up k last (stage.Scanning x) at = (let e : Opening x.scan ≡ Serving s = sym at.owner ∙ fact in absurd cc)
      up k last (stage.Settling x) at = (let e : Writing x.chain x.log ≡ Serving s = sym at.owner ∙ fact in absurd cc)
  client_end c v n (client.Serving t) sees agrees s fact =
      ap (λ (x : LogState). x.end.seq) (log_end v.net.owner s t.log sees.1.owner fact) ∙ agrees.0.end.seq

  cleaner_end : (v : Scene) (n : index.Net) (p : CleanerPhase) → cleaner_log.CleanerAgrees g v p → cleaner_index.PhaseAgrees part n texts p → (s : LogState)
      → v.net.owner ≡ Serving s → s.end.seq ≡ n.filed.head cleaners_number
  cleaner_end v n (cleaning.Down l) sees agrees s fact = absurd (let e : Down ≡ Serving s = sym sees.1 ∙ fact in cc)
  cleaner_end v n (cleaning.Opening l o) sees agrees s fact = absurd (up o.known l.questions.last o.stage sees.sees)
    where
      up : (k : Known) (last : ℕ) (at : stages.Stage) → SeesStage g cleaner_log.its_number v k last at → ⊥
      up k last (stage.Scanning x) at = (let e : Opening x.scan ≡ Serving s = sym at.owner ∙ fact in absurd cc)
      up k last (stage.Settling x) at = (let e : Writing x.chain x.log ≡ Serving s = sym at.owner ∙ fact in absurd cc)
  cleaner_end v n (cleaning.Serving t) sees agrees s fact =
      ap (λ (x : LogState). x.end.seq) (log_end v.net.owner s t.log sees.log.owner fact) ∙ agrees.0.owner.end.seq

module _ (whole : LogsStayWhole) (last : EndsAreLast) where
  pub clients_lines_go_on : ClientsLinesGoOn
  clients_lines_go_on part texts g c w v n node what run files sure sees acts line goes =
      let outs = (clients.takes node what).outs in
      let filed : goes.next.filed ≡ filed_after texts c n.filed outs = ap (λ (x : index.Net). x.filed) goes.only_files in
      subst (IsLine c v.net) (sym filed) (lines_go_on whole last texts c g w.net v.net n.filed outs line (record {
        run = run;
        sure = sure;
        acts = acts;
        end = λ s fact.
            client_end part texts g c v goes.next (clients.takes node what).state sees goes.agrees s fact ∙ ap (λ (f : Filed). f.head c) filed;
        still = files;
      }))

  pub cleaners_line_goes_on : CleanersLineGoesOn
  cleaners_line_goes_on part texts asked g w v n node what run files sure sees acts line goes =
      let outs = (cleaners.takes node.peers node.phase what).outs in
      subst (IsLine cleaners_number v.net) (sym goes.filed) (lines_go_on whole last texts cleaners_number g w.net v.net n.filed outs line (record {
        run = run;
        sure = sure;
        acts = acts;
        end = λ s fact.
            cleaner_end part texts g v goes.next (cleaners.takes node.peers node.phase what).state sees goes.agrees.phase s fact
            ∙ ap (λ (f : Filed). f.head cleaners_number) goes.filed;
        still = files;
      }))
