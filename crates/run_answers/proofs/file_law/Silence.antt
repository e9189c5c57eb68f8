-- In an event before which its log isn't open a node files nothing, but by the one in which the log that it opens is open.
use Rattle.std.proofs.Common.{◌≡◌, ℕ, true, [], ◌∷◌, ◌++◌, Option, Some, None, refl}
use Rattle.cleaner_job.specs.declared.lasting.Lasting.{Lasting as CleanerLife}
use Rattle.cleaner_node.specs.CleanerEvents as cleaner
use Rattle.cleaner_node.specs.declared.cleaner.Cleaner.{Cleaner}
use Rattle.cleaner_node.specs.declared.cleaner.Phase.{Phase as CleanerPhase}
use Rattle.cleaner_node.specs.declared.cleaner.Phase.TheVariants as cleaning
use Rattle.client_log.specs.LogState.{LogState}
use Rattle.client_node.specs.declared.client.Client.{Client}
use Rattle.client_node.specs.declared.phase.Phase.{Phase}
use Rattle.client_node.specs.declared.phase.Phase.TheVariants.{Down, Opening, Serving as Serves}
use Rattle.client_node.specs.Phases.{Went_to, begins_item, client_has_room, client_tick, down_begins, happens, lasting_of, on_begin, on_deliver, opened_on, opening_begins, phase_after, takes, wish_of}
use Rattle.client_serving.specs.declared.lasting.Lasting.{Lasting}
use Rattle.core_world.specs.declared.any_node.AnyNode.TheVariants as any
use Rattle.log_owner.specs.declared.opened.Progress.{Progress}
use Rattle.log_owner.specs.declared.opened.Progress.TheVariants as progress
use Rattle.log_owner.specs.declared.opening.Opening as openings
use Rattle.log_owner.specs.Opening as opening
use Rattle.log_owner.specs.Opening.{Went}
use Rattle.node_base.specs.Beginning.{answers_unanswered, items_begin, next_item, work_at}
use Rattle.node_base.specs.declared.effects.Effect.{Effect}
use Rattle.node_base.specs.declared.effects.Effect.TheVariants.{Answer as Answers, Does, Lose, Send}
use Rattle.node_base.specs.Shape.{is_well_formed}
use Rattle.node_moves.proofs.registry_moves.Keeping as registry
use Rattle.node_moves.proofs.server_moves.Keeping as server
use Rattle.node_moves.specs.registry_moves.Moves.{Said}
use Rattle.node_moves.specs.registry_moves.Moves.Said.{Acknowledges, AnswersItem, TellsMaps, Welcomes}
use Rattle.registry.specs.BoardState.{BoardState}
use Rattle.registry_node.specs.declared.node.RegistryNode.{RegistryNode}
use Rattle.registry_node.specs.Events.{takes as registry_takes}
use Rattle.store_nodes.specs.declared.server.Server.{Server}
use Rattle.store_nodes.specs.ServerEvents.{takes as server_takes}
use Rattle.version_model.specs.declared.answer.Answer.{Answer}
use Rattle.version_model.specs.declared.answer.Answer.TheVariants as answer
use Rattle.version_model.specs.declared.work.Work.{Work}
use Rattle.version_model.specs.declared.work.Work.TheVariants as work
use Rattle.wire_msg.specs.declared.body.Body.{Body}
use Rattle.wire_msg.specs.declared.packet.Do.{Do}
use Rattle.wire_msg.specs.declared.packet.Do.TheVariants.{Begin, Deliver, Tick}
use Rattle.wire_msg.specs.declared.packet.Packet.{Packet}
use Rattle.xfs_base.proofs.Alls.{all_append, all_weaker}
use Rattle.xfs_base.proofs.Booleans.{by_test}
use Rattle.xfs_base.specs.declared.node.NodeId.{NodeId}
use Rattle.xfs_base.specs.declared.node.NodeId.TheVariants as nodes
use Rattle.xfs_base.specs.Steps.{saying, still}
use Rattle.headline.specs.Filings.{cleaner_opens, client_opens}
use Rattle.headline.specs.Restarts.{cleaners_log, clients_log}
use Rattle.run_answers.proofs.file_law.Acts.{AllFileNone, FilesNone, nothing_filed}
use Rattle.run_answers.proofs.file_law.Owners.{FilesOpenAlone}
use Rattle.run_answers.proofs.file_law.Reading as reading
use Rattle.run_answers.proofs.file_law.Waking.{manager_files}

is_log : (l : LogState) → Some l ≡ None → ⊥
is_log l fact = cc

answered_none : (o : Option ℕ) (a : Answer) → AllFileNone (answers_unanswered o a)
answered_none None a = tt
answered_none (Some item) a = (tt, tt)

cut_none : (o : Option ℕ) (number : ℕ) → AllFileNone (answers_unanswered o answer.Cut ++ Answers number answer.Done ∷ [])
cut_none o number = all_append FilesNone (answers_unanswered o answer.Cut) (Answers number answer.Done ∷ []) (answered_none o answer.Cut) (tt, tt)

-- ---- clients

abbrev ClientFiles : Phase → Went_to → Type 0
ClientFiles p w = clients_log p ≡ None → (client_opens p ≡ true → clients_log w.state ≡ None) → AllFileNone w.outs

opened_files : (l : Lasting) (o : openings.Opening) (capacity : ℕ) (w : Went) → reading.WentSo w → ClientFiles (Opening l o) (opened_on l capacity w)
opened_files l o capacity w so none behind = by w.progress so (behind refl)
  where
    m : Lasting
    m = record l { questions = w.questions }

    by : (p : Progress) → reading.Says p w.effects → clients_log (saying w.effects (phase_after m capacity p)).state ≡ None
        → AllFileNone (saying w.effects (phase_after m capacity p)).outs
    by (progress.Opening r) so after = all_append FilesNone w.effects [] so tt
    by (progress.Opened r) so after = absurd (is_log _ after)
    by (progress.Lost name) so after =
        all_append FilesNone w.effects (answers_unanswered m.items.unanswered (answer.Lost name)) so (answered_none m.items.unanswered (answer.Lost name))

down_files : (servers number : ℕ) (l : Lasting) (wanted : Option Work) → AllFileNone (down_begins servers l number (wish_of wanted)).outs
down_files servers number l None = (tt, tt)
down_files servers number l (Some (work.Restart node)) = (tt, tt)
down_files servers number l (Some (work.Crash node)) = (tt, tt)
down_files servers number l (Some _) = (tt, tt)

opening_files : (l : Lasting) (o : openings.Opening) (number : ℕ) (wanted : Option Work) → AllFileNone (opening_begins l o number (wish_of wanted)).outs
opening_files l o number None = (tt, tt)
opening_files l o number (Some (work.Crash node)) = cut_none l.items.unanswered number
opening_files l o number (Some (work.Restart node)) = (tt, tt)
opening_files l o number (Some _) = (tt, tt)

item_files : (servers : ℕ) (p : Phase) (item : Option ℕ) → ClientFiles p (begins_item servers p item)
item_files servers p None none behind = tt
item_files servers (Down l) (Some number) none behind =
    (let m = record l { items = items_begin l.items } in down_files servers number m (work_at m.items number))
item_files servers (Opening l o) (Some number) none behind =
    (let m = record l { items = items_begin l.items } in opening_files m o number (work_at m.items number))
item_files servers (Serves s) (Some number) none behind = absurd (is_log s.log none)

begin_files : (servers : ℕ) (p : Phase) → ClientFiles p (on_begin servers p)
unfolding on_begin
begin_files servers p = item_files servers p (next_item (lasting_of p).items)

deliver_files : (capacity : ℕ) (p : Phase) (packet : Packet) → ClientFiles p (on_deliver capacity p packet)
unfolding on_deliver
deliver_files capacity (Down l) packet none behind = tt
deliver_files capacity (Opening l o) packet none behind =
    opened_files l o capacity (opening.opening_take o l.questions packet) (reading.packet_so o l.questions packet) none behind
deliver_files capacity (Serves s) packet none behind = absurd (is_log s.log none)

time_files : (capacity : ℕ) (p : Phase) → ClientFiles p (client_tick capacity p)
unfolding client_tick
time_files capacity (Down l) none behind = tt
time_files capacity (Opening l o) none behind =
    opened_files l o capacity (opening.on_tick o l.questions) (reading.tick_so o l.questions) none behind
time_files capacity (Serves s) none behind = absurd (is_log s.log none)

happens_files : (c : Client) (what : Do) → ClientFiles c.phase (happens c what)
happens_files c Begin = begin_files c.peers.servers c.phase
happens_files c (Deliver packet) =
    by_test (ClientFiles c.phase) (is_well_formed c.peers packet) (on_deliver c.cache c.phase packet) (still c.phase)
    (λ _. deliver_files c.cache c.phase packet) (λ _ none behind. tt)
happens_files c Tick = time_files c.cache c.phase

client_files : (c : Client) (what : Do) → ClientFiles c.phase (takes c what)
client_files c what =
    by_test (ClientFiles c.phase) (client_has_room c) (happens c what) (still c.phase) (λ _. happens_files c what) (λ _ none behind. tt)

-- ---- the cleaner

abbrev CleanerFiles : CleanerPhase → cleaner.Went_to → Type 0
CleanerFiles p w = cleaners_log p ≡ None → (cleaner_opens p ≡ true → cleaners_log w.state ≡ None) → AllFileNone w.outs

chain_files : (l : CleanerLife) (o : openings.Opening) (w : Went) → reading.WentSo w → CleanerFiles (cleaning.Opening l o) (cleaner.opened_on l w)
unfolding cleaner.after_opening
chain_files l o w so none behind = by w.progress so (behind refl)
  where
    m : CleanerLife
    m = record l { questions = w.questions }

    by : (p : Progress) → reading.Says p w.effects → cleaners_log (saying w.effects (cleaner.after_opening m p)).state ≡ None
        → AllFileNone (saying w.effects (cleaner.after_opening m p)).outs
    by (progress.Opening r) so after = all_append FilesNone w.effects [] so tt
    by (progress.Opened r) so after = absurd (is_log _ after)
    by (progress.Lost name) so after =
        all_append FilesNone w.effects (answers_unanswered m.items.unanswered (answer.Lost name)) so (answered_none m.items.unanswered (answer.Lost name))

down_wishes : (servers number : ℕ) (l : CleanerLife) (wanted : Option Work) → AllFileNone (cleaner.down_wishes servers l number (cleaner.wish_of wanted)).outs
unfolding cleaner.restart
down_wishes servers number l None = (tt, tt)
down_wishes servers number l (Some (work.Restart node)) = (tt, tt)
down_wishes servers number l (Some (work.Crash node)) = (tt, tt)
down_wishes servers number l (Some (work.Clean count)) = (tt, tt)
down_wishes servers number l (Some _) = (tt, tt)

opening_wishes : (l : CleanerLife) (o : openings.Opening) (number : ℕ) (wanted : Option Work)
    → AllFileNone (cleaner.opening_wishes l o number (cleaner.wish_of wanted)).outs
unfolding cleaner.crash
opening_wishes l o number None = (tt, tt)
opening_wishes l o number (Some (work.Crash node)) = cut_none l.items.unanswered number
opening_wishes l o number (Some (work.Restart node)) = (tt, tt)
opening_wishes l o number (Some (work.Clean count)) = (tt, tt)
opening_wishes l o number (Some _) = (tt, tt)

cleaner_begins : (servers : ℕ) (p : CleanerPhase) → CleanerFiles p (cleaner.on_begin servers p)
unfolding cleaner.on_begin
cleaner_begins servers (cleaning.Down l) none behind = by (next_item l.items)
  where
    m : CleanerLife
    m = cleaner.begun_life l

    by : (item : Option ℕ) → AllFileNone (cleaner.down_at servers m item).outs
    by None = tt
    by (Some number) = down_wishes servers number m (work_at m.items number)
cleaner_begins servers (cleaning.Opening l o) none behind = by (next_item l.items)
  where
    m : CleanerLife
    m = cleaner.begun_life l

    by : (item : Option ℕ) → AllFileNone (cleaner.opening_at m o item).outs
    by None = tt
    by (Some number) = opening_wishes m o number (work_at m.items number)
cleaner_begins servers (cleaning.Serving e) none behind = absurd (is_log e.log none)

cleaner_hears : (p : CleanerPhase) (packet : Packet) → CleanerFiles p (cleaner.cleaner_hear p packet)
unfolding cleaner.cleaner_hear
cleaner_hears (cleaning.Down l) packet none behind = tt
cleaner_hears (cleaning.Opening l o) packet none behind =
    chain_files l o (opening.opening_take o l.questions packet) (reading.packet_so o l.questions packet) none behind
cleaner_hears (cleaning.Serving e) packet none behind = absurd (is_log e.log none)

cleaner_time : (p : CleanerPhase) → CleanerFiles p (cleaner.on_time p)
unfolding cleaner.on_time
cleaner_time (cleaning.Down l) none behind = tt
cleaner_time (cleaning.Opening l o) none behind = chain_files l o (opening.on_tick o l.questions) (reading.tick_so o l.questions) none behind
cleaner_time (cleaning.Serving e) none behind = absurd (is_log e.log none)

cleaner_happens : (c : Cleaner) (what : Do) → CleanerFiles c.phase (cleaner.happens c.peers c.phase what)
unfolding cleaner.on_deliver
cleaner_happens c Begin = cleaner_begins c.peers.servers c.phase
cleaner_happens c (Deliver packet) =
    by_test (CleanerFiles c.phase) (is_well_formed c.peers packet) (cleaner.cleaner_hear c.phase packet) (still c.phase)
    (λ _. cleaner_hears c.phase packet) (λ _ none behind. tt)
cleaner_happens c Tick = cleaner_time c.phase

cleaner_files : (c : Cleaner) (what : Do) → CleanerFiles c.phase (cleaner.takes c.peers c.phase what)
cleaner_files c what =
    by_test (CleanerFiles c.phase) (cleaner.phase_has_room c.phase) (cleaner.happens c.peers c.phase what) (still c.phase) (λ _. cleaner_happens c what)
    (λ _ none behind. tt)

-- ---- servers and the registry

abbrev Any : NodeId → Body → Type 0
Any to said = Unit {0}

server_none : (e : Effect) → server.Says Any e → FilesNone e
server_none (Send to said) says = tt
server_none (Answers item a) says = tt
server_none (Lose name) says = tt
server_none (Does a) says = absurd says

server_files : (v : Server) (what : Do) → AllFileNone (server_takes v what).outs
server_files v what =
    all_weaker (server.Says Any) FilesNone server_none (server_takes v what).outs (server.event_says v what Any (λ s to said sent. tt))

registry_none : (r : RegistryNode) (what : Do) (now : BoardState) (e : Effect) → Said r what now e → FilesNone e
registry_none r what now e (TellsMaps to) = tt
registry_none r what now e (Welcomes packet m came room same) = tt
registry_none r what now e (Acknowledges packet m epoch came) = tt
registry_none r what now e (AnswersItem number epoch) = tt

-- ---- all of them

pub files_open : FilesOpenAlone
files_open (any.Client c) what none behind = nothing_filed (nodes.Client (lasting_of c.phase).number) (takes c what).outs (client_files c what none behind)
files_open (any.Manager m) what none behind = manager_files m what none
files_open (any.Server v) what none behind = nothing_filed (nodes.Server v.number) (server_takes v what).outs (server_files v what)
files_open (any.Cleaner c) what none behind = nothing_filed nodes.Cleaner (cleaner.takes c.peers c.phase what).outs (cleaner_files c what none behind)
files_open (any.Registry r) what none behind = nothing_filed nodes.Registry (registry_takes r what).outs (registry.event_says r what FilesNone (registry_none r what))
