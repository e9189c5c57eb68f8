-- While a client opens its log, its restart is open.
use Rattle.std.proofs.Common.{◌≡◌, ℕ, List, Option, Some, None, refl, ◌∙◌}
use Rattle.client_node.specs.declared.client.Client.{Client}
use Rattle.client_node.specs.declared.phase.Phase.{Phase}
use Rattle.client_node.specs.declared.phase.Phase.TheVariants.{Down, Opening, Serving as Serves}
use Rattle.client_node.specs.Phases.{Went_to, phase_after, begins_item, client_has_room, down_begins, happens, item_begins, lasting_of, on_begin, on_deliver, client_tick, opened_on, opening_begins, serving_begins, takes, wish_of, with_begun}
use Rattle.client_serving.specs.declared.lasting.Lasting.{Lasting}
use Rattle.client_serving.specs.declared.serving.Serving.{Serving}
use Rattle.core_world.specs.AnyNode.{any_start, any_step}
use Rattle.core_world.specs.declared.any_node.AnyNode.{AnyNode}
use Rattle.core_world.specs.declared.any_node.AnyNode.TheVariants as any
use Rattle.log_owner.specs.declared.opened.Progress.{Progress}
use Rattle.log_owner.specs.declared.opened.Progress.TheVariants as progress
use Rattle.log_owner.specs.declared.opening.Opening as openings
use Rattle.log_owner.specs.Opening as opening
use Rattle.log_owner.specs.Opening.{Went}
use Rattle.node_base.specs.Beginning.{items_begin, next_item, work_at}
use Rattle.node_base.specs.Shape.{is_well_formed}
use Rattle.version_model.specs.declared.work.Work.{Work}
use Rattle.version_model.specs.declared.work.Work.TheVariants as work
use Rattle.wire_msg.specs.declared.packet.Do.{Do}
use Rattle.wire_msg.specs.declared.packet.Do.TheVariants.{Begin, Deliver, Tick}
use Rattle.wire_msg.specs.declared.packet.Packet.{Packet}
use Rattle.world_base.specs.declared.estate.Estate.{Estate}
use Rattle.world_base.specs.Events.{node_of, what_of}
use Rattle.xfs_base.proofs.Booleans.{by_test}
use Rattle.xfs_base.specs.declared.node.NodeId.{NodeId}
use Rattle.xfs_base.specs.declared.node.NodeId.TheVariants as nodes
use Rattle.xfs_base.specs.Steps.{saying, still}
use Rattle.run_answers.proofs.linear_law.Moments.{AllSo, each_so}
use Rattle.run_answers.proofs.once_law.Items.{begun_open}
use Rattle.headline.specs.Moments.{moment}

-- where it opens its log, an item is open
abbrev pub HasRestart : Phase → Type 0
HasRestart (Down l) = Unit {0}
HasRestart (Opening l o) = (item : ℕ) × (l.items.unanswered ≡ Some item)
HasRestart (Serves s) = Unit {0}

-- ---- one event

opened_has : (l : Lasting) (capacity : ℕ) (w : Went) → (item : ℕ) × (l.items.unanswered ≡ Some item) → HasRestart (opened_on l capacity w).state
opened_has l capacity w has = by w.progress
  where
    by : (p : Progress) → HasRestart (saying w.effects (phase_after (record l { questions = w.questions }) capacity p)).state
    by (progress.Opening r) = has
    by (progress.Opened r) = tt
    by (progress.Lost name) = tt

down_has : (servers : ℕ) (l : Lasting) (number : ℕ) (wanted : Option Work) → HasRestart (down_begins servers l number (wish_of wanted)).state
down_has servers l number None = tt
down_has servers l number (Some (work.Crash node)) = tt
down_has servers l number (Some (work.Restart node)) = (number, refl)
down_has servers l number (Some _) = tt

opening_has : (l : Lasting) (o : openings.Opening) (number : ℕ) (wanted : Option Work) → (item : ℕ) × (l.items.unanswered ≡ Some item)
    → HasRestart (opening_begins l o number (wish_of wanted)).state
opening_has l o number None has = has
opening_has l o number (Some (work.Crash node)) has = tt
opening_has l o number (Some (work.Restart node)) has = has
opening_has l o number (Some _) has = has

serving_has : (s : Serving) (number : ℕ) (wanted : Option Work) → HasRestart (serving_begins s number (wish_of wanted)).state
serving_has s number None = tt
serving_has s number (Some (work.Crash node)) = tt
serving_has s number (Some (work.Restart node)) = tt
serving_has s number (Some _) = tt

item_has : (servers : ℕ) (p : Phase) (number : ℕ) (wanted : Option Work) → HasRestart p
    → HasRestart (item_begins servers (with_begun p) number (wish_of wanted)).state
item_has servers (Down l) number wanted has = down_has servers (record l { items = items_begin l.items }) number wanted
item_has servers (Opening l o) number wanted has =
    opening_has (record l { items = items_begin l.items }) o number wanted (has.0, begun_open l.items ∙ has.1)
item_has servers (Serves s) number wanted has =
    serving_has (record s { lasting = record s.lasting { items = items_begin s.lasting.items } }) number wanted

begin_has : (servers : ℕ) (p : Phase) → HasRestart p → HasRestart (on_begin servers p).state
unfolding on_begin
begin_has servers p has = by (next_item (lasting_of p).items)
  where
    by : (o : Option ℕ) → HasRestart (begins_item servers p o).state
    by None = has
    by (Some number) = item_has servers p number (work_at (lasting_of (with_begun p)).items number) has

deliver_has : (capacity : ℕ) (p : Phase) (packet : Packet) → HasRestart p → HasRestart (on_deliver capacity p packet).state
unfolding on_deliver
deliver_has capacity (Down l) packet has = tt
deliver_has capacity (Opening l o) packet has = opened_has l capacity (opening.opening_take o l.questions packet) has
deliver_has capacity (Serves s) packet has = tt

time_has : (capacity : ℕ) (p : Phase) → HasRestart p → HasRestart (client_tick capacity p).state
unfolding client_tick
time_has capacity (Down l) has = tt
time_has capacity (Opening l o) has = opened_has l capacity (opening.on_tick o l.questions) has
time_has capacity (Serves s) has = tt

abbrev Has : Went_to → Type 0
Has w = HasRestart w.state

happens_has : (c : Client) (what : Do) → HasRestart c.phase → Has (happens c what)
happens_has c Begin has = begin_has c.peers.servers c.phase has
happens_has c (Deliver packet) has =
    by_test Has (is_well_formed c.peers packet) (on_deliver c.cache c.phase packet) (still c.phase) (λ _. deliver_has c.cache c.phase packet has) (λ _. has)
happens_has c Tick has = time_has c.cache c.phase has

client_has : (c : Client) (what : Do) → HasRestart c.phase → Has (takes c what)
client_has c what has = by_test Has (client_has_room c) (happens c what) (still c.phase) (λ _. happens_has c what has) (λ _. has)

-- ---- runs

abbrev pub NodeHas : NodeId → AnyNode → Type 0
NodeHas name (any.Client c) = HasRestart c.phase
NodeHas name _ = Unit {0}

step_has : (name : NodeId) (x : AnyNode) (what : Do) → NodeHas name x → NodeHas name (any_step x what).node
step_has name (any.Client c) what has = client_has c what has
step_has name (any.Manager m) what has = tt
step_has name (any.Server v) what has = tt
step_has name (any.Cleaner c) what has = tt
step_has name (any.Registry r) what has = tt

pub restarts_open : (e : Estate AnyNode) (count : ℕ) → AllSo NodeHas (moment e count)
restarts_open e count = each_so e NodeHas (λ count event x there has. step_has (node_of event) x (what_of event) has) starts count
  where
    starts : (name : NodeId) (works : List Work) → NodeHas name (any_start name e.script.setup works)
    starts (nodes.Client number) works = tt
    starts (nodes.Manager number) works = tt
    starts (nodes.Server number) works = tt
    starts nodes.Cleaner works = tt
    starts nodes.Registry works = tt
