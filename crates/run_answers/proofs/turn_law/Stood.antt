-- Where items begin in turn none waits as another begins, and a node that has fallen fell by a crash or by a lost segment of its log.
use Rattle.std.proofs.Common.{◌≡◌, ◌⊎◌, ◌<◌, ◌≤◌, ℕ, ◌+◌, suc, nat_lt, Bool, true, false, Option, Some, None, inl, inr, refl, sym, ap, subst, ◌∙◌, arith}
use Rattle.std.specs.Prelude.{slice_get}
use Rattle.std.proofs.lemmas.Bool.{ltb-false, ltb-true}
use Rattle.core_world.specs.AnyNode.{any_start, any_step}
use Rattle.core_world.specs.declared.any_node.AnyNode.{AnyNode}
use Rattle.core_world.specs.declared.any_node.AnyNode.TheVariants as any
use Rattle.node_base.specs.Beginning.{next_item}
use Rattle.run_laws.proofs.world_reads.Taking.{Took}
use Rattle.headline.specs.Moments.{moment, node_named}
use Rattle.serving_moves.proofs.item_moves.Keeping.{next_is}
use Rattle.headline.specs.Items.{Falls, IsOpen, asked_at, items_in, name_in}
use Rattle.token_protocol.specs.Basics.{In}
use Rattle.version_model.specs.declared.act.Act.TheVariants as act
use Rattle.version_model.specs.declared.answer.Answer.TheVariants as answer
use Rattle.version_model.specs.declared.work.Work.{Work}
use Rattle.version_model.specs.declared.work.Work.TheVariants as work
use Rattle.wire_msg.specs.declared.packet.Do.{Do}
use Rattle.wire_msg.specs.declared.packet.Do.TheVariants.{Begin}
use Rattle.wire_msg.specs.NodeStep.{NodeStep}
use Rattle.world_base.specs.declared.estate.Estate.{Estate}
use Rattle.world_base.specs.declared.event.Event.{Event}
use Rattle.world_base.specs.declared.event.Event.TheVariants as events
use Rattle.world_base.specs.Events.{node_of, what_of}
use Rattle.world_base.specs.Items.{actor_of, items_of}
use Rattle.xfs_base.specs.declared.node.NodeId.{NodeId}
use Rattle.xfs_base.specs.declared.node.NodeId.TheVariants as nodes
use Rattle.xfs_base.specs.declared.segment.SegName.{SegName}
use Rattle.run_answers.proofs.due_law.Runs.{fits_at}
use Rattle.run_answers.proofs.due_law.Turns.{each_event, starts_serve}
use Rattle.run_answers.proofs.due_law.Waiting.{waits_so}
use Rattle.run_answers.proofs.once_law.Runs.{Known, each_keeps, node_known, open_unanswered, open_was}
use Rattle.run_answers.proofs.standing_law.Moments.{acts_later, acts_taken, each_moment}
use Rattle.run_answers.proofs.standing_law.Runs.{stands_at}
use Rattle.run_answers.proofs.turn_law.Beginning.{near_its_end}
use Rattle.run_answers.proofs.turn_law.Fallen.{Its, its_is, none_begins, opens_apart, serves_apart, serves_open}
use Rattle.headline.specs.Calls.{IsCrash}
use Rattle.headline.specs.Dues.{Crashes, EndsOpening, Fells, IsDue, RestartBegins, WaitsSo, has_counters}
use Rattle.run_answers.specs.once_law.Ledgers.{IsBegun}
use Rattle.headline.specs.Standings.{IsCall, IsRestart, Standing, standing}
use Rattle.headline.specs.Standings.Standing.{Fallen, Opens, Serves}
use Rattle.headline.specs.Turns.{BeginsInTurn, FellBefore, LetsStand, WasLost, asks}

-- ---- kinds of nodes

pub server_serves : (x : AnyNode) (k : ℕ) → name_in x ≡ nodes.Server k → standing x ≡ Serves
server_serves (any.Client c) k is = absurd cc
server_serves (any.Manager m) k is = absurd cc
server_serves (any.Server v) k is = refl
server_serves (any.Cleaner c) k is = absurd cc
server_serves (any.Registry r) k is = refl

registry_serves : (x : AnyNode) → name_in x ≡ nodes.Registry → standing x ≡ Serves
registry_serves (any.Client c) is = absurd cc
registry_serves (any.Manager m) is = absurd cc
registry_serves (any.Server v) is = refl
registry_serves (any.Cleaner c) is = absurd cc
registry_serves (any.Registry r) is = refl

opens_crashes : (x : AnyNode) → standing x ≡ Opens → Crashes x
opens_crashes (any.Client c) opens = tt
opens_crashes (any.Manager m) opens = tt
opens_crashes (any.Server v) opens = absurd cc
opens_crashes (any.Cleaner c) opens = tt
opens_crashes (any.Registry r) opens = absurd cc

fallen_crashes : (x : AnyNode) (what : Do) → standing (any_step x what).node ≡ Fallen → Crashes x
fallen_crashes (any.Client c) what fallen = tt
fallen_crashes (any.Manager m) what fallen = tt
fallen_crashes (any.Server v) what fallen = absurd cc
fallen_crashes (any.Cleaner c) what fallen = tt
fallen_crashes (any.Registry r) what fallen = absurd cc

-- a server's work, or the registry's, is of one that serves always
pub its_serves : (x : AnyNode) (a b : NodeId) → Some a ≡ Some b → (name_in x ≡ a → standing x ≡ Serves) → name_in x ≡ b → standing x ≡ Serves
its_serves x a b same serves named = (let one : b ≡ a = cc in serves (named ∙ one))

pub call_stands : (w : Option Work) → IsCall w → Falls w → ⊥
call_stands (Some (work.Crash node)) called falls = called
call_stands (Some (work.Lose server)) called falls = called
call_stands _ called falls = falls

one_item : (a b : ℕ) → Some a ≡ Some b → a ≡ b
one_item a b is = cc

-- what lets a node stand is no crash
no_crash : (w : Work) (named : NodeId) → Some w ≡ Some (work.Crash named) → LetsStand (Some w) → ⊥
no_crash w named is lets = subst LetsStand is lets

begin_event : (event : Event) → what_of event ≡ Begin → event ≡ events.Begin (node_of event)
begin_event (events.Begin node) is = refl
begin_event (events.Deliver packet) is = absurd cc
begin_event (events.Tick node) is = absurd cc

-- a restart that begins leaves no node fallen
restart_apart : (x z : AnyNode) (number : ℕ) (s : NodeStep AnyNode) → RestartBegins x number s z → standing s.node ≡ Fallen → ⊥
restart_apart x (any.Client c) number s r fallen = opens_apart (standing s.node) r.1.0 fallen
restart_apart x (any.Manager m) number s r fallen = serves_apart (standing s.node) r.1 fallen
restart_apart x (any.Server v) number s r fallen = opens_apart (standing s.node) r.1.0 fallen
restart_apart x (any.Cleaner c) number s r fallen = opens_apart (standing s.node) r.1.0 fallen
restart_apart x (any.Registry n) number s r fallen = opens_apart (standing s.node) r.1.0 fallen

module _ (e : Estate AnyNode) (turn : BeginsInTurn e) where
  -- ---- none waits as another begins

  pub none_waits : (count : ℕ) (event : Event) → slice_get e.events count ≡ Some event → (x : AnyNode) → node_named (moment e count) (node_of event) ≡ Some x
      → has_counters x ≡ true → what_of event ≡ Begin → (number : ℕ) → next_item (items_in x) ≡ Some number → (Falls (asks e (node_of event) number) → ⊥)
      → (item : ℕ) → IsOpen (items_in x) item → ⊥
  none_waits count event happens x was room begin number next stands item waits =
      let name : NodeId = node_of event in
      let known : Known e name x = node_known e count name x was in
      let open_ = open_unanswered e count name x was item waits in
      let low : item ≤ (items_in x).begun = known.waits item waits in
      let one : number ≡ (items_in x).begun + 1 = next_is (items_in x) number next in
      let answered = turn count name (happens ∙ ap Some (begin_event event begin)) x was room number next stands item open_.0 (omega (arith, low, one)) in
      open_.1 answered.0 answered.1

  -- ---- how a node stands

  later_fell : (count : ℕ) (name : NodeId) (item : ℕ) → FellBefore e count name item → FellBefore e (suc count) name item
  later_fell count name item f = record { last = f.last; before = f.before; fell = by f.fell; none = f.none }
    where
      by : IsCrash (asks e name f.last) ⊎ (IsRestart (asks e name f.last) × WasLost e count name f.last)
          → IsCrash (asks e name f.last) ⊎ (IsRestart (asks e name f.last) × WasLost e (suc count) name f.last)
      by (inl crash) = inl crash
      by (inr lost) = inr (lost.0, (lost.1.0, acts_later e count (act.Answered name f.last (answer.Lost lost.1.0)) lost.1.1))

  -- one that has fallen fell so; and what is open of one that opens its log is the item that began last
  pub record Stood (count : ℕ) (name : NodeId) (x : AnyNode) : Type 0 where
    pub fallen : standing x ≡ Fallen → FellBefore e count name (suc (items_in x).begun)
    pub opens : standing x ≡ Opens → (item : ℕ) → IsOpen (items_in x) item → item ≡ (items_in x).begun

  first_stood : (name : NodeId) → Stood 0 name (any_start name e.script.setup (items_of e.script.lines name))
  first_stood name =
      let serves = starts_serve name e.script.setup (items_of e.script.lines name) in
      let first : AnyNode = any_start name e.script.setup (items_of e.script.lines name) in
      record { fallen = λ is. absurd (serves_apart (standing first) serves is); opens = λ is. absurd (serves_open (standing first) serves is) }

  later_stood : (count : ℕ) (name : NodeId) (x : AnyNode) → Stood count name x → Stood (suc count) name x
  later_stood count name x s = record { fallen = λ is. later_fell count name (suc (items_in x).begun) (s.fallen is); opens = s.opens }

  module _ (count : ℕ) (event : Event) (happens : slice_get e.events count ≡ Some event) (x : AnyNode)
      (was : node_named (moment e count) (node_of event) ≡ Some x) (took : Took (moment e count) event x) (s : Stood count (node_of event) x) where
    abbrev name : NodeId
    name = node_of event

    abbrev what : Do
    what = what_of event

    abbrev y : AnyNode
    y = (any_step x what).node

    known : Known e name x
    known = node_known e count name x was

    waits : WaitsSo (standing x) (items_in x) (λ item. asks e name item)
    waits = waits_so e name x (fits_at e count name x was) (stands_at e count name x was)

    open_in : standing x ≡ Opens → (item : ℕ) × (IsOpen (items_in x) item × IsRestart (asks e name item))
    open_in is = subst (λ (st : Standing). WaitsSo st (items_in x) (λ item. asks e name item)) is waits

    none_in : standing x ≡ Fallen → (item : ℕ) → IsOpen (items_in x) item → ⊥
    none_in is item open_ =
        let none : (items_in x).unanswered ≡ None = subst (λ (st : Standing). WaitsSo st (items_in x) (λ i. asks e name i)) is waits in
        (let clash : None ≡ Some item = sym none ∙ open_ in cc)

    module _ (room : has_counters x ≡ true) where
      abbrev NoneMore : Type 0
      NoneMore = (items_in y).begun ≡ (items_in x).begun

      not_begun : NoneMore → (number : ℕ) → what ≡ Begin → next_item (items_in x) ≡ Some number → ⊥
      not_begun same number begin next = none_begins e count name x was room what same number begin next

      -- ---- none begins

      -- what it needs of its log is lost
      lost_so : NoneMore → standing x ≡ Opens → (seg : SegName)
          → ((item : ℕ) → IsOpen (items_in x) item → In (act.Answered (name_in x) item (answer.Lost seg)) (any_step x what).acts)
          → FellBefore e (suc count) name (suc (items_in y).begun)
      lost_so same is seg answers =
          let o = open_in is in
          let last : o.0 ≡ (items_in x).begun = s.opens is o.0 o.1.0 in
          record {
            last = o.0;
            before = omega (arith, last, same);
            fell = inr (
              o.1.1,
              (
                seg,
                acts_taken e count event happens x took (act.Answered name o.0 (answer.Lost seg))
                    (subst (λ n. In (act.Answered n o.0 (answer.Lost seg)) (any_step x what).acts) known.named (answers o.0 o.1.0)),
              ),
            );
            none = λ between low high. absurd (omega (arith, last, same, low, high));
          }

      same_fell : NoneMore → standing y ≡ Fallen → FellBefore e (suc count) name (suc (items_in y).begun)
      same_fell same fallen = by (standing x) refl
        where
          served : (standing y ≡ Serves) ⊎ Fells x what (any_step x what) → FellBefore e (suc count) name (suc (items_in y).begun)
          served (inl on) = absurd (serves_apart (standing y) on fallen)
          served (inr f) = absurd (not_begun same f.number f.begins.begin f.begins.next)

          opened : standing x ≡ Opens → (standing y ≡ Opens) ⊎ (EndsOpening x what (any_step x what) ⊎ Fells x what (any_step x what))
              → FellBefore e (suc count) name (suc (items_in y).begun)
          opened is (inl on) = absurd (opens_apart (standing y) on fallen)
          opened is (inr (inl (inl back))) = absurd (serves_apart (standing y) back.0 fallen)
          opened is (inr (inl (inr lost))) = lost_so same is lost.1.0 lost.1.1
          opened is (inr (inr f)) = absurd (not_begun same f.number f.begins.begin f.begins.next)

          by : (st : Standing) → standing x ≡ st → FellBefore e (suc count) name (suc (items_in y).begun)
          by Serves is = served ((each_event x what).serving is)
          by Opens is = opened is ((each_event x what).opening is)
          by Fallen is = subst (λ n. FellBefore e (suc count) name (suc n)) (sym same) (later_fell count name (suc (items_in x).begun) (s.fallen is))

      -- ---- an item begins

      module _ (number : ℕ) (begin : what ≡ Begin) (next : next_item (items_in x) ≡ Some number) where
        abbrev MyIts : Type 0
        MyIts = Its e count name x was number

        i : MyIts
        i = its_is e count name x was number next

        abbrev behind : AnyNode
        behind = (any_step x Begin).node

        one : number ≡ (items_in x).begun + 1
        one = next_is (items_in x) number next

        -- one that opens its log does not go on
        leaves_opening : standing x ≡ Opens → standing behind ≡ Opens → (its : Work) → asks e name number ≡ Some its → actor_of its ≡ Some (name_in x)
            → IsDue x number (any_step x Begin) its → ⊥
        leaves_opening is on (work.Crash named) there own due =
            opens_apart (standing behind) on ((due (opens_crashes x is)).1 (opens_apart (standing x) is)).falls
        leaves_opening is on (work.Lose v) there own due =
            serves_open (standing x) (its_serves x (nodes.Server v) (name_in x) own (server_serves x v) refl) is
        leaves_opening is on other there own due =
            let o = open_in is in
            none_waits count event happens x was room begin number next (λ falls. subst Falls there falls) o.0 o.1.0

        -- the last of those before it, or it itself
        older : (between : ℕ) → between < suc number → (between < number) ⊎ (between ≡ number)
        older between high = by (nat_lt between number) refl
          where
            by : (t : Bool) → nat_lt between number ≡ t → (between < number) ⊎ (between ≡ number)
            by true is = inl (ltb-true between number is)
            by false is = (let low : number ≤ between = ltb-false between number is in inr (omega (arith, low, high)))

        -- one that had fallen, and stays so
        still_fell : standing x ≡ Fallen → LetsStand (asks e name number) → FellBefore e (suc count) name (suc number)
        still_fell is lets =
            let f : FellBefore e (suc count) name (suc (items_in x).begun) = later_fell count name (suc (items_in x).begun) (s.fallen is) in
            let before : f.last < suc (items_in x).begun = f.before in
            record {
              last = f.last;
              before = omega (arith, before, one);
              fell = f.fell;
              none = λ between low high. between_stands f between low (older between high);
            }
          where
            between_stands : (f : FellBefore e (suc count) name (suc (items_in x).begun)) (between : ℕ) → f.last < between
                → (between < number) ⊎ (between ≡ number) → LetsStand (asks e name between)
            between_stands f between low (inl high) = f.none between low (omega (arith, high, one))
            between_stands f between low (inr is_) = subst (λ k. LetsStand (asks e name k)) (sym is_) lets

        -- a call, of one that is fallen behind it
        call_fell : LetsStand (asks e name number) → ((standing x ≡ Serves → ⊥) → standing behind ≡ standing x)
            → ((named : NodeId) → asks e name number ≡ Some (work.Crash named) → ⊥) → standing behind ≡ Fallen → FellBefore e (suc count) name (suc number)
        call_fell lets refused apart fallen = by (standing x) refl
          where
            served : (standing behind ≡ Serves) ⊎ Fells x Begin (any_step x Begin) → FellBefore e (suc count) name (suc number)
            served (inl on) = absurd (serves_apart (standing behind) on fallen)
            served (inr f) =
                let same : f.number ≡ number = one_item f.number number (sym f.begins.next ∙ next) in
                absurd (apart f.named (i.there ∙ (sym i.begins.asked ∙ (ap (λ n. asked_at (items_in x).works n) (sym same) ∙ f.begins.asked))))

            by : (st : Standing) → standing x ≡ st → FellBefore e (suc count) name (suc number)
            by Serves is = served ((each_event x Begin).serving is)
            by Opens is = absurd (opens_apart (standing behind) (refused (λ serves. serves_open (standing x) serves is) ∙ is) fallen)
            by Fallen is = still_fell is lets

        -- whatever begins
        begun_fell : (its : Work) → asks e name number ≡ Some its → actor_of its ≡ Some (name_in x) → IsDue x number (any_step x Begin) its
            → standing behind ≡ Fallen → FellBefore e (suc count) name (suc number)
        begun_fell (work.Crash named) there own due fallen = record {
          last = number;
          before = omega arith;
          fell = inl (subst IsCrash (sym there) tt);
          none = λ between low high. absurd (omega (arith, low, high));
        }
        begun_fell (work.Restart named) there own due fallen = absurd (by (standing x) refl)
          where
            crashes : Crashes x
            crashes = fallen_crashes x Begin fallen

            by : (st : Standing) → standing x ≡ st → ⊥
            by Fallen is = restart_apart x x number (any_step x Begin) ((due crashes).0 is) fallen
            by Opens is = opens_apart (standing behind) (((due crashes).1 (opens_apart (standing x) is)).stands ∙ is) fallen
            by Serves is = serves_apart (standing behind) (((due crashes).1 (serves_apart (standing x) is)).stands ∙ is) fallen
        begun_fell (work.Lose v) there own due fallen =
            let serves : standing x ≡ Serves = its_serves x (nodes.Server v) (name_in x) own (server_serves x v) refl in
            call_fell (subst LetsStand (sym there) tt) (λ apart. absurd (apart serves)) (λ named is. no_crash (work.Lose v) named (sym there ∙ is) tt) fallen
        begun_fell (work.Move slot m) there own due fallen =
            let serves : standing x ≡ Serves = its_serves x nodes.Registry (name_in x) own (registry_serves x) refl in
            call_fell (subst LetsStand (sym there) tt) (λ apart. absurd (apart serves)) (λ named is. no_crash (work.Move slot m) named (sym there ∙ is) tt) fallen
        begun_fell other there own due fallen =
            call_fell (subst LetsStand (sym there) tt) (λ apart. (due.0 apart).stands) (λ named is. no_crash other named (sym there ∙ is) tt) fallen

      -- ---- any event

      fell_so : ((items_in y).begun ≡ (items_in x).begun) ⊎ ((what ≡ Begin) × (next_item (items_in x) ≡ Some (items_in y).begun)) → standing y ≡ Fallen
          → FellBefore e (suc count) name (suc (items_in y).begun)
      fell_so (inl same) fallen = same_fell same fallen
      fell_so (inr more) fallen =
          let number : ℕ = (items_in y).begun in
          let its : Its e count name x was number = its_is e count name x was number more.1 in
          begun_fell number more.0 more.1 its.its its.there its.own (its.due room)
          (subst (λ d. standing (any_step x d).node ≡ Fallen) more.0 fallen)

      waited : ((items_in y).begun ≡ (items_in x).begun) ⊎ ((what ≡ Begin) × (next_item (items_in x) ≡ Some (items_in y).begun)) → standing x ≡ Opens
          → standing y ≡ Opens → (item : ℕ) → IsOpen (items_in x) item → item ≡ (items_in y).begun
      waited (inl same) is on item open_ = s.opens is item open_ ∙ sym same
      waited (inr more) is on item open_ =
          let number : ℕ = (items_in y).begun in
          let its : Its e count name x was number = its_is e count name x was number more.1 in
          absurd (leaves_opening number more.0 more.1 is (subst (λ d. standing (any_step x d).node ≡ Opens) more.0 on) its.its its.there its.own (its.due room))

      opens_so : standing y ≡ Opens → (item : ℕ) → IsOpen (items_in y) item → item ≡ (items_in y).begun
      opens_so on item open_ = by (open_was x what known.waits item open_)
        where
          served : (standing y ≡ Serves) ⊎ Fells x what (any_step x what) → ⊥
          served (inl serves) = serves_open (standing y) serves on
          served (inr f) = opens_apart (standing y) on f.falls

          before : (st : Standing) → standing x ≡ st → IsOpen (items_in x) item → item ≡ (items_in y).begun
          before Serves is was_open = absurd (served ((each_event x what).serving is))
          before Opens is was_open = waited (each_keeps x what known.waits).ledger.begun is on item was_open
          before Fallen is was_open = absurd (none_in is item was_open)

          by : IsOpen (items_in x) item ⊎ IsBegun (items_in x) what (items_in y) item → item ≡ (items_in y).begun
          by (inl was_open) = before (standing x) refl was_open
          by (inr begun) = sym begun.1.1

      now_stood : Stood (suc count) name y
      now_stood = record { fallen = fell_so (each_keeps x what known.waits).ledger.begun; opens = opens_so }

    turn_stood : Stood (suc count) name y
    turn_stood = by (has_counters x) refl
      where
        by : (t : Bool) → has_counters x ≡ t → Stood (suc count) name y
        by false near =
            subst (Stood (suc count) name) (sym (ap (λ (st : NodeStep AnyNode). st.node) (near_its_end x what near))) (later_stood count name x s)
        by true room = now_stood room

  pub stood_at : (count : ℕ) (name : NodeId) (x : AnyNode) → node_named (moment e count) name ≡ Some x → Stood count name x
  stood_at = each_moment Stood e first_stood (λ count name x idles s. later_stood count name x s) (λ count event happens x was took s. turn_stood count event happens x was took s)
