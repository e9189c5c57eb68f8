-- What crashes has fallen until its next item begins.
use Rattle.std.proofs.Common.{◌≡◌, ◌⊎◌, ℕ, ◌+◌, suc, Bool, true, false, List, Some, inl, inr, refl, sym, ap, subst, ◌∙◌, arith}
use Rattle.core_world.specs.AnyNode.{any_start, any_step}
use Rattle.core_world.specs.declared.any_node.AnyNode.{AnyNode}
use Rattle.core_world.specs.declared.any_node.AnyNode.TheVariants as any
use Rattle.node_base.specs.Beginning.{next_item}
use Rattle.headline.specs.Moments.{moment, node_named}
use Rattle.serving_moves.proofs.item_moves.Keeping.{next_is}
use Rattle.version_model.specs.declared.answer.Answer.TheVariants as answer
use Rattle.version_model.specs.declared.work.Work.{Work}
use Rattle.version_model.specs.declared.work.Work.TheVariants as work
use Rattle.wire_msg.specs.declared.packet.Do.{Do}
use Rattle.wire_msg.specs.declared.packet.Do.TheVariants.{Begin}
use Rattle.wire_msg.specs.NodeStep.{NodeStep}
use Rattle.world_base.specs.declared.estate.Estate.{Estate}
use Rattle.world_base.specs.declared.event.Event.{Event}
use Rattle.world_base.specs.Events.{node_of, what_of}
use Rattle.world_base.specs.Items.{actor_of, items_of}
use Rattle.xfs_base.specs.declared.node.NodeId.{NodeId}
use Rattle.xfs_base.specs.declared.node.NodeId.TheVariants as nodes
use Rattle.run_answers.proofs.due_law.Dues.{each_due}
use Rattle.run_answers.proofs.due_law.Runs.{fits_at}
use Rattle.run_answers.proofs.due_law.Turns.{each_event}
use Rattle.run_answers.proofs.once_law.Runs.{Known, each_keeps, node_known}
use Rattle.run_answers.proofs.standing_law.Moments.{each_stands}
use Rattle.run_answers.proofs.standing_law.Runs.{Asked, each_fits, next_asked}
use Rattle.run_answers.proofs.turn_law.Beginning.{begins_counted, near_its_end}
use Rattle.headline.specs.Items.{asked_at, items_in, name_in}
use Rattle.headline.specs.Calls.{IsCrash}
use Rattle.headline.specs.Dues.{BeginsWork, Crashes, IsDue, Restarts, has_counters}
use Rattle.headline.specs.Standings.{Standing, standing}
use Rattle.headline.specs.Standings.Standing.{Fallen, Opens, Serves}
use Rattle.run_answers.specs.turn_law.InTurn.{EachCrashIsFelt}
use Rattle.headline.specs.Turns.{MayFall, asks}

-- ---- where a node stands

pub opens_apart : (s : Standing) → s ≡ Opens → s ≡ Fallen → ⊥
opens_apart s opens fallen = (let clash : Opens ≡ Fallen = sym opens ∙ fallen in cc)

pub serves_apart : (s : Standing) → s ≡ Serves → s ≡ Fallen → ⊥
serves_apart s serves fallen = (let clash : Serves ≡ Fallen = sym serves ∙ fallen in cc)

pub serves_open : (s : Standing) → s ≡ Serves → s ≡ Opens → ⊥
serves_open s serves opens = (let clash : Serves ≡ Opens = sym serves ∙ opens in cc)

may_crash : (x : AnyNode) → MayFall (name_in x) → Crashes x
may_crash (any.Client c) may = tt
may_crash (any.Manager m) may = tt
may_crash (any.Server v) may = absurd may
may_crash (any.Cleaner c) may = tt
may_crash (any.Registry r) may = absurd may

-- ---- the item that begins

module _ (e : Estate AnyNode) (count : ℕ) (name : NodeId) (x : AnyNode) (was : node_named (moment e count) name ≡ Some x) where
  -- it asks for this, of the node, and what is due to it is done
  pub record Its (number : ℕ) : Type 0 where
    pub its : Work
    pub there : asks e name number ≡ Some its
    pub own : actor_of its ≡ Some (name_in x)
    pub begins : BeginsWork x Begin number (Some its)
    pub due : has_counters x ≡ true → IsDue x number (any_step x Begin) its

  pub its_is : (number : ℕ) → next_item (items_in x) ≡ Some number → Its number
  its_is number next = record {
    its = asked.its;
    there = asked.there;
    own = own;
    begins = begins;
    due = λ room. each_due x number asked.its room (fits_at e count name x was) own begins;
  }
    where
      known : Known e name x
      known = node_known e count name x was

      asked : Asked name (items_of e.script.lines name) number
      asked = next_asked e.script.lines name (items_in x) known.works number next

      own : actor_of asked.its ≡ Some (name_in x)
      own = asked.for_it ∙ ap Some (sym known.named)

      begins : BeginsWork x Begin number (Some asked.its)
      begins = record { begin = refl; next = next; asked = ap (λ (ws : List Work). asked_at ws number) known.works ∙ asked.there }

  -- no item begins where as many have begun behind the event
  pub none_begins : has_counters x ≡ true → (what : Do) → (items_in (any_step x what).node).begun ≡ (items_in x).begun → (number : ℕ) → what ≡ Begin
      → next_item (items_in x) ≡ Some number → ⊥
  none_begins room what same number begin next =
      let counted : (items_in (any_step x what).node).begun ≡ number =
      subst (λ d. (items_in (any_step x d).node).begun ≡ number) (sym begin) (begins_counted x number room next) in
      let one : number ≡ (items_in x).begun + 1 = next_is (items_in x) number next in
      absurd (omega (arith, counted, one, same))

-- ---- crashes

module _ (e : Estate AnyNode) where
  -- where the item that began last is a crash, the node has fallen
  abbrev CrashStands : NodeId → AnyNode → Type 0
  CrashStands name x = MayFall name → IsCrash (asks e name (items_in x).begun) → standing x ≡ Fallen

  first_stands : (name : NodeId) → CrashStands name (any_start name e.script.setup (items_of e.script.lines name))
  first_stands (nodes.Client k) may crash = absurd crash
  first_stands (nodes.Manager k) may crash = absurd crash
  first_stands (nodes.Server k) may crash = absurd may
  first_stands nodes.Cleaner may crash = absurd crash
  first_stands nodes.Registry may crash = absurd may

  module _ (count : ℕ) (event : Event) (x : AnyNode) (was : node_named (moment e count) (node_of event) ≡ Some x) (s : CrashStands (node_of event) x) where
    abbrev name : NodeId
    name = node_of event

    abbrev what : Do
    what = what_of event

    abbrev y : AnyNode
    y = (any_step x what).node

    known : Known e name x
    known = node_known e count name x was

    still_stands : y ≡ x → CrashStands name y
    still_stands same = subst (CrashStands name) (sym same) s

    -- as many have begun
    none_more : has_counters x ≡ true → (items_in y).begun ≡ (items_in x).begun → CrashStands name y
    none_more room same may crash = by ((each_event x what).fallen (s may (subst (λ n. IsCrash (asks e name n)) same crash)))
      where
        by : (standing y ≡ Fallen) ⊎ Restarts x what (any_step x what) → standing y ≡ Fallen
        by (inl on) = on
        by (inr r) = absurd (none_begins e count name x was room what same r.number r.begins.begin r.begins.next)

    -- a crash begins
    falls : Crashes x → (number : ℕ) (its : Work) → IsCrash (Some its) → IsDue x number (any_step x Begin) its → standing (any_step x Begin).node ≡ Fallen
    falls may number (work.Crash named) crash due = by (standing x) refl
      where
        by : (st : Standing) → standing x ≡ st → standing (any_step x Begin).node ≡ Fallen
        by Fallen is = ((due may).0 is).stands ∙ is
        by Opens is = ((due may).1 (opens_apart (standing x) is)).falls
        by Serves is = ((due may).1 (serves_apart (standing x) is)).falls
    falls may number _ crash due = absurd crash

    one_more : has_counters x ≡ true → what ≡ Begin → next_item (items_in x) ≡ Some (items_in y).begun → CrashStands name y
    one_more room begin next may crash =
        let number : ℕ = (items_in y).begun in
        let i : Its e count name x was number = its_is e count name x was number next in
        subst (λ d. standing (any_step x d).node ≡ Fallen) (sym begin)
        (falls (may_crash x (subst MayFall (sym known.named) may)) number i.its (subst IsCrash i.there crash) (i.due room))

    turn_stands : CrashStands name y
    turn_stands = by (has_counters x) refl
      where
        begun : (room : has_counters x ≡ true) → ((items_in y).begun ≡ (items_in x).begun) ⊎ ((what ≡ Begin) × (next_item (items_in x) ≡ Some (items_in y).begun))
            → CrashStands name y
        begun room (inl same) = none_more room same
        begun room (inr more) = one_more room more.0 more.1

        by : (t : Bool) → has_counters x ≡ t → CrashStands name y
        by false near = still_stands (ap (λ (st : NodeStep AnyNode). st.node) (near_its_end x what near))
        by true room = begun room (each_keeps x what known.waits).ledger.begun

  pub crash_stands : (count : ℕ) (name : NodeId) (x : AnyNode) → node_named (moment e count) name ≡ Some x → CrashStands name x
  crash_stands = each_stands CrashStands e first_stands (λ count event happens x was s. turn_stands count event x was s)

pub crash_is_felt : EachCrashIsFelt
crash_is_felt e count event happens node may item crash among =
    let f = each_fits e count event happens node (suc item) answer.Up among in
    let one : suc item ≡ (items_in f.before).begun + 1 = next_is (items_in f.before) (suc item) f.fits.0 in
    let last : item ≡ (items_in f.before).begun = omega (arith, one) in
    f.fits.1.1.0 (crash_stands e count node f.before f.was may (subst (λ n. IsCrash (asks e node n)) last crash))
