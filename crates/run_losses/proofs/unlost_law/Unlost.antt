-- What is said to be lost had disks lost; so without a lost disk nothing is.
use Rattle.std.proofs.Common.{◌≡◌, ◌⊎◌, ℕ, ◌+◌, ◌<◌, true, false, cond, List, [], ◌∷◌, ◌++◌, Option, Some, None, inl, inr, refl, sym, ap, subst, ◌∙◌, arith}
use Rattle.std.specs.Prelude.{IfSome, slice_get, slice_index_or}
use Rattle.std.specs.List.{count_by}
use Rattle.std.proofs.lemmas.Bool.{ltb-true}
use Rattle.std.proofs.lemmas.List.Sums.{sum_by-cons}
use Rattle.client_serving.specs.declared.serving.Serving.{Serving}
use Rattle.core_world.specs.declared.any_node.AnyNode.{AnyNode}
use Rattle.fragment_store.specs.ShelfState.{ShelfState}
use Rattle.group_map.specs.declared.group.Group.{Group}
use Rattle.group_map.specs.declared.group.Member.{Member}
use Rattle.log_flight.specs.Flights.{no_member}
use Rattle.loss_law.proofs.Counting.{counted_places}
use Rattle.headline.specs.Restarts.{NoDoubtfulRestart}
use Rattle.run_laws.specs.restart_law.Unlost.{NoDiskIsLost, ScriptsWithoutLossesAreUndoubted}
use Rattle.headline.specs.Moments.{acts_in, moment}
use Rattle.headline.specs.Logs.{Role, owner_by, renews}
use Rattle.headline.specs.Servers.{group_at, shelf_at}
use Rattle.token_protocol.specs.Basics.{In}
use Rattle.version_model.specs.declared.act.Act.{Act}
use Rattle.version_model.specs.declared.act.Act.TheVariants as act
use Rattle.wire_msg.specs.declared.packet.Do.{Do}
use Rattle.world_base.specs.declared.estate.Estate.{Estate}
use Rattle.world_base.specs.declared.event.Event.{Event}
use Rattle.world_base.specs.Events.{what_of}
use Rattle.xfs_base.proofs.Booleans.{contrary}
use Rattle.xfs_base.specs.declared.node.NodeId.{NodeId}
use Rattle.xfs_base.specs.declared.node.NodeId.TheVariants as nodes
use Rattle.xfs_base.specs.declared.segment.SegName.{SegName}
use Rattle.run_losses.proofs.answer_law.Runs.{managers_answer_none}
use Rattle.headline.specs.Losses.{IsEarned, answers_lost}
use Rattle.run_losses.specs.answer_law.Runs.{LostAnswersAreSaid}
use Rattle.run_losses.specs.earned_law.Earned.{LostActsAreEarned}
use Rattle.headline.specs.Losses.IsEarned.{WhileItOpened, ToTakeover, ToRead}
use Rattle.headline.specs.Reads.{ToldTorn, WasTornInRead}
use Rattle.headline.specs.Torn.{IsStoredAs, IsTornAt, disks_lost, has_lost_disk}
use Rattle.run_losses.specs.unlost_law.Unlost.{ScriptsWithoutLossesLoseNothing}
use Rattle.xfs_base.specs.declared.segment.SegRef.{SegRef}

-- ---- lists

none_counted : (ms : List Member) → count_by (λ (m : Member). false) ms ≡ 0
none_counted [] = refl
none_counted (m ∷ ms) =
    let next : count_by (λ (k : Member). false) (m ∷ ms) ≡ 0 + count_by (λ (k : Member). false) ms = sum_by-cons (λ (k : Member). cond false 1 0) m ms in
    let rest : count_by (λ (k : Member). false) ms ≡ 0 = none_counted ms in
    omega (arith, next, rest)

-- what stands before an act is among all
among_front : (front behind : List Act) (a : Act) → In a front → In a (front ++ behind)
among_front [] behind a there = absurd there
among_front (x ∷ front) behind a (inl is) = inl is
among_front (x ∷ front) behind a (inr there) = inr (among_front front behind a there)

among_last : (front : List Act) (a : Act) → In a (front ++ a ∷ [])
among_last [] a = inl refl
among_last (x ∷ front) a = inr (among_last front a)

-- an act that is among others stands somewhere
record Stands (acts : List Act) (a : Act) : Type 0 where
  front : List Act
  behind : List Act
  all : acts ≡ front ++ a ∷ behind

stands : (acts : List Act) (a : Act) → In a acts → Stands acts a
stands [] a there = absurd there
stands (x ∷ acts) a (inl is) = record { front = []; behind = acts; all = ap (λ y. y ∷ acts) (sym is) }
stands (x ∷ acts) a (inr there) = (let s = stands acts a there in record { front = x ∷ s.front; behind = s.behind; all = ap (λ xs. x ∷ xs) s.all })

-- ---- disks

not_lost : (m : Member) (o : Option ShelfState) → IfSome o (λ s. s.generation ≡ m.generation) → has_lost_disk m o ≡ true → ⊥
not_lost m None same lost = contrary lost
not_lost m (Some s) same lost = (let below : m.generation < s.generation = ltb-true m.generation s.generation lost in absurd (omega (arith, below, same)))

module _ (e : Estate AnyNode) (kept : NoDiskIsLost e) where
  no_disks : (count id : ℕ) (group : Group) → group_at e.world id ≡ Some group → group.parity < disks_lost (moment e count) group → ⊥
  no_disks count id group striped lost =
      let most = counted_places (λ m. has_lost_disk m (shelf_at (moment e count) m.server)) (λ (m : Member). false) group.members
      (λ place within its.
      absurd (not_lost (slice_index_or group.members place no_member) (shelf_at (moment e count) (slice_index_or group.members place no_member).server)
      (kept count id group striped place within) its)) in
      let none = none_counted group.members in
      absurd (omega (arith, lost, most, none))

  -- what is stored is not torn
  not_torn : (when : ℕ) (segment : SegRef) → IsStoredAs e when segment → IsTornAt e when segment → ⊥
  not_torn when segment kept_as torn =
      no_disks when kept_as.stored.segment.group kept_as.stored.group kept_as.stored.striped
      (kept_as.stored.disks (subst (IsTornAt e when) (sym kept_as.over) torn))

  module _ (undoubted : (count : ℕ) → NoDoubtfulRestart e count) (count : ℕ) (what : Do) (name : SegName) where
    not_read : (c : ℕ) (s : Serving) → ToldTorn e c s count what name ⊎ WasTornInRead e c count name → ⊥
    not_read c s (inl t) = not_torn t.told.said.was.when t.told.said.was.segment t.stored t.torn
    not_read c s (inr t) = not_torn t.when t.segment t.stored t.torn

    -- only a manager says so
    by_manager : (node : NodeId) → IsEarned e count what name node → (j : ℕ) × (node ≡ nodes.Manager j)
    by_manager node (WhileItOpened r there own scans was) =
        absurd (no_disks was.lost.when was.whole.stored.segment.group was.whole.stored.group was.whole.stored.striped was.disks)
    by_manager node (ToTakeover j there torn filed) = (j, refl)
    by_manager node (ToRead c there s serves item waits torn) = absurd (not_read c s (torn (undoubted count)))

not_manager : (r : Role) → renews r ≡ false → (j : ℕ) → owner_by r ≡ nodes.Manager j → ⊥
not_manager (Role.OfClient c) own j is = absurd cc
not_manager Role.OfCleaner own j is = absurd cc
not_manager (Role.OfManager k) own j is = absurd cc

pub nothing_is_lost : ScriptsWithoutLossesAreUndoubted → LostActsAreEarned → LostAnswersAreSaid → ScriptsWithoutLossesLoseNothing
nothing_is_lost undoubted earned said e setup run none = record {
  said = λ count event happens r own name among.
      (let by = who count event happens (owner_by r) name among in not_manager r own by.0 by.1);
  answered = λ count event happens node item name among.
      (let s = stands (acts_in (moment e count) event) (answers_lost node item name) among in
      let just = (said e).said count event happens node item name s.front s.behind s.all in
      let before : In (act.Lost node name) s.front = subst (In (act.Lost node name)) (sym just.1) (among_last just.0 (act.Lost node name)) in
      let all : In (act.Lost node name) (acts_in (moment e count) event) =
      subst (In (act.Lost node name)) (sym s.all) (among_front s.front (answers_lost node item name ∷ s.behind) (act.Lost node name) before) in
      let by = who count event happens node name all in
      managers_answer_none e count event by.0 (sym (earned e setup run count event happens node name all).0 ∙ by.1) node item name among);
}
  where
    who : (count : ℕ) (event : Event) → slice_get e.events count ≡ Some event → (node : NodeId) (name : SegName) → In (act.Lost node name) (acts_in (moment e count) event)
        → (j : ℕ) × (node ≡ nodes.Manager j)
    who count event happens node name among =
        by_manager e (undoubted e setup run none).0 (undoubted e setup run none).1 count (what_of event) name node
        (earned e setup run count event happens node name among).1
