-- At each count of the events of a run all that was in flight in a client's log tells of blocks at first hand.
use Rattle.std.proofs.Common.{⊎_elim, ◌≡◌, ◌⊎◌, ℕ, zero, suc, Option, Some, None, slice_get, refl, sym, ap, subst, inl, inr}
use Rattle.core_world.specs.declared.any_node.AnyNode.{AnyNode}
use Rattle.group_map.specs.GroupMapState.{GroupMapState}
use Rattle.log_law.specs.Events.{Runs}
use Rattle.log_law.specs.Events.Runs.{Begun, On}
use Rattle.log_law.specs.Net.{Net, opening}
use Rattle.log_tie.specs.Setting.{Setting}
use Rattle.world_base.specs.declared.estate.Estate.{Estate}
use Rattle.world_base.specs.declared.event.Event.{Event}
use Rattle.world_base.specs.Events.{node_of}
use Rattle.run_laws.proofs.world_law.OtherTurns.{equal_or_not}
use Rattle.run_laws.specs.world_logs.Lines.{IsBegun, IsLeft, Line, setting}
use Rattle.headline.specs.Logs.Role.{OfClient}
use Rattle.xfs_base.specs.declared.node.NodeId.{NodeId}
use Rattle.xfs_base.specs.declared.node.NodeId.TheVariants.{Client, Manager, Server, Cleaner, Registry}
use Rattle.run_laws.specs.segment_law.Flown.{ClientsFlewOriginals, IsOriginalLog}
use Rattle.run_laws.proofs.segment_law.Flown.{logs_go_on, same_so}

-- ---- names of nodes

number_in : NodeId → ℕ
number_in (Client k) = k
number_in (Manager k) = 0
number_in (Server k) = 0
number_in Cleaner = 0
number_in Registry = 0

is_it : (c : ℕ) (name : NodeId) → (Client c ≡ name) ⊎ (Client c ≡ name → ⊥)
unfolding number_in
is_it c (Client d) = ⊎_elim (λ e. inl (ap (λ k. Client k) e)) (λ no. inr (λ e. no (ap number_in e))) (equal_or_not c d)
is_it c (Manager d) = inr (λ e. absurd cc)
is_it c (Server d) = inr (λ e. absurd cc)
is_it c Cleaner = inr (λ e. absurd cc)
is_it c Registry = inr (λ e. absurd cc)

-- ---- the start

first_so : (g : Setting) (map : GroupMapState) → IsOriginalLog (opening g map)
first_so g map = record { owner = record { once = tt; each = tt; flies = tt }; flew = λ s among. absurd among }

begun_so : (g : Setting) (n m : Net) (run : Runs g n m) → IsBegun run → IsOriginalLog n → IsOriginalLog m
begun_so g n m Begun begun h = h
begun_so g n m (On run happens) begun h = absurd begun

-- ---- each count

module _ (base : Setting) (e : Estate AnyNode) (c : ℕ) (line : Line base e (OfClient c)) where
  abbrev So : ℕ → Type 0
  So count = IsOriginalLog (line.scene count).net

  own_so : (count : ℕ) (event : Event) → slice_get e.events count ≡ Some event → Client c ≡ node_of event → So count → So (suc count)
  own_so count event fact own h =
      logs_go_on (setting base e (OfClient c)) (line.scene count).net (line.scene (suc count)).net (line.goes count) (line.straight count event fact own)
      (line.puts count event fact own) h

  left_so : (count : ℕ) → IsLeft (line.scene count).net (line.scene (suc count)).net → So count → So (suc count)
  left_so count left h = same_so (setting base e (OfClient c)) (line.scene count).net h (line.scene (suc count)).net left.owner left.flown

  next_so : (count : ℕ) (o : Option Event) → slice_get e.events count ≡ o → So count → So (suc count)
  next_so count None fact h = subst (λ w. IsOriginalLog w.net) (sym (line.ended count fact)) h
  next_so count (Some event) fact h =
      ⊎_elim (λ own. own_so count event fact own h) (λ away. left_so count (line.others count event fact away) h) (is_it c (node_of event))

  each_so : (count : ℕ) → So count
  each_so zero =
      let at = (line.stands zero).moment in
      begun_so (setting base e (OfClient c)) (opening (setting base e (OfClient c)) at.map) (line.scene zero).net at.run line.begins
      (first_so (setting base e (OfClient c)) at.map)
  each_so (suc count) = next_so count (slice_get e.events count) refl (each_so count)

pub clients_flew : ClientsFlewOriginals
clients_flew base e c line count = each_so base e c line count
