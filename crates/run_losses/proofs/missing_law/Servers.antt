-- The members of the registry's groups are servers of the run, and each of these has a shelf at each moment; so a segment that was filed in a log, and of
-- which no Delete was sent, is on the shelves of the members, but for those that lost their disk; and whatever is held or was sent under its name is a
-- fragment of it.
use Rattle.std.proofs.Common.{◌≡◌, ◌⊎◌, ℕ, ◌+◌, ◌-◌, ◌<◌, ◌==◌, true, List, [], ◌∷◌, Option, Some, None, length, take, refl, sym, ap, subst, ◌∙◌, arith}
use Rattle.std.specs.List.{fold}
use Rattle.core_world.specs.AnyNode.{any_start, any_step}
use Rattle.core_world.specs.declared.any_node.AnyNode.{AnyNode}
use Rattle.core_world.specs.declared.any_node.AnyNode.TheVariants as any
use Rattle.fragment_store.specs.ShelfState.{ShelfState, held_at, new_shelf}
use Rattle.group_map.specs.declared.group.Group.{Group}
use Rattle.group_map.specs.WellFormed.{IsServer}
use Rattle.log_flight.specs.Flights.{generation_of, no_member, server_of}
use Rattle.log_law.specs.Held.{WhatFlewIsOfTheLog}
use Rattle.log_law.specs.Laws.{Holds, IsLater, LogsStayWhole, LogsWhole, OneNameOneText, OneText}
use Rattle.log_law.specs.LogLaws.{LogLaws}
use Rattle.log_law.specs.Net.{Net}
use Rattle.log_protocol.specs.Tables as tables
use Rattle.log_tie.specs.Seen.{members_of}
use Rattle.log_tie.specs.Setting.{Setting, Stripe, fragment_of, fragment_over, stripe_of_group}
use Rattle.log_tie.specs.Shelves.{is_of_log}
use Rattle.segment_format.specs.References.{ref_of}
use Rattle.node_logs.proofs.node_log_tie.WholeMaps.{its_stripe}
use Rattle.node_logs.specs.node_log_tie.Sight.{BodySeen}
use Rattle.segment_format.specs.declared.segment.Segment.{Segment}
use Rattle.run_losses.proofs.torn_law.Counts.{cluster_at}
use Rattle.token_protocol.specs.Basics.{In}
use Rattle.version_model.specs.declared.act.Act.TheVariants as act
use Rattle.wire_msg.specs.declared.body.Body.{Body}
use Rattle.wire_msg.specs.declared.body.Body.TheVariants as body
use Rattle.wire_msg.specs.declared.packet.Packet.{Packet}
use Rattle.world_base.specs.Cluster.{place_of}
use Rattle.world_base.specs.declared.estate.Estate.{Estate}
use Rattle.world_base.specs.declared.event.Event.{Event}
use Rattle.world_base.specs.declared.world.World.{World}
use Rattle.world_base.specs.NextWorld.{first_nodes, next_world, start_world}
use Rattle.world_base.specs.Runs.{IsRun, Leads, WasSent}
use Rattle.run_laws.proofs.world_law.Sent.{was_sent}
use Rattle.run_laws.proofs.world_law.Start.{first_stands, place_there}
use Rattle.headline.specs.Moments.{moment, node_in}
use Rattle.run_laws.proofs.world_logs.Lists.{in_was}
use Rattle.run_laws.proofs.world_logs.Settings.{striped}
use Rattle.headline.specs.Logs.{IsThere, Role, did, log_by}
use Rattle.run_laws.specs.world_logs.Lines.{HasLines, RunsHaveLines, setting}
use Rattle.headline.specs.Segments.{IsText, NotDeleted}
use Rattle.run_laws.specs.world_logs.Roles.{asker_by}
use Rattle.headline.specs.Logs.Role.{OfCleaner}
use Rattle.run_laws.specs.world_logs.Settings.{stripe_by}
use Rattle.group_map.specs.Groups.{known_group as group_in}
use Rattle.headline.specs.Servers.{HoldsOrLost, IsKept, group_at, groups_of, piece, shelf_at, shelf_of}
use Rattle.run_laws.specs.world_logs.Standing.{RegistryThere, ServerThere}
use Rattle.xfs_base.specs.declared.fragment.Fragment.{Fragment}
use Rattle.xfs_base.specs.declared.node.NodeId.{NodeId}
use Rattle.xfs_base.specs.declared.node.NodeId.TheVariants as names
use Rattle.xfs_base.specs.declared.segment.LogId.{LogId}
use Rattle.xfs_base.specs.declared.segment.SegName.{SegName}
use Rattle.xfs_base.proofs.Booleans.{equal_itself}
use Rattle.run_losses.proofs.missing_law.Filed.{disks_of}
use Rattle.run_losses.proofs.missing_law.Moments.{ShelfAt, here_is, k_of, shelf_on}
use Rattle.run_losses.specs.missing_law.Stored.{WhatIsFiledIsStored}
use Rattle.headline.specs.Torn.{IsStored, IsStoredAs}

-- the laws of the small worlds of logs on which it stands
pub record StoredLaws : Type 0 where
  pub whole : LogsStayWhole
  pub one : OneNameOneText
  pub own : WhatFlewIsOfTheLog

pub stored_laws : LogLaws → StoredLaws
stored_laws logs = record { whole = logs.whole; one = logs.one_text; own = logs.own }

at_end : (events : List Event) (w end : World AnyNode) → Leads any_step w events end → fold (next_world any_step) w (take (length events) events) ≡ end
at_end [] w end leads = leads
at_end (event ∷ events) w end leads = at_end events (next_world any_step w event) end leads.1

module _ (e : Estate AnyNode) (run : IsRun any_step any_start e.script e.events e.world) where
  -- ---- shelves

  first_are : (moment e 0).nodes ≡ first_nodes any_start e.script (k_of e)
  unfolding start_world
  first_are = refl

  -- a server of the run has a shelf at each moment
  pub shelf_there : (count v : ℕ) → IsServer e.script.setup.servers v → (shelf : ShelfState) × (shelf_at (moment e count) v ≡ Some shelf)
  shelf_there count v fact = (let s : ShelfAt e count v new_shelf = shelf_on e run 0 count v (omega arith) new_shelf first in (s.shelf, s.has_shelf))
    where
      at : place_of (k_of e) (names.Server v) ≡ Some (e.script.setup.clients + e.script.setup.managers + v - 1)
      at = place_there (e.script.setup.clients + e.script.setup.managers) e.script.setup.servers v fact.0 fact.1

      first : shelf_at (moment e 0) v ≡ Some new_shelf
      first =
          here_is e 0 v
          ∙ (ap (λ ns. shelf_of (node_in ns (place_of (k_of e) (names.Server v)))) first_are
          ∙ ap shelf_of (first_stands e.script (names.Server v) _ at))

  module _ (base : Setting) (lines : HasLines base e) where
    -- ---- the registry's groups

    -- their members are servers of the run
    pub member_is_server : (id : ℕ) (group : Group) → group_at e.world id ≡ Some group → (place : ℕ) → place < length group.members
        → IsServer e.script.setup.servers (server_of group.members place)
    member_is_server id group fact place below =
        by (node_in (moment e (length e.events)).nodes (place_of (k_of e) names.Registry))
        (λ x at. ((lines OfCleaner tt).stands (length e.events)).seen names.Registry x at) found
      where
        found : group_in (groups_of (node_in (moment e (length e.events)).nodes (place_of (k_of e) names.Registry))) id ≡ Some group
        found =
            ap (λ c. group_in (groups_of (node_in (moment e (length e.events)).nodes (place_of c names.Registry))) id) (sym (cluster_at e (length e.events)))
            ∙ (ap (λ w. group_at w id) (at_end e.events (start_world any_start e.script) e.world run) ∙ fact)

        of_registry : (x : AnyNode) → RegistryThere (setting base e OfCleaner) OfCleaner ((lines OfCleaner tt).scene (length e.events)) x
            → group_in (groups_of (Some x)) id ≡ Some group → IsServer e.script.setup.servers (server_of group.members place)
        of_registry (any.Client node) h at = absurd h
        of_registry (any.Manager node) h at = absurd h
        of_registry (any.Server node) h at = absurd h
        of_registry (any.Cleaner node) h at = absurd h
        of_registry (any.Registry node) h at =
            subst (λ n. IsServer n (server_of group.members place)) h.size ((its_stripe node.board.groups h.map id group at).exist place no_member below)

        by : (o : Option AnyNode)
            → ((x : AnyNode) → o ≡ Some x → RegistryThere (setting base e OfCleaner) OfCleaner ((lines OfCleaner tt).scene (length e.events)) x)
            → group_in (groups_of o) id ≡ Some group → IsServer e.script.setup.servers (server_of group.members place)
        by None seen at = absurd cc
        by (Some x) seen at = of_registry x (seen x refl) at

    -- ---- what is whole

    -- what no server was told to delete wasn't dropped
    pub undropped : (r : Role) (is_there : IsThere e.script.setup.clients e.script.setup.managers r) (count : ℕ) (name : SegName)
        → NotDeleted (moment e count) name → tables.In name ((lines r is_there).scene count).net.dropped → ⊥
    undropped r is_there count name undeleted d =
        (let o = ((lines r is_there).stands count).deleted name d in
        undeleted o.0 (record { name = name }) (in_was (moment e count).sent o.0 o.1) o.2 refl)

    module _ (r : Role) (is_there : IsThere e.script.setup.clients e.script.setup.managers r) (count : ℕ) (s : Segment) where
      abbrev net : Net
      net = ((lines r is_there).scene count).net

      -- the shelf of a server is the one that the small world has
      shelf_is : (v : ℕ) (shelf : ShelfState) → shelf_at (moment e count) v ≡ Some shelf → net.shelves v ≡ shelf
      shelf_is v shelf fact =
          by (node_in (moment e count).nodes (place_of (k_of e) (names.Server v))) (λ x at. ((lines r is_there).stands count).seen (names.Server v) x at)
          (sym (here_is e count v) ∙ fact)
        where
          same : (a b : ShelfState) → Some a ≡ Some b → a ≡ b
          same a b q = cc

          of_server : (x : AnyNode) → ServerThere (setting base e r) r ((lines r is_there).scene count) v x → shelf_of (Some x) ≡ Some shelf
              → net.shelves v ≡ shelf
          of_server (any.Client node) h at = absurd h
          of_server (any.Manager node) h at = absurd h
          of_server (any.Server node) h at = h.shelf ∙ same node.shelf shelf at
          of_server (any.Cleaner node) h at = absurd h
          of_server (any.Registry node) h at = absurd h

          by : (o : Option AnyNode) → ((x : AnyNode) → o ≡ Some x → ServerThere (setting base e r) r ((lines r is_there).scene count) v x)
              → shelf_of o ≡ Some shelf
              → net.shelves v ≡ shelf
          by None seen at = absurd cc
          by (Some x) seen at = of_server x (seen x refl) at

      -- ---- its text

      module _ (laws : StoredLaws) (flew : tables.In s ((lines r is_there).scene count).net.flown) where
        one : OneText (setting base e r) net
        one = laws.one (setting base e r) net ((lines r is_there).stands count).moment

        own : s.name.log ≡ (setting base e r).log
        own = laws.own (setting base e r) net ((lines r is_there).stands count).moment s flew

        ours : (name : SegName) → name ≡ s.name → is_of_log (setting base e r) name ≡ true
        ours name same =
            subst (λ (z : SegName). is_of_log (setting base e r) z ≡ true) (sym same)
            (subst (λ (l : LogId). (l.0 == (setting base e r).log.0) ≡ true) (sym own) (equal_itself (setting base e r).log.0))

        said : (packet : Packet) (m : Body) (to : NodeId) → WasSent (moment e count).sent packet → packet.to ≡ to → packet.body ≡ m
            → BodySeen (setting base e r) (asker_by r ((lines r is_there).scene count)) net packet.from to m
        said packet m to was at fact =
            subst (BodySeen (setting base e r) (asker_by r ((lines r is_there).scene count)) net packet.from to) fact
            (subst (λ t. BodySeen (setting base e r) (asker_by r ((lines r is_there).scene count)) net packet.from t packet.body) at
            (((lines r is_there).stands count).facts packet (was_sent (moment e count).sent packet was)))

        module _ (group : Group) (striped_so : group_at e.world s.group ≡ Some group) where
          -- a fragment of a segment of this name is one of this segment
          of_it : (f : Fragment) (t : Segment) → tables.In t net.flown → t.name ≡ s.name → f ≡ fragment_of (setting base e r) t f.meta.index
              → f ≡ piece s group f.meta.index
          of_it f t among same cut =
              cut
              ∙ (ap (λ (z : Segment). fragment_of (setting base e r) z f.meta.index) (one.one t s among flew same)
              ∙ ap (λ (p : Stripe). fragment_over s p f.meta.index) (ap stripe_by striped_so))

          named_so : (f : Fragment) (t : Segment) → f ≡ fragment_of (setting base e r) t f.meta.index → f.meta.name ≡ s.name → t.name ≡ s.name
          named_so f t cut same = ap (λ (z : Fragment). z.meta.name) (sym cut) ∙ same

          text_so : IsText (moment e count) s.name s group
          text_so = record {
            held = λ v shelf f at fact.
                (let t = one.held v s.name f own
                (subst (λ (z : ShelfState). held_at z.held s.name ≡ Some f) (sym (shelf_is v shelf at)) fact) in of_it f t.0 t.1 t.2 t.3);
            stored = λ v packet m was to fact same.
                (let t = one.stored v m.generation m.fragment (said packet (body.Store m) (names.Server v) was to fact (ours m.fragment.meta.name same)) in
                of_it m.fragment t.0 t.1 (named_so m.fragment t.0 t.2 same) t.2);
            told = λ packet m was fact same.
                (let t = one.told m.fragment (said packet (body.Fragment m) packet.to was refl fact (ours m.fragment.meta.name same)) in
                of_it m.fragment t.0 t.1 (named_so m.fragment t.0 t.2 same) t.2);
          }

      -- ---- its members

      abbrev HasOver : Stripe → ℕ → Type 0
      HasOver t place =
          (held_at (net.shelves (server_of t.members place)).held s.name ≡ Some (fragment_over s t place))
          ⊎ (generation_of t.members place < (net.shelves (server_of t.members place)).generation)

      -- where each member of its group holds it, or has lost its disk, in the small world, it is stored
      module _ (laws : StoredLaws) (flew : tables.In s ((lines r is_there).scene count).net.flown)
          (all : (place : ℕ) → place < length (members_of (setting base e r) s)
          → Holds (setting base e r) net s place ⊎ IsLater (setting base e r) net s place) where
        stored_over : (group : Group) → group_at e.world s.group ≡ Some group → IsStoredAs e count (ref_of s)
        stored_over group fact = record {
          stored = record {
            segment = s;
            named = refl;
            group = group;
            striped = fact;
            text = text_so laws flew group fact;
            kept = each;
            disks = disks_of e count s group each fact;
          };
          over = refl;
        }
          where
            members : (place : ℕ) → place < length group.members → HasOver (stripe_of_group group) place
            members = subst (λ (t : Stripe). (place : ℕ) → place < length t.members → HasOver t place) (ap stripe_by fact) all

            each : IsKept (moment e count) s group
            each place below =
                let x = shelf_there count (server_of group.members place) (member_is_server s.group group fact place below) in
                let same : net.shelves (server_of group.members place) ≡ x.0 = shelf_is (server_of group.members place) x.0 x.1 in
                subst (HoldsOrLost s group place) (sym x.1)
                (subst (λ (z : ShelfState). (held_at z.held s.name ≡ Some (piece s group place)) ⊎ (generation_of group.members place < z.generation)) same
                (members place below))

        pub on_shelves : IsStoredAs e count (ref_of s)
        on_shelves =
            let some = (laws.whole (setting base e r) net ((lines r is_there).stands count).moment).striped s flew in
            let g = striped base e.world e.script.setup.servers (group_at e.world s.group) some in
            stored_over g.0 g.1

    -- ---- what was filed

    module _ (laws : StoredLaws) (r : Role) (is_there : IsThere e.script.setup.clients e.script.setup.managers r) (count : ℕ) where
      all : LogsWhole (setting base e r) ((lines r is_there).scene count).net
      all = laws.whole (setting base e r) ((lines r is_there).scene count).net ((lines r is_there).stands count).moment

      pub flown_is_stored : (s : Segment) → tables.In s ((lines r is_there).scene count).net.flown → tables.In s.name ((lines r is_there).scene count).net.filed
          → NotDeleted (moment e count) s.name → IsStoredAs e count (ref_of s)
      flown_is_stored s flew filed undeleted =
          on_shelves r is_there count s laws flew (all.whole s flew filed (undropped r is_there count s.name undeleted))

      -- what the owner told to be filed was in flight
      pub filed_is_stored : (name : SegName) → In (act.Filed name) (did e (log_by r) count) → NotDeleted (moment e count) name → IsStored e count name
      filed_is_stored name acted kept =
          let f = all.flown name (((lines r is_there).stands count).filed name acted) in
          let filed : tables.In f.0.name ((lines r is_there).scene count).net.filed =
          subst (λ n. tables.In n ((lines r is_there).scene count).net.filed) (sym f.2) (((lines r is_there).stands count).filed name acted) in
          subst (IsStored e count) f.2 (flown_is_stored f.0 f.1 filed (subst (NotDeleted (moment e count)) (sym f.2) kept)).stored

pub what_is_filed_is_stored : Setting → RunsHaveLines → StoredLaws → WhatIsFiledIsStored
what_is_filed_is_stored base lines laws e ok run r is_there count name filed kept =
    filed_is_stored e run base (lines base e ok run) laws r is_there count name filed kept
