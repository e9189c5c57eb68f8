-- What is filed is read back at each moment of a run: of its segment, which was in flight in the small world of its log, whatever servers hold is a fragment.
use Rattle.std.proofs.Common.{◌≡◌, ℕ, suc, ◌+◌, ◌-◌, ◌<◌, ◌≤◌, List, [], ◌∷◌, Option, None, Some, length, map, take, refl, sym, ap, subst, ◌∙◌, arith}
use Rattle.std.specs.Prelude.{IfSome}
use Rattle.std.specs.List.{fold}
use Rattle.std.proofs.lemmas.List.{length-map}
use Rattle.core_world.specs.AnyNode.{any_start, any_step}
use Rattle.core_world.specs.declared.any_node.AnyNode.{AnyNode}
use Rattle.core_world.specs.declared.any_node.AnyNode.TheVariants as any
use Rattle.fragment_store.specs.ShelfState.{ShelfState, held_at}
use Rattle.group_map.specs.declared.group.Group.{Group}
use Rattle.group_map.specs.declared.group.Member.{Member}
use Rattle.log_law.specs.Events.{IsWritten}
use Rattle.log_law.specs.Laws.{LogsStayWhole, OneNameOneText}
use Rattle.log_law.specs.Net.{Net}
use Rattle.log_law.specs.Written.{IsOfLog, WhatFlewIsWritten}
use Rattle.log_protocol.specs.Tables as tables
use Rattle.log_tie.specs.Seen.{members_of}
use Rattle.log_tie.specs.Setting.{Setting}
use Rattle.log_flight.specs.Flights.{server_of}
use Rattle.node_logs.proofs.node_log_tie.WholeMaps.{whole_map}
use Rattle.node_slots.specs.owner_index_tie.ServerEvents.{ServerEventGoes}
use Rattle.run_laws.proofs.world_law.Laws as tokens
use Rattle.run_laws.proofs.world_logs.Reading.{what_flew_is_text}
use Rattle.run_laws.proofs.world_reads.OwnActs.{told_by_owner}
use Rattle.run_laws.proofs.world_reads.TurnRun.{moment_cluster}
use Rattle.headline.specs.Moments.{moment, node_in, node_named}
use Rattle.headline.specs.Logs.{IsThere, Role, did, log_by}
use Rattle.run_laws.specs.world_logs.Lines.{HasLines, LinesHaveTexts, RunsHaveLines, Texts, setting}
use Rattle.headline.specs.Segments.{IsText}
use Rattle.headline.specs.Logs.Role.{OfCleaner}
use Rattle.run_laws.specs.world_logs.Settings.{stripe_by}
use Rattle.group_map.specs.Groups.{known_group as group_in}
use Rattle.headline.specs.Servers.{group_at, groups_of, piece, shelf_at, shelf_of}
use Rattle.run_laws.specs.world_logs.Standing.{RegistryThere, Seen}
use Rattle.run_holdings.proofs.stripe_law.Joining.{length_stripe, long_at, none_in_excess, stripe_long}
use Rattle.run_holdings.specs.stripe_law.ReadBack.{WhatIsFiledIsReadBack}
use Rattle.headline.specs.Stripes.{AreAtTheirPlaces, IsKeptReadable, IsReadBack, bytes_in, held_on, lacking, part_held, parts_held}
use Rattle.segment_format.proofs.SegmentLaws.{answer_again}
use Rattle.segment_format.specs.declared.segment.Segment.{Segment}
use Rattle.segment_format.specs.Text.{text_of}
use Rattle.stripe_code.proofs.Given.{gives_back}
use Rattle.stripe_code.specs.Fragments.{fragment_at}
use Rattle.stripe_code.specs.Joined.{AreOf, HasLengths, missing_from}
use Rattle.stripe_code.specs.Stripe.{IsCut, part_len, stripe_of}
use Rattle.token_protocol.specs.Basics.{In}
use Rattle.version_model.specs.declared.act.Act.TheVariants as act
use Rattle.world_base.specs.Cluster.{cluster_of, place_of}
use Rattle.world_base.specs.declared.cluster.Cluster.{Cluster}
use Rattle.world_base.specs.declared.estate.Estate.{Estate}
use Rattle.world_base.specs.declared.event.Event.{Event}
use Rattle.world_base.specs.declared.world.World.{World}
use Rattle.world_base.specs.NextWorld.{next_world, start_world}
use Rattle.world_base.specs.Runs.{IsRun, Leads}
use Rattle.xfs_base.specs.declared.fragment.Fragment.{Fragment}
use Rattle.xfs_base.specs.declared.node.NodeId.TheVariants as names
use Rattle.xfs_base.specs.declared.segment.SegName.{SegName}

at_end : (events : List Event) (w end : World AnyNode) → Leads any_step w events end → fold (next_world any_step) w (take (length events) events) ≡ end
at_end [] w end leads = leads
at_end (event ∷ events) w end leads = at_end events (next_world any_step w event) end leads.1

-- ---- the pieces of one segment

-- of which whatever is held under its name is a fragment, cut for this group
module _ (w : World AnyNode) (s : Segment) (group : Group) (cut : IsCut (length group.members) group.parity) (text : IsText w s.name s group)
    (placed : AreAtTheirPlaces w s.name group) where
  abbrev parts : List (Option (List ℕ))
  parts = parts_held w s.name group

  abbrev stripe : List (List ℕ)
  stripe = stripe_of (text_of s) (length group.members) group.parity

  -- what a shelf holds is the piece of the place that it says
  held_is : (v : ℕ) (f : Fragment) → held_on (shelf_at w v) s.name ≡ Some f → f ≡ piece s group f.meta.index
  held_is v f fact = by (shelf_at w v) refl fact
    where
      by : (o : Option ShelfState) → shelf_at w v ≡ o → held_on o s.name ≡ Some f → f ≡ piece s group f.meta.index
      by None at none = absurd cc
      by (Some shelf) at has = text.held v shelf f at has

  many : length parts ≡ length group.members
  many = length-map group.members (part_held w s.name)

  -- what is there at a place is the stripe's there
  there : (place : ℕ) (m : Member) (d : List ℕ) → d ≡ fragment_at stripe place
      → ((f : Fragment) → held_on (shelf_at w m.server) s.name ≡ Some f → f.meta.index ≡ place) → IfSome (part_held w s.name m) (λ bytes. bytes ≡ d)
  there place m d same own = by (held_on (shelf_at w m.server) s.name) refl
    where
      by : (o : Option Fragment) → held_on (shelf_at w m.server) s.name ≡ o → IfSome (bytes_in o) (λ bytes. bytes ≡ d)
      by None at = tt
      by (Some f) at = ap (λ (x : Fragment). x.bytes) (held_is m.server f at) ∙ (ap (fragment_at stripe) (own f at) ∙ sym same)

  -- of these members, the first of which is at this place, each server holds the fragment of its place
  abbrev Own : ℕ → List Member → Type 0
  Own place ms = (i : ℕ) (f : Fragment) → i < length ms → held_on (shelf_at w (server_of ms i)) s.name ≡ Some f → f.meta.index ≡ place + i

  are_from : (place : ℕ) (ms : List Member) (ds : List (List ℕ)) → length ds ≡ length ms
      → ((i : ℕ) → i < length ms → fragment_at ds i ≡ fragment_at stripe (place + i)) → Own place ms → AreOf (map (part_held w s.name) ms) ds
  are_from place [] [] same all own = tt
  are_from place [] (d ∷ ds) same all own = absurd (omega arith)
  are_from place (m ∷ ms) [] same all own = absurd (omega arith)
  are_from place (m ∷ ms) (d ∷ ds) same all own = (
    there place m d (all 0 (omega arith) ∙ ap (fragment_at stripe) (let e : place + 0 ≡ place = omega arith in e))
        (λ f at. own 0 f (omega arith) at ∙ (let e : place + 0 ≡ place = omega arith in e)),
    are_from (place + 1) ms ds (omega arith)
        (λ i below. all (suc i) (omega arith) ∙ ap (fragment_at stripe) (let e : place + suc i ≡ place + 1 + i = omega arith in e))
        (λ i f below at. own (suc i) f (omega arith) at ∙ (let e : place + suc i ≡ place + 1 + i = omega arith in e)),
  )

  are : AreOf parts stripe
  are =
      are_from 0 group.members stripe (length_stripe (text_of s) (length group.members) group.parity cut)
      (λ i below. ap (fragment_at stripe) (let e : i ≡ 0 + i = omega arith in e))
      (λ i f below at. placed i f below at ∙ (let e : i ≡ 0 + i = omega arith in e))

  cut_so : IsCut (length parts) group.parity
  cut_so = subst (λ k. IsCut k group.parity) (sym many) cut

  lengths : HasLengths (part_len (length (text_of s)) (length parts - group.parity)) parts
  lengths =
      subst (λ k. HasLengths (part_len (length (text_of s)) (k - group.parity)) parts) (sym many)
      (long_at (part_len (length (text_of s)) (length group.members - group.parity)) parts stripe are
      (stripe_long (text_of s) (length group.members) group.parity))

  read_back : IsWritten s → lacking w s.name group ≤ group.parity → IsReadBack w s group
  read_back written few = record {
    size = cut_so;
    long = λ v f fact. ap (λ (x : Fragment). x.meta.len) (held_is v f fact);
    lengths = lengths;
    enough = none_in_excess group.parity cut.some cut.few (missing_from 0 parts) few;
    joins = gives_back parts (text_of s) written.bytes group.parity cut_so
        (subst (λ k. AreOf parts (stripe_of (text_of s) k group.parity)) (sym many) are) few;
    decodes = answer_again (text_of s) s written.fits written.text;
  }

-- ---- a run

module _ (whole : LogsStayWhole) (one : OneNameOneText) (written : WhatFlewIsWritten) (base : Setting) (e : Estate AnyNode)
    (run : IsRun any_step any_start e.script e.events e.world) (lines : HasLines base e) (texts : Texts base e lines) where
  abbrev cluster : Cluster
  cluster = cluster_of e.script.setup

  -- segments may be cut for the groups that the registry has at the end
  cut_at : (id : ℕ) (group : Group) → group_at e.world id ≡ Some group → IsCut (length group.members) group.parity
  cut_at id group fact =
      by (node_in (moment e (length e.events)).nodes (place_of cluster names.Registry))
      (λ x at. ((lines OfCleaner tt).stands (length e.events)).seen names.Registry x at) found
    where
      found : group_in (groups_of (node_in (moment e (length e.events)).nodes (place_of cluster names.Registry))) id ≡ Some group
      found =
          ap (λ c. group_in (groups_of (node_in (moment e (length e.events)).nodes (place_of c names.Registry))) id) (sym (moment_cluster e (length e.events)))
          ∙ (ap (λ w. group_at w id) (at_end e.events (start_world any_start e.script) e.world run) ∙ fact)

      of_registry : (x : AnyNode) → RegistryThere (setting base e OfCleaner) OfCleaner ((lines OfCleaner tt).scene (length e.events)) x
          → group_in (groups_of (Some x)) id ≡ Some group → IsCut (length group.members) group.parity
      of_registry (any.Client node) h at = absurd h
      of_registry (any.Manager node) h at = absurd h
      of_registry (any.Server node) h at = absurd h
      of_registry (any.Cleaner node) h at = absurd h
      of_registry (any.Registry node) h at =
          (whole_map node.board.groups h.map (setting base e OfCleaner) h.size h.named ((lines OfCleaner tt).scene (length e.events)).net.registry h.known).cut
          id group at

      by : (o : Option AnyNode)
          → ((x : AnyNode) → o ≡ Some x → RegistryThere (setting base e OfCleaner) OfCleaner ((lines OfCleaner tt).scene (length e.events)) x)
          → group_in (groups_of o) id ≡ Some group → IsCut (length group.members) group.parity
      by None seen at = absurd cc
      by (Some x) seen at = of_registry x (seen x refl) at

  module _ (r : Role) (there : IsThere e.script.setup.clients e.script.setup.managers r) (count : ℕ) where
    abbrev g : Setting
    g = setting base e r

    abbrev net : Net
    net = ((lines r there).scene count).net

    abbrev w : World AnyNode
    w = moment e count

    -- a server stands in the small world as its shelf is
    shelf_is : (v : ℕ) (shelf : ShelfState) → shelf_at w v ≡ Some shelf → net.shelves v ≡ shelf
    shelf_is v shelf fact = by (node_named w (names.Server v)) refl fact
      where
        seen : (x : AnyNode) → node_named w (names.Server v) ≡ Some x → Seen (setting base e r) r ((lines r there).scene count) (names.Server v) x
        seen x at = ((lines r there).stands count).seen (names.Server v) x (subst (λ k. node_in w.nodes (place_of k (names.Server v)) ≡ Some x) (moment_cluster e count) at)

        same : (a b : ShelfState) → Some a ≡ Some b → a ≡ b
        same a b e = cc

        by : (o : Option AnyNode) → node_named w (names.Server v) ≡ o → shelf_of o ≡ Some shelf → net.shelves v ≡ shelf
        by None at none = absurd cc
        by (Some (any.Client node)) at none = absurd cc
        by (Some (any.Manager node)) at none = absurd cc
        by (Some (any.Server node)) at its = (seen (any.Server node) at).shelf ∙ same node.shelf shelf its
        by (Some (any.Cleaner node)) at none = absurd cc
        by (Some (any.Registry node)) at none = absurd cc

    -- what it holds of a segment that was in flight is the fragment of its place
    places : (s : Segment) (group : Group) → tables.In s net.flown → group_at e.world s.group ≡ Some group → AreAtTheirPlaces w s.name group
    places s group flew striped place f within fact = by (shelf_at w (server_of group.members place)) refl fact
      where
        same : members_of g s ≡ group.members
        same = ap (λ o. (stripe_by o).members) striped

        by : (o : Option ShelfState) → shelf_at w (server_of group.members place) ≡ o → held_on o s.name ≡ Some f → f.meta.index ≡ place
        by None at none = absurd cc
        by (Some shelf) at has =
            (one g net ((lines r there).stands count).moment).own s flew (server_of group.members place) f
            (ap (λ (z : ShelfState). held_at z.held s.name) (shelf_is (server_of group.members place) shelf at) ∙ has) place
            (subst (λ (ms : List Member). place < length ms) (sym same) within) (ap (λ (ms : List Member). server_of ms place) same)

    readable : (s : Segment) (name : SegName) → tables.In s net.flown → s.name ≡ name → IsKeptReadable e.world w s name
    readable s name flew named =
        let of : IsOfLog g s = written g net ((lines r there).stands count).moment s flew in
        let t = what_flew_is_text base e.world w e.script.setup.servers r cluster (moment_cluster e count) ((lines r there).scene count)
        (did e (log_by r) count) ((lines r there).stands count) whole one s flew of.log
        in
        record {
          named = named;
          group = t.0;
          striped = t.1;
          text = subst (λ n. IsText w n s t.0) named t.2;
          placed = subst (λ n. AreAtTheirPlaces w n t.0) named (places s t.0 flew t.1);
          back = subst (λ n. lacking w n t.0 ≤ t.0.parity → IsReadBack w s t.0) named
              (read_back w s t.0 (cut_at s.group t.0 t.1) t.2 (places s t.0 flew t.1) of.written);
        }

    -- what its owner told to be filed was in flight, and is the text of its name
    filed_readable : (name : SegName) → In (act.Filed name) (did e (log_by r) count) → IsKeptReadable e.world w (texts.text name) name
    filed_readable name fact =
        let f = (whole g net ((lines r there).stands count).moment).flown name (((lines r there).stands count).filed name fact) in
        subst (λ (s : Segment). IsKeptReadable e.world w s name) (sym (ap texts.text (sym f.2) ∙ texts.flown r there count f.0 f.1)) (readable f.0 name f.1 f.2)

-- for the lines that each run has, and their texts
pub filed_is_read_back : LogsStayWhole → OneNameOneText → WhatFlewIsWritten → tokens.NodeLaws → ServerEventGoes → Setting → RunsHaveLines → LinesHaveTexts
    → WhatIsFiledIsReadBack
filed_is_read_back whole one written laws servers base have lines_texts e setup run =
    let lines = have base e setup run in
    let texts = lines_texts base e setup lines in
    record {
      text = texts.text;
      each = λ count name fact.
          (let t = told_by_owner laws servers e setup run name count fact in
          filed_readable whole one written base e run lines texts t.role t.there count name t.among);
    }
