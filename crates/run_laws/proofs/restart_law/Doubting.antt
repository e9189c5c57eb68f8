-- A restart that is doubtful in the small world of a log is a doubtful restart of the nodes.
use Rattle.std.proofs.Common.{◌≡◌, ◌⊎◌, ℕ, suc, ◌<◌, ◌≤◌, ◌==◌, Bool, true, false, is_some, nat_lt, Option, Some, None, length, inl, inr, refl, sym, ap, subst, ◌∙◌, arith}
use Rattle.std.proofs.lemmas.Bool.Decides.{nat_tests}
use Rattle.std.specs.Prelude.{IfSome}
use Rattle.client_log.specs.LogState.{LogState}
use Rattle.core_world.specs.declared.any_node.AnyNode.{AnyNode}
use Rattle.fragment_store.specs.ShelfState.{ShelfState, held_at}
use Rattle.group_map.specs.declared.group.Group.{Group}
use Rattle.log_law.specs.Ends.{EndIsLast}
use Rattle.log_law.specs.Laws.{Moment, OneText}
use Rattle.log_law.specs.Net.{Net}
use Rattle.log_law.specs.Net.Owner.{Serving}
use Rattle.log_law.specs.Restarts.{IsDoubtful, IsSureRun, LackedInSpan, is_serving, is_writing}
use Rattle.log_protocol.specs.Tables as tables
use Rattle.log_tie.specs.Setting.{Setting, Stripe, fragment_of, fragment_over}
use Rattle.log_flight.specs.Flights.{server_of}
use Rattle.log_tie.specs.Shelves.{is_of_log}
use Rattle.node_logs.specs.node_log_tie.Sight.{BodySeen}
use Rattle.segment_format.specs.declared.segment.Segment.{Segment}
use Rattle.wire_msg.specs.declared.body.Body.{Body}
use Rattle.wire_msg.specs.declared.body.Body.TheVariants as body
use Rattle.wire_msg.specs.declared.packet.Packet.{Packet}
use Rattle.world_base.specs.declared.estate.Estate.{Estate}
use Rattle.world_base.specs.Runs.{WasSent}
use Rattle.run_laws.proofs.world_law.Sent.{was_sent}
use Rattle.headline.specs.Moments.{moment}
use Rattle.run_laws.proofs.world_logs.Line.{grows}
use Rattle.run_laws.proofs.world_logs.Settings.{striped}
use Rattle.run_laws.specs.world_logs.Lines.{Line, setting}
use Rattle.headline.specs.Segments.{IsText, NotDeleted}
use Rattle.run_laws.specs.world_logs.Roles.{asker_by}
use Rattle.headline.specs.Logs.{IsThere, Role, renews}
use Rattle.run_laws.specs.world_logs.Settings.{stripe_by}
use Rattle.headline.specs.Servers.{group_at, piece, shelf_at}
use Rattle.xfs_base.proofs.Booleans.{contrary, equal_itself}
use Rattle.xfs_base.specs.declared.fragment.Fragment.{Fragment}
use Rattle.xfs_base.specs.declared.node.NodeId.{NodeId}
use Rattle.xfs_base.specs.declared.node.NodeId.TheVariants.{Server}
use Rattle.xfs_base.specs.declared.segment.LogId.{LogId}
use Rattle.xfs_base.specs.declared.segment.SegName.{SegName}
use Rattle.run_laws.specs.restart_law.Below.{Below}
use Rattle.headline.specs.Restarts.{DoubtfulRestart, LackedBetween, Lacks, LostDisk, ReadsBackTo, newest}
use Rattle.run_laws.proofs.restart_law.Deletes.{deletes_are_drops}
use Rattle.run_laws.proofs.restart_law.Nodes.{ShelfIs, away_there, boot_is, low_is, serves_there, shelf_is, some_serving, writes_is}
use Rattle.run_laws.proofs.restart_law.Picks.{picks}
use Rattle.run_laws.proofs.restart_law.Spans.{Lacked, LacksOrLoses, Span, Wrote, boot_then, span}
use Rattle.run_laws.proofs.restart_law.Written.{writing_picked, writing_wrote}

-- ---- shelves

lacks_so : (o : Option ShelfState) (s : ShelfState) (name : SegName) → IfSome o (λ t. s ≡ t) → held_at s.held name ≡ None → Lacks o name
lacks_so None s name same none = tt
lacks_so (Some t) s name same none = ap (λ (z : ShelfState). held_at z.held name) (sym same) ∙ none

lost_so : (o p : Option ShelfState) (s t : ShelfState) → IfSome o (λ z. s ≡ z) → IfSome p (λ z. t ≡ z) → s.generation < t.generation
    → LostDisk o p
lost_so None p s t same after less = tt
lost_so (Some a) None s t same after less = tt
lost_so (Some a) (Some c) s t same after less =
    (let x = ap (λ (z : ShelfState). z.generation) same in let y = ap (λ (z : ShelfState). z.generation) after in omega arith)

module _ (b : Below) (base : Setting) (e : Estate AnyNode) (r : Role) (is_there : IsThere e.script.setup.clients e.script.setup.managers r)
    (keeps : renews r ≡ false) (line : Line base e r) where
  abbrev g : Setting
  g = setting base e r

  abbrev small : ℕ → Net
  small count = (line.scene count).net

  abbrev moment_at : (count : ℕ) → Moment (setting base e r) (small count)
  moment_at count = (line.stands count).moment

  -- ---- what was sent, and what is held

  said : (count : ℕ) (packet : Packet) (m : Body) → WasSent (moment e count).sent packet → packet.body ≡ m
      → BodySeen g (asker_by r (line.scene count)) (small count) packet.from packet.to m
  said count packet m was fact =
      subst (BodySeen g (asker_by r (line.scene count)) (small count) packet.from packet.to) fact
      ((line.stands count).facts packet (was_sent (moment e count).sent packet was))

  said_to : (count : ℕ) (packet : Packet) (m : Body) (to : NodeId) → WasSent (moment e count).sent packet → packet.to ≡ to → packet.body ≡ m
      → BodySeen g (asker_by r (line.scene count)) (small count) packet.from to m
  said_to count packet m to was at fact =
      subst (λ t. BodySeen g (asker_by r (line.scene count)) (small count) packet.from t m) at (said count packet m was fact)

  of_log : (name : SegName) → name.log ≡ g.log → is_of_log g name ≡ true
  of_log name own = subst (λ (l : LogId). (l.0 == g.log.0) ≡ true) (sym own) (equal_itself g.log.0)

  held_there : (count v : ℕ) (shelf : ShelfState) → shelf_at (moment e count) v ≡ Some shelf → (small count).shelves v ≡ shelf
  held_there count v shelf fact = subst (ShelfIs g (line.scene count) v) fact (shelf_is base e r is_there keeps line count v)

  -- what isn't dropped was deleted by no one
  not_deleted : (count : ℕ) (name : SegName) → name.log ≡ g.log → (tables.In name (small count).dropped → ⊥) → NotDeleted (moment e count) name
  not_deleted count name own kept packet m was fact named =
      kept
      (subst (λ n. tables.In n (small count).dropped) named
      (deletes_are_drops g (small count) (moment_at count) m.name
      (said count packet (body.Delete m) was fact (subst (λ n. is_of_log g n ≡ true) (sym named) (of_log name own)))))

  lacked_or_lost : (at : ℕ) (name : SegName) (v : ℕ) → LacksOrLoses (small at) (small (suc at)) name v
      → Lacks (shelf_at (moment e at) v) name ⊎ LostDisk (shelf_at (moment e at) v) (shelf_at (moment e (suc at)) v)
  lacked_or_lost at name v (inl none) =
      inl (lacks_so (shelf_at (moment e at) v) ((small at).shelves v) name (shelf_is base e r is_there keeps line at v) none)
  lacked_or_lost at name v (inr less) =
      inr (lost_so (shelf_at (moment e at) v) (shelf_at (moment e (suc at)) v) ((small at).shelves v) ((small (suc at)).shelves v)
      (shelf_is base e r is_there keeps line at v) (shelf_is base e r is_there keeps line (suc at) v) less)

  lacked_between : (from to : ℕ) (name : SegName) (v : ℕ) → name.log ≡ g.log → Wrote b base e r keeps line from to (boot_then b base e r keeps line to)
      → Lacked b base e r keeps line from to name v
      → LackedBetween e r from to name v
  lacked_between from to name v own w l = record {
    when = l.when;
    since = l.since;
    before = l.before;
    wrote = w.when;
    after = w.since;
    within = w.within;
    writes = writes_is base e r is_there keeps line w.when ∙ w.writes;
    begun =
        (let a = boot_is base e r is_there keeps line w.when in
        let c = boot_is base e r is_there keeps line (suc l.when) in
        let first = w.begun in let d = l.begun in omega arith);
    kept = not_deleted l.when name own l.kept;
    lacked = lacked_or_lost l.when name v l.lacked;
  }

  -- ---- the text, up to a count, of a segment that was in flight at it

  module _ (count : ℕ) (segment : Segment) (flown : tables.In segment (small count).flown) (group : Group)
      (is_striped : group_at e.world segment.group ≡ Some group) (k : ℕ) (within : k ≤ count) where
    one : OneText g (small k)
    one = b.logs.one_text g (small k) (moment_at k)

    one_at_last : (t : Segment) → tables.In t (small k).flown → t.name ≡ segment.name → t ≡ segment
    one_at_last t fact same =
        (b.logs.one_text g (small count) (moment_at count)).one t segment ((grows base e r line k count within).flown t fact) flown same

    its_log : segment.name.log ≡ g.log
    its_log = b.logs.own g (small count) (moment_at count) segment flown

    cut_so : (i : ℕ) → fragment_of g segment i ≡ piece segment group i
    cut_so i = ap (λ (s : Stripe). fragment_over segment s i) (ap stripe_by is_striped)

    -- a fragment of a segment of this name is one of this segment
    of_it : (f : Fragment) (t : Segment) → tables.In t (small k).flown → t.name ≡ segment.name → f ≡ fragment_of g t f.meta.index
        → f ≡ piece segment group f.meta.index
    of_it f t fact same cut = cut ∙ ap (λ (z : Segment). fragment_of g z f.meta.index) (one_at_last t fact same) ∙ cut_so f.meta.index

    named_so : (f : Fragment) (t : Segment) → f ≡ fragment_of g t f.meta.index → f.meta.name ≡ segment.name → t.name ≡ segment.name
    named_so f t cut same = ap (λ (z : Fragment). z.meta.name) (sym cut) ∙ same

    ours : (name : SegName) → name ≡ segment.name → is_of_log g name ≡ true
    ours name same = subst (λ n. is_of_log g n ≡ true) (sym same) (of_log segment.name its_log)

    its_text : IsText (moment e k) segment.name segment group
    its_text = record {
      held = λ v shelf f at fact.
          (let t = one.held v segment.name f its_log
          (subst (λ (s : ShelfState). held_at s.held segment.name ≡ Some f) (sym (held_there k v shelf at)) fact) in of_it f t.0 t.1 t.2 t.3);
      stored = λ v packet m was to fact same.
          (let t = one.stored v m.generation m.fragment (said_to k packet (body.Store m) (Server v) was to fact (ours m.fragment.meta.name same)) in
          of_it m.fragment t.0 t.1 (named_so m.fragment t.0 t.2 same) t.2);
      told = λ packet m was fact same. (let t = one.told m.fragment (said k packet (body.Fragment m) was fact (ours m.fragment.meta.name same)) in
          of_it m.fragment t.0 t.1 (named_so m.fragment t.0 t.2 same) t.2);
    }

  -- ---- the restart

  module _ (count : ℕ) (away : is_serving (small count).owner ≡ false) (serves : is_serving (small (suc count)).owner ≡ true)
      (writes : is_writing (small count).owner ≡ true) (sure : IsSureRun (moment_at count).run) (d : IsDoubtful g (moment_at count).run) where
    sp : Span b base e r keeps line count
    sp = span b base e r keeps line count

    before : sp.last < count
    before = by (nat_lt sp.last count) refl
      where
        by : (t : Bool) → nat_lt sp.last count ≡ t → sp.last < count
        by true less = grind (arith, nat_tests)
        by false not =
            let same : sp.last ≡ count = (let limit = sp.before in grind (arith, nat_tests)) in
            contrary (sym away ∙ subst (λ k. is_serving (small k).owner ≡ true) same sp.serves)

    abbrev its : (s : LogState) × ((small sp.last).owner ≡ Serving s)
    its = some_serving (small sp.last).owner sp.serves

    abbrev next : (s : LogState) × ((small (suc count)).owner ≡ Serving s)
    next = some_serving (small (suc count)).owner serves

    sure_last : IsSureRun (moment_at sp.last).run
    sure_last = sp.sure sure

    ends : EndIsLast (small sp.last) its.0
    ends = b.logs.last g (small sp.last) keeps (moment_at sp.last) sure_last its.0 its.1

    filed_last : tables.In d.segment.name (small sp.last).filed
    filed_last = subst (tables.In d.segment.name) sp.filed d.filed

    some : 0 < its.0.end.seq
    some = (let a = ends.some d.segment.name filed_last in let c = ends.last d.segment.name filed_last in omega arith)

    end_filed : tables.In (newest its.0) (small sp.last).filed
    end_filed = ends.filed some

    same_seq : d.segment.name.seq ≡ its.0.end.seq
    same_seq =
        let limit = ends.last d.segment.name filed_last in
        let least = d.newest (newest its.0) (subst (tables.In (newest its.0)) (sym sp.filed) end_filed) in
        omega arith

    named : d.segment.name ≡ newest its.0
    named = (b.logs.line g (small sp.last) keeps (moment_at sp.last) sure_last).no_two d.segment.name (newest its.0) filed_last end_filed same_seq

    abbrev grouped : (group : Group) × (group_at e.world d.segment.group ≡ Some group)
    grouped = striped base e.world e.script.setup.servers (group_at e.world d.segment.group)
        ((b.logs.whole g (small count) (moment_at count)).striped d.segment d.flown)

    lost : (place : ℕ) → place < length grouped.0.members → LackedInSpan (moment_at count).run d.segment.name (server_of grouped.0.members place)
    lost = subst
        (λ (s : Stripe). (place : ℕ) → place < length s.members → LackedInSpan (moment_at count).run d.segment.name (server_of s.members place))
        (ap stripe_by grouped.1) d.lost

    own : d.segment.name.log ≡ g.log
    own = b.logs.own g (small count) (moment_at count) d.segment d.flown

    above : ReadsBackTo e r count d.segment.name.seq
    above =
        let p = picks b base e r keeps line count (writing_picked (small count).owner writes) in
        record {
          when = p.when;
          within = p.within;
          boot = boot_is base e r is_there keeps line p.when ∙ (p.boot ∙ sym (boot_is base e r is_there keeps line count));
          low = p.bound.low;
          reads = low_is base e r is_there keeps line p.when ∙ p.bound.reads;
          covers = (let limit = p.bound.limit in let above = d.above in omega arith);
        }

    -- its opening segment is in flight before it ends
    wrote : Wrote b base e r keeps line sp.last count (boot_then b base e r keeps line count)
    wrote = sp.wrote (writing_wrote g _ (small count) (moment_at count).run refl writes)

    pub doubtful_restart : DoubtfulRestart e r count
    doubtful_restart = record {
      last = sp.last;
      before = before;
      log = its.0;
      served = serves_there base e r is_there keeps line sp.last its.0 its.1;
      away = λ k after limit. away_there base e r is_there keeps line k (sp.away k after limit);
      serves = ap is_some (serves_there base e r is_there keeps line (suc count) next.0 next.1);
      some = some;
      segment = d.segment;
      named = named;
      above = above;
      group = grouped.0;
      striped = grouped.1;
      text = λ k since within. its_text count d.segment d.flown grouped.0 grouped.1 k within;
      lost = λ place within.
          lacked_between sp.last count d.segment.name (server_of grouped.0.members place) own wrote
          (sp.lacked d.segment.name (server_of grouped.0.members place) own (lost place within));
    }
