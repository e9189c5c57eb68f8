-- What a server holds and lists is of logs of which some was stored there or listed to it, whatever happens to it.
use Rattle.std.proofs.Common.{ℕ, ◌==◌, ◌&&◌, ◌||◌, not, List, [], ◌∷◌, length, Option, Some, None, subst}
use Rattle.std.specs.Prelude.{Bool, IfSome, filter_map, map}
use Rattle.std.specs.List.{AllByRecursion, cons_option}
use Rattle.std.specs.Option.{is_some}
use Rattle.std.specs.Ordering.{match_ordering}
use Rattle.xfs_base.proofs.Booleans.{by_test}
use Rattle.xfs_base.specs.declared.fragment.FragMeta.{FragMeta}
use Rattle.xfs_base.specs.declared.fragment.Fragment.{Fragment}
use Rattle.xfs_base.specs.declared.node.NodeId.{NodeId}
use Rattle.xfs_base.specs.declared.segment.LogId.{LogId}
use Rattle.xfs_base.specs.declared.segment.Pass.{Pass}
use Rattle.xfs_base.specs.declared.segment.SegName.{SegName}
use Rattle.xfs_base.specs.Segments.{pass_cmp, seg_cmp}
use Rattle.xfs_base.specs.Stamps.{is_greater}
use Rattle.xfs_base.specs.Steps.{Stepped, still}
use Rattle.xfs_base.proofs.Alls.{all_filter, all_map}
use Rattle.xfs_base.proofs.Leaving.{Leaves, goes_after, stays}
use Rattle.fragment_store.specs.Calls.{shelf_store, on_fence as fenced_at, on_fill, with_fragment}
use Rattle.fragment_store.specs.ShelfState.{ShelfState, fence_of, is_held, is_marked, same_name}
use Rattle.group_map.specs.GroupMapState.{GroupMapState}
use Rattle.group_map.specs.Groups.{group_of}
use Rattle.group_rebuild.specs.declared.input.In.{In as Input}
use Rattle.group_rebuild.specs.declared.input.In.TheVariants as input
use Rattle.group_rebuild.specs.declared.output.Out.{Out}
use Rattle.group_rebuild.specs.declared.output.Out.TheVariants as out
use Rattle.group_rebuild.specs.declared.reads.Present.{Present}
use Rattle.group_rebuild.specs.declared.wanted.Wanted.{Wanted}
use Rattle.group_rebuild.specs.Reads as reads
use Rattle.group_rebuild.specs.Reads.{ReadsState, reads_of, answered, asked_again, counts, fetches, go_on, reads_judge, one_more}
use Rattle.group_rebuild.specs.RebuildState.{RebuildState}
use Rattle.group_rebuild.specs.Transition as rebuild
use Rattle.group_rebuild.specs.Transition.{awaited, awaits, rebuild_begin as begun_rebuild, begun_if_all, heard_from, listed_with, told_by, repeated, transition, remove_names}
use Rattle.group_rebuild.specs.Wanted.{in_group, of_group, refilled, wanted_in, wanted_of}
use Rattle.std.specs.Map.{remove_entry, values_of}
use Rattle.std.specs.BTreeMap.{insert_entry, is_at}
use Rattle.std.specs.declared.cmp.Ordering.{Ordering}
use Rattle.std.specs.declared.cmp.Ordering.TheVariants.{Less, Equal, Greater}
use Rattle.group_map.specs.declared.group.Group.{Group}
use Rattle.store_nodes.specs.ServerEvents.{takes}
use Rattle.stripe_code.specs.declared.round.RoundState.{RoundState}
use Rattle.stripe_code.specs.declared.round.RoundState.TheVariants.{Read, Short, Waiting}
use Rattle.stripe_code.specs.declared.round.Told.{Told}
use Rattle.stripe_code.specs.declared.round.Told.TheVariants.{Held, Missing}
use Rattle.stripe_code.specs.Round.{RoundSoFar, state_of, round_take}
use Rattle.version_model.specs.declared.work.Work.{Work}
use Rattle.wire_msg.specs.declared.body.Body.{Body}
use Rattle.wire_msg.specs.declared.packet.Do.{Do}
use Rattle.wire_msg.specs.declared.packet.Packet.{Packet}
use Rattle.node_moves.proofs.server_moves.Keeping.{Keeps, event_keeps, packets_say}
use Rattle.node_moves.specs.server_moves.Moves.{Given}
use Rattle.node_moves.proofs.server_moves.Moves.{Sent}
use Rattle.node_moves.specs.server_moves.Moves.Given.{ListCame}
use Rattle.node_moves.proofs.server_moves.Moves.Sent.{ListSent}
use Rattle.node_logs.specs.manager_log_tie.Listing.{CarriesOf, ComesOf, EntryOf, FragmentOf, MetasOf, NameOf, PresentOf, ReadsOf, RebuildOf, ServersListWhatWasStored, ServersStartBare, WantedOf}

all_cons : {X : Type 0} (P : X → Type 0) (o : Option X) (xs : List X) → IfSome o P → AllByRecursion P xs → AllByRecursion P (cons_option o xs)
all_cons P None xs fact all = all
all_cons P (Some x) xs fact all = (fact, all)

all_filter_map : {X Y : Type 0} (P : Y → Type 0) (Q : X → Type 0) (f : X → Option Y) → ((x : X) → Q x → IfSome (f x) P) → (xs : List X)
    → AllByRecursion Q xs → AllByRecursion P (filter_map f xs)
all_filter_map P Q f each [] all = tt
all_filter_map P Q f each (x ∷ xs) all = all_cons P (f x) (filter_map f xs) (each x all.0) (all_filter_map P Q f each xs all.1)

module _ (test : LogId → Bool) where
  abbrev Fragments : List Fragment → Type 0
  Fragments held = AllByRecursion (FragmentOf test) held

  -- ---- a shelf

  with_one : (f : Fragment) (held : List Fragment) → FragmentOf test f → Fragments held → Fragments (with_fragment f held)
  with_one f [] new all = (new, tt)
  with_one f (h ∷ held) new all =
      by_test Fragments (is_greater (seg_cmp f.meta.name h.meta.name)) (h ∷ with_fragment f held) (f ∷ h ∷ held)
      (λ t. (all.0, with_one f held new all.1)) (λ t. (new, all))

  abbrev Shelf : ShelfState → Type 0
  Shelf s = Fragments s.held

  shelf_store_so : (s : ShelfState) (f : Fragment) → Shelf s → FragmentOf test f → Shelf (shelf_store s f)
  shelf_store_so s f h new = by_test Shelf (is_held s f.meta.name) s _ (λ t. h) (λ t. with_one f s.held new h)

  fenced_so : (s : ShelfState) (log : LogId) (pass : Pass) → Shelf s → Shelf (fenced_at s log pass)
  fenced_so s log pass h = by_test Shelf (is_greater (pass_cmp pass (fence_of s.fences log))) _ s (λ t. h) (λ t. h)

  filled_so : (s : ShelfState) (f : Fragment) → Shelf s → FragmentOf test f → Shelf (on_fill s f)
  filled_so s f h new = by_test Shelf (is_marked s.marks f.meta.name) s (shelf_store s f) (λ t. h) (λ t. shelf_store_so s f h new)

  listed_so : (held : List Fragment) → Fragments held → MetasOf test (map (λ (f : Fragment). f.meta) held)
  listed_so [] all = tt
  listed_so (f ∷ held) all = (all.0, listed_so held all.1)

  -- ---- a rebuild

  abbrev Entries : List (SegName × FragMeta) → Type 0
  Entries es = AllByRecursion (EntryOf test) es

  put : (o : Ordering) (e : SegName × FragMeta) (es rest : List (SegName × FragMeta)) (m : FragMeta) → NameOf test m.name → Entries (e ∷ es) → Entries rest
      → Entries (match_ordering o ((m.name, m) ∷ e ∷ es) ((e.0, m) ∷ es) (e ∷ rest))
  put Less e es rest m new all more = (new, all)
  put Equal e es rest m new all more = (new, all.1)
  put Greater e es rest m new all more = (all.0, more)

  one_listed : (es : List (SegName × FragMeta)) (m : FragMeta) → NameOf test m.name → Entries es → Entries (insert_entry seg_cmp es m.name m)
  one_listed [] m new all = (new, tt)
  one_listed (e ∷ es) m new all = put (seg_cmp m.name e.0) e es (insert_entry seg_cmp es m.name m) m new all (one_listed es m new all.1)

  all_listed : (metas : List FragMeta) (es : List (SegName × FragMeta)) → MetasOf test metas → Entries es → Entries (listed_with metas es)
  all_listed [] es new all = all
  all_listed (m ∷ metas) es new all = all_listed metas (insert_entry seg_cmp es m.name m) new.1 (one_listed es m new.0 all)

  one_without : (name : SegName) (es : List (SegName × FragMeta)) → Entries es → Entries (remove_entry (is_at (seg_cmp name)) es)
  one_without name [] all = tt
  one_without name (e ∷ es) all =
      by_test Entries (is_at (seg_cmp name) e.0) es (e ∷ remove_entry (is_at (seg_cmp name)) es) (λ t. all.1) (λ t. (all.0, one_without name es all.1))

  all_without : (names : List SegName) (es : List (SegName × FragMeta)) → Entries es → Entries (remove_names names es)
  all_without [] es all = all
  all_without (name ∷ names) es all = all_without names (remove_entry (is_at (seg_cmp name)) es) (one_without name es all)

  values_so : (es : List (SegName × FragMeta)) → Entries es → MetasOf test (values_of es)
  values_so [] all = tt
  values_so (e ∷ es) all = (all.0, values_so es all.1)

  in_group_so : (server : ℕ) (g : Group) (meta : FragMeta) (place : Option ℕ) → NameOf test meta.name → IfSome (in_group server g meta place) (WantedOf test)
  in_group_so server g meta None new = tt
  in_group_so server g meta (Some place) new = new

  of_group_so : (server : ℕ) (meta : FragMeta) (g : Option Group) → NameOf test meta.name → IfSome (of_group server meta g) (WantedOf test)
  of_group_so server meta None new = tt
  of_group_so server meta (Some g) new = in_group_so server g meta _ new

  wanted_so : (server : ℕ) (groups : GroupMapState) (metas : List FragMeta) → MetasOf test metas
      → AllByRecursion (WantedOf test) (wanted_in server groups metas)
  wanted_so server groups metas all =
      all_filter_map (WantedOf test) (λ (m : FragMeta). NameOf test m.name) (wanted_of server groups)
      (λ m new. of_group_so server m (group_of groups m.group) new) metas all

  -- what is filled in is of such a log
  abbrev OutOf : Out → Type 0
  OutOf (out.Fill f) = FragmentOf test f
  OutOf _ = Unit {0}

  abbrev ReadsGo : Stepped ReadsState Out → Type 0
  ReadsGo d = Leaves (ReadsOf test) OutOf d

  fetches_so : (name : SegName) (ask : ℕ) (servers : List ℕ) → AllByRecursion OutOf (fetches name ask servers)
  fetches_so name ask servers = all_map OutOf (λ (server : ℕ). out.Fetch server name ask) (λ server. tt) servers

  goes_on_so : (left : List Wanted) (r : ReadsState) → AllByRecursion (WantedOf test) left → ReadsGo (go_on left r)
  goes_on_so [] r all = record { state = record { left = tt; present = tt }; outs = (tt, tt) }
  goes_on_so (w ∷ ws) r all = record { state = record { left = all.1; present = all.0 }; outs = fetches_so w.meta.name (one_more r.ask) w.others }

  refilled_so : (w : Wanted) (text : List ℕ) → WantedOf test w → FragmentOf test (refilled w text)
  unfolding refilled
  refilled_so w text h = h

  reads_judge_so : (r : ReadsState) (w : Wanted) (round : RoundSoFar) (st : RoundState) → ReadsOf test r → WantedOf test w → ReadsGo (reads_judge r w round st)
  reads_judge_so r w round (Read text) h its =
      goes_after (ReadsOf test) OutOf (out.Fill (refilled w text) ∷ []) (go_on r.left (record r { filled = one_more r.filled })) (refilled_so w text its, tt)
      (goes_on_so r.left (record r { filled = one_more r.filled }) h.left)
  reads_judge_so r w round (Short pairs) h its = goes_on_so r.left (record r { gone = one_more r.gone }) h.left
  reads_judge_so r w round Waiting h its = record { state = record { left = h.left; present = its }; outs = tt }

  answered_so : (r : ReadsState) (present : Option Present) (ask server : ℕ) (told : Told) → ReadsOf test r → IfSome present (PresentOf test)
      → ReadsGo (answered r present ask server told)
  answered_so r None ask server told h here = stays (ReadsOf test) OutOf r h
  answered_so r (Some p) ask server told h here =
      let now : RoundSoFar = round_take p.round server told in
      by_test ReadsGo ((ask == r.ask) && counts p server told) (reads_judge r p.wanted now (state_of now)) (still r)
      (λ t. reads_judge_so r p.wanted now (state_of now) h here) (λ t. stays (ReadsOf test) OutOf r h)

  answer_so : (r : ReadsState) (ask server : ℕ) (told : Told) → ReadsOf test r → ReadsGo (reads.reads_take r ask server told)
  unfolding reads.reads_take
  answer_so r ask server told h = answered_so r r.present ask server told h h.present

  again_so : (ask : ℕ) (p : Option Present) → AllByRecursion OutOf (asked_again ask p)
  again_so ask None = tt
  again_so ask (Some p) = fetches_so p.wanted.meta.name ask _

  abbrev StateGoes : Stepped RebuildState Out → Type 0
  StateGoes d = Leaves (RebuildOf test) OutOf d

  rebuild_begin_so : (s : RebuildState) (names : List SegName) → RebuildOf test s → StateGoes (begun_rebuild s names)
  rebuild_begin_so s names h =
      (let listed = all_without names s.listed h.listed in
      let wanted : List Wanted = wanted_in s.server s.groups (values_of (remove_names names s.listed)) in
      let d = goes_on_so wanted (reads_of wanted)
      (wanted_so s.server s.groups (values_of (remove_names names s.listed)) (values_so (remove_names names s.listed) listed)) in
      record { state = record { listed = listed; reads = d.state }; outs = d.outs })

  heard_so : (s : RebuildState) (server : ℕ) (metas : List FragMeta) → RebuildOf test s → MetasOf test metas → RebuildOf test (heard_from s server metas)
  heard_so s server metas h new = record { listed = all_listed metas s.listed new h.listed; reads = h.reads }

  came_so : (s : RebuildState) (server : ℕ) (metas : List FragMeta) (names : List SegName) → RebuildOf test s → MetasOf test metas
      → StateGoes (rebuild.on_listed s server metas names)
  unfolding rebuild.on_listed
  came_so s server metas names h new =
      let now = heard_so s server metas h new in
      by_test StateGoes (is_some s.reads || not (awaits s server)) (still s) (begun_if_all (heard_from s server metas) names)
      (λ t. stays (RebuildOf test) OutOf s h)
      (λ t. by_test StateGoes (length (awaited (heard_from s server metas)) == 0) (begun_rebuild (heard_from s server metas) names)
      (still (heard_from s server metas))
      (λ u. rebuild_begin_so (heard_from s server metas) names now) (λ u. stays (RebuildOf test) OutOf (heard_from s server metas) now))

  told_so : (s : RebuildState) (r : Option ReadsState) (ask server : ℕ) (told : Told) → RebuildOf test s → IfSome r (ReadsOf test)
      → StateGoes (told_by s r ask server told)
  told_so s None ask server told h here = stays (RebuildOf test) OutOf s h
  told_so s (Some r) ask server told h here =
      (let d = answer_so r ask server told here in record { state = record { listed = h.listed; reads = d.state }; outs = d.outs })

  repeated_so : (s : RebuildState) (r : Option ReadsState) → AllByRecursion OutOf (repeated s r)
  repeated_so s None = all_map OutOf (λ (server : ℕ). out.List server) (λ server. tt) (awaited s)
  repeated_so s (Some r) = again_so r.ask r.present

  abbrev InputOf : Input → Type 0
  InputOf (input.Listed server metas names) = MetasOf test metas
  InputOf _ = Unit {0}

  rebuild_so : (s : RebuildState) (i : Input) → RebuildOf test s → InputOf i → StateGoes (transition s i)
  rebuild_so s (input.Listed server metas names) h new = came_so s server metas names h new
  rebuild_so s (input.Got ask server generation f) h new = told_so s s.reads ask server (Held f) h h.reads
  rebuild_so s (input.Missing ask server generation) h new = told_so s s.reads ask server (Missing generation) h h.reads
  rebuild_so s (input.Maps groups) h new = record { state = record { listed = h.listed; reads = h.reads }; outs = tt }
  rebuild_so s input.Tick h new = record { state = h; outs = repeated_so s s.reads }

  -- ---- events

  -- what the rebuild takes in an event is of such logs
  given_so : (what : Do) (shelf : ShelfState) (given : Input) → ComesOf test what → Given what shelf given → InputOf given
  given_so what shelf given new (ListCame packet server m came) = subst (CarriesOf test) came.says (subst (ComesOf test) came.event new)
  given_so what shelf given new _ = tt

  abbrev SendsOf : NodeId → Body → Type 0
  SendsOf to said = CarriesOf test said

  sends_so : (first : ShelfState) (what : Do) (s : ShelfState) (to : NodeId) (said : Body) → Shelf s → Sent first what s to said → CarriesOf test said
  sends_so first what s to said h (ListSent packet m came) = listed_so s.held h
  sends_so first what s to said h _ = tt

  keeps : (first : ShelfState) (what : Do) → ComesOf test what → Keeps first what Shelf (RebuildOf test) (λ (works : List Work). Unit {0}) OutOf SendsOf
  keeps first what new = record {
    stores = λ packet m came s h. shelf_store_so s m.fragment h (subst (CarriesOf test) came.says (subst (ComesOf test) came.event new));
    fences = λ log pass s h. fenced_so s log pass h;
    deletes = λ packet m came s h. all_filter (FragmentOf test) (λ (f : Fragment). not (same_name m.name f.meta.name)) s.held h;
    fills = λ f so s h. filled_so s f h so;
    loses = λ items number server asked works s room h. tt;
    begins = λ server groups. record { listed = tt; reads = tt };
    takes = λ s r given came h. rebuild_so r given h (given_so what s given new came);
    sends = λ s to said h sent. sends_so first what s to said h sent;
  }

-- ---- the law

pub servers_bare : ServersStartBare
servers_bare test number setup works = record { shelf = tt; rebuild = tt }

pub servers_list : ServersListWhatWasStored
servers_list test node what h new =
    let d = event_keeps node what (Shelf test) (RebuildOf test) (λ works. Unit {0}) (OutOf test) (SendsOf test) (keeps test node.shelf what new)
    (record { shelf = h.shelf; rebuild = h.rebuild; works = tt }) in
    record {
      node = record { shelf = d.state.shelf; rebuild = d.state.rebuild };
      packets = packets_say node what (λ (p : Packet). CarriesOf test p.body) (takes node what).outs d.outs;
    }
