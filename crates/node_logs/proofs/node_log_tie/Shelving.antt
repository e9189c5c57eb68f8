-- What is done to a server's shelf, as what happens in the small world.
use Rattle.std.proofs.Common.{◌≡◌, ℕ, ◌==◌, ◌&&◌, ◌<◌, Bool, true, false, cond, List, [], ◌∷◌, ◌++◌, filter, map, Option, Some, None, refl, sym, ap, subst, ◌∙◌, inl, arith}
use Rattle.std.specs.Option.{is_none, is_some}
use Rattle.std.specs.Ordering.{is_eq}
use Rattle.std.specs.List.{AllByRecursion}
use Rattle.std.proofs.lemmas.Bool.{eqb-true}
use Rattle.xfs_base.proofs.Booleans.{by_test, contrary, equal_itself}
use Rattle.xfs_base.specs.declared.fragment.FragMeta.{FragMeta}
use Rattle.xfs_base.specs.declared.fragment.Fragment.{Fragment}
use Rattle.xfs_base.specs.declared.node.NodeId.{NodeId}
use Rattle.xfs_base.specs.declared.node.NodeId.TheVariants.{Server}
use Rattle.xfs_base.specs.declared.segment.LogId.{LogId}
use Rattle.xfs_base.specs.declared.segment.Pass.{Pass}
use Rattle.xfs_base.specs.declared.segment.SegName.{SegName}
use Rattle.xfs_base.specs.Limits.{u32_end}
use Rattle.xfs_base.specs.Segments.{pass_cmp}
use Rattle.xfs_base.specs.Stamps.{is_greater}
use Rattle.xfs_base.specs.Steps.{still, saying}
use Rattle.xfs_base.proofs.Alls.{all_append, all_weaker}
use Rattle.xfs_base.proofs.SegmentNames.{one_name}
use Rattle.fragment_store.specs.Calls.{refusal, shelf_store, on_fence as fenced_at, on_delete as without, on_fill, on_lose as lost, on_list as listed_on}
use Rattle.fragment_store.specs.declared.store_error.StoreError.{StoreError}
use Rattle.fragment_store.specs.ShelfState.{ShelfState, same_name, held_at, fence_of}
use Rattle.node_base.specs.declared.effects.Effect.{Effect}
use Rattle.node_base.specs.declared.effects.Effect.TheVariants.{Send, Answer}
use Rattle.wire_msg.specs.declared.body.Body.TheVariants as body
use Rattle.wire_msg.specs.declared.storage.Delete.{Delete}
use Rattle.wire_msg.specs.declared.storage.Fence.{Fence}
use Rattle.wire_msg.specs.declared.storage.Fetch.{Fetch}
use Rattle.wire_msg.specs.declared.storage.ListAsk.{ListAsk}
use Rattle.wire_msg.specs.declared.storage.Store.{Store}
use Rattle.store_nodes.specs.declared.server.Server as nodes
use Rattle.store_nodes.specs.declared.server.Rebuilding.{Rebuilding}
use Rattle.store_nodes.specs.Rebuilds.{Done}
use Rattle.store_nodes.specs.ServerEvents.{on_store, found_or_missing, on_fetch, of_log, fence_told, on_fence, on_list, on_delete, tells}
use Rattle.log_protocol.specs.Tables.{put, In}
use Rattle.log_tie.specs.Setting.{Setting}
use Rattle.log_tie.specs.Shelves.{is_of_log, is_stored, Deed, shelf_after}
use Rattle.log_tie.specs.Shelves.Deed.{Stores, Fetches, Fences, Deletes, Fills, Loses}
use Rattle.log_law.specs.Net.{Net, Packet, answers, fragment_told, listed}
use Rattle.log_law.specs.Net.Packet.{StoredSent, FragmentSent, FencedSent, ListedSent}
use Rattle.log_law.specs.Events.{CameToServer, Runs}
use Rattle.log_law.specs.Events.Happens.{Serves, Bars, Lists}
use Rattle.log_law.specs.Events.Runs.{Begun, On}
use Rattle.node_logs.specs.node_log_tie.Sight.{Asker, FenceSeen}
use Rattle.node_logs.proofs.node_log_tie.Sight.{EffectSeen, Later}
use Rattle.node_logs.specs.node_log_tie.ServerEvents.{RebuildSeen, ServerSeen, all_but_shelves}
use Rattle.node_logs.proofs.node_log_tie.Going.{run_later, runs_on}
use Rattle.node_logs.proofs.node_log_tie.Lists.{if_some}
use Rattle.node_logs.proofs.node_log_tie.RebuildEvents.{rebuild_later}
use Rattle.node_logs.proofs.node_log_tie.Sights.{seen_later}

pub put_here : {X : Type 0} (f : ℕ → X) (a : ℕ) (y : X) → put f a y a ≡ y
put_here f a y = ap (λ t. cond t y (f a)) (equal_itself a)

pub put_there : {X : Type 0} (f : ℕ → X) (a : ℕ) (y : X) (b : ℕ) → (b ≡ a → ⊥) → put f a y b ≡ f b
put_there f a y b other = by_test (λ z. z ≡ f b) (b == a) y (f b) (λ t. absurd (other (eqb-true b a t))) (λ t. refl)

-- what is found passes the test
found_named : (held : List Fragment) (name : SegName) (f : Fragment) → held_at held name ≡ Some f → name ≡ f.meta.name
found_named [] name f fact = absurd cc
found_named (h ∷ hs) name f fact =
    by_test (λ (o : Option Fragment). o ≡ Some f → name ≡ f.meta.name) (same_name name h.meta.name) (Some h) (held_at hs name)
    (λ t e. let same : h ≡ f = cc in one_name name h.meta.name t ∙ ap (λ (x : Fragment). x.meta.name) same)
    (λ t e. found_named hs name f e) fact

-- a Fence leaves generation and fragments alone
fence_generation : (s : ShelfState) (log : LogId) (pass : Pass) → (fenced_at s log pass).generation ≡ s.generation
fence_generation s log pass =
    by_test (λ (t : ShelfState). t.generation ≡ s.generation) (is_greater (pass_cmp pass (fence_of s.fences log))) _ s (λ t. refl) (λ t. refl)

fence_held : (s : ShelfState) (log : LogId) (pass : Pass) → (fenced_at s log pass).held ≡ s.held
fence_held s log pass = by_test (λ (t : ShelfState). t.held ≡ s.held) (is_greater (pass_cmp pass (fence_of s.fences log))) _ s (λ t. refl) (λ t. refl)

module _ (g : Setting) (owner : Asker) (v : ℕ) where
  -- The small world runs on, by what is done at this server alone, to a net in which the server is seen as it is then.
  pub record Went (n : Net) (d : Done) : Type 0 where
    pub next : Net
    pub runs : Runs g n next
    pub seen : ServerSeen g next v d.state
    pub does : AllByRecursion (EffectSeen g owner next (Server v)) d.outs
    pub shelves : (u : ℕ) → (u ≡ v → ⊥) → next.shelves u ≡ n.shelves u
    pub rest : all_but_shelves next ≡ all_but_shelves n

  effect_later : (n next : Net) → Later n next → (e : Effect) → EffectSeen g owner n (Server v) e → EffectSeen g owner next (Server v) e
  effect_later n next later (Send to said) h = seen_later g owner n next later (Server v) to said h
  effect_later n next later (Answer item answer) h = tt
  effect_later n next later _ h = tt

  -- nothing happens, and what is done is seen
  pub went_still : (n : Net) (node : nodes.Server) (outs : List Effect) → ServerSeen g n v node → AllByRecursion (EffectSeen g owner n (Server v)) outs
      → Went n (record { state = node; outs = outs })
  went_still n node outs seen does = record { next = n; runs = Begun; seen = seen; does = does; shelves = λ u other. refl; rest = refl }

  pub stays : (n : Net) (node : nodes.Server) → ServerSeen g n v node → Went n (still node)
  stays n node seen = went_still n node [] seen tt

  -- what was done before, and then the rest
  pub went_then : (n : Net) (d e : Done) (w : Went n d) → Went w.next e → Went n (saying d.outs e)
  went_then n d e w x = record {
    next = x.next;
    runs = runs_on g n w.next x.next w.runs x.runs;
    seen = x.seen;
    does =
        all_append (EffectSeen g owner x.next (Server v)) d.outs e.outs
        (all_weaker (EffectSeen g owner w.next (Server v)) (EffectSeen g owner x.next (Server v))
        (effect_later w.next x.next (run_later g w.next x.next x.runs)) d.outs w.does) x.does;
    shelves = λ u other. x.shelves u other ∙ w.shelves u other;
    rest = x.rest ∙ w.rest;
  }

  -- a server is seen with its shelf as it is then
  pub reshelved : (n next : Net) (node : nodes.Server) (s : ShelfState) → ServerSeen g n v node → Later n next → next.shelves v ≡ s
      → ServerSeen g next v (record node { shelf = s })
  reshelved n next node s seen later shelf = record {
    number = seen.number;
    shelf = shelf;
    maps = seen.maps;
    rebuild =
        if_some (λ (r : Rebuilding). RebuildSeen g n v r.rebuild) (λ (r : Rebuilding). RebuildSeen g next v r.rebuild)
        (λ r. rebuild_later g n next later v r.rebuild)
        node.rebuilding seen.rebuild;
  }

  -- ---- a deed

  abbrev pub deed_done : Net → Deed → Net
  deed_done n deed = record n { shelves = put n.shelves v (shelf_after g (n.shelves v) deed); sent = answers g v (n.shelves v) deed ++ n.sent }

  module _ (some : 0 < v) (n : Net) (node : nodes.Server) (seen : ServerSeen g n v node) where
    deed_runs : (deed : Deed) → CameToServer g n v deed → Runs g n (deed_done n deed)
    deed_runs deed came = On Begun (Serves v deed some came)

    pub deed_went : (deed : Deed) (s : ShelfState) (outs : List Effect) → CameToServer g n v deed → shelf_after g node.shelf deed ≡ s
        → AllByRecursion (EffectSeen g owner (deed_done n deed) (Server v)) outs → Went n (record { state = record node { shelf = s }; outs = outs })
    deed_went deed s outs came fact does = record {
      next = deed_done n deed;
      runs = deed_runs deed came;
      seen =
          reshelved n (deed_done n deed) node s seen (run_later g n (deed_done n deed) (deed_runs deed came))
          (put_here n.shelves v (shelf_after g (n.shelves v) deed) ∙ (ap (λ t. shelf_after g t deed) seen.shelf ∙ fact));
      does = does;
      shelves = λ u other. put_there n.shelves v (shelf_after g (n.shelves v) deed) u other;
      rest = refl;
    }

    -- ---- a Store

    abbrev store_done : NodeId → Store → Option StoreError → Done
    store_done from m o =
        cond (is_some o) (still node) (record {
          state = record node { shelf = shelf_store node.shelf m.fragment };
          outs = Send from (body.Stored (record { name = m.fragment.meta.name; index = m.fragment.meta.index; generation = m.generation })) ∷ [];
        })

    is_kept : (m : Store) → refusal node.shelf m.fragment.meta.name m.generation ≡ None → is_stored (n.shelves v) m.fragment m.generation ≡ true
    is_kept m fact = ap (λ t. is_stored t m.fragment m.generation) seen.shelf ∙ ap (λ o. is_none o) fact

    stored_said : (m : Store) → is_stored (n.shelves v) m.fragment m.generation ≡ true → is_of_log g m.fragment.meta.name ≡ true
        → In (StoredSent m.fragment.meta.name m.fragment.meta.index m.generation) (answers g v (n.shelves v) (Stores m.fragment m.generation) ++ n.sent)
    stored_said m kept_it own =
        let p : Packet = StoredSent m.fragment.meta.name m.fragment.meta.index m.generation in
        subst (λ t. In p (cond (t && is_stored (n.shelves v) m.fragment m.generation) (p ∷ []) [] ++ n.sent)) (sym own)
        (subst (λ t. In p (cond (true && t) (p ∷ []) [] ++ n.sent)) (sym kept_it) (inl refl))

    store_went : (from : NodeId) (m : Store) (o : Option StoreError) → CameToServer g n v (Stores m.fragment m.generation)
        → refusal node.shelf m.fragment.meta.name m.generation ≡ o → Went n (store_done from m o)
    store_went from m (Some e) came fact = stays n node seen
    store_went from m None came fact =
        deed_went (Stores m.fragment m.generation) (shelf_store node.shelf m.fragment) _ came (ap (λ o. cond (is_none o) (shelf_store node.shelf m.fragment) node.shelf) fact)
        (stored_said m (is_kept m fact), tt)

    pub stores_went : (from : NodeId) (m : Store) → CameToServer g n v (Stores m.fragment m.generation) → Went n (on_store node from m)
    unfolding on_store
    stores_went from m came = store_went from m (refusal node.shelf m.fragment.meta.name m.generation) came refl

    -- ---- a Fetch

    fragment_said : (name : SegName) (f : Fragment) → held_at node.shelf.held name ≡ Some f → is_of_log g f.meta.name ≡ true
        → In (FragmentSent f) (answers g v (n.shelves v) (Fetches name) ++ n.sent)
    fragment_said name f fact own =
        let named = ap (λ (x : SegName). is_of_log g x) (found_named node.shelf.held name f fact) ∙ own in
        let held = ap (λ (t : ShelfState). held_at t.held name) seen.shelf ∙ fact in
        subst (λ t. In (FragmentSent f) (cond t (fragment_told (held_at (n.shelves v).held name)) [] ++ n.sent)) (sym named)
        (subst (λ o. In (FragmentSent f) (fragment_told o ++ n.sent)) (sym held) (inl refl))

    fetch_does : (from : NodeId) (m : Fetch) (o : Option Fragment) → held_at node.shelf.held m.name ≡ o
        → EffectSeen g owner (deed_done n (Fetches m.name)) (Server v) (Send from (found_or_missing node.shelf m o))
    fetch_does from m None fact = tt
    fetch_does from m (Some f) fact = fragment_said m.name f fact

    pub fetches_went : (from : NodeId) (m : Fetch) → Went n (tells node (on_fetch node from m))
    fetches_went from m = deed_went (Fetches m.name) node.shelf _ tt refl (fetch_does from m (held_at node.shelf.held m.name) refl, tt)

    -- ---- a Fence

    of_the_log : (m : Fence) → (m.log.0 == g.log.0) ≡ true → m.log ≡ g.log
    of_the_log m own = λ i. record { 0 = eqb-true m.log.0 g.log.0 own i }

    -- what is listed for the log is what the small world lists
    same_list : (m : Fence) → (m.log.0 == g.log.0) ≡ true → of_log m.log (listed_on (fenced_at node.shelf m.log m.pass)) ≡ listed g (n.shelves v)
    same_list m own =
        ap (λ held. of_log m.log (map (λ (f : Fragment). f.meta) held)) (fence_held node.shelf m.log m.pass)
        ∙ (ap (λ log. filter (λ (x : FragMeta). x.name.log.0 == log) (listed_on node.shelf)) (eqb-true m.log.0 g.log.0 own)
        ∙ ap (λ t. listed g t) (sym seen.shelf))

    same_generation : (m : Fence) → (fenced_at node.shelf m.log m.pass).generation ≡ (n.shelves v).generation
    same_generation m = fence_generation node.shelf m.log m.pass ∙ ap (λ (t : ShelfState). t.generation) (sym seen.shelf)

    fenced_said : (m : Fence) → (m.log.0 == g.log.0) ≡ true
        → In (FencedSent v m.pass.inc (fenced_at node.shelf m.log m.pass).generation (of_log m.log (listed_on (fenced_at node.shelf m.log m.pass))))
        (FencedSent v m.pass.inc (n.shelves v).generation (listed g (n.shelves v)) ∷ n.sent)
    fenced_said m own = inl (λ i. FencedSent v m.pass.inc (same_generation m i) (same_list m own i))

    fence_does : (next : Net) (from : NodeId) (m : Fence)
        → ((m.log.0 == g.log.0) ≡ true
        → In (FencedSent v m.pass.inc (fenced_at node.shelf m.log m.pass).generation (of_log m.log (listed_on (fenced_at node.shelf m.log m.pass)))) next.sent)
        → AllByRecursion (EffectSeen g owner next (Server v)) (fence_told from m (fenced_at node.shelf m.log m.pass))
    fence_does next from m said =
        by_test (AllByRecursion (EffectSeen g owner next (Server v))) (is_eq (pass_cmp (fence_of (fenced_at node.shelf m.log m.pass).fences m.log) m.pass)) _ []
        (λ t. (said, tt)) (λ t. tt)

    -- the Fence of another log
    bars_went : (from : NodeId) (m : Fence) → (m.log.0 == g.log.0) ≡ false → Went n (on_fence node from m)
    unfolding on_fence
    bars_went from m other =
        let next : Net = record n { shelves = put n.shelves v (fenced_at (n.shelves v) m.log m.pass) } in
        let runs : Runs g n next = On Begun (Bars v m.log m.pass) in
        record {
          next = next;
          runs = runs;
          seen = reshelved n next node (fenced_at node.shelf m.log m.pass) seen (run_later g n next runs)
              (put_here n.shelves v _ ∙ ap (λ t. fenced_at t m.log m.pass) seen.shelf);
          does = fence_does next from m (λ own. contrary (sym other ∙ own));
          shelves = λ u away. put_there n.shelves v (fenced_at (n.shelves v) m.log m.pass) u away;
          rest = refl;
        }

    own_went : (from : NodeId) (m : Fence) → (m.log.0 == g.log.0) ≡ true → FenceSeen g owner n (Server v) m → Went n (on_fence node from m)
    unfolding on_fence
    own_went from m own sent =
        let came = sent own in
        let log : g.log ≡ m.log = sym (of_the_log m own) in
        let pass : record { inc = m.pass.inc; att = 0 } ≡ m.pass = λ i. record { inc = m.pass.inc; att = sym came.0 i } in
        deed_went (Fences m.pass.inc) (fenced_at node.shelf m.log m.pass) _ came.1 (λ i. fenced_at node.shelf (log i) (pass i))
        (fence_does (deed_done n (Fences m.pass.inc)) from m (fenced_said m))

    pub fences_went : (from : NodeId) (m : Fence) → FenceSeen g owner n (Server v) m → Went n (on_fence node from m)
    fences_went from m sent = by (m.log.0 == g.log.0) refl
      where
        by : (t : Bool) → (m.log.0 == g.log.0) ≡ t → Went n (on_fence node from m)
        by true own = own_went from m own sent
        by false other = bars_went from m other

    -- ---- a list, a deletion, a filling, a loss

    pub lists_went : (from : NodeId) (m : ListAsk) → Went n (tells node (on_list node from m))
    lists_went from m =
        let next : Net = record n { sent = ListedSent (listed g (n.shelves v)) ∷ n.sent } in
        let runs : Runs g n next = On Begun (Lists v) in
        record {
          next = next;
          runs = runs;
          seen = reshelved n next node node.shelf seen (run_later g n next runs) seen.shelf;
          does = (inl (ap (λ t. ListedSent (listed g t)) (sym seen.shelf)), tt);
          shelves = λ u away. refl;
          rest = refl;
        }

    pub deletes_went : (from : NodeId) (m : Delete) → CameToServer g n v (Deletes m.name) → Went n (on_delete node from m)
    unfolding on_delete
    deletes_went from m came = deed_went (Deletes m.name) (without node.shelf m.name) _ came refl (tt, tt)

    pub fills_went : (f : Fragment) → CameToServer g n v (Fills f) → Went n (still (record node { shelf = on_fill node.shelf f }))
    fills_went f came = deed_went (Fills f) (on_fill node.shelf f) [] came refl tt

    pub loses_went : node.shelf.generation < u32_end → Went n (still (record node { shelf = lost node.shelf }))
    loses_went low = deed_went Loses (lost node.shelf) [] (let e = ap (λ (t : ShelfState). t.generation) seen.shelf in omega arith) refl tt
