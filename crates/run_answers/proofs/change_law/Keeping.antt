-- What an event of a client finds of blocks; and what clients have read lasts through it.
use Rattle.std.proofs.Common.{◌≡◌, ◌⊎◌, ℕ, suc, true, List, [], ◌∷◌, ◌++◌, slice_get, Option, Some, None, inl, inr, refl, sym, ap, subst, ◌∙◌}
use Rattle.std.specs.List.{AllByRecursion}
use Rattle.client_call.specs.declared.call.Going.TheVariants.{On}
use Rattle.client_call.specs.declared.call.Going.{Going}
use Rattle.client_node.specs.Phases.{client_step, lasting_of}
use Rattle.client_node.specs.declared.client.Client.{Client}
use Rattle.client_node.specs.declared.phase.Phase.TheVariants.{Down, Opening, Serving as Serves}
use Rattle.client_node.specs.declared.phase.Phase.{Phase}
use Rattle.client_serving.specs.declared.serving.Serving.{Serving}
use Rattle.core_world.specs.AnyNode.{any_start, any_step}
use Rattle.core_world.specs.declared.any_node.AnyNode.TheVariants as any
use Rattle.core_world.specs.declared.any_node.AnyNode.{AnyNode}
use Rattle.headline.specs.Calls.{call_in, held_in, of_items, open_in}
use Rattle.headline.specs.Falls.{HasFallen}
use Rattle.headline.specs.Moments.{moment, node_named}
use Rattle.headline.specs.Owners.{tokens_at, tokens_in, tokens_of}
use Rattle.headline.specs.Restarts.{NoDoubtfulRestart}
use Rattle.headline.specs.Updates.{versions_behind}
use Rattle.headline.specs.Versions.{OwnsFrom}
use Rattle.node_base.specs.Setups.{IsSetup}
use Rattle.run_answers.proofs.change_law.Finding.{AreNewest, finds, none_returns, walk_none, Finds, NoneFell, walk_calm, walk_waiting}
use Rattle.run_answers.proofs.change_law.Lasting.{IsAbove, Lasts, act_lasts, acts_last, fall_leaves, history_items, legal_behind, legal_items}
use Rattle.run_answers.proofs.change_law.Naming.{OpenKnows, begins_known, open_more}
use Rattle.run_answers.proofs.change_law.Stepping as stepping
use Rattle.run_answers.proofs.change_law.Stepping.{Below, StepsIn}
use Rattle.run_answers.proofs.change_law.Turns.Walks.{On_it, Starts, Stays, Drops}
use Rattle.run_answers.proofs.change_law.Turns.{Walks, IsFallOf}
use Rattle.run_answers.proofs.change_law.Walking.{Walk}
use Rattle.run_answers.proofs.linear_law.Histories.{IsNoReturn}
use Rattle.run_answers.proofs.once_law.Runs.{Known, node_known}
use Rattle.headline.specs.Changes.CallsFind.{GoesOn, Begins, Rests}
use Rattle.headline.specs.Changes.{CallsFind}
use Rattle.run_laws.proofs.world_law.RegistryTurns.{slot_below}
use Rattle.token_client.specs.Held.{is_dirty}
use Rattle.token_client.specs.State.{held_of}
use Rattle.token_protocol.specs.Basics.{In}
use Rattle.version_model.proofs.Onward.{history_through}
use Rattle.version_model.specs.Effects.{after_act, history_after}
use Rattle.version_model.specs.History.{History, nothing_yet}
use Rattle.version_model.specs.Legal.{AreLegalFrom, MayFall}
use Rattle.version_model.specs.declared.act.Act.TheVariants as act
use Rattle.version_model.specs.declared.act.Act.{Act}
use Rattle.version_model.specs.declared.act.Fall.{Fall}
use Rattle.version_model.specs.declared.history.FallTold.{FallTold}
use Rattle.world_base.specs.Events.{node_of, what_of}
use Rattle.world_base.specs.Runs.{IsRun}
use Rattle.world_base.specs.declared.estate.Estate.{Estate}
use Rattle.world_base.specs.declared.event.Event.{Event}
use Rattle.world_base.specs.declared.world.World.{World}
use Rattle.xfs_base.proofs.Booleans.{contrary}
use Rattle.xfs_base.specs.Blocks.{slot_of}
use Rattle.xfs_base.specs.declared.block.BlockId.{BlockId}

all_in : (P : Fall → Type 0) (xs : List Fall) → AllByRecursion P xs → (f : Fall) → In f xs → P f
all_in P [] all f among = absurd among
all_in P (x ∷ xs) all f (inl same) = subst P (sym same) all.0
all_in P (x ∷ xs) all f (inr later) = all_in P xs all.1 f later

module _ (below : Below) (e : Estate AnyNode) (setup : IsSetup e.script.setup) (run : IsRun any_step any_start e.script e.events e.world) (count : ℕ) (event : Event)
    (happens : slice_get e.events count ≡ Some event) (undoubted : NoDoubtfulRestart e (suc count)) (c : Client) (steps : StepsIn e count event c) where
  abbrev pub w : World AnyNode
  w = moment e count

  abbrev pub number : ℕ
  number = (lasting_of c.phase).number

  abbrev versions : BlockId → ℕ
  versions b = versions_behind w.acts b

  abbrev pub after : Phase
  after = (client_step c (what_of event)).node.phase

  abbrev pub acts : List Act
  acts = (client_step c (what_of event)).acts

  abbrev pub now_acts : List Act
  now_acts = (moment e (suc count)).acts

  -- the histories before the event, and behind it
  abbrev pub h : History
  h = history_after w.acts nothing_yet

  abbrev pub g : History
  g = history_after now_acts nothing_yet

  known : Known e (node_of event) (any.Client c)
  known = node_known e count (node_of event) (any.Client c) steps.there

  history_next : g ≡ history_after (of_items acts) h
  history_next =
      ap (λ (xs : List Act). history_after xs nothing_yet) steps.grown ∙ (history_through w.acts acts nothing_yet ∙ sym (history_items acts h))

  behind_walk : (xs : List Act) → xs ≡ of_items acts → AllByRecursion IsNoReturn xs → AreNewest versions (held_in after) xs
  behind_walk xs same none =
      subst (AreNewest versions (held_in after)) (sym same)
      (stepping.newest below e setup run count event happens undoubted c steps after refl (none_returns acts (subst (AllByRecursion IsNoReturn) same none)))

  -- where it leaves the falls that wait, none of them is of a block that is held behind it
  none_fell : g.told ≡ h.told → (q : Phase) → q ≡ after → NoneFell h.told (held_in q)
  none_fell same (Down l) is b held d t waits f fell at = contrary held
  none_fell same (Opening l o) is b held d t waits f fell at = contrary held
  none_fell same (Serves s) is b held d t waits f fell at =
      let there : tokens_at (moment e (suc count)) number ≡ Some s.tokens =
      ap (λ n. tokens_of (node_named (moment e (suc count)) n)) known.named ∙ (ap tokens_of steps.behind ∙ ap tokens_in (sym is)) in
      let fallen : HasFallen (moment e (suc count)) b d =
      record { told_so = t; among = subst (λ (told : ℕ → List FallTold). In t (told d)) (sym same) waits; fall = f; named = fell; block = at } in
      contrary (sym (below.nobody e setup run (suc count) b d number s.tokens fallen there) ∙ held)

  walk_told : {item : Option ℕ} {going : Going} {xs : List Act} → Walk number item (held_in after) versions going xs (call_in after) → xs ≡ of_items acts → g.told ≡ h.told
  walk_told {xs = xs} walk are =
      ap (λ (x : History). x.told) (history_next ∙ ap (λ (ys : List Act). history_after ys h) (sym are)) ∙ walk_waiting walk h

  behind_are : (xs : List Act) → xs ≡ of_items acts → history_after xs h ≡ g
  behind_are xs are = ap (λ (ys : List Act). history_after ys h) are ∙ sym history_next

  through_are : (xs : List Act) → xs ≡ of_items acts → history_after (w.acts ++ xs) nothing_yet ≡ g
  through_are xs are = history_through w.acts xs nothing_yet ∙ behind_are xs are

  -- ---- its own call

  -- what its calls find, and that what its open call has read lasts
  pub record Found (xs : List Act) : Type 0 where
    pub finds : CallsFind number w.acts c.phase (what_of event) xs after
    pub known : OpenKnows (Lasts g number) (call_in after)

  module _ (read : OpenKnows (Lasts h number) (call_in c.phase)) where
    found : (xs : List Act) → xs ≡ of_items acts → Walks number versions c.phase (what_of event) xs after → Found xs
    found xs are (On_it call is walk) =
        let f : Finds number (held_in after) (open_in c.phase) w.acts (On call) xs (call_in after) =
        finds number (held_in after) walk w.acts (λ b. refl) (behind_walk xs are (walk_none walk)) (none_fell (walk_told walk are) after refl)
        (subst (OpenKnows (Lasts h number)) is read) in
        record {
          finds = GoesOn call is f.stretch;
          known = subst (λ (x : History). OpenKnows (Lasts x number) (call_in after)) (through_are xs are) f.known;
        }
    found xs are (Starts {s = s} n wanted going is b free made walk) =
        let f : Finds number (held_in after) (Some n) w.acts going xs (call_in after) =
        finds number (held_in after) walk w.acts (λ b. refl) (behind_walk xs are (walk_none walk)) (none_fell (walk_told walk are) after refl)
        (begins_known (Lasts h number) s n wanted going made) in
        record {
          finds = Begins n wanted going is b free made f.stretch;
          known = subst (λ (x : History). OpenKnows (Lasts x number) (call_in after)) (through_are xs are) f.known;
        }
    found xs are (Stays none ends calm calls) = record { finds = Rests none ends calls; known = by calls }
      where
        by : (call_in after ≡ call_in c.phase) ⊎ (call_in after ≡ None) → OpenKnows (Lasts g number) (call_in after)
        by (inl same) =
            subst (OpenKnows (Lasts g number)) (sym same)
            (open_more (Lasts h number) (Lasts g number)
            (λ b v l. subst (λ (x : History). Lasts x number b v) (behind_are xs are) (acts_last number b v xs h calm l)) (call_in c.phase) read)
        by (inr over) = subst (OpenKnows (Lasts g number)) (sym over) tt
    found xs are (Drops flight falls rest at fell calm its none ends over) =
        record { finds = Rests none ends (inr over); known = subst (OpenKnows (Lasts g number)) (sym over) tt }

    pub calls_found : Found (of_items acts)
    calls_found = found (of_items acts) refl (stepping.walks below e setup run count event happens undoubted c steps)

  -- ---- what another client has read

  legal : AreLegalFrom h (of_items acts)
  legal =
      legal_items acts h
      (legal_behind w.acts acts nothing_yet (subst (AreLegalFrom nothing_yet) steps.grown (below.acts e setup run (suc count) undoubted)))

  module _ (d : ℕ) (apart : number ≡ d → ⊥) (b : BlockId) (v : ℕ) (l : Lasts h d b v) where
    abbrev part : ℕ
    part = slot_of b.ino.0

    fall_above : {s : Serving} (f : Fall) → c.phase ≡ Serves s → IsFallOf s f → MayFall number (h.of_block f.block) f → f.block ≡ b → IsAbove v f
    fall_above {s} f at its may is =
        let there : tokens_at w number ≡ Some s.tokens = ap (λ n. tokens_of (node_named w n)) known.named ∙ (ap tokens_of steps.there ∙ ap tokens_in at) in
        let dirty : is_dirty (held_of s.tokens.blocks b) ≡ true = subst (λ (x : BlockId). is_dirty (held_of s.tokens.blocks x) ≡ true) is its.dirty in
        let low : (held_of s.tokens.blocks b).settled ≡ f.low = sym (subst (λ (x : BlockId). f.low ≡ (held_of s.tokens.blocks x).settled) is its.low) in
        let leads = ((below.own e setup run).each count (stepping.undoubted_before below e setup run count event happens undoubted c steps) part (slot_below b.ino.0)).leads
        b number s.tokens refl there dirty in
        fall_leaves d number b v h f (held_of s.tokens.blocks b).ver apart l (subst (λ (x : BlockId). MayFall number (h.of_block x) f) is may)
        (subst (λ (n : ℕ). OwnsFrom (h.of_block b) number n (held_of s.tokens.blocks b).ver) low leads.owns)

    lasts_by : (xs : List Act) → xs ≡ of_items acts → Walks number versions c.phase (what_of event) xs after → Lasts (history_after xs h) d b v
    lasts_by xs are (On_it call is walk) = acts_last d b v xs h (walk_calm walk) l
    lasts_by xs are (Starts n wanted going is begun free made walk) = acts_last d b v xs h (walk_calm walk) l
    lasts_by xs are (Stays none ends calm calls) = acts_last d b v xs h calm l
    lasts_by xs are (Drops {s = s} flight falls rest at fell calm its none ends over) =
        subst (λ (ys : List Act). Lasts (history_after ys h) d b v) (sym fell)
        (acts_last d b v rest (after_act (act.Fell number flight falls) h) calm
        (act_lasts d b v (act.Fell number flight falls) h
        (λ f among is. fall_above {s = s} f at (its f among) (all_in (λ x. MayFall number (h.of_block x.block) x) falls may.0.1 f among) is) l))
      where
        may : AreLegalFrom h (act.Fell number flight falls ∷ rest)
        may = subst (AreLegalFrom h) (sym are ∙ fell) legal

    pub other_lasts : Lasts g d b v
    other_lasts =
        subst (λ (x : History). Lasts x d b v) (sym history_next)
        (lasts_by (of_items acts) refl (stepping.walks below e setup run count event happens undoubted c steps))
