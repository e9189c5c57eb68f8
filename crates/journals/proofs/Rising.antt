-- What was merged so far: events that may happen and rise, and what is left.
use Rattle.std.proofs.Common.{◌≡◌, refl, sym, ap, subst, ◌∙◌, ℕ, ◌<◌, ◌≢◌, Bool, true, false, cond, List, [], ◌∷◌, ◌++◌, length, Some, None, ◌⊎◌, inl, inr, arith, append_assoc, append-nil}
use Rattle.std.specs.Prelude.{slice_get, slice_set}
use Rattle.std.specs.List.{Contains, cons_option}
use Rattle.std.proofs.lemmas.Option.{same_Some, slice_get_within}
use Rattle.std.proofs.lemmas.List.Elements.{filter_map-append}
use Rattle.version_model.specs.declared.act.Act.{Act}
use Rattle.wire_msg.specs.declared.packet.Do.{Do}
use Rattle.wire_msg.specs.NodeStep.{NodeStep}
use Rattle.xfs_base.specs.declared.node.NodeId.{NodeId}
use Rattle.xfs_base.specs.Nodes.{same_node}
use Rattle.xfs_base.proofs.NodeOrder.{same_node_is, same_node_itself}
use Rattle.world_base.specs.declared.cluster.Cluster.{Cluster}
use Rattle.world_base.specs.declared.world.World.{World}
use Rattle.world_base.specs.declared.event.Event.{Event}
use Rattle.world_base.specs.Cluster.{node_at, node_count, place_of}
use Rattle.world_base.specs.Events.{event_of, node_of, what_of}
use Rattle.world_base.specs.NextWorld.{clock_at, happen_at, next_world}
use Rattle.world_base.specs.Runs.{Leads, MayHappen}
use Rattle.world_base.proofs.Places.{node_stands}
use Rattle.journals.specs.declared.moment.Moment.{Moment}
use Rattle.journals.specs.Journals.{acts_in, whats}
use Rattle.journals.specs.Merging.{AllAfter, AllEmpty, IsAfter, IsLeast, IsNext, Rises, Standing, what_there, whats_of}
use Rattle.journals.proofs.Gets.{has, one_there, set_cases, set_length}
use Rattle.journals.proofs.Stamps.{clock_rises, first_stamp}
use Rattle.journals.proofs.Steps.{after, acted_then, all_after_then, clock_is, happens, may_happen, next_is, next_of, node_is, place_is, stands_then, what_is, within}

-- two places have two names
not_same : (c : Cluster) (p q : ℕ) → p < node_count c → q < node_count c → p ≢ q → (t : Bool) → same_node (node_at c p) (node_at c q) ≡ t → t ≡ false
not_same c p q in_p in_q apart true e =
    absurd (apart (same_Some p q (sym (node_stands c p in_p) ∙ ap (place_of c) (same_node_is (node_at c p) (node_at c q) e) ∙ node_stands c q in_q)))
not_same c p q in_p in_q apart false e = refl

pub apart_names : (c : Cluster) (p q : ℕ) → p < node_count c → q < node_count c → p ≢ q → same_node (node_at c p) (node_at c q) ≡ false
apart_names c p q in_p in_q apart = not_same c p q in_p in_q apart (same_node (node_at c p) (node_at c q)) refl

nothing_left : (ds : List Do) (r : List Moment) → ((h : Moment) (t : List Moment) → r ≡ h ∷ t → ⊥) → (all : List Do) → ds ++ whats r ≡ all → ds ≡ all
nothing_left ds [] none all e = sym (append-nil ds) ∙ e
nothing_left ds (h ∷ t) none all e = absurd (none h t refl)

only_there : (node : NodeId) (e : Event) (t : Bool) → same_node (node_of e) node ≡ t → whats_of node (e ∷ []) ≡ cond t (what_of e ∷ []) []
only_there node e true is = ap (λ b. cons_option (cond b (Some (what_of e)) None) []) is
only_there node e false is = ap (λ b. cons_option (cond b (Some (what_of e)) None) []) is

module _ {N : Type 0} (step : N → Do → NodeStep N) where
  abbrev pub Rising : World N → ℕ → ℕ → List Event → World N → ℕ → ℕ → Type 0
  Rising w c p [] v k q = (w ≡ v) × (c ≡ k) × (p ≡ q)
  Rising w c p (e ∷ es) v k q =
      MayHappen w e × (j : ℕ) × (r : ℕ) × (place_of w.cluster (node_of e) ≡ Some r) × (clock_at w r (what_of e) ≡ Some j) × IsAfter c p j r
      × Rising (next_world step w e) j r es v k q

  rising_more : (w : World N) (c p : ℕ) (es : List Event) (v : World N) (k q : ℕ) (e : Event) (j r : ℕ) → Rising w c p es v k q → MayHappen v e
      → place_of v.cluster (node_of e) ≡ Some r → clock_at v r (what_of e) ≡ Some j → IsAfter k q j r → Rising w c p (es ++ e ∷ []) (next_world step v e) j r
  rising_more w c p [] v k q e j r end may place clock late = (
    subst (λ u. MayHappen u e) (sym end.0) may,
    j,
    r,
    subst (λ (u : World N). place_of u.cluster (node_of e) ≡ Some r) (sym end.0) place,
    subst (λ (u : World N). clock_at u r (what_of e) ≡ Some j) (sym end.0) clock,
    subst (λ a. IsAfter a p j r) (sym end.1) (subst (λ b. IsAfter k b j r) (sym end.2) late),
    (ap (λ u. next_world step u e) end.0, refl, refl),
  )
  rising_more w c p (f ∷ es) v k q e j r led may place clock late =
      (led.0, led.1, led.2, led.3, led.4, led.5, rising_more (next_world step w f) led.1 led.2 es v k q e j r led.6 may place clock late)

  pub leads : (w : World N) (c p : ℕ) (es : List Event) (v : World N) (k q : ℕ) → Rising w c p es v k q → Leads step w es v
  leads w c p [] v k q end = end.0
  leads w c p (f ∷ es) v k q led = (led.0, leads (next_world step w f) led.1 led.2 es v k q led.6)

  pub rises : (w : World N) (c p : ℕ) (es : List Event) (v : World N) (k q : ℕ) → Rising w c p es v k q → Rises step w c p es
  rises w c p [] v k q end = tt
  rises w c p (f ∷ es) v k q led = (led.1, led.2, led.3, led.4, led.5, rises (next_world step w f) led.1 led.2 es v k q led.6)

  -- what was merged so far: the events lead to this world and rise, what is left can go on and comes later, and what happened
  -- and was done at each node is what its journal has without what is left of it
  pub record IsMerged (start : World N) (journals rests : List (List Moment)) (events : List Event) (world : World N) : Type 0 where
    pub standing : Standing step world rests
    pub cluster : world.cluster ≡ start.cluster
    pub clock : ℕ
    pub place : ℕ
    pub rising : Rising start 0 0 events world clock place
    pub all_after : AllAfter rests clock place
    pub count : length rests ≡ length journals
    pub each : (p : ℕ) (r j : List Moment) → slice_get rests p ≡ Some r → slice_get journals p ≡ Some j → whats_of (node_at start.cluster p) events ++ whats r ≡ whats j
    pub acted : (p : ℕ) (f n : N) (r j : List Moment) (a : Act) → slice_get start.nodes p ≡ Some f → slice_get world.nodes p ≡ Some n → slice_get rests p ≡ Some r
        → slice_get journals p ≡ Some j → Contains (acts_in step f (whats j)) a → Contains world.acts a ⊎ Contains (acts_in step n (whats r)) a

  pub merged_none : (start : World N) (journals : List (List Moment)) → Standing step start journals → IsMerged start journals journals [] start
  merged_none start journals s = record {
    standing = s;
    cluster = refl;
    clock = 0;
    place = 0;
    rising = (refl, refl, refl);
    all_after = λ q h t got.
        let k = has start.clocks q (let l = slice_get_within journals q (h ∷ t) got in omega (arith, s.clocks, s.count)) in
        let up = clock_rises k.0 h.clock h.what (first_stamp k.0 h t (s.stamped q (h ∷ t) k.0 got k.1)).0 in
        inl (omega arith);
    count = refl;
    each = λ p r j rest journal. ap whats (one_there journals p r j rest journal);
    acted = λ p f n r j a at_f at_n rest journal found.
        inr (subst (λ ms. Contains (acts_in step n (whats ms)) a) (one_there journals p j r journal rest)
        (subst (λ o. Contains (acts_in step o (whats j)) a) (one_there start.nodes p f n at_f at_n) found));
  }

  pub merged_more : (start : World N) (journals rests : List (List Moment)) (events : List Event) (w : World N) (p : ℕ) (m : Moment) (tail : List Moment)
      → IsMerged start journals rests events w → slice_get rests p ≡ Some (m ∷ tail) → IsLeast rests p m.clock
      → IsMerged start journals (slice_set rests p tail) (events ++ event_of (node_at w.cluster p) m.what ∷ []) (happen_at step w p m.what)
  merged_more start journals rests events w p m tail i rest least =
      let found = next_of step w rests p m tail i.standing rest least in
      let c = found.0 in
      let n = found.1 in
      let x = found.2 in
      let e = event_of (node_at w.cluster p) m.what in
      let node : node_of e ≡ node_at start.cluster p = node_is step w rests p c n m tail x ∙ ap (λ k. node_at k p) i.cluster in
      let what : what_of e ≡ m.what = what_is step w rests p c n m tail x in
      let next : next_world step w e ≡ happen_at step w p m.what = happens step w rests p c n m tail x in
      let done : happen_at step w p m.what ≡ after step w p m.clock n m.what = next_is step w rests p c n m tail x in
      let clock : clock_at w p (what_of e) ≡ Some m.clock = ap (clock_at w p) what ∙ clock_is step w rests p c n m tail x in
      let in_p : p < node_count start.cluster = subst (λ k. p < node_count k) i.cluster (within step w rests p c n m tail x) in
      let merged : IsMerged start journals (slice_set rests p tail) (events ++ e ∷ []) (after step w p m.clock n m.what) = record {
        standing = stands_then step w rests p c n m tail x;
        cluster = i.cluster;
        clock = m.clock;
        place = p;
        rising = subst (λ v. Rising start 0 0 (events ++ e ∷ []) v m.clock p) (next ∙ done)
            (rising_more start 0 0 events w i.clock i.place e m.clock p i.rising (may_happen step w rests p c n m tail x) (place_is step w rests p c n m tail x) clock
            (i.all_after p m tail rest));
        all_after = all_after_then step w rests p c n m tail x;
        count = set_length rests p tail ∙ i.count;
        each = λ q r j now journal.
            let name = node_at start.cluster q in
            let split = filter_map-append (what_there name) events (e ∷ []) in
            elim (set_cases rests p q tail r now) [
              | inl here ↦
                  let same : node_of e ≡ name = node ∙ ap (node_at start.cluster) (sym here.0) in
                  let hit : same_node (node_of e) name ≡ true = ap (λ k. same_node k name) same ∙ same_node_itself name in
                  let one : whats_of name (e ∷ []) ≡ m.what ∷ [] = only_there name e true hit ∙ ap (λ d. d ∷ []) what in
                  let before = i.each p (m ∷ tail) j rest (subst (λ k. slice_get journals k ≡ Some j) here.0 journal) in
                  let at_q : whats_of name events ≡ whats_of (node_at start.cluster p) events = ap (λ k. whats_of (node_at start.cluster k) events) here.0 in
                  ap (λ ds. ds ++ whats r) split ∙ ap (λ ds. (whats_of name events ++ ds) ++ whats r) one
                  ∙ append_assoc (whats_of name events) (m.what ∷ []) (whats r)
                  ∙ ap (λ t. whats_of name events ++ m.what ∷ whats t) here.1
                  ∙ ap (λ ds. ds ++ m.what ∷ whats tail) at_q ∙ before
              | inr there ↦
                  let in_q : q < node_count start.cluster =
                  let h = slice_get_within rests q r there.1 in
                  let k : node_count w.cluster ≡ node_count start.cluster = ap node_count i.cluster in
                  omega (arith, i.standing.count)
                  in
                  let miss : same_node (node_of e) name ≡ false = ap (λ k. same_node k name) node ∙ apart_names start.cluster p q in_p in_q there.0 in
                  let one : whats_of name (e ∷ []) ≡ [] = only_there name e false miss in
                  ap (λ ds. ds ++ whats r) split ∙ ap (λ ds. (whats_of name events ++ ds) ++ whats r) one
                  ∙ ap (λ ds. ds ++ whats r) (append-nil (whats_of name events)) ∙ i.each q r j there.1 journal
            ];
        acted = λ q f o r j a at_f at_o now journal found_a.
            acted_then step w rests p c n m tail x q o r a at_o now (λ old before at_old at_before. i.acted q f old before j a at_f at_old at_before journal found_a);
      }
      in
      subst (λ v. IsMerged start journals (slice_set rests p tail) (events ++ e ∷ []) v) (sym done) merged

  -- a step of the merge, as the code takes it
  pub merged_next : (start : World N) (journals rests : List (List Moment)) (events : List Event) (w : World N) (p : ℕ) (m : Moment) (new : List (List Moment)) (node : NodeId)
      (e : Event) (events' : List Event) (w' : World N) → IsMerged start journals rests events w → IsNext rests new p m → node ≡ node_at w.cluster p → e ≡ event_of node m.what
      → events' ≡ events ++ e ∷ [] → w' ≡ happen_at step w p m.what → IsMerged start journals new events' w'
  merged_next start journals rests events w p m new node e events' w' i x name was more next =
      let event : events' ≡ events ++ event_of (node_at w.cluster p) m.what ∷ [] = more ∙ ap (λ f. events ++ f ∷ []) (was ∙ ap (λ k. event_of k m.what) name) in
      subst (λ r. IsMerged start journals r events' w') (sym x.left)
      (subst (λ es. IsMerged start journals (slice_set rests p x.tail) es w') (sym event)
      (subst (λ v. IsMerged start journals (slice_set rests p x.tail) (events ++ event_of (node_at w.cluster p) m.what ∷ []) v) (sym next)
      (merged_more start journals rests events w p m x.tail i x.at x.least)))

  -- in the end each journal has happened whole
  pub merged_all : (start : World N) (journals rests : List (List Moment)) (events : List Event) (w : World N) → IsMerged start journals rests events w → AllEmpty rests
      → (p : ℕ) (j : List Moment) → slice_get journals p ≡ Some j → whats_of (node_at start.cluster p) events ≡ whats j
  merged_all start journals rests events w i empty p j journal =
      let in_j = slice_get_within journals p j journal in
      let r = has rests p (omega (arith, i.count)) in
      nothing_left (whats_of (node_at start.cluster p) events) r.0 (λ h t is. empty p h t (r.1 ∙ ap Some is)) (whats j) (i.each p r.0 j r.1 journal)

  nothing_done : (n : N) (done : List Act) (r : List Moment) (a : Act) → ((h : Moment) (t : List Moment) → r ≡ h ∷ t → ⊥) → Contains done a ⊎ Contains (acts_in step n (whats r)) a → Contains done a
  nothing_done n done r a none (inl now) = now
  nothing_done n done [] a none (inr later) = absurd (let h = later.1 in omega arith)
  nothing_done n done (h ∷ t) a none (inr later) = absurd (none h t refl)

  -- and all that its node did is done
  pub merged_acts : (start : World N) (journals rests : List (List Moment)) (events : List Event) (w : World N) → IsMerged start journals rests events w → AllEmpty rests
      → (p : ℕ) (f : N) (j : List Moment) (a : Act) → slice_get start.nodes p ≡ Some f → slice_get journals p ≡ Some j → Contains (acts_in step f (whats j)) a → Contains w.acts a
  merged_acts start journals rests events w i empty p f j a at_f journal found =
      let in_j = slice_get_within journals p j journal in
      let r = has rests p (omega (arith, i.count)) in
      let n = has w.nodes p (omega (arith, i.count, i.standing.nodes, i.standing.count)) in
      nothing_done n.0 w.acts r.0 a (λ h t is. empty p h t (r.1 ∙ ap Some is)) (i.acted p f n.0 r.0 j a at_f n.1 r.1 journal found)
