-- What was merged so far is a run in which the journals lead the nodes to those at the end.
use Rattle.std.proofs.Common.{◌≡◌, refl, sym, ap, subst, ◌∙◌, ℕ, zero, suc, ◌<◌, List, [], ◌∷◌, ◌++◌, length, map, Some, inl, inr, arith}
use Rattle.std.specs.Prelude.{slice_get, slice_set}
use Rattle.std.proofs.lemmas.Option.{slice_get_within}
use Rattle.script_text.specs.declared.script.Script.{Script}
use Rattle.version_model.specs.declared.act.Act.{Act}
use Rattle.version_model.specs.declared.work.Work.{Work}
use Rattle.wire_msg.specs.declared.packet.Do.{Do}
use Rattle.wire_msg.specs.declared.packet.Packet.{Packet}
use Rattle.wire_msg.specs.NodeStep.{NodeStep}
use Rattle.xfs_base.specs.declared.node.NodeId.{NodeId}
use Rattle.xfs_base.specs.declared.setup.Setup.{Setup}
use Rattle.world_base.specs.declared.cluster.Cluster.{Cluster}
use Rattle.world_base.specs.declared.world.World.{World}
use Rattle.world_base.specs.Cluster.{cluster_of, node_at, node_count}
use Rattle.world_base.specs.Events.{event_of}
use Rattle.world_base.specs.NextWorld.{first_nodes, sent_at, start_world}
use Rattle.journals.specs.declared.merged.Merged.{Merged}
use Rattle.journals.specs.declared.moment.Moment.{Moment}
use Rattle.journals.specs.Journals.{IsTold, replayed, retold, told_by, whats}
use Rattle.journals.specs.Merged.{merged_add, none_merged, into_world}
use Rattle.journals.specs.Merging.{AllEmpty, AreTold, IsNext, Standing}
use Rattle.journals.proofs.Gets.{has, one_there, set_cases, set_length, set_other, set_same}
use Rattle.journals.proofs.Rising.{IsMerged, merged_next, merged_none}
use Rattle.journals.proofs.Steps.{after, next_is, next_of}

-- two lists of one length with the same item at each place are equal
same_items : {X : Type 0} (xs ys : List X) → length xs ≡ length ys → ((k : ℕ) (x y : X) → slice_get xs k ≡ Some x → slice_get ys k ≡ Some y → x ≡ y) → xs ≡ ys
same_items [] [] count each = refl
same_items [] (y ∷ ys) count each = absurd (omega arith)
same_items (x ∷ xs) [] count each = absurd (omega arith)
same_items (x ∷ xs) (y ∷ ys) count each =
    ap (λ z. z ∷ xs) (each zero x y refl refl) ∙ ap (λ zs. y ∷ zs) (same_items xs ys (omega arith) (λ k a b. each (suc k) a b))

first_moment : (m k : Moment) (ms ks : List Moment) → m ∷ ms ≡ k ∷ ks → m ≡ k
first_moment m k ms ks e = cc

other_moments : (m k : Moment) (ms ks : List Moment) → m ∷ ms ≡ k ∷ ks → ms ≡ ks
other_moments m k ms ks e = cc

-- a world of equal parts
same_world : {N : Type 0} (c d : Cluster) (nodes : List N) (ks ls : List ℕ) (sent told : List Packet) (acts deeds : List Act) → c ≡ d → ks ≡ ls → sent ≡ told → acts ≡ deeds
    → (v w : World N) → v ≡ record { cluster = c; nodes = nodes; clocks = ks; sent = sent; acts = acts }
    → w ≡ record { cluster = d; nodes = nodes; clocks = ls; sent = told; acts = deeds } → v ≡ w
same_world c d nodes ks ls sent told acts deeds e f g h v w is_v is_w = cc

module _ {N : Type 0} (step : N → Do → NodeStep N) where
  -- what a journal says of its first moment, and the rest of it
  pub told_first : (n : N) (m : Moment) (ms : List Moment) → IsTold step n (m ∷ ms)
      → (m.packets ≡ map (sent_at m.clock) (step n m.what).packets) × (m.acts ≡ (step n m.what).acts) × IsTold step (step n m.what).node ms
  told_first n m ms told =
      let front : told_by (step n m.what) m ≡ m = first_moment (told_by (step n m.what) m) m _ ms told in (
        sym (ap (λ (k : Moment). k.packets) front),
        sym (ap (λ (k : Moment). k.acts) front),
        other_moments (told_by (step n m.what) m) m _ ms told,
      )

  -- with one moment more, which says what the node sent and did in it
  pub told_more : (n : N) (ms : List Moment) (m : Moment) → IsTold step n ms → told_by (step (replayed step n (whats ms)) m.what) m ≡ m → IsTold step n (ms ++ m ∷ [])
  told_more n [] m told is = ap (λ k. k ∷ []) is
  told_more n (x ∷ ms) m told is =
      ap (λ k. k ∷ retold step (step n x.what).node (ms ++ m ∷ [])) (first_moment (told_by (step n x.what) x) x _ ms told)
      ∙ ap (λ ks. x ∷ ks) (told_more (step n x.what).node ms m (other_moments (told_by (step n x.what) x) x _ ms told) is)

  -- what was merged so far are the events of a run, and all of its world but the nodes; what is left of the journals leads its nodes to those at the end
  pub record Keeps (start : World N) (journals rests : List (List Moment)) (ends : List N) (t : Merged) : Type 0 where
    pub world : World N
    pub run : IsMerged step start journals rests t.events world
    pub told : AreTold step world.nodes rests ends
    pub same : into_world t world.nodes ≡ world

  pub keeps_none : (first : NodeId → Setup → List Work → N) (script : Script) (journals : List (List Moment)) (ends : List N) → Standing step (start_world first script) journals
      → AreTold step (first_nodes first script (cluster_of script.setup)) journals ends
      → Keeps (start_world first script) journals journals ends (none_merged (cluster_of script.setup))
  unfolding start_world
  keeps_none first script journals ends standing told = record {
    world = start_world first script;
    run = merged_none step (start_world first script) journals standing;
    told = told;
    same = refl;
  }

  -- what a moment tells is what the world is after it
  same_after : (w : World N) (t : Merged) (p : ℕ) (n : N) (m : Moment) → into_world t w.nodes ≡ w → m.packets ≡ map (sent_at m.clock) (step n m.what).packets
      → m.acts ≡ (step n m.what).acts → into_world (merged_add t p m) (slice_set w.nodes p (step n m.what).node) ≡ after step w p m.clock n m.what
  same_after w t p n m same packets acts =
      let sent : t.sent ++ m.packets ≡ w.sent ++ map (sent_at m.clock) (step n m.what).packets =
      ap (λ (v : World N). v.sent ++ m.packets) same ∙ ap (λ xs. w.sent ++ xs) packets
      in
      let done : t.acts ++ m.acts ≡ w.acts ++ (step n m.what).acts = ap (λ (v : World N). v.acts ++ m.acts) same ∙ ap (λ xs. w.acts ++ xs) acts in
      same_world t.cluster w.cluster (slice_set w.nodes p (step n m.what).node) (slice_set t.clocks p m.clock) (slice_set w.clocks p m.clock) (t.sent ++ m.packets)
      (w.sent ++ map (sent_at m.clock) (step n m.what).packets) (t.acts ++ m.acts) (w.acts ++ (step n m.what).acts) (ap (λ (v : World N). v.cluster) same)
      (ap (λ (v : World N). slice_set v.clocks p m.clock) same) sent done
      (into_world (merged_add t p m) (slice_set w.nodes p (step n m.what).node)) (after step w p m.clock n m.what) refl refl

  told_then : (nodes ends : List N) (rests : List (List Moment)) (p : ℕ) (n : N) (m : Moment) (tail : List Moment) → AreTold step nodes rests ends
      → slice_get nodes p ≡ Some n → slice_get rests p ≡ Some (m ∷ tail) → AreTold step (slice_set nodes p (step n m.what).node) (slice_set rests p tail) ends
  told_then nodes ends rests p n m tail told node rest = record {
    count = told.count ∙ sym (set_length rests p tail);
    each = λ q f end r at_f at_end at_r. elim (set_cases rests p q tail r at_r) [
      | inl here ↦
          let next = (step n m.what).node in
          let is : f ≡ next =
          one_there (slice_set nodes p next) p f next (subst (λ (k : ℕ). slice_get (slice_set nodes p next) k ≡ Some f) here.0 at_f) (set_same nodes p n next node)
          in
          let was = told.each p n end (m ∷ tail) node (subst (λ (k : ℕ). slice_get ends k ≡ Some end) here.0 at_end) rest in
          let now : IsTold step next tail × (replayed step next (whats tail) ≡ end) = ((told_first n m tail was.0).2, was.1) in
          subst (λ (o : N). IsTold step o r × (replayed step o (whats r) ≡ end)) (sym is)
          (subst (λ (t : List Moment). IsTold step next t × (replayed step next (whats t) ≡ end)) (sym here.1) now)
      | inr there ↦ told.each q f end r (sym (set_other nodes p q (step n m.what).node there.0) ∙ at_f) at_end there.1
    ];
  }

  -- a step of the merge, as the code takes it
  pub keeps_next : (start : World N) (journals rests : List (List Moment)) (ends : List N) (t : Merged) (p : ℕ) (m : Moment) (new : List (List Moment)) (more : Merged)
      → Keeps start journals rests ends t → IsNext rests new p m → more ≡ merged_add t p m → Keeps start journals new ends more
  keeps_next start journals rests ends t p m new more k x is =
      let w = k.world in
      let found = next_of step w rests p m x.tail k.run.standing x.at x.least in
      let c = found.0 in
      let n = found.1 in
      let w' = after step w p m.clock n m.what in
      let told = told_first n m x.tail
      (k.told.each p n (has ends p (omega (arith, k.told.count, slice_get_within rests p (m ∷ x.tail) x.at))).0 (m ∷ x.tail) found.2.node
      (has ends p (omega (arith, k.told.count, slice_get_within rests p (m ∷ x.tail) x.at))).1 x.at).0
      in
      let same : into_world (merged_add t p m) w'.nodes ≡ w' = same_after w t p n m k.same told.0 told.1 in
      let node = node_at t.cluster p in
      let name : node ≡ node_at w.cluster p = ap (λ (v : World N). node_at v.cluster p) k.same in
      let run : IsMerged step start journals new (merged_add t p m).events w' =
      merged_next step start journals rests t.events w p m new node (event_of node m.what) (merged_add t p m).events w' k.run x name refl refl
      (sym (next_is step w rests p c n m x.tail found.2))
      in
      let next : Keeps start journals new ends (merged_add t p m) = record {
        world = w';
        run = run;
        told = subst (λ rs. AreTold step w'.nodes rs ends) (sym x.left) (told_then w.nodes ends rests p n m x.tail k.told found.2.node x.at);
        same = same;
      }
      in
      subst (λ (u : Merged). Keeps start journals new ends u) (sym is) next

  -- the place of a moment is one of those with a clock
  pub has_clock : (start : World N) (journals rests : List (List Moment)) (ends : List N) (t : Merged) (p : ℕ) (m : Moment) (new : List (List Moment))
      → Keeps start journals rests ends t → IsNext rests new p m → p < length t.clocks
  has_clock start journals rests ends t p m new k x =
      let within = slice_get_within rests p (m ∷ x.tail) x.at in
      let clocks : length t.clocks ≡ length k.world.clocks = ap (λ (v : World N). length v.clocks) k.same in
      omega (arith, k.run.standing.count, k.run.standing.clocks)

  -- and one of the nodes
  pub has_node : (start : World N) (journals rests : List (List Moment)) (ends : List N) (t : Merged) (p : ℕ) (m : Moment) (new : List (List Moment))
      → Keeps start journals rests ends t → IsNext rests new p m → p < node_count t.cluster
  has_node start journals rests ends t p m new k x =
      let within = slice_get_within rests p (m ∷ x.tail) x.at in
      let cluster : node_count t.cluster ≡ node_count k.world.cluster = ap (λ (v : World N). node_count v.cluster) k.same in
      omega (arith, k.run.standing.count)

  ended : (n end : N) (r : List Moment) → ((h : Moment) (t : List Moment) → r ≡ h ∷ t → ⊥) → replayed step n (whats r) ≡ end → n ≡ end
  ended n end [] none is = is
  ended n end (h ∷ t) none is = absurd (none h t refl)

  -- where nothing is left the nodes are those at the end
  pub ends_so : (start : World N) (journals rests : List (List Moment)) (ends : List N) (t : Merged) (k : Keeps start journals rests ends t) → AllEmpty rests
      → k.world ≡ into_world t ends
  ends_so start journals rests ends t k empty =
      let nodes : k.world.nodes ≡ ends =
      same_items k.world.nodes ends (omega (arith, k.told.count, k.run.standing.count, k.run.standing.nodes)) (λ p n end at_n at_end.
      let r = has rests p (omega (arith, k.told.count, slice_get_within ends p end at_end)) in
      ended n end r.0 (λ h tail e. empty p h tail (r.1 ∙ ap Some e)) (k.told.each p n end r.0 at_n at_end r.1).1)
      in
      sym k.same ∙ ap (λ ns. into_world t ns) nodes
