-- The journals of all cells, once their ends were compared, can be merged.
use Rattle.std.proofs.Common.{◌≡◌, refl, sym, ap, subst, ◌∙◌, ℕ, ◌<◌, Bool, true, List, [], ◌∷◌, length, Option, Some, None, inl, inr, arith}
use Rattle.std.specs.Prelude.{slice_get}
use Rattle.std.specs.List.{Contains, cons_option}
use Rattle.std.proofs.Props.{props}
use Rattle.std.proofs.Math.Logic.{∥∥₁_elim}
use Rattle.std.proofs.lemmas.Option.{same_Some, slice_get_within}
use Rattle.std.proofs.lemmas.List.Elements.{Contains-append_cases, Contains-append_right, Contains-push_cases}
use Rattle.rtrb.specs.Ring.{IsPair, sent}
use Rattle.script_text.specs.declared.script.Script.{Script}
use Rattle.version_model.specs.declared.work.Work.{Work}
use Rattle.wire_msg.specs.declared.packet.Do.{Do}
use Rattle.wire_msg.specs.declared.packet.Do.TheVariants.{Begin, Deliver, Tick}
use Rattle.wire_msg.specs.declared.packet.Packet.{Packet}
use Rattle.wire_msg.specs.NodeStep.{NodeStep}
use Rattle.xfs_base.specs.declared.node.NodeId.{NodeId}
use Rattle.xfs_base.specs.declared.setup.Setup.{Setup}
use Rattle.world_base.specs.declared.cluster.Cluster.{Cluster}
use Rattle.world_base.specs.Cluster.{cluster_of, node_at, node_count, place_of}
use Rattle.world_base.specs.NextWorld.{first_nodes, start_world}
use Rattle.world_base.proofs.Places.{node_there}
use Rattle.journals.specs.declared.moment.Moment.{Moment}
use Rattle.journals.specs.Journals.{IsTold, delivered_in, is_stamped, packet_of, replayed, sent_in, whats}
use Rattle.journals.specs.Merging.{AreTold, Standing}
use Rattle.journals.proofs.Gets.{contains_at, has, none_in, one_there}
use Rattle.journals.proofs.Starts.{first_at_place, start_clock, start_clocks, start_cluster, start_node, start_nodes}
use Rattle.live_links.specs.declared.letter.Letter.{Letter}
use Rattle.live_links.specs.Ends.{ArePairs, In, IsInsOf, IsOutsOf, IsRing, KnowsAll, Out}
use Rattle.live_links.specs.Facts.{IsLinked, first_at}
use Rattle.live_links.specs.Parts.{AreParts, IsPart}
use Rattle.live_links.proofs.Each.{pair_then}
use Rattle.live_links.proofs.Pairs.{pair_prop}

-- one place of the rings has one end
one_ring : (rings : List (List Out)) (p q : ℕ) (a b : Out) → IsRing rings p q a → IsRing rings p q b → a ≡ b
one_ring rings p q a b f g =
    let row : f.0 ≡ g.0 = one_there rings p f.0 g.0 f.1 g.1 in
    one_there g.0 q a b (subst (λ r. slice_get r q ≡ Some a) row f.2) g.2

-- so the ends that were made for one ring are a pair
made_pair : (rings : List (List Out)) (p q : ℕ) (outs : List Out) (ins : List In) (o : Out) (c : In) → IsOutsOf rings p outs → IsInsOf rings q ins
    → slice_get outs q ≡ Some o → slice_get ins p ≡ Some c → IsPair o c
made_pair rings p q outs ins o c f g at_o at_c =
    let a = f.named q o at_o in
    let b = g.named p c at_c in
    pair_then a.0 o c a.2 (subst (λ r. IsPair r c) (one_ring rings p q b.0 a.0 b.1 a.1) b.2)

number_prop : (m n : ℕ) → IsProp (m ≡ n)
number_prop m n = hlevel props

-- what was delivered was delivered at some moment
abbrev At : List Moment → Packet → Type 0
At ms x = (m : Moment) × Contains ms m × (m.what ≡ Deliver x)

at_more : (m : Moment) (ms : List Moment) (x : Packet) → At ms x → At (m ∷ ms) x
at_more m ms x a = (a.0, Contains-append_right (m ∷ []) ms a.0 a.1, a.2)

packet_is : (d : Do) (y : Packet) → packet_of d ≡ Some y → d ≡ Deliver y
packet_is Begin y e = absurd (cc)
packet_is (Deliver z) y e = ap Deliver (same_Some z y e)
packet_is Tick y e = absurd (cc)

at_first : (m : Moment) (ms : List Moment) (x : Packet) (rest : List Packet) (o : Option Packet) → packet_of m.what ≡ o → (Contains rest x → At ms x)
    → Contains (cons_option o rest) x → At (m ∷ ms) x
at_first m ms x rest None is later found = at_more m ms x (later found)
at_first m ms x rest (Some y) is later found =
    elim (Contains-append_cases (y ∷ []) rest x found) [
      | inl here ↦
          let same : y ≡ x = elim (Contains-push_cases [] y x here) [
            | inl none ↦ absurd (none_in [] x refl none)
            | inr e ↦ e
          ]
          in
          (m, (0, omega arith, refl), packet_is m.what y is ∙ ap Deliver same)
      | inr behind ↦ at_more m ms x (later behind)
    ]

moment_of : (ms : List Moment) (x : Packet) → Contains (delivered_in ms) x → At ms x
moment_of [] x found = absurd (none_in [] x refl found)
moment_of (m ∷ ms) x found = at_first m ms x (delivered_in ms) (packet_of m.what) refl (moment_of ms x) found

module _ {N : Type 0} (step : N → Do → NodeStep N) (first : NodeId → Setup → List Work → N) (script : Script) (rings : List (List Out)) (full : Bool) (js : List (List Moment)) (ns : List N) (os : List (List Out))
    (is : List (List In)) (all : AreParts step first script rings full js ns os is) (whole : length js ≡ node_count (cluster_of script.setup))
    (ringed : length rings ≡ node_count (cluster_of script.setup)) where
  abbrev cluster : Cluster
  cluster = cluster_of script.setup

  -- the parts of the cell at a place
  record PartAt (p : ℕ) : Type 0 where
    moments : List Moment
    node : N
    outs : List Out
    ins : List In
    at : slice_get js p ≡ Some moments
    at_node : slice_get ns p ≡ Some node
    at_outs : slice_get os p ≡ Some outs
    at_ins : slice_get is p ≡ Some ins
    part : IsPart step first script rings full p moments node outs ins

  part_at : (p : ℕ) → p < length js → PartAt p
  part_at p within =
      let nodes = all.nodes in
      let outs = all.outs in
      let ins = all.ins in
      let j = has js p within in
      let n = has ns p (omega arith) in
      let o = has os p (omega arith) in
      let i = has is p (omega arith) in
      record {
        moments = j.0;
        node = n.0;
        outs = o.0;
        ins = i.0;
        at = j.1;
        at_node = n.1;
        at_outs = o.1;
        at_ins = i.1;
        part = all.each p j.0 n.0 o.0 i.0 j.1 n.1 o.1 i.1;
      }

  out_count : (p : ℕ) (row : List Out) → slice_get os p ≡ Some row → length row ≡ length rings
  out_count p row at =
      let outs = all.outs in
      let here = slice_get_within os p row at in
      let part = part_at p (omega arith) in
      ∥∥₁_elim part.part.linked (number_prop (length row) (length rings)) (λ k. ap length (one_there os p row part.outs at part.at_outs) ∙ k.outs_are.count)

  in_count : (q : ℕ) (ends : List In) → slice_get is q ≡ Some ends → length ends ≡ length rings
  in_count q ends at =
      let ins = all.ins in
      let here = slice_get_within is q ends at in
      let part = part_at q (omega arith) in
      ∥∥₁_elim part.part.linked (number_prop (length ends) (length rings)) (λ k. ap length (one_there is q ends part.ins at part.at_ins) ∙ k.ins_are.count)

  pair_at : (p q : ℕ) (c : In) (row : List Out) (ends : List In) (o : Out) → slice_get is q ≡ Some ends → slice_get ends p ≡ Some c → slice_get os p ≡ Some row
      → slice_get row q ≡ Some o → IsPair o c
  pair_at p q c row ends o at_ends at_c at_row at_o =
      let outs = all.outs in
      let ins = all.ins in
      let here_p = slice_get_within os p row at_row in
      let here_q = slice_get_within is q ends at_ends in
      let at_p = part_at p (omega arith) in
      let at_q = part_at q (omega arith) in
      ∥∥₁_elim at_p.part.linked (pair_prop o c) (λ f.
      ∥∥₁_elim at_q.part.linked (pair_prop o c) (λ g.
      made_pair rings p q row ends o c (subst (IsOutsOf rings p) (one_there os p at_p.outs row at_p.at_outs at_row) f.outs_are)
      (subst (IsInsOf rings q) (one_there is q at_q.ins ends at_q.at_ins at_ends) g.ins_are) at_o at_c))

  pub are_pairs : ArePairs os is
  are_pairs q ends at = record {
    count = let c = in_count q ends at in let o = all.outs in omega arith;
    within = λ p row at_row. let c = out_count p row at_row in let h = slice_get_within is q ends at in let i = all.ins in omega arith;
    pairs = λ p c row o at_c at_row at_o. pair_at p q c row ends o at at_c at_row at_o;
  }

  -- a packet that was delivered at this moment was sent by the node that the moment names
  abbrev pub CameFrom : ℕ → Moment → Packet → Type 0
  CameFrom q m x =
      (place_of (cluster_of script.setup) x.to ≡ Some q) × (m.from < length js)
      × ((k : List Moment) → slice_get js m.from ≡ Some k → slice_get (sent_in step (first_at first script m.from) k) m.number ≡ Some x)

  came_prop : (q : ℕ) (m : Moment) (x : Packet) → IsProp (CameFrom q m x)
  came_prop q m x = hlevel props

  module _ (known : KnowsAll os is) where
    came_by : (q : ℕ) (m : Moment) (x : Packet) (i : List In) (j : List Moment) (o : List Out) → slice_get is q ≡ Some i
        → IsLinked step (first_at first script q) cluster rings q j o i → Contains j m → m.what ≡ Deliver x → CameFrom q m x
    came_by q m x i j o at_i linked found what =
        let got = linked.came m x found what in
        let p = got.0 in
        let c = got.1 in
        let letter : Letter = record { from = m.from; number = m.number; packet = x } in
        let in_p = slice_get_within i p c got.2 in
        let count = in_count q i at_i in
        let part = part_at p (omega arith) in
        let len = out_count p part.outs part.at_outs in
        let here = slice_get_within is q i at_i in
        let ins = all.ins in
        let end = has part.outs q (omega arith) in
        let was_sent : Contains (sent end.0) letter = known q i at_i p c part.outs end.0 letter got.2 part.at_outs end.1 got.3 in
        ∥∥₁_elim part.part.linked (came_prop q m x) (λ f.
        let pushed = f.pushed q end.0 letter end.1 was_sent in (
          pushed.0,
          (let e = pushed.1.0 in let lt = in_p in omega arith),
          λ k at.
              let same : m.from ≡ p = pushed.1.0 in
              let mine : part.moments ≡ k = one_there js p part.moments k part.at (subst (λ (r : ℕ). slice_get js r ≡ Some k) same at) in
              subst (λ (r : ℕ). slice_get (sent_in step (first_at first script r) k) m.number ≡ Some x) (sym same)
              (subst (λ (ms : List Moment). slice_get (sent_in step (first_at first script p) ms) m.number ≡ Some x) mine pushed.1.1),
        ))

    came_from : (q : ℕ) (j : List Moment) (m : Moment) (x : Packet) → slice_get js q ≡ Some j → Contains j m → m.what ≡ Deliver x → CameFrom q m x
    came_from q j m x at found what =
        let part = part_at q (slice_get_within js q j at) in
        ∥∥₁_elim part.part.linked (came_prop q m x) (λ k.
        came_by q m x part.ins part.moments part.outs part.at_ins k (subst (λ (ms : List Moment). Contains ms m) (one_there js q j part.moments at part.at) found) what)

    pub stands : Standing step (start_world first script) js
    stands = record {
      count = whole ∙ sym (ap node_count (start_cluster first script));
      nodes = start_nodes first script ∙ sym (ap node_count (start_cluster first script));
      clocks = start_clocks first script ∙ sym (ap node_count (start_cluster first script));
      stamped = λ p j c at clock.
          let part = part_at p (slice_get_within js p j at) in
          subst (λ (k : ℕ). is_stamped k j ≡ true) (sym (start_clock first script p c clock))
          (subst (λ (ms : List Moment). is_stamped 0 ms ≡ true) (one_there js p part.moments j part.at at) part.part.stamped);
      closed = λ q j x at found.
          let m = moment_of j x found in
          let came = came_from q j m.0 x at m.1 m.2 in
          let k = has js m.0.from came.1 in (
            node_there cluster x.to q came.0 ∙ ap (λ (c : Cluster). node_at c q) (sym (start_cluster first script)),
            inr (
              m.0.from,
              first_at first script m.0.from,
              k.0,
              start_node first script m.0.from (let lt = came.1 in omega arith),
              k.1,
              contains_at (sent_in step (first_at first script m.0.from) k.0) m.0.number x (came.2 k.0 k.1),
            ),
          );
    }

  -- and what they say of their nodes is so
  pub are_told : AreTold step (first_nodes first script cluster) js ns
  are_told = record {
    count = all.nodes;
    each = λ p n end j at_n at_end at_j.
        let here = slice_get_within js p j at_j in
        let known = part_at p here in
        let mine : n ≡ first_at first script p =
        one_there (first_nodes first script cluster) p n (first_at first script p) at_n (first_at_place first script p (omega (arith, whole)))
        in
        let one : known.moments ≡ j = one_there js p known.moments j known.at at_j in
        let node : known.node ≡ end = one_there ns p known.node end known.at_node at_end in
        subst (λ (o : N). IsTold step o j × (replayed step o (whats j) ≡ end)) (sym mine)
        (subst (λ (ms : List Moment). IsTold step (first_at first script p) ms × (replayed step (first_at first script p) (whats ms) ≡ end)) one
        (known.part.told, sym known.part.ends ∙ node));
  }
