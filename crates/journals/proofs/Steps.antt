-- The earliest of what is left may happen next, and what is left then can go on.
use Rattle.std.proofs.Common.{◌≡◌, refl, sym, ap, subst, ◌∙◌, ℕ, ◌+◌, ◌<◌, ◌≤◌, ◌≢◌, true, List, [], ◌∷◌, ◌++◌, length, map, Option, Some, None, ◌⊎◌, inl, inr, arith, nat_lt}
use Rattle.std.specs.Prelude.{slice_get, slice_set, slice_index}
use Rattle.std.specs.List.{Contains, cons_option}
use Rattle.std.proofs.lemmas.Bool.Decides.{nat_tests}
use Rattle.std.proofs.lemmas.Option.{slice_get_within, get_or_from_slice_get}
use Rattle.std.proofs.lemmas.List.Elements.{Contains-append_cases, Contains-append_left, Contains-append_right}
use Rattle.version_model.specs.declared.act.Act.{Act}
use Rattle.wire_msg.specs.declared.packet.Do.{Do}
use Rattle.wire_msg.specs.declared.packet.Do.TheVariants.{Begin, Deliver, Tick}
use Rattle.wire_msg.specs.declared.packet.Packet.{Packet}
use Rattle.wire_msg.specs.NodeStep.{NodeStep}
use Rattle.xfs_base.specs.declared.node.NodeId.{NodeId}
use Rattle.world_base.specs.declared.world.World.{World}
use Rattle.world_base.specs.Cluster.{node_at, node_count, place_of}
use Rattle.world_base.specs.Events.{event_of, node_of, what_of}
use Rattle.world_base.specs.NextWorld.{after_turn, at_place, clock_after, clock_at, world_happen, happen_at, next_world, sent_at, turn_by, turn_of, turned}
use Rattle.world_base.specs.Runs.{MayHappen, WasSent}
use Rattle.world_base.proofs.Places.{node_stands}
use Rattle.journals.specs.declared.moment.Moment.{Moment}
use Rattle.journals.specs.Journals.{acts_in, delivered_in, is_stamped, packet_of, sent_in, whats}
use Rattle.journals.specs.Merging.{AllAfter, IsLeast, Standing, WillSend}
use Rattle.journals.proofs.Gets.{get_left, get_right, has, one_there, place_of as place_in, same_or_not, set_cases, set_length, set_other, set_same}
use Rattle.journals.proofs.Stamps.{after_packet, clock_rises, first_stamp, sent_from}

what_back : (node : NodeId) (d : Do) → what_of (event_of node d) ≡ d
what_back node Begin = refl
what_back node (Deliver x) = refl
what_back node Tick = refl

module _ {N : Type 0} (step : N → Do → NodeStep N) where
  -- the world after this happened to a node that is there
  abbrev pub after : World N → ℕ → ℕ → N → Do → World N
  after w p k n d = after_turn step w p k (record { nodes = slice_set w.nodes p (step n d).node; packets = (step n d).packets; acts = (step n d).acts })

  index_is : (cs : List ℕ) (p c : ℕ) → slice_get cs p ≡ Some c → slice_index cs p ≡ c
  index_is cs p c at = get_or_from_slice_get cs p c 0 at

  clock_there : (w : World N) (p c k : ℕ) (n : N) (d : Do) → slice_get w.nodes p ≡ Some n → slice_get w.clocks p ≡ Some c → clock_after c d ≡ Some k
      → clock_at w p d ≡ Some k
  clock_there w p c k n d node clock next =
      let in_nodes : nat_lt p (length w.nodes) ≡ true = let h = slice_get_within w.nodes p n node in grind (arith, nat_tests) in
      let in_clocks : nat_lt p (length w.clocks) ≡ true = let h = slice_get_within w.clocks p c clock in grind (arith, nat_tests) in
      rw (in_nodes, in_clocks, index_is w.clocks p c clock) next

  turn_there : (w : World N) (p : ℕ) (n : N) (d : Do) → slice_get w.nodes p ≡ Some n
      → turn_of step w.nodes p d ≡ record { nodes = slice_set w.nodes p (step n d).node; packets = (step n d).packets; acts = (step n d).acts }
  unfolding turn_of
  turn_there w p n d node = ap (turn_by step w.nodes p d) node

  happened_there : (w : World N) (p c k : ℕ) (n : N) (d : Do) → slice_get w.nodes p ≡ Some n → slice_get w.clocks p ≡ Some c → clock_after c d ≡ Some k
      → happen_at step w p d ≡ after w p k n d
  unfolding happen_at
  happened_there w p c k n d node clock next =
      ap (turned step w p d) (clock_there w p c k n d node clock next) ∙ ap (after_turn step w p k) (turn_there w p n d node)

  happened_by : (w : World N) (node : NodeId) (d : Do) (p : ℕ) → place_of w.cluster node ≡ Some p → world_happen step w node d ≡ happen_at step w p d
  unfolding world_happen
  happened_by w node d p at = ap (at_place step w d) at

  -- what is known where a rest begins with this moment
  pub record Next (w : World N) (rests : List (List Moment)) (p c : ℕ) (n : N) (m : Moment) (tail : List Moment) : Type 0 where
    pub standing : Standing step w rests
    pub rest : slice_get rests p ≡ Some (m ∷ tail)
    pub node : slice_get w.nodes p ≡ Some n
    pub clock : slice_get w.clocks p ≡ Some c
    pub least : IsLeast rests p m.clock

  -- each rest that begins has a node and a clock
  pub next_of : (w : World N) (rests : List (List Moment)) (p : ℕ) (m : Moment) (tail : List Moment) → Standing step w rests
      → slice_get rests p ≡ Some (m ∷ tail) → IsLeast rests p m.clock → (c : ℕ) × (n : N) × Next w rests p c n m tail
  next_of w rests p m tail s rest least =
      let within : p < length rests = slice_get_within rests p (m ∷ tail) rest in
      let n = has w.nodes p (omega (arith, s.nodes, s.count)) in
      let c = has w.clocks p (omega (arith, s.clocks, s.count)) in
      (c.0, n.0, record { standing = s; rest = rest; node = n.1; clock = c.1; least = least })

  module _ (w : World N) (rests : List (List Moment)) (p c : ℕ) (n : N) (m : Moment) (tail : List Moment) (x : Next w rests p c n m tail) where
    abbrev name : NodeId
    name = node_at w.cluster p

    pub within : p < node_count w.cluster
    within = let h = slice_get_within rests p (m ∷ tail) x.rest in omega (arith, x.standing.count)

    stamps : (clock_after c m.what ≡ Some m.clock) × (is_stamped m.clock tail ≡ true)
    stamps = first_stamp c m tail (x.standing.stamped p (m ∷ tail) c x.rest x.clock)

    pub clock_is : clock_at w p m.what ≡ Some m.clock
    clock_is = clock_there w p c m.clock n m.what x.node x.clock stamps.0

    -- who sends later sends what is later
    not_before : (r : List Moment) (q : ℕ) (other : N) (y : Packet) → slice_get rests q ≡ Some r → slice_get w.nodes q ≡ Some other
        → Contains (sent_in step other r) y → m.clock ≤ y.clock
    not_before [] q other y rest node found = absurd (let h = found.1 in omega arith)
    not_before (h ∷ t) q other y rest node found =
        let k = has w.clocks q (let l = slice_get_within rests q (h ∷ t) rest in omega (arith, x.standing.clocks, x.standing.count)) in
        let later : h.clock ≤ y.clock = sent_from step other k.0 h t y (x.standing.stamped q (h ∷ t) k.0 rest k.1) found in
        elim (x.least q h t rest) [
          | inl less ↦ omega arith
          | inr same ↦ let e = same.0 in omega arith
        ]

    -- so what comes now was sent
    was_sent : (y : Packet) → y.clock < m.clock → WasSent w.sent y ⊎ WillSend step w rests y → WasSent w.sent y
    was_sent y early (inl sent) = sent
    was_sent y early (inr will) = absurd (let h = not_before will.2 will.0 will.1 y will.4 will.3 will.5 in omega arith)

    comes : (d : Do) → m.what ≡ d → MayHappen w (event_of name d) × (node_of (event_of name d) ≡ name)
    comes Begin e = (tt, refl)
    comes (Deliver y) e =
        let found : Contains (delivered_in (m ∷ tail)) y = subst (λ (o : Option Packet). Contains (cons_option o (delivered_in tail)) y) (sym (ap packet_of e)) (0, omega arith, refl) in
        let known = x.standing.closed p (m ∷ tail) y x.rest found in
        (was_sent y (after_packet c m.clock y (subst (λ d. clock_after c d ≡ Some m.clock) e stamps.0)) known.1, known.0)
    comes Tick e = (tt, refl)

    pub may_happen : MayHappen w (event_of name m.what)
    may_happen = (comes m.what refl).0

    pub node_is : node_of (event_of name m.what) ≡ name
    node_is = (comes m.what refl).1

    pub what_is : what_of (event_of name m.what) ≡ m.what
    what_is = what_back name m.what

    pub place_is : place_of w.cluster (node_of (event_of name m.what)) ≡ Some p
    place_is = ap (place_of w.cluster) node_is ∙ node_stands w.cluster p within

    pub happens : next_world step w (event_of name m.what) ≡ happen_at step w p m.what
    happens = happened_by w (node_of (event_of name m.what)) (what_of (event_of name m.what)) p place_is ∙ ap (happen_at step w p) what_is

    pub next_is : happen_at step w p m.what ≡ after w p m.clock n m.what
    next_is = happened_there w p c m.clock n m.what x.node x.clock stamps.0

    -- what the event sends was sent then, and all else is still to be sent
    still : (y : Packet) → WasSent w.sent y ⊎ WillSend step w rests y
        → WasSent (after w p m.clock n m.what).sent y ⊎ WillSend step (after w p m.clock n m.what) (slice_set rests p tail) y
    still y (inl sent) = inl (sent.0, get_left w.sent (map (sent_at m.clock) (step n m.what).packets) sent.0 y sent.1)
    still y (inr will) =
        elim (same_or_not will.0 p) [
          | inl same ↦
              let node : will.1 ≡ n = one_there w.nodes p will.1 n (subst (λ q. slice_get w.nodes q ≡ Some will.1) same will.3) x.node in
              let rest : will.2 ≡ m ∷ tail = one_there rests p will.2 (m ∷ tail) (subst (λ q. slice_get rests q ≡ Some will.2) same will.4) x.rest in
              let found : Contains (sent_in step n (m ∷ tail)) y = subst (λ r. Contains (sent_in step n r) y) rest (subst (λ o. Contains (sent_in step o will.2) y) node will.5) in
              elim (Contains-append_cases (map (sent_at m.clock) (step n m.what).packets) (sent_in step (step n m.what).node tail) y found) [
                | inl now ↦
                    let at = place_in (map (sent_at m.clock) (step n m.what).packets) y now in
                    inl (length w.sent + at.0, get_right w.sent (map (sent_at m.clock) (step n m.what).packets) at.0 y at.1)
                | inr later ↦ inr (p, (step n m.what).node, tail, set_same w.nodes p n (step n m.what).node x.node, set_same rests p (m ∷ tail) tail x.rest, later)
              ]
          | inr apart ↦
              let other : p ≢ will.0 = λ e. apart (sym e) in
              inr (
                will.0,
                will.1,
                will.2,
                set_other w.nodes p will.0 (step n m.what).node other ∙ will.3,
                set_other rests p will.0 tail other ∙ will.4,
                will.5,
              )
        ]

    closes : (q : ℕ) (r : List Moment) (y : Packet) → slice_get (slice_set rests p tail) q ≡ Some r → Contains (delivered_in r) y
        → (y.to ≡ node_at w.cluster q) × (WasSent (after w p m.clock n m.what).sent y ⊎ WillSend step (after w p m.clock n m.what) (slice_set rests p tail) y)
    closes q r y rest found =
        elim (set_cases rests p q tail r rest) [
          | inl here ↦
              let in_tail : Contains (delivered_in tail) y = subst (λ t. Contains (delivered_in t) y) here.1 found in
              let whole : Contains (delivered_in (m ∷ tail)) y =
              elim (packet_of m.what) as (λ o. Contains (cons_option o (delivered_in tail)) y) [
                | None ↦ in_tail
                | Some z ↦ Contains-append_right (z ∷ []) (delivered_in tail) y in_tail
              ]
              in
              let known = x.standing.closed p (m ∷ tail) y x.rest whole in
              (known.0 ∙ ap (node_at w.cluster) (sym here.0), still y known.1)
          | inr there ↦
              let known = x.standing.closed q r y there.1 found in
              (known.0, still y known.1)
        ]

    stamped_then : (q : ℕ) (r : List Moment) (k : ℕ) → slice_get (slice_set rests p tail) q ≡ Some r → slice_get (slice_set w.clocks p m.clock) q ≡ Some k → is_stamped k r ≡ true
    stamped_then q r k rest clock =
        elim (set_cases rests p q tail r rest) [
          | inl here ↦
              let clock_here : k ≡ m.clock = one_there (slice_set w.clocks p m.clock) p k m.clock (subst (λ j. slice_get (slice_set w.clocks p m.clock) j ≡ Some k) here.0 clock) (set_same w.clocks p c m.clock x.clock) in
              subst (λ t. is_stamped k t ≡ true) (sym here.1) (subst (λ j. is_stamped j tail ≡ true) (sym clock_here) stamps.1)
          | inr there ↦ x.standing.stamped q r k there.1 (sym (set_other w.clocks p q m.clock there.0) ∙ clock)
        ]

    pub stands_then : Standing step (after w p m.clock n m.what) (slice_set rests p tail)
    stands_then = record {
      count = set_length rests p tail ∙ x.standing.count;
      nodes = set_length w.nodes p (step n m.what).node ∙ x.standing.nodes;
      clocks = set_length w.clocks p m.clock ∙ x.standing.clocks;
      stamped = stamped_then;
      closed = closes;
    }

    pub all_after_then : AllAfter (slice_set rests p tail) m.clock p
    all_after_then q h t rest =
        elim (set_cases rests p q tail (h ∷ t) rest) [
          | inl here ↦ inl (clock_rises m.clock h.clock h.what (first_stamp m.clock h t (subst (λ r. is_stamped m.clock r ≡ true) (sym here.1) stamps.1)).0)
          | inr there ↦
              elim (x.least q h t there.1) [
                | inl less ↦ inl less
                | inr same ↦ let away = there.0 in let le = same.1 in inr (same.0, omega arith)
              ]
        ]

    -- what the event did was done then, and all else is still to be done
    pub acted_then : (q : ℕ) (o : N) (r : List Moment) (a : Act) → slice_get (slice_set w.nodes p (step n m.what).node) q ≡ Some o → slice_get (slice_set rests p tail) q ≡ Some r
        → ((old : N) (before : List Moment) → slice_get w.nodes q ≡ Some old → slice_get rests q ≡ Some before → Contains w.acts a ⊎ Contains (acts_in step old (whats before)) a)
        → Contains (w.acts ++ (step n m.what).acts) a ⊎ Contains (acts_in step o (whats r)) a
    acted_then q o r a node rest known =
        elim (set_cases rests p q tail r rest) [
          | inl here ↦
              let node_here : o ≡ (step n m.what).node = one_there (slice_set w.nodes p (step n m.what).node) p o (step n m.what).node
              (subst (λ j. slice_get (slice_set w.nodes p (step n m.what).node) j ≡ Some o) here.0 node) (set_same w.nodes p n (step n m.what).node x.node)
              in
              elim (known n (m ∷ tail) (ap (slice_get w.nodes) here.0 ∙ x.node) (ap (slice_get rests) here.0 ∙ x.rest)) [
                | inl done ↦ inl (Contains-append_left w.acts (step n m.what).acts a done)
                | inr left ↦
                    elim (Contains-append_cases (step n m.what).acts (acts_in step (step n m.what).node (whats tail)) a left) [
                      | inl now ↦ inl (Contains-append_right w.acts (step n m.what).acts a now)
                      | inr later ↦
                          inr (subst (λ t. Contains (acts_in step o (whats t)) a) (sym here.1) (subst (λ y. Contains (acts_in step y (whats tail)) a) (sym node_here) later))
                    ]
              ]
          | inr there ↦
              elim (known o r (sym (set_other w.nodes p q (step n m.what).node there.0) ∙ node) there.1) [
                | inl done ↦ inl (Contains-append_left w.acts (step n m.what).acts a done)
                | inr left ↦ inr left
              ]
        ]
