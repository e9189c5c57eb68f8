-- What the owner does keeps the small world seen, where its steps are those of an input.
use Rattle.log_law.proofs.Steady.{Steady}
use Rattle.log_law.specs.Restarts.{is_serving, is_writing}
use Rattle.log_law.proofs.Next.{Alone, Next}
use Rattle.fragment_store.specs.ShelfState.{ShelfState, held_at}
use Rattle.xfs_base.specs.declared.fragment.Fragment.{Fragment}
use Rattle.std.proofs.Common.{◌≡◌, ℕ, suc, ◌≤◌, ◌⊎◌, List, [], ◌∷◌, ◌++◌, sym, ap, subst, ◌∙◌, inl, inr, arith, Option, Some, None, false}
use Rattle.xfs_base.specs.declared.segment.SegName.{SegName}
use Rattle.segment_format.specs.declared.segment.Segment.{Segment}
use Rattle.client_log.specs.declared.output.Out.{Out}
use Rattle.client_log.specs.declared.output.Out.TheVariants.{Send, Settled}
use Rattle.log_protocol.specs.State.{State}
use Rattle.log_protocol.specs.Tables.{In}
use Rattle.log_tie.specs.Setting.{Setting, name_of, fragment_of}
use Rattle.log_tie.specs.Seen.{AllSaid, log_filed, Others, Goes, EndFollows, others_of}
use Rattle.log_tie.specs.Rounds.{IsSpelled}
use Rattle.log_tie.specs.Scans.{Asked}
use Rattle.log_tie.specs.Shelves.{ShelfShown, Kept, AllPieces, Shelved}
use Rattle.log_law.specs.Net.{Packet, Net, log_packets}
use Rattle.log_law.specs.Below.{Below}
use Rattle.log_law.proofs.Views.{OwnerShown, PickShown, Flown, IsFiled, View}
use Rattle.log_law.proofs.Growing.{Later, shown_on}
use Rattle.log_law.proofs.Turning.{AllShown, all_shown}

-- a shelf is seen alike while the book grows
module _ (g : Setting) (book later : ℕ → Segment) (booked more : ℕ → ℕ) (grows : (x : ℕ) → booked x ≡ 1 → (more x ≡ 1) × (later x ≡ book x)) where
  kept_on : (x : ℕ) (o : Option Fragment) (holds index : ℕ) → Kept g (book x) o (booked x) holds index → Kept g (later x) o (more x) holds index
  kept_on x None holds index h = h
  kept_on x (Some f) holds index h = (h.0, (grows x h.1).0, h.2 ∙ ap (λ b. fragment_of g b index) (sym (grows x h.1).1))

  pieces_on : (fs : List Fragment) → AllPieces g book booked fs → AllPieces g later more fs
  pieces_on [] all = tt
  pieces_on (f ∷ fs) all =
      (λ own. (let p = all.0 own in (p.0, p.1, (grows p.0 p.2).0, p.3 ∙ ap (λ b. fragment_of g b p.1) (sym (grows p.0 p.2).1))), pieces_on fs all.1)

  pub shelf_on : (generation : ℕ) (holds index marked : ℕ → ℕ) (s : ShelfState) → Shelved g book booked generation holds index marked s
      → Shelved g later more generation holds index marked s
  shelf_on generation holds index marked s h =
      record {
        of = h.of;
        keeps = λ x. kept_on x (held_at s.held (name_of g x)) (holds x) (index x) (h.keeps x);
        each = pieces_on s.held h.each;
        marks = h.marks;
      }

-- what the log sends is shown
pub packets_shown : (g : Setting) (w : State) (book : ℕ → Segment) (hellos : List Asked) (outs : List Out) → AllSaid g w.booked book w.stores w.filed outs
    → AllShown g w book hellos (log_packets outs)
packets_shown g w book hellos [] said = tt
packets_shown g w book hellos (Send f m ∷ os) said = (said.0, packets_shown g w book hellos os said.1)
packets_shown g w book hellos (Settled end rows ∷ os) said = packets_shown g w book hellos os said.1

-- and what it files is filed
pub filed_said : (g : Setting) (w : State) (book : ℕ → Segment) (outs : List Out) (names : List SegName) → AllSaid g w.booked book w.stores w.filed outs
    → ((name : SegName) → In name names → IsFiled g w name) → (name : SegName) → In name (log_filed g.log outs ++ names) → IsFiled g w name
filed_said g w book [] names said old name fact = old name fact
filed_said g w book (Send f m ∷ os) names said old name fact = filed_said g w book os names said.1 old name fact
filed_said g w book (Settled end rows ∷ os) names said old name (inl e) =
    (said.0.0, e ∙ (λ i. record { log = g.log; seq = said.0.2 i; pass = said.0.3 i }), said.0.1)
filed_said g w book (Settled end rows ∷ os) names said old name (inr fact) = filed_said g w book os names said.1 old name fact

pub in_right : (xs ys : List SegName) (x : SegName) → In x ys → In x (xs ++ ys)
in_right [] ys x fact = fact
in_right (y ∷ xs) ys x fact = inr (in_right xs ys x fact)

pub in_left : (xs ys : List SegName) (x : SegName) → In x xs → In x (xs ++ ys)
in_left [] ys x fact = absurd fact
in_left (y ∷ xs) ys x (inl e) = inl e
in_left (y ∷ xs) ys x (inr fact) = inr (in_left xs ys x fact)

module _ (k : Below) (g : Setting) (n : Net) (h : View g n) where
  module _ (P : State → (ℕ → Segment) → Type 0) (outs : List Out) (t : Goes g h.w h.book P outs) where
    -- what the owner's steps leave as it was
    abbrev pub at : (Q : Others → Type 0) → Q (others_of h.w) → Q (others_of t.world)
    at Q x = subst Q (sym t.frame.others) x

    pub later_goes : Later h.w t.world h.book t.later
    later_goes = record {
      booked = t.frame.booked;
      segment = t.frame.segment;
      stores = t.frame.stores;
      storeds = λ p fact. at (λ o. In p o.storeds) fact;
      fragments = λ p fact. at (λ o. In p o.fragments) fact;
      fenceds = λ p fact. at (λ o. In p o.fenceds) fact;
      dropped = λ x fact. at (λ o. o.dropped x ≡ 1) fact;
      registry = λ x. at (λ o. h.w.registry_generation x ≤ o.registry_generation x) (omega arith);
      incarnation = at (λ o. h.w.incarnation ≤ o.incarnation) (omega arith);
      low = at (λ o. h.w.low ≤ o.low) (omega arith);
    }

    -- what an event of the owner leaves as it was in the small world
    pub record Keeps (m : Net) : Type 0 where
      pub shelves : m.shelves ≡ n.shelves
      pub registry : m.registry ≡ n.registry
      pub low : m.low ≡ n.low
      pub inc : m.inc ≡ n.inc
      pub dropped : m.dropped ≡ n.dropped

    pub record Move (m : Net) (hellos : List Asked) (new : List Packet) : Type 0 where
      pub keeps : Keeps m
      pub spelled : IsSpelled g t.later t.world.booked
      pub flown : Flown t.world t.later m.flown
      pub grows : (a : Asked) → In a h.hellos → In a hellos
      pub asked : (a : Asked) → In a hellos → (a.inc ≤ h.w.incarnation) × (a.low ≤ h.w.low)
      pub owner : OwnerShown g t.world t.later hellos m.owner
      pub picked : PickShown t.world.pick_low m.picked m.owner
      pub sends : m.sent ≡ new ++ n.sent
      pub shown : AllShown g t.world t.later hellos new
      pub filed : (name : SegName) → In name m.filed → IsFiled g t.world name
      pub highest : (t.world.end ≡ 0) ⊎ In (name_of g t.world.end) m.filed
      pub spans : is_writing m.owner ≡ false → is_serving m.owner ≡ false → t.world.spanning ≡ h.w.spanning
      pub steady : is_serving m.owner ≡ false → Steady h.w t.world

    abbrev pub moved : (m : Net) (hellos : List Asked) (new : List Packet) → Move m hellos new → View g m
    moved m hellos new v = record {
      w = t.world;
      book = t.later;
      hellos = hellos;
      fixed = record {
        servers = at (λ o. o.servers ≡ suc g.servers) h.fixed.servers;
        seq_of = at (λ o. o.seq_of ≡ g.seq_of) h.fixed.seq_of;
        incarnation_of = at (λ o. o.incarnation_of ≡ g.incarnation_of) h.fixed.incarnation_of;
        attempt_of = at (λ o. o.attempt_of ≡ g.attempt_of) h.fixed.attempt_of;
      };
      reached = k.protocol.goes_on h.w t.world h.reached t.steps;
      paged = t.paged;
      spelled = v.spelled;
      flown = v.flown;
      shelves = λ u. subst (λ ss. ShelfShown g t.world t.later u (ss u)) (sym v.keeps.shelves)
          (at (λ o. Shelved g t.later t.world.booked (o.generation u) (o.holds u) (o.kept_index u) (o.marked u) (n.shelves u))
          (shelf_on g h.book t.later h.w.booked t.world.booked (λ x fact. (t.frame.booked x fact, t.frame.segment x fact)) (h.w.generation u) (h.w.holds u)
          (h.w.kept_index u) (h.w.marked u) (n.shelves u) (h.shelves u)));
      nobody = λ x. at (λ o. o.holds 0 x ≡ 0) (h.nobody x);
      registry = λ u. subst (λ r. t.world.registry_generation u ≡ r u) (sym v.keeps.registry) (at (λ o. o.registry_generation u ≡ n.registry u) (h.registry u));
      low = at (λ o. o.low ≡ n.low) h.low ∙ sym v.keeps.low;
      inc = at (λ o. o.incarnation ≡ n.inc) h.inc ∙ sym v.keeps.inc;
      owner = v.owner;
      picked = v.picked;
      sent = λ p fact. all_shown g t.world t.later hellos new n.sent v.shown
          (λ q among. shown_on g h.w t.world h.book t.later later_goes h.hellos hellos v.grows q (h.sent q among)) p (subst (In p) v.sends fact);
      asked = λ a fact. at (λ o. (a.inc ≤ o.incarnation) × (a.low ≤ o.low)) (v.asked a fact);
      filed = v.filed;
      calm = λ none. t.frame.calm none (h.calm none);
      highest = v.highest;
      gone = λ name fact.
          (let d = h.gone name (subst (In name) v.keeps.dropped fact) in
          record { number = d.number; named = d.named; dropped = later_goes.dropped d.number d.dropped });
      dropped = λ x. subst (λ ds. (t.world.dropped x ≡ 0) ⊎ In (name_of g x) ds) (sym v.keeps.dropped)
          (at (λ o. (o.dropped x ≡ 0) ⊎ In (name_of g x) n.dropped) (h.dropped x));
    }

    abbrev pub by_owner : Alone h.w t.world
    by_owner = record {
      generation = ap (λ (o : Others). o.generation) t.frame.others;
      holds = ap (λ (o : Others). o.holds) t.frame.others;
      dropped = ap (λ (o : Others). o.dropped) t.frame.others;
    }

    -- the event is followed
    pub next : (m : Net) (hellos : List Asked) (new : List Packet) → Move m hellos new → Next g n h m
    next m hellos new v = record { view = moved m hellos new v; steps = t.steps; by = inr by_owner; spans = v.spans; steady = v.steady }

    -- what was filed stays so
    pub filed_still : (name : SegName) → In name n.filed → IsFiled g t.world name
    filed_still name fact = let f = h.filed name fact in (f.0, f.1, t.frame.filed f.0 f.2)

    -- the end is filed, where what the log files is
    pub topped : (names : List SegName) → ((name : SegName) → In name n.filed → In name names)
        → ((name : SegName) → In name (log_filed g.log outs) → In name names) → (t.world.end ≡ 0) ⊎ In (name_of g t.world.end) names
    topped names old new = by t.end_follows h.highest
      where
        by : EndFollows g h.w t.world outs → (h.w.end ≡ 0) ⊎ In (name_of g h.w.end) n.filed → (t.world.end ≡ 0) ⊎ In (name_of g t.world.end) names
        by (inl e) (inl none) = inl (e ∙ none)
        by (inl e) (inr fact) = inr (old _ (subst (λ z. In (name_of g z) n.filed) (sym e) fact))
        by (inr fact) before = inr (new _ fact)
