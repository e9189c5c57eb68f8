-- Logs are whole, and one name has one text: read off how the small world is seen.
use Rattle.log_law.proofs.Calmer.{doubtful, moment_so}
use Rattle.std.proofs.Common.{◌≡◌, ℕ, ◌<◌, ◌⊎◌, Option, Some, None, length, sym, ap, subst, ◌∙◌, inl, inr, arith, refl}
use Rattle.xfs_base.specs.declared.fragment.Fragment.{Fragment}
use Rattle.xfs_base.specs.declared.segment.SegName.{SegName}
use Rattle.segment_format.specs.declared.segment.Segment.{Segment}
use Rattle.fragment_store.specs.ShelfState.{held_at}
use Rattle.log_protocol.specs.Tables.{In}
use Rattle.log_tie.specs.Setting.{Setting, name_of, fragment_of}
use Rattle.log_flight.specs.Flights.{server_of}
use Rattle.log_tie.specs.Seen.{Page, members_of, StoreSeen}
use Rattle.log_tie.specs.Shelves.{Kept}
use Rattle.log_tie.proofs.Names.{one_number, name_coded}
use Rattle.log_law.specs.Net.{Net, opening}
use Rattle.log_law.specs.Net.Packet.{StoreSent, FragmentSent}
use Rattle.log_law.specs.Laws.{Moment, Holds, IsLater, LogsWhole, OneText, LogsStayWhole, OneNameOneText}
use Rattle.log_law.specs.Below.{Below}
use Rattle.log_law.proofs.Views.{FragmentSeen, IsFiled, View}
use Rattle.log_law.proofs.Always.{begins_seen, seen_always}

kept_is : (g : Setting) (s : Segment) (o : Option Fragment) (booked holds index : ℕ) → Kept g s o booked holds index → holds ≡ 1
    → o ≡ Some (fragment_of g s index)
kept_is g s None booked holds index k one = absurd (none_one k one)
  where
    none_one : holds ≡ 0 → holds ≡ 1 → ⊥
    none_one a b = omega arith
kept_is g s (Some f) booked holds index k one = ap Some k.2

-- a fragment of a segment is the one at the place that it names
at_its_place : (g : Setting) (s : Segment) (f : Fragment) (i : ℕ) → f ≡ fragment_of g s i → f ≡ fragment_of g s f.meta.index
at_its_place g s f i fact = fact ∙ ap (fragment_of g s) (sym (ap (λ (z : Fragment). z.meta.index) fact))

module _ (k : Below) (g : Setting) (n : Net) (h : View g n) where
  abbrev pub page : (x : ℕ) → h.w.booked x ≡ 1
      → Page g x (h.book x) (h.w.text_of x) (h.w.member_count x) (h.w.member_server x) (h.w.member_generation x) (h.w.prior_of x) (h.w.content_of x)
  page x booked = h.paged x booked

  pub filed_booked : (x : ℕ) → h.w.filed x ≡ 1 → h.w.booked x ≡ 1
  filed_booked x filed = (k.protocol.book h.w h.reached).filed_booked x filed

  -- a booked segment that isn't dropped in the small world isn't dropped
  pub undropped : (x : ℕ) → h.w.booked x ≡ 1 → (In (h.book x).name n.dropped → ⊥) → h.w.dropped x ≡ 0
  undropped x booked kept = by (h.dropped x)
    where
      by : (h.w.dropped x ≡ 0) ⊎ In (name_of g x) n.dropped → h.w.dropped x ≡ 0
      by (inl e) = e
      by (inr fact) = absurd (kept (subst (λ z. In z n.dropped) (sym (page x booked).named) fact))

  -- ---- whole

  -- what a member holds, or its generation, is seen on its shelf
  pub member_seen : (x : ℕ) → h.w.booked x ≡ 1 → (place : ℕ) → place < length (members_of g (h.book x))
      → ((h.w.holds (h.w.member_server x place) x ≡ 1) × (h.w.kept_index (h.w.member_server x place) x ≡ place))
      ⊎ (h.w.member_generation x place < h.w.generation (h.w.member_server x place)) → Holds g n (h.book x) place ⊎ IsLater g n (h.book x) place
  member_seen x booked place member = by
    where
      there : h.w.member_server x place ≡ server_of (members_of g (h.book x)) place
      there = (page x booked).at_server place

      by : ((h.w.holds (h.w.member_server x place) x ≡ 1) × (h.w.kept_index (h.w.member_server x place) x ≡ place))
          ⊎ (h.w.member_generation x place < h.w.generation (h.w.member_server x place)) → Holds g n (h.book x) place ⊎ IsLater g n (h.book x) place
      by (inl p) = inl (ap (held_at (n.shelves (server_of (members_of g (h.book x)) place)).held) (page x booked).named
          ∙ (kept_is g (h.book x) _ _ _ _ ((h.shelves (server_of (members_of g (h.book x)) place)).keeps x) (ap (λ u. h.w.holds u x) (sym there) ∙ p.0)
          ∙ ap (λ j. Some (fragment_of g (h.book x) j)) (ap (λ u. h.w.kept_index u x) (sym there) ∙ p.1)))
      by (inr lost) =
          let a = (page x booked).at_generation place member in
          let b = ap h.w.generation there ∙ (h.shelves (server_of (members_of g (h.book x)) place)).of in
          inr (omega arith)

  member_whole : (x : ℕ) → h.w.booked x ≡ 1 → h.w.filed x ≡ 1 → (In (h.book x).name n.dropped → ⊥) → (place : ℕ) → place < length (members_of g (h.book x))
      → Holds g n (h.book x) place ⊎ IsLater g n (h.book x) place
  member_whole x booked filed kept place member =
      member_seen x booked place member
      (k.protocol.whole h.w h.reached x place filed (undropped x booked kept) (subst (λ c. place < c) (sym (page x booked).counted) member))

  pub logs_whole : LogsWhole g n
  logs_whole = record { flown = flown; striped = striped; whole = whole }
    where
      striped : (s : Segment) → In s n.flown → 0 < length (members_of g s)
      striped s fact =
          let b = h.flown.booked s fact in
          subst (λ z. 0 < length (members_of g z)) (sym b.2) (subst (λ m. 0 < m) (page b.0 b.1).counted ((k.protocol.book h.w h.reached).some_member b.0 b.1))

      flown : (name : SegName) → In name n.filed → (s : Segment) × In s n.flown × (s.name ≡ name)
      flown name fact = let f = h.filed name fact in let booked = filed_booked f.0 f.2 in (
        h.book f.0,
        h.flown.all f.0 booked,
        (page f.0 booked).named
            ∙ sym f.1,
      )

      whole : (s : Segment) → In s n.flown → In s.name n.filed → (In s.name n.dropped → ⊥) → (place : ℕ) → place < length (members_of g s)
          → Holds g n s place ⊎ IsLater g n s place
      whole s fact filed kept = by (h.flown.booked s fact) (h.filed s.name filed)
        where
          by : (x : ℕ) × (h.w.booked x ≡ 1) × (s ≡ h.book x) → IsFiled g h.w s.name → (place : ℕ) → place < length (members_of g s)
              → Holds g n s place ⊎ IsLater g n s place
          by x f =
              let same : f.0 ≡ x.0 = one_number g f.0 x.0 (sym f.1 ∙ (ap (λ (z : Segment). z.name) x.2 ∙ (page x.0 x.1).named)) in
              subst (λ z. (place : ℕ) → place < length (members_of g z) → Holds g n z place ⊎ IsLater g n z place) (sym x.2)
              (member_whole x.0 x.1 (ap h.w.filed (sym same) ∙ f.2) (subst (λ z. In z.name n.dropped → ⊥) x.2 kept))

  -- ---- one text

  -- a fragment of a booked segment is one of a segment that was in flight
  piece : (f : Fragment) (x i : ℕ) → h.w.booked x ≡ 1 → f ≡ fragment_of g (h.book x) i → (s : Segment) × In s n.flown × (f ≡ fragment_of g s f.meta.index)
  piece f x i booked fact = (h.book x, h.flown.all x booked, at_its_place g (h.book x) f i fact)

  pub one_text : OneText g n
  one_text = record {
    one = λ s t fact to same. one s t (h.flown.booked s fact) (h.flown.booked t to) same;
    held = held;
    stored = λ v generation f fact.
        (let s : StoreSeen g h.w.booked h.book h.w.stores v f generation = h.sent (StoreSent v f generation) fact in piece f s.name s.index s.known s.fragment);
    told = λ f fact. (let s : FragmentSeen g h.w h.book f = h.sent (FragmentSent f) fact in piece f s.name s.index s.known s.is_piece);
    own = λ s flew v f fact place within at. own s v f (h.flown.booked s flew) fact place within at;
  }
    where
      own : (s : Segment) (v : ℕ) (f : Fragment) → (x : ℕ) × (h.w.booked x ≡ 1) × (s ≡ h.book x) → held_at (n.shelves v).held s.name ≡ Some f → (place : ℕ)
          → place < length (members_of g s) → server_of (members_of g s) place ≡ v → f.meta.index ≡ place
      own s v f x fact place within at =
          let named : s.name ≡ name_of g x.0 = ap (λ (z : Segment). z.name) x.2 ∙ (page x.0 x.1).named in
          let kept : Kept g (h.book x.0) (Some f) (h.w.booked x.0) (h.w.holds v x.0) (h.w.kept_index v x.0) =
          subst (λ o. Kept g (h.book x.0) o (h.w.booked x.0) (h.w.holds v x.0) (h.w.kept_index v x.0))
          (ap (held_at (n.shelves v).held) (sym named) ∙ fact) ((h.shelves v).keeps x.0) in
          let shelves = k.protocol.shelves h.w h.reached in
          let below : place < h.w.member_count x.0 =
          subst (λ c. place < c) (sym (page x.0 x.1).counted) (subst (λ (z : Segment). place < length (members_of g z)) x.2 within) in
          let there : h.w.member_server x.0 place ≡ v =
          (page x.0 x.1).at_server place ∙ (ap (λ (z : Segment). server_of (members_of g z) place) (sym x.2) ∙ at) in
          ap (λ (z : Fragment). z.meta.index) kept.2
          ∙ (k.protocol.book h.w h.reached).distinct x.0 (h.w.kept_index v x.0) place x.1 (shelves.held_index v x.0 kept.0) below
          (shelves.held_member v x.0 kept.0 ∙ sym there)

      one : (s t : Segment) → (x : ℕ) × (h.w.booked x ≡ 1) × (s ≡ h.book x) → (y : ℕ) × (h.w.booked y ≡ 1) × (t ≡ h.book y) → s.name ≡ t.name → s ≡ t
      one s t x y same =
          let e : x.0 ≡ y.0 =
          one_number g x.0 y.0
          (sym (page x.0 x.1).named ∙ (ap (λ (z : Segment). z.name) (sym x.2) ∙ (same ∙ (ap (λ (z : Segment). z.name) y.2 ∙ (page y.0 y.1).named)))) in
          x.2 ∙ (ap h.book e ∙ sym y.2)

      held : (v : ℕ) (name : SegName) (f : Fragment) → name.log ≡ g.log → held_at (n.shelves v).held name ≡ Some f
          → (s : Segment) × In s n.flown × (s.name ≡ name) × (f ≡ fragment_of g s f.meta.index)
      held v name f of fact = (h.book x, h.flown.all x there.1, (page x there.1).named ∙ sym named, at_its_place g (h.book x) f (h.w.kept_index v x) there.2)
        where
          x : ℕ
          x = g.code name.seq name.pass.inc name.pass.att

          named : name ≡ name_of g x
          named = ap (λ l. record { log = l; seq = name.seq; pass = name.pass }) of ∙ sym (name_coded g name.seq name.pass.inc name.pass.att)

          there : (h.w.holds v x ≡ 1) × (h.w.booked x ≡ 1) × (f ≡ fragment_of g (h.book x) (h.w.kept_index v x))
          there = subst (λ o. Kept g (h.book x) o (h.w.booked x) (h.w.holds v x) (h.w.kept_index v x)) (ap (held_at (n.shelves v).held) (sym named) ∙ fact)
              ((h.shelves v).keeps x)

module _ (k : Below) (g : Setting) (n : Net) (m : Moment g n) where
  abbrev calmer : Moment (doubtful g) n
  calmer = moment_so g n m

  pub seen : View (doubtful g) n
  seen = seen_always k (doubtful g) (opening (doubtful g) calmer.map) n refl calmer.run (begins_seen k (doubtful g) calmer.map calmer.whole)

pub logs_stay_whole : Below → LogsStayWhole
logs_stay_whole k g n m = let l = logs_whole k (doubtful g) n (seen k g n m) in record { flown = l.flown; striped = l.striped; whole = l.whole }

pub one_name_one_text : Below → OneNameOneText
one_name_one_text k g n m = let l = one_text k (doubtful g) n (seen k g n m) in record { one = l.one; held = l.held; stored = l.stored; told = l.told; own = l.own }
