-- An event that leaves the owner as it was keeps the small world seen.
use Rattle.log_law.proofs.Steady.{Steady}
use Rattle.xfs_base.specs.declared.segment.SegName.{SegName}
use Rattle.log_law.proofs.Next.{Next}
use Rattle.std.proofs.Common.{◌≡◌, ℕ, ◌⊎◌, ◌≤◌, List, [], ◌∷◌, ◌++◌, sym, subst, ◌∙◌, inl, inr, arith, ⊎_elim, refl}
use Rattle.segment_format.specs.declared.segment.Segment.{Segment}
use Rattle.log_protocol.specs.State.{State}
use Rattle.log_protocol.specs.Step.{Steps}
use Rattle.log_protocol.specs.Tables.{In}
use Rattle.log_tie.specs.Setting.{Setting, name_of}
use Rattle.log_tie.specs.Scans.{Asked}
use Rattle.log_tie.specs.Shelves.{ShelfShown, DropSeen}
use Rattle.log_law.specs.Net.{Packet, Net}
use Rattle.log_law.specs.Below.{Below}
use Rattle.log_law.proofs.Views.{Shown, OwnerShown, Flown, View, PickShown}
use Rattle.log_law.proofs.Growing.{shown_on}
use Rattle.log_law.proofs.Frames.{Apart, same, later_apart, fixed_apart, paged_apart, spelled_apart, flown_apart, owner_apart}

-- each of these is shown
abbrev pub AllShown : Setting → State → (ℕ → Segment) → List Asked → List Packet → Type 0
AllShown g w book hellos [] = Unit {0}
AllShown g w book hellos (p ∷ ps) = Shown g w book hellos p × AllShown g w book hellos ps

pub all_shown : (g : Setting) (w : State) (book : ℕ → Segment) (hellos : List Asked) (ps qs : List Packet) → AllShown g w book hellos ps
    → ((p : Packet) → In p qs → Shown g w book hellos p) → (p : Packet) → In p (ps ++ qs) → Shown g w book hellos p
all_shown g w book hellos [] qs all old p fact = old p fact
all_shown g w book hellos (r ∷ rs) qs all old p (inl e) = subst (λ z. Shown g w book hellos z) (sym e) all.0
all_shown g w book hellos (r ∷ rs) qs all old p (inr fact) = all_shown g w book hellos rs qs all.1 old p fact

-- what an event of others leaves as it was in the small world
pub record Rests (n m : Net) : Type 0 where
  pub inc : m.inc ≡ n.inc
  pub owner : m.owner ≡ n.owner
  pub filed : m.filed ≡ n.filed
  pub flown : m.flown ≡ n.flown
  pub picked : m.picked ≡ n.picked

module _ (k : Below) (g : Setting) (n : Net) (h : View g n) where
  -- what it owes: steps that leave the owner alone, the shelves and the registry as they are then, and the packets that it sends
  pub record Turn (m : Net) (u : State) (new : List Packet) : Type 0 where
    pub steps : Steps h.w u
    pub apart : Apart h.w u
    pub rests : Rests n m
    pub shelves : (v : ℕ) → ShelfShown g u h.book v (m.shelves v)
    pub nobody : (x : ℕ) → u.holds 0 x ≡ 0
    pub registry : (v : ℕ) → u.registry_generation v ≡ m.registry v
    pub low : u.low ≡ m.low
    pub sends : m.sent ≡ new ++ n.sent
    pub shown : AllShown g u h.book h.hellos new
    pub dropped : (x : ℕ) → (u.dropped x ≡ 0) ⊎ In (name_of g x) m.dropped
    pub gone : (name : SegName) → In name m.dropped → In name n.dropped ⊎ DropSeen g u name
    pub servers : (v : ℕ) → (u.generation v ≡ h.w.generation v) ⊎ (((x : ℕ) → u.holds v x ≡ 0) × (u.dropped ≡ h.w.dropped))

  abbrev pub view_after : (m : Net) (u : State) (new : List Packet) → Turn m u new → View g m
  view_after m u new t = record {
    w = u;
    book = h.book;
    hellos = h.hellos;
    fixed = fixed_apart g h.w u h.book t.apart h.fixed;
    reached = k.protocol.goes_on h.w u h.reached t.steps;
    paged = paged_apart g h.w u h.book t.apart h.paged;
    spelled = spelled_apart g h.w u h.book t.apart h.spelled;
    flown = subst (Flown u h.book) (sym t.rests.flown) (flown_apart g h.w u h.book t.apart n.flown h.flown);
    shelves = t.shelves;
    nobody = t.nobody;
    registry = t.registry;
    low = t.low;
    inc = same g h.w u h.book t.apart (λ o. o.incarnation ≡ m.inc) (h.inc ∙ sym t.rests.inc);
    owner = subst (OwnerShown g u h.book h.hellos) (sym t.rests.owner) (owner_apart g h.w u h.book t.apart k h.hellos n.owner h.owner);
    picked = same g h.w u h.book t.apart (λ o. PickShown o.pick_low m.picked m.owner)
        (subst (PickShown h.w.pick_low m.picked) (sym t.rests.owner) (subst (λ z. PickShown h.w.pick_low z n.owner) (sym t.rests.picked) h.picked));
    sent = λ p fact. all_shown g u h.book h.hellos new n.sent t.shown
        (λ q among. shown_on g h.w u h.book h.book (later_apart g h.w u h.book t.apart) h.hellos h.hellos (λ a in_. in_) q (h.sent q among)) p
        (subst (In p) t.sends fact);
    asked = λ a fact.
        (same g h.w u h.book t.apart (λ o. a.inc ≤ o.incarnation) (h.asked a fact).0, (let b = (h.asked a fact).1 in let up = t.apart.low in omega arith));
    filed = λ name fact. same g h.w u h.book t.apart (λ o. (x : ℕ) × (name ≡ name_of g x)
        × (o.filed x ≡ 1)) (h.filed name (subst (In name) t.rests.filed fact));
    calm = λ none. same g h.w u h.book t.apart (λ o. o.clean ≡ 1) (h.calm none);
    highest = same g h.w u h.book t.apart (λ o. (o.end ≡ 0) ⊎ In (name_of g o.end) m.filed)
        (subst (λ names. (h.w.end ≡ 0) ⊎ In (name_of g h.w.end) names) (sym t.rests.filed) h.highest);
    dropped = t.dropped;
    gone = λ name fact. ⊎_elim (λ old. (let d = h.gone name old in record { number = d.number; named = d.named; dropped = t.apart.dropped d.number d.dropped }))
        (λ new_one. new_one) (t.gone name fact);
  }

  steady_apart : (m : Net) (u : State) (new : List Packet) → Turn m u new → Steady h.w u
  steady_apart m u new t = record {
    served = same g h.w u h.book t.apart (λ o. o.served ≡ h.w.served) refl;
    head = same g h.w u h.book t.apart (λ o. o.head ≡ h.w.head) refl;
    booked = λ x. same g h.w u h.book t.apart (λ o. o.booked x ≡ 1 → o.incarnation_of x ≡ o.served → h.w.booked x ≡ 1) (λ fact boot. fact);
  }

  pub turned : (m : Net) (u : State) (new : List Packet) → Turn m u new → Next g n h m
  turned m u new t =
      record {
        view = view_after m u new t;
        steps = t.steps;
        by = inl (record { owner = t.rests.owner; servers = t.servers });
        spans = λ writes serves. same g h.w u h.book t.apart (λ o. o.spanning ≡ h.w.spanning) refl;
        steady = λ serving. steady_apart m u new t;
      }
