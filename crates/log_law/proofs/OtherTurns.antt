-- What the registry and the cleaner do keeps the small world seen.
use Rattle.log_tie.specs.Shelves.{DropSeen}
use Rattle.log_law.proofs.Next.{Next}
use Rattle.std.proofs.Common.{◌≡◌, ℕ, suc, ◌==◌, ◌≤◌, ◌<◌, ◌⊎◌, Bool, true, false, cond, List, [], ◌∷◌, refl, sym, ap, ◌∙◌, inl, inr, arith}
use Rattle.std.proofs.lemmas.Bool.Decides.{nat_tests}
use Rattle.std.proofs.lemmas.Bool.{eqb-true}
use Rattle.xfs_base.specs.declared.fragment.FragMeta.{FragMeta}
use Rattle.xfs_base.specs.declared.news.SlotNews.{SlotNews}
use Rattle.xfs_base.specs.declared.segment.SegName.{SegName}
use Rattle.group_map.specs.GroupMapState.{GroupMapState}
use Rattle.log_scan.specs.Transition.{least_horizon}
use Rattle.log_protocol.specs.ServerSteps.{CanDrop, hears, raises, drops}
use Rattle.log_protocol.specs.Step.Step.{Hears, Raises, Drops}
use Rattle.log_protocol.specs.Step.Steps.{Done, More}
use Rattle.log_protocol.specs.Tables.{put, In}
use Rattle.log_tie.specs.Setting.{Setting, name_of}
use Rattle.log_tie.specs.Scans.{AllMetas, WholeMap}
use Rattle.log_law.specs.Net.{Net, Packet}
use Rattle.log_law.specs.Net.Packet.{ListedSent, DeleteSent, MapSent, HelloSent, WelcomeSent}
use Rattle.log_law.specs.Below.{Below}
use Rattle.log_law.proofs.Views.{HelloSeen, Shown, WelcomeSeen, View}
use Rattle.log_law.proofs.Turning.{turned}
use Rattle.log_law.proofs.ServerTurns.{nothing_apart}

module _ (k : Below) (g : Setting) (n : Net) (h : View g n) where
  -- ---- the registry hears of a generation

  pub hears_view : (v generation : ℕ) → n.registry v ≤ generation → generation ≤ (n.shelves v).generation
      → Next g n h (record n { registry = put n.registry v generation })
  hears_view v generation up reached = turned k g n h _ (hears h.w v generation) [] (record {
    steps = More Done (Hears v generation (record { rises = (let e = h.registry v in omega arith); reached = (let e = (h.shelves v).of in omega arith) }));
    apart = record {
      seat = refl;
      storeds = λ p fact. fact;
      fragments = λ p fact. fact;
      fenceds = λ p fact. fact;
      dropped = λ x fact. fact;
      registry = λ y. rises y;
      low = omega arith;
    };
    rests = record { inc = refl; owner = refl; filed = refl; flown = refl; picked = refl };
    shelves = λ y. record { of = (h.shelves y).of; keeps = (h.shelves y).keeps; each = (h.shelves y).each; marks = (h.shelves y).marks };
    nobody = h.nobody;
    registry = λ y. ap (λ z. cond (y == v) generation z) (h.registry y);
    low = h.low;
    sends = refl;
    shown = tt;
    dropped = h.dropped;
    gone = λ z in_. inl in_;
    servers = λ y. inl refl;
  })
    where
      rises : (y : ℕ) → h.w.registry_generation y ≤ put h.w.registry_generation v generation y
      rises y = by (y == v) refl
        where
          by : (t : Bool) → (y == v) ≡ t → h.w.registry_generation y ≤ cond t generation (h.w.registry_generation y)
          by true e = let a = ap h.w.registry_generation (eqb-true y v e) in let b = h.registry v in let c = up in omega arith
          by false e = omega arith

  -- ---- the least horizon rises

  pub raises_view : (low : ℕ) (name : SegName) → n.low ≤ low → In name n.filed → low ≤ suc name.seq → Next g n h (record n { low = low })
  raises_view low name up fact below = turned k g n h _ (raises h.w low) [] (record {
    steps = More Done (Raises low (record { rises = (let e = h.low in omega arith); filed = within }));
    apart = record {
      seat = refl;
      storeds = λ p fact. fact;
      fragments = λ p fact. fact;
      fenceds = λ p fact. fact;
      dropped = λ x fact. fact;
      registry = λ y. omega arith;
      low = (let e = h.low in let u = up in omega arith);
    };
    rests = record { inc = refl; owner = refl; filed = refl; flown = refl; picked = refl };
    shelves = λ y. record { of = (h.shelves y).of; keeps = (h.shelves y).keeps; each = (h.shelves y).each; marks = (h.shelves y).marks };
    nobody = h.nobody;
    registry = h.registry;
    low = refl;
    sends = refl;
    shown = tt;
    dropped = h.dropped;
    gone = λ z in_. inl in_;
    servers = λ y. inl refl;
  })
    where
      within : h.w.clean ≡ 1 → low ≤ suc h.w.head
      within clean =
          let f = h.filed name fact in
          let a = (k.protocol.head h.w h.reached clean).filed_head f.0 f.2 in
          let e : h.w.seq_of f.0 ≡ name.seq = ap (λ t. t f.0) h.fixed.seq_of ∙ ap (λ (z : SegName). z.seq) (sym f.1) in
          let b = below in
          omega arith

  -- ---- maps, and answers to questions

  whole_here : (m : GroupMapState) → WholeMap g n.registry m → WholeMap g h.w.registry_generation m
  whole_here m whole =
      record {
        seen = record { whole = whole.seen.whole; past = λ v. (let a = whole.seen.past v in let b = h.registry v in omega arith) };
        size = whole.size;
        named = whole.named;
        some = whole.some;
        cut = whole.cut;
      }

  -- one more packet is sent, in which nothing but the truth is told
  tells_view : (p : Packet) → Shown g h.w h.book h.hellos p → Next g n h (record n { sent = p ∷ n.sent })
  tells_view p shown = turned k g n h _ h.w (p ∷ []) (record {
    steps = Done;
    apart = nothing_apart k g n h;
    rests = record { inc = refl; owner = refl; filed = refl; flown = refl; picked = refl };
    shelves = h.shelves;
    nobody = h.nobody;
    registry = h.registry;
    low = h.low;
    sends = refl;
    shown = (shown, tt);
    dropped = h.dropped;
    gone = λ z in_. inl in_;
    servers = λ y. inl refl;
  })

  pub publishes_view : (m : GroupMapState) → WholeMap g n.registry m → Next g n h (record n { sent = MapSent m ∷ n.sent })
  publishes_view m whole = tells_view (MapSent m) (whole_here m whole)

  pub welcomes_view : (inc ask : ℕ) (news : List SlotNews) (m : GroupMapState) → In (HelloSent inc ask) n.sent → least_horizon g.log.0 news ≡ n.low
      → WholeMap g n.registry m → Next g n h (record n { sent = WelcomeSent inc ask news m ∷ n.sent })
  welcomes_view inc ask news m fact low whole = tells_view (WelcomeSent inc ask news m) seen
    where
      hello : HelloSeen h.hellos inc ask
      hello = h.sent (HelloSent inc ask) fact

      seen : WelcomeSeen g h.w h.hellos inc ask news m
      seen = record {
        hello = hello;
        later = (let a = (h.asked hello.question hello.among).1 in let b = h.low in let c = low in omega arith);
        known = (let b = h.low in let c = low in omega arith);
        map = whole_here m whole;
      }

  -- ---- the cleaner drops a segment

  pub drops_view : (lists : List FragMeta) (meta : FragMeta) → In (ListedSent lists) n.sent → In meta lists → meta.name.seq < n.low
      → Next g n h (record n { sent = DeleteSent meta.name ∷ n.sent; dropped = meta.name ∷ n.dropped })
  drops_view lists meta fact among below = dropped_one (found lists (h.sent (ListedSent lists) fact) among)
    where
      Found : Type 0
      Found = (x : ℕ) × (h.w.booked x ≡ 1) × (meta.name ≡ name_of g x)

      found : (ms : List FragMeta) → AllMetas h.book h.w.booked ms → In meta ms → Found
      found [] all in_ = absurd in_
      found (m ∷ ms) all (inl e) = (all.0.0, all.0.2, ap (λ (z : FragMeta). z.name) (e ∙ all.0.3) ∙ (h.paged all.0.0 all.0.2).named)
      found (m ∷ ms) all (inr in_) = found ms all.1 in_

      dropped_one : Found → Next g n h (record n { sent = DeleteSent meta.name ∷ n.sent; dropped = meta.name ∷ n.dropped })
      dropped_one f = turned k g n h _ (drops h.w f.0) (DeleteSent meta.name ∷ []) (record {
        steps = More Done (Drops f.0 can);
        apart = record {
          seat = refl;
          storeds = λ p in_. in_;
          fragments = λ p in_. in_;
          fenceds = λ p in_. in_;
          dropped = λ y e. put_one y e;
          registry = λ y. omega arith;
          low = omega arith;
        };
        rests = record { inc = refl; owner = refl; filed = refl; flown = refl; picked = refl };
        shelves = λ y. record { of = (h.shelves y).of; keeps = (h.shelves y).keeps; each = (h.shelves y).each; marks = (h.shelves y).marks };
        nobody = h.nobody;
        registry = h.registry;
        low = h.low;
        sends = refl;
        shown = (record { number = f.0; named = f.2; dropped = here }, tt);
        dropped = gone;
        gone = told;
        servers = λ y. inl refl;
      })
        where
          can : CanDrop h.w f.0
          can = record {
            booked = f.1;
            below = (let e : h.w.seq_of f.0 ≡ meta.name.seq = ap (λ t. t f.0) h.fixed.seq_of ∙ ap (λ (z : SegName). z.seq) (sym f.2) in let l = h.low in
                let b = below in omega arith);
          }

          here : put h.w.dropped f.0 1 f.0 ≡ 1
          here = grind (arith, nat_tests)

          put_one : (y : ℕ) → h.w.dropped y ≡ 1 → put h.w.dropped f.0 1 y ≡ 1
          put_one y e = grind (arith, nat_tests)

          told : (name : SegName) → In name (meta.name ∷ n.dropped) → In name n.dropped ⊎ DropSeen g (drops h.w f.0) name
          told name (inl e) = inr (record { number = f.0; named = e ∙ f.2; dropped = here })
          told name (inr in_) = inl in_

          gone : (y : ℕ) → (put h.w.dropped f.0 1 y ≡ 0) ⊎ In (name_of g y) (meta.name ∷ n.dropped)
          gone y = by (y == f.0) refl (h.dropped y)
            where
              by : (t : Bool) → (y == f.0) ≡ t → (h.w.dropped y ≡ 0) ⊎ In (name_of g y) n.dropped
                  → (cond t 1 (h.w.dropped y) ≡ 0) ⊎ In (name_of g y) (meta.name ∷ n.dropped)
              by true e was = inr (inl (ap (name_of g) (eqb-true y f.0 e) ∙ sym f.2))
              by false e (inl was) = inl was
              by false e (inr was) = inr (inr was)
