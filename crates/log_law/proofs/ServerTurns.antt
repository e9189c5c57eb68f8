-- What is done to a server's shelf keeps the small world seen.
use Rattle.log_law.proofs.Next.{Next}
use Rattle.xfs_base.specs.Stamps.{is_greater}
use Rattle.xfs_base.specs.Segments.{pass_cmp}
use Rattle.std.specs.BTreeMap.{insert_entry}
use Rattle.std.proofs.Common.{◌≡◌, ℕ, ◌==◌, ◌&&◌, ◌<◌, ◌⊎◌, Bool, true, false, cond, [], ◌∷◌, Option, Some, None, refl, sym, ap, subst, ◌∙◌, arith, ◌++◌, inl, inr}
use Rattle.std.proofs.lemmas.Bool.{eqb-true}
use Rattle.xfs_base.specs.declared.fragment.Fragment.{Fragment}
use Rattle.xfs_base.specs.declared.segment.LogId.{LogId}
use Rattle.xfs_base.specs.declared.segment.Pass.{Pass}
use Rattle.xfs_base.specs.declared.segment.SegName.{SegName}
use Rattle.xfs_base.proofs.Booleans.{contrary, by_test, and_first, and_second, equal_itself}
use Rattle.fragment_store.specs.ShelfState.{ShelfState, held_at, fence_of, log_cmp, is_marked, is_held}
use Rattle.fragment_store.specs.Calls.{on_fence, shelf_store, with_fragment}
use Rattle.log_protocol.specs.Packets.{FencedPacket}
use Rattle.log_protocol.specs.State.{State}
use Rattle.log_protocol.specs.Step.Steps.{Done}
use Rattle.log_protocol.specs.Tables.{put, In}
use Rattle.log_tie.specs.Setting.{Setting, name_of}
use Rattle.log_tie.specs.Scans.{FencedSeen}
use Rattle.log_tie.specs.Shelves.{flag, Shelved, ShelfShown, Deed, is_of_log, is_stored, shelf_after, Owes, Tells, ByServer, Did, AllPieces}
use Rattle.log_tie.specs.Shelves.Deed.{Stores, Fetches, Fences, Deletes, Fills, Loses}
use Rattle.log_law.specs.Net.{Net, listed, answers, fragment_told}
use Rattle.log_law.specs.Net.Packet.{StoreSent, StoredSent, FenceSent, ListedSent, DeleteSent}
use Rattle.log_law.specs.Events.{CameToServer}
use Rattle.log_law.specs.Below.{Below}
use Rattle.log_law.proofs.Views.{View}
use Rattle.log_law.proofs.Frames.{seat_of, Apart}
use Rattle.log_law.proofs.Turning.{AllShown, turned}
use Rattle.log_law.proofs.Listing.{names_listed, metas_listed}
use Rattle.log_law.proofs.Filling.{fill_seen}

-- a server's step leaves the owner alone
pub server_apart : (v : ℕ) (w u : State) → ByServer v w u → Apart w u
server_apart v w u by = record {
  seat = ap (λ (z : State). seat_of z) by.others;
  storeds = by.storeds;
  fragments = by.fragments;
  fenceds = by.fenceds;
  dropped = λ x fact. ap (λ (z : State). z.dropped x) by.others ∙ fact;
  registry = λ y. (let e = ap (λ (z : State). z.registry_generation y) by.others in omega arith);
  low = (let e = ap (λ (z : State). z.low) by.others in omega arith);
}

module _ (k : Below) (g : Setting) (n : Net) (h : View g n) where
  -- ---- what a deed owes

  owes : (v : ℕ) (deed : Deed) → CameToServer g n v deed → Owes g h.w h.book v (n.shelves v) deed
  owes v (Stores f generation) came = λ own. h.sent (StoreSent v f generation) (came own)
  owes v (Fetches name) came = tt
  owes v (Fences inc) came = h.sent (FenceSent v inc) came
  owes v (Deletes name) came = λ own. h.sent (DeleteSent name) (came own)
  owes v (Fills f) came = λ own. fill_seen g n h v f (came own)
  owes v Loses came = came

  -- ---- what it answers

  fragment_shown : (u : State) (v : ℕ) (name : SegName) → u.text_of ≡ h.w.text_of → Tells g u h.book v (n.shelves v) (Fetches name) → is_of_log g name ≡ true
      → u.booked ≡ h.w.booked → AllShown g u h.book h.hellos (fragment_told (held_at (n.shelves v).held name))
  fragment_shown u v name texts tells own booked = by (held_at (n.shelves v).held name) refl
    where
      by : (o : Option Fragment) → held_at (n.shelves v).held name ≡ o → AllShown g u h.book h.hellos (fragment_told o)
      by None e = tt
      by (Some f) e = let t = tells f own e in (
        record {
          name = t.0;
          index = t.1;
          known = t.2;
          is_piece = t.4;
          sent = subst (λ z. In (record { name = t.0; text = z }) u.fragments)
              (ap (λ z. z t.0) texts ∙ (h.paged t.0 (ap (λ z. z t.0) (sym booked) ∙ t.2)).spelled) t.5;
        },
        tt,
      )

  fenced_shown : (u : State) (v inc : ℕ) → u.booked ≡ h.w.booked → Tells g u h.book v (n.shelves v) (Fences inc)
      → FencedSeen g u h.book v inc (n.shelves v).generation (listed g (n.shelves v))
  fenced_shown u v inc booked t = record {
    low = t.0.low;
    listed = t.0.listed;
    sent = subst (λ (p : FencedPacket). In p u.fenceds)
        (λ i. record { from = t.2 i; incarnation = t.3 i; generation = t.4 i; low = t.0.low; listed = t.0.listed }) t.1;
    lists = λ x. t.5 x ∙ ap flag (sym (names_listed g (n.shelves v).held (name_of g x) (equal_itself g.log.0)));
    whole = metas_listed g h.book u.booked (n.shelves v).held (subst (λ b. AllPieces g h.book b (n.shelves v).held) (sym booked) (h.shelves v).each);
  }

  told_shown : (u : State) (v : ℕ) (deed : Deed) → u.text_of ≡ h.w.text_of → u.booked ≡ h.w.booked → Tells g u h.book v (n.shelves v) deed
      → AllShown g u h.book h.hellos (answers g v (n.shelves v) deed)
  told_shown u v (Stores f generation) texts booked tells =
      by_test (AllShown g u h.book h.hellos) (is_of_log g f.meta.name && is_stored (n.shelves v) f generation)
      (StoredSent f.meta.name f.meta.index generation ∷ []) []
      (λ t. (let s = tells (and_first (is_of_log g f.meta.name) _ t) (and_second (is_of_log g f.meta.name) _ t) in
      (record { number = s.0; named = s.1; sent = s.2 }, tt))) (λ t. tt)
  told_shown u v (Fetches name) texts booked tells =
      by_test (AllShown g u h.book h.hellos) (is_of_log g name) (fragment_told (held_at (n.shelves v).held name)) []
      (λ t. fragment_shown u v name texts tells t booked) (λ t. tt)
  told_shown u v (Fences inc) texts booked tells = (fenced_shown u v inc booked tells, tt)
  told_shown u v (Deletes name) texts booked tells = tt
  told_shown u v (Fills f) texts booked tells = tt
  told_shown u v Loses texts booked tells = tt

  -- ---- the shelves after it

  -- what a server's shelf is seen by
  pub record Side : Type 0 where
    pub booked : ℕ → ℕ
    pub generation : ℕ
    pub holds : ℕ → ℕ
    pub index : ℕ → ℕ
    pub marked : ℕ → ℕ

  abbrev side_of : State → ℕ → Side
  side_of w v = record { booked = w.booked; generation = w.generation v; holds = w.holds v; index = w.kept_index v; marked = w.marked v }

  abbrev Seen : ShelfState → Side → Type 0
  Seen s z = Shelved g h.book z.booked z.generation z.holds z.index z.marked s

  shelves_after : (v : ℕ) (u : State) (s : ShelfState) → ByServer v h.w u → ShelfShown g u h.book v s → (y : ℕ) → ShelfShown g u h.book y (put n.shelves v s y)
  shelves_after v u s by shows y = pick (y == v) refl
    where
      others : ((y ≡ v) → ⊥) → side_of u y ≡ side_of h.w y
      others apart = λ i. record {
        booked = ap (λ (z : State). z.booked) by.others i;
        generation = by.generation y apart i;
        holds = λ x. by.holds y x apart i;
        index = λ x. by.index y x apart i;
        marked = λ x. by.marked y x apart i;
      }

      pick : (t : Bool) → (y == v) ≡ t → ShelfShown g u h.book y (cond t s (n.shelves y))
      pick true e = subst (λ z. ShelfShown g u h.book z s) (sym (eqb-true y v e)) shows
      pick false e = subst (Seen (n.shelves y)) (sym (others (λ same. contrary (sym e ∙ (ap (λ z. y == z) (sym same) ∙ equal_itself y))))) (h.shelves y)

  -- the generation rises only by a loss, and then nothing is held
  abbrev Stays : (v y : ℕ) → State → Type 0
  Stays v y u = (u.generation y ≡ h.w.generation y) ⊎ (((x : ℕ) → u.holds y x ≡ 0) × (u.dropped ≡ h.w.dropped))

  same_generation : (v : ℕ) (deed : Deed) (u : State) → ShelfShown g u h.book v (shelf_after g (n.shelves v) deed) → u.dropped ≡ h.w.dropped → Stays v v u
  same_generation v (Stores f generation) u shows same =
      inl (shows.of
      ∙ (by_test (λ (s : ShelfState). s.generation ≡ (n.shelves v).generation) (is_stored (n.shelves v) f generation) (shelf_store (n.shelves v) f) (n.shelves v)
      (λ t. keeps_it f) (λ t. refl) ∙ sym (h.shelves v).of))
    where
      keeps_it : (f : Fragment) → (shelf_store (n.shelves v) f).generation ≡ (n.shelves v).generation
      keeps_it f = by_test (λ (s : ShelfState). s.generation ≡ (n.shelves v).generation) (is_held (n.shelves v) f.meta.name) (n.shelves v)
          (record (n.shelves v) { held = with_fragment f (n.shelves v).held }) (λ t. refl) (λ t. refl)
  same_generation v (Fetches name) u shows same = inl (shows.of ∙ sym (h.shelves v).of)
  same_generation v (Fences inc) u shows same =
      inl (shows.of
      ∙ (by_test (λ (s : ShelfState). s.generation ≡ (n.shelves v).generation)
      (is_greater (pass_cmp (record { inc = inc; att = 0 }) (fence_of (n.shelves v).fences g.log)))
      (record (n.shelves v) { fences = insert_entry log_cmp (n.shelves v).fences g.log (record { inc = inc; att = 0 }) }) (n.shelves v) (λ t. refl) (λ t. refl)
      ∙ sym (h.shelves v).of))
  same_generation v (Deletes name) u shows same = inl (shows.of ∙ sym (h.shelves v).of)
  same_generation v (Fills f) u shows same =
      inl (shows.of
      ∙ (by_test (λ (s : ShelfState). s.generation ≡ (n.shelves v).generation) (is_marked (n.shelves v).marks f.meta.name) (n.shelves v) (shelf_store (n.shelves v) f)
      (λ t. refl)
      (λ t. by_test (λ (s : ShelfState). s.generation ≡ (n.shelves v).generation) (is_held (n.shelves v) f.meta.name) (n.shelves v)
      (record (n.shelves v) { held = with_fragment f (n.shelves v).held }) (λ t. refl) (λ t. refl))
      ∙ sym (h.shelves v).of))
  same_generation v Loses u shows same = inr (shows.keeps, same)

  servers_after : (v : ℕ) (deed : Deed) (d : Did g h.w h.book v (n.shelves v) deed) (y : ℕ) → Stays v y d.world
  servers_after v deed d y = pick (y == v) refl
    where
      pick : (t : Bool) → (y == v) ≡ t → Stays v y d.world
      pick true e = subst (λ z. Stays v z d.world) (sym (eqb-true y v e))
          (same_generation v deed d.world d.shows (ap (λ (z : State). z.dropped) d.frame.others))
      pick false e = inl (d.frame.generation y (λ same. contrary (sym e ∙ (ap (λ z. y == z) (sym same) ∙ equal_itself y))))

  pub serves_view : (v : ℕ) (deed : Deed) → 0 < v → CameToServer g n v deed
      → Next g n h (record n { shelves = put n.shelves v (shelf_after g (n.shelves v) deed); sent = answers g v (n.shelves v) deed ++ n.sent })
  serves_view v deed some came = turned k g n h _ d.world (answers g v (n.shelves v) deed) (record {
    steps = d.steps;
    apart = server_apart v h.w d.world d.frame;
    rests = record { inc = refl; owner = refl; filed = refl; flown = refl; picked = refl };
    shelves = shelves_after v d.world (shelf_after g (n.shelves v) deed) d.frame d.shows;
    nobody = λ x. d.frame.holds 0 x (λ e. (let s = some in omega arith)) ∙ h.nobody x;
    registry = λ y. ap (λ (z : State). z.registry_generation y) d.frame.others ∙ h.registry y;
    low = ap (λ (z : State). z.low) d.frame.others ∙ h.low;
    sends = refl;
    shown = told_shown d.world v deed (ap (λ (z : State). z.text_of) d.frame.others) (ap (λ (z : State). z.booked) d.frame.others) d.tells;
    dropped = λ x. subst (λ (z : State). (z.dropped x ≡ 0) ⊎ In (name_of g x) n.dropped) (sym d.frame.others) (h.dropped x);
    gone = λ name fact. inl fact;
    servers = λ y. servers_after v deed d y;
  })
    where
      d : Did g h.w h.book v (n.shelves v) deed
      d = k.machines.deeds g h.w h.book v (n.shelves v) deed h.reached h.paged (h.shelves v) (owes v deed came)

  -- ---- nothing that is seen

  pub nothing_apart : Apart h.w h.w
  nothing_apart =
      record {
        seat = refl;
        storeds = λ p fact. fact;
        fragments = λ p fact. fact;
        fenceds = λ p fact. fact;
        dropped = λ x fact. fact;
        registry = λ y. omega arith;
        low = omega arith;
      }

  fence_shown : (s : ShelfState) (z : Side) (log : LogId) (pass : Pass) → Seen s z → Seen (on_fence s log pass) z
  fence_shown s z log pass seen =
      by_test (λ t. Seen t z) (is_greater (pass_cmp pass (fence_of s.fences log))) (record s { fences = insert_entry log_cmp s.fences log pass }) s
      (λ t. record { of = seen.of; keeps = seen.keeps; each = seen.each; marks = seen.marks }) (λ t. seen)

  pub bars_view : (v : ℕ) (log : LogId) (pass : Pass) → Next g n h (record n { shelves = put n.shelves v (on_fence (n.shelves v) log pass) })
  bars_view v log pass = turned k g n h _ h.w [] (record {
    steps = Done;
    apart = nothing_apart;
    rests = record { inc = refl; owner = refl; filed = refl; flown = refl; picked = refl };
    shelves = shelves_after v h.w (on_fence (n.shelves v) log pass)
        (record {
          others = refl;
          generation = λ y other. refl;
          holds = λ y x other. refl;
          index = λ y x other. refl;
          marked = λ y x other. refl;
          storeds = λ p fact. fact;
          fragments = λ p fact. fact;
          fenceds = λ p fact. fact;
        })
        (fence_shown (n.shelves v) (side_of h.w v) log pass (h.shelves v));
    nobody = h.nobody;
    registry = h.registry;
    low = h.low;
    sends = refl;
    shown = tt;
    dropped = h.dropped;
    gone = λ name fact. inl fact;
    servers = λ v. inl refl;
  })

  pub lists_view : (v : ℕ) → Next g n h (record n { sent = ListedSent (listed g (n.shelves v)) ∷ n.sent })
  lists_view v = turned k g n h _ h.w (ListedSent (listed g (n.shelves v)) ∷ []) (record {
    steps = Done;
    apart = nothing_apart;
    rests = record { inc = refl; owner = refl; filed = refl; flown = refl; picked = refl };
    shelves = h.shelves;
    nobody = h.nobody;
    registry = h.registry;
    low = h.low;
    sends = refl;
    shown = (metas_listed g h.book h.w.booked (n.shelves v).held (h.shelves v).each, tt);
    dropped = h.dropped;
    gone = λ name fact. inl fact;
    servers = λ v. inl refl;
  })
