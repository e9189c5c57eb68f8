-- Whatever is done to a shelf is done by steps of its server.
use Rattle.std.proofs.Common.{◌≡◌, ℕ, suc, ◌==◌, ◌<◌, ◌≤◌, Bool, true, false, cond, not, if◌then◌else◌, is_none, is_some, unwrap_or, nat_eq, List, [], ◌∷◌, Option, Some, None, refl, sym, ap, subst, ◌∙◌, inl, inr, arith}
use Rattle.std.proofs.lemmas.Bool.Decides.{nat_tests}
use Rattle.xfs_base.specs.declared.fragment.Fragment.{Fragment}
use Rattle.xfs_base.specs.declared.segment.SegName.{SegName}
use Rattle.xfs_base.specs.Limits.{u32_end}
use Rattle.xfs_base.specs.Segments.{pass_cmp}
use Rattle.xfs_base.specs.Stamps.{is_greater}
use Rattle.xfs_base.proofs.Booleans.{contrary, by_test, equal_itself}
use Rattle.std.specs.BTreeMap.{insert_entry}
use Rattle.std.proofs.lemmas.Bool.{eqb-true}
use Rattle.segment_format.specs.declared.segment.Segment.{Segment}
use Rattle.segment_format.specs.Text.{text_of}
use Rattle.fragment_store.specs.declared.store_error.StoreError.TheVariants.{WrongGeneration, Marked, Fenced}
use Rattle.xfs_base.proofs.SegmentNames.{one_name}
use Rattle.fragment_store.specs.ShelfState.{ShelfState, same_name, log_cmp, held_at, is_held, is_marked, fence_of}
use Rattle.fragment_store.specs.Calls.{with_fragment, shelf_store, on_delete, on_lose}
use Rattle.log_protocol.specs.LogLaws.{Reached}
use Rattle.log_protocol.specs.Packets.{StorePacket}
use Rattle.log_protocol.specs.ServerSteps.{loses, accepts, accepts_again, tells, fills, deletes, fences}
use Rattle.log_protocol.specs.State.{State}
use Rattle.log_protocol.specs.Step.Step.{Accepts, Accepts_again, Tells as TellsStep, Fences as FencesStep, Deletes as DeletesStep, Fills as FillsStep, Loses as LosesStep}
use Rattle.log_protocol.specs.Step.Steps.{Done, More}
use Rattle.log_protocol.specs.Tables.{In, put_at}
use Rattle.log_protocol.proofs.Induction.{always}
use Rattle.log_tie.specs.Setting.{Setting, name_of, fragment_of}
use Rattle.log_tie.specs.Seen.{Book, StoreSeen}
use Rattle.log_tie.specs.Shelves.{flag, Kept, IsPiece, AllPieces, is_of_log, Shelved, ShelfShown, Deed, is_stored, shelf_after, Owes, Tells, Did, TakesDeeds}
use Rattle.log_tie.specs.Shelves.Deed.{Stores, Fetches, Fences, Deletes, Fills, Loses}
use Rattle.log_tie.proofs.Shelves.{shelf_with, shelf_foreign, shelf_without, shelf_without_foreign, shelf_lost, absent_there, present_there, unmarked_there}

-- a table at one place, and at another
at_place : (f : ℕ → ℕ → ℕ) (v x n : ℕ) → put_at f v x n v ≡ (λ y. if y == x then n else f v y)
at_place f v x n = λ i y. by y (v == v) (equal_itself v) i
  where
    by : (y : ℕ) (t : Bool) → t ≡ true → cond t (if y == x then n else f v y) (f v y) ≡ (if y == x then n else f v y)
    by y true e = refl
    by y false e = contrary e

elsewhere : (f : ℕ → ℕ → ℕ) (v x n k y : ℕ) → (k ≡ v → ⊥) → put_at f v x n k y ≡ f k y
elsewhere f v x n k y other = by (k == v) refl
  where
    by : (t : Bool) → (k == v) ≡ t → cond t (if y == x then n else f k y) (f k y) ≡ f k y
    by true e = absurd (other (eqb-true k v e))
    by false e = refl

module _ (g : Setting) (w : State) (book : ℕ → Segment) (v : ℕ) (s : ShelfState) (reached : Reached w) (h : ShelfShown g w book v s) where
  -- no step: the shelf is seen as it is after the deed
  rests : (deed : Deed) → ShelfShown g w book v (shelf_after g s deed) → Tells g w book v s deed → Did g w book v s deed
  rests deed shows told = record {
    world = w;
    steps = Done;
    frame = record {
      others = refl;
      generation = λ k other. refl;
      holds = λ k x other. refl;
      index = λ k x other. refl;
      marked = λ k x other. refl;
      storeds = λ p fact. fact;
      fragments = λ p fact. fact;
      fenceds = λ p fact. fact;
    };
    shows = shows;
    tells = told;
  }

  -- what passed the tests of a Store
  stored_tests : (f : Fragment) (generation : ℕ) → is_stored s f generation ≡ true → (generation ≡ s.generation) × (is_marked s.marks f.meta.name ≡ false)
  stored_tests f generation t = by (nat_eq generation s.generation) (is_marked s.marks f.meta.name) refl refl t
    where
      fence : Bool
      fence = is_greater (pass_cmp (fence_of s.fences f.meta.name.log) f.meta.name.pass)

      by : (a b : Bool) → nat_eq generation s.generation ≡ a → is_marked s.marks f.meta.name ≡ b
          → is_none (cond (not a) (Some (WrongGeneration s.generation))
          (cond b (Some Marked) (cond fence (Some (Fenced (fence_of s.fences f.meta.name.log))) None))) ≡ true
          → (generation ≡ s.generation) × (is_marked s.marks f.meta.name ≡ false)
      by true false e k t = (same generation s.generation e, k)
        where
          same : (n m : ℕ) → nat_eq n m ≡ true → n ≡ m
          same n m e = grind (arith, nat_tests)
      by true true e k t = contrary t
      by false b e k t = contrary t

  module _ (f : Fragment) (generation : ℕ) (seen : StoreSeen g w.booked book w.stores v f generation) (t : is_stored s f generation ≡ true) where
    abbrev packet : StorePacket
    packet = record { to = v; name = seen.name; index = seen.index; generation = generation; text = g.number (text_of (book seen.name)) }

    -- the Stored names what the fragment says of itself
    place : f.meta.index ≡ seen.index
    place = ap (λ (z : Fragment). z.meta.index) seen.fragment

    -- it is kept
    keeps_it : is_held s f.meta.name ≡ false → Did g w book v s (Stores f generation)
    keeps_it absent = record {
      world = accepts w packet;
      steps = More Done (Accepts packet (record {
        sent = seen.sent;
        present = (stored_tests f generation t).0 ∙ sym h.of;
        unmarked = unmarked_there g book w.booked _ _ _ _ s h seen.name (ap (is_marked s.marks) (sym seen.named) ∙ (stored_tests f generation t).1);
        absent = absent_there g book w.booked _ _ _ _ s h seen.name (ap (is_held s) (sym seen.named) ∙ absent);
      }));
      frame = record {
        others = refl;
        generation = λ k other. refl;
        holds = λ k x other. elsewhere w.holds v seen.name 1 k x other;
        index = λ k x other. elsewhere w.kept_index v seen.name seen.index k x other;
        marked = λ k x other. refl;
        storeds = λ p fact. inr fact;
        fragments = λ p fact. fact;
        fenceds = λ p fact. fact;
      };
      shows = subst (λ (z : ShelfState). ShelfShown g (accepts w packet) book v z) (sym (taken absent))
          (subst (λ (q : (ℕ → ℕ) × (ℕ → ℕ)). Shelved g book w.booked (w.generation v) q.0 q.1 (w.marked v) (record s { held = with_fragment f s.held }))
          (λ i. (sym (at_place w.holds v seen.name 1) i, sym (at_place w.kept_index v seen.name seen.index) i))
          (shelf_with g book w.booked _ _ _ _ s h f seen.name seen.index absent seen.named seen.known seen.fragment));
      tells = λ _ _. (seen.name, seen.named, inl (λ i. record { name = seen.name; index = place i; generation = generation }));
    }
      where
        taken : is_held s f.meta.name ≡ false → shelf_after g s (Stores f generation) ≡ record s { held = with_fragment f s.held }
        taken absent = ap (λ b. cond b (shelf_store s f) s) t ∙ ap (λ b. cond b s (record s { held = with_fragment f s.held })) absent

    -- it is held already
    has_it : is_held s f.meta.name ≡ true → Did g w book v s (Stores f generation)
    has_it present = record {
      world = accepts_again w packet;
      steps = More Done
          (Accepts_again packet
          (record { sent = seen.sent; held = present_there g book w.booked _ _ _ _ s h seen.name (ap (is_held s) (sym seen.named) ∙ present) }));
      frame = record {
        others = refl;
        generation = λ k other. refl;
        holds = λ k x other. refl;
        index = λ k x other. refl;
        marked = λ k x other. refl;
        storeds = λ p fact. inr fact;
        fragments = λ p fact. fact;
        fenceds = λ p fact. fact;
      };
      shows = subst (λ (z : ShelfState). ShelfShown g w book v z)
          (sym (ap (λ b. cond b (shelf_store s f) s) t ∙ ap (λ b. cond b s (record s { held = with_fragment f s.held })) present)) h;
      tells = λ _ _. (seen.name, seen.named, inl (λ i. record { name = seen.name; index = place i; generation = generation }));
    }

  store_foreign : (f : Fragment) (generation : ℕ) → is_of_log g f.meta.name ≡ false → Did g w book v s (Stores f generation)
  store_foreign f generation other = rests (Stores f generation)
      (by_test (λ z. ShelfShown g w book v z) (is_stored s f generation) (shelf_store s f) s (λ _. kept_foreign g w book v s h f other) (λ _. h))
      (λ own. contrary (sym other ∙ own))
    where
      kept_foreign : (g : Setting) (w : State) (book : ℕ → Segment) (v : ℕ) (s : ShelfState) → ShelfShown g w book v s → (f : Fragment)
          → is_of_log g f.meta.name ≡ false → ShelfShown g w book v (shelf_store s f)
      kept_foreign g w book v s h f other =
          by_test (λ z. ShelfShown g w book v z) (is_held s f.meta.name) s (record s { held = with_fragment f s.held }) (λ _. h)
          (λ absent. shelf_foreign g book w.booked _ _ _ _ s h f absent other)

  stores_did : (f : Fragment) (generation : ℕ) → Owes g w book v s (Stores f generation) → Did g w book v s (Stores f generation)
  stores_did f generation owed = by (is_of_log g f.meta.name) refl (is_stored s f generation) refl (is_held s f.meta.name) refl
    where
      by : (a : Bool) → is_of_log g f.meta.name ≡ a → (b : Bool) → is_stored s f generation ≡ b → (c : Bool) → is_held s f.meta.name ≡ c
          → Did g w book v s (Stores f generation)
      by false other b e c k = store_foreign f generation other
      by true own false e c k =
          rests (Stores f generation) (subst (λ (z : ShelfState). ShelfShown g w book v z) (sym (ap (λ b. cond b (shelf_store s f) s) e)) h)
          (λ _ yes. contrary (sym e ∙ yes))
      by true own true e false k = keeps_it f generation (owed own) e k
      by true own true e true k = has_it f generation (owed own) e k

  -- what is held of a name of the log is a fragment of the booked segment of that name
  found : (fs : List Fragment) → AllPieces g book w.booked fs → (name : SegName) (f : Fragment) → is_of_log g name ≡ true → held_at fs name ≡ Some f
      → IsPiece g book w.booked f × (f.meta.name ≡ name)
  found [] all name f own fact = contrary (ap is_some fact)
  found (z ∷ zs) all name f own fact = by (λ k. found zs all.1 name f own k) (same_name name z.meta.name) refl fact
    where
      by : (held_at zs name ≡ Some f → IsPiece g book w.booked f × (f.meta.name ≡ name)) → (t : Bool) → same_name name z.meta.name ≡ t
          → cond t (Some z) (held_at zs name) ≡ Some f → IsPiece g book w.booked f × (f.meta.name ≡ name)
      by more true e k =
          let same : z ≡ f = ap (λ o. unwrap_or o z) k in
          let named : name ≡ z.meta.name = one_name name z.meta.name e in
          subst (λ (x : Fragment). IsPiece g book w.booked x × (x.meta.name ≡ name)) same (all.0 (ap (is_of_log g) (sym named) ∙ own), sym named)
      by more false e k = more k

  fetches_did : Book g w book → (name : SegName) → Did g w book v s (Fetches name)
  fetches_did paged name = by (is_of_log g name) refl (held_at s.held name) refl
    where
      by : (a : Bool) → is_of_log g name ≡ a → (o : Option Fragment) → held_at s.held name ≡ o → Did g w book v s (Fetches name)
      by false other o e = rests (Fetches name) h (λ f own. contrary (sym other ∙ own))
      by true own None e = rests (Fetches name) h (λ f _ fact. contrary (ap is_some (sym e ∙ fact)))
      by true own (Some f) e = record {
        world = tells w v x;
        steps = More Done (TellsStep v x (record { held = held }));
        frame = record {
          others = refl;
          generation = λ k other. refl;
          holds = λ k x other. refl;
          index = λ k x other. refl;
          marked = λ k x other. refl;
          storeds = λ p fact. fact;
          fragments = λ p fact. inr fact;
          fenceds = λ p fact. fact;
        };
        shows = h;
        tells = λ z _ fact. subst
            (λ (y : Fragment). (k : ℕ) × (i : ℕ) × (w.booked k ≡ 1) × (name ≡ name_of g k) × (y ≡ fragment_of g (book k) i)
            × In (record { name = k; text = w.text_of k }) (tells w v x).fragments) (ap (λ o. unwrap_or o f) (sym e ∙ fact))
            (x, there.0.1, there.0.2, named, there.0.3, inl (λ i. record { name = x; text = sym ((always w reached).shelf.texts.held_text v x held) i }));
      }
        where
          there : IsPiece g book w.booked f × (f.meta.name ≡ name)
          there = found s.held h.each name f own e

          x : ℕ
          x = there.0.0

          named : name ≡ name_of g x
          named = sym there.1 ∙ (ap (λ (z : Fragment). z.meta.name) there.0.3 ∙ (paged x there.0.2).named)

          held : w.holds v x ≡ 1
          held = present_there g book w.booked _ _ _ _ s h x (ap (is_held s) (sym named) ∙ ap is_some e)

  -- a fence changes nothing that is seen
  fenced : (inc : ℕ) → ShelfShown g w book v (shelf_after g s (Fences inc))
  fenced inc = by_test (λ z. ShelfShown g w book v z) (is_greater (pass_cmp (record { inc = inc; att = 0 }) (fence_of s.fences g.log)))
      (record s { fences = insert_entry log_cmp s.fences g.log (record { inc = inc; att = 0 }) }) s
      (λ _. record { of = h.of; keeps = h.keeps; each = h.each; marks = h.marks }) (λ _. h)

  held_flag : (z : Segment) (o : Option Fragment) (booked holds index : ℕ) → Kept g z o booked holds index → holds ≡ flag (is_some o)
  held_flag z None booked holds index k = k
  held_flag z (Some f) booked holds index k = k.0

  fences_did : (inc : ℕ) → inc ≤ w.incarnation → Did g w book v s (Fences inc)
  fences_did inc begun = record {
    world = fences w v inc;
    steps = More Done (FencesStep v inc (record { begun = begun }));
    frame = record {
      others = refl;
      generation = λ k other. refl;
      holds = λ k x other. refl;
      index = λ k x other. refl;
      marked = λ k x other. refl;
      storeds = λ p fact. fact;
      fragments = λ p fact. fact;
      fenceds = λ p fact. inr fact;
    };
    shows = fenced inc;
    tells = (
      record { from = v; incarnation = inc; generation = w.generation v; low = w.low; listed = w.holds v },
      inl refl,
      refl,
      refl,
      h.of,
      λ x. held_flag (book x) (held_at s.held (name_of g x)) _ _ _ (h.keeps x),
    );
  }

  deletes_did : (name : SegName) → Owes g w book v s (Deletes name) → Did g w book v s (Deletes name)
  deletes_did name owed = by (is_of_log g name) refl
    where
      by : (a : Bool) → is_of_log g name ≡ a → Did g w book v s (Deletes name)
      by false other = rests (Deletes name) (shelf_without_foreign g book w.booked _ _ _ _ s h name other) tt
      by true own = let seen = owed own in record {
        world = deletes w v seen.number;
        steps = More Done (DeletesStep v seen.number (record { dropped = seen.dropped }));
        frame = record {
          others = refl;
          generation = λ k other. refl;
          holds = λ k x other. elsewhere w.holds v seen.number 0 k x other;
          index = λ k x other. refl;
          marked = λ k x other. elsewhere w.marked v seen.number 1 k x other;
          storeds = λ p fact. fact;
          fragments = λ p fact. fact;
          fenceds = λ p fact. fact;
        };
        shows = subst (λ (q : (ℕ → ℕ) × (ℕ → ℕ)). Shelved g book w.booked (w.generation v) q.0 (w.kept_index v) q.1 (on_delete s name))
            (λ i. (sym (at_place w.holds v seen.number 0) i, sym (at_place w.marked v seen.number 1) i))
            (shelf_without g book w.booked _ _ _ _ s h name seen.number seen.named);
        tells = tt;
      }

  fills_did : (f : Fragment) → Owes g w book v s (Fills f) → Did g w book v s (Fills f)
  fills_did f owed = by (is_of_log g f.meta.name) refl (is_marked s.marks f.meta.name) refl (is_held s f.meta.name) refl
    where
      after_it : (b c : Bool) → is_marked s.marks f.meta.name ≡ b → is_held s f.meta.name ≡ c
          → shelf_after g s (Fills f) ≡ cond b s (cond c s (record s { held = with_fragment f s.held }))
      after_it b c e k = ap (λ t. cond t s (shelf_store s f)) e ∙ ap (λ t. cond b s (cond t s (record s { held = with_fragment f s.held }))) k

      by : (a : Bool) → is_of_log g f.meta.name ≡ a → (b : Bool) → is_marked s.marks f.meta.name ≡ b → (c : Bool) → is_held s f.meta.name ≡ c
          → Did g w book v s (Fills f)
      by a own true e c k = rests (Fills f) (subst (λ z. ShelfShown g w book v z) (sym (after_it true c e k)) h) tt
      by a own false e true k = rests (Fills f) (subst (λ z. ShelfShown g w book v z) (sym (after_it false true e k)) h) tt
      by false other false e false k =
          rests (Fills f) (subst (λ z. ShelfShown g w book v z) (sym (after_it false false e k)) (shelf_foreign g book w.booked _ _ _ _ s h f k other)) tt
      by true own false e false k = let seen = owed own in record {
        world = fills w v seen.index (record { name = seen.name; text = w.text_of seen.name });
        steps = More Done (FillsStep v seen.index (record { name = seen.name; text = w.text_of seen.name }) (record {
          sent = seen.sent;
          member = seen.member;
          own = seen.own;
          unmarked = unmarked_there g book w.booked _ _ _ _ s h seen.name (ap (is_marked s.marks) (sym seen.named) ∙ e);
          absent = absent_there g book w.booked _ _ _ _ s h seen.name (ap (is_held s) (sym seen.named) ∙ k);
        }));
        frame = record {
          others = refl;
          generation = λ k other. refl;
          holds = λ k x other. elsewhere w.holds v seen.name 1 k x other;
          index = λ k x other. elsewhere w.kept_index v seen.name seen.index k x other;
          marked = λ k x other. refl;
          storeds = λ p fact. fact;
          fragments = λ p fact. fact;
          fenceds = λ p fact. fact;
        };
        shows = subst
            (λ (z : ShelfState). Shelved g book w.booked (w.generation v) (put_at w.holds v seen.name 1 v) (put_at w.kept_index v seen.name seen.index v)
            (w.marked v) z) (sym (after_it false false e k))
            (subst (λ (q : (ℕ → ℕ) × (ℕ → ℕ)). Shelved g book w.booked (w.generation v) q.0 q.1 (w.marked v) (record s { held = with_fragment f s.held }))
            (λ i. (sym (at_place w.holds v seen.name 1) i, sym (at_place w.kept_index v seen.name seen.index) i))
            (shelf_with g book w.booked _ _ _ _ s h f seen.name seen.index k seen.named seen.known seen.fragment));
        tells = tt;
      }

  loses_did : s.generation < u32_end → Did g w book v s Loses
  loses_did room = record {
    world = loses w v;
    steps = More Done (LosesStep v);
    frame = record {
      others = refl;
      generation = λ k other. there (suc (w.generation v)) (w.generation k) k other;
      holds = λ k x other. there 0 (w.holds k x) k other;
      index = λ k x other. refl;
      marked = λ k x other. there 0 (w.marked k x) k other;
      storeds = λ p fact. fact;
      fragments = λ p fact. fact;
      fenceds = λ p fact. fact;
    };
    shows = by (v == v) (equal_itself v);
    tells = tt;
  }
    where
      there : (m n k : ℕ) → (k ≡ v → ⊥) → cond (k == v) m n ≡ n
      there m n k other = pick (k == v) refl
        where
          pick : (t : Bool) → (k == v) ≡ t → cond t m n ≡ n
          pick true e = absurd (other (eqb-true k v e))
          pick false e = refl

      by : (t : Bool) → t ≡ true
          → Shelved g book w.booked (cond t (suc (w.generation v)) (w.generation v)) (λ x. cond t 0 (w.holds v x)) (w.kept_index v)
          (λ x. cond t 0 (w.marked v x)) (on_lose s)
      by true e = shelf_lost g book w.booked _ _ _ _ s h room
      by false e = contrary e

pub takes_deeds : TakesDeeds
takes_deeds g w book v s (Stores f generation) reached paged h owed = stores_did g w book v s reached h f generation owed
takes_deeds g w book v s (Fetches name) reached paged h owed = fetches_did g w book v s reached h paged name
takes_deeds g w book v s (Fences inc) reached paged h owed = fences_did g w book v s reached h inc owed
takes_deeds g w book v s (Deletes name) reached paged h owed = deletes_did g w book v s reached h name owed
takes_deeds g w book v s (Fills f) reached paged h owed = fills_did g w book v s reached h f owed
takes_deeds g w book v s Loses reached paged h owed = loses_did g w book v s reached h owed
