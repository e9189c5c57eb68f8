-- A name that is booked: its page is that of the segment that is launched, and the others stay.
use Rattle.std.proofs.Common.{◌≡◌, ◌⊎◌, inl, inr, ℕ, suc, ◌-◌, ◌<◌, ◌==◌, Bool, true, false, cond, if◌then◌else◌, length, refl, sym, ap, subst, ◌∙◌, arith}
use Rattle.std.proofs.lemmas.Bool.{eqb-true}
use Rattle.std.proofs.lemmas.Bool.Decides.{nat_tests}
use Rattle.log_protocol.specs.State.{State}
use Rattle.log_protocol.specs.Tables.{put}
use Rattle.log_protocol.specs.OwnerSteps.{Group, books}
use Rattle.segment_format.specs.declared.segment.Segment.{Segment}
use Rattle.segment_format.specs.Text.{text_of}
use Rattle.group_map.specs.declared.group.Group as groups
use Rattle.group_map.specs.GroupMapState.{GroupMapState}
use Rattle.log_tie.specs.Setting.{Setting, Stripe, stripe_of_group, present_at, name_of, point, IsStripe}
use Rattle.log_flight.specs.Flights.{generation_of, server_of}
use Rattle.log_tie.specs.Seen.{Page, Book, ByOwner}
use Rattle.xfs_base.proofs.Booleans.{contrary, equal_itself}

-- the book with a segment at a name
abbrev pub with_page : (ℕ → Segment) → ℕ → Segment → ℕ → Segment
with_page book x s y = if y == x then s else book y

pub page_here : (book : ℕ → Segment) (x : ℕ) (s : Segment) → with_page book x s x ≡ s
page_here book x s = by (x == x) (equal_itself x)
  where
    by : (t : Bool) → t ≡ true → cond t s (book x) ≡ s
    by true e = refl
    by false e = contrary e

-- a name that is booked with another was so before, or is that one
pub books_one : (w : State) (x y : ℕ) → put w.booked x 1 y ≡ 1 → (w.booked y ≡ 1) ⊎ (y ≡ x)
books_one w x y = by (y == x) refl
  where
    by : (t : Bool) → (y == x) ≡ t → cond t 1 (w.booked y) ≡ 1 → (w.booked y ≡ 1) ⊎ (y ≡ x)
    by true e h = inr (eqb-true y x e)
    by false e h = inl h

pub page_there : (w : State) (book : ℕ → Segment) (x : ℕ) (s : Segment) → (w.booked x ≡ 1 → ⊥) → (y : ℕ) → w.booked y ≡ 1 → with_page book x s y ≡ book y
page_there w book x s new y booked = by (y == x) refl
  where
    by : (t : Bool) → (y == x) ≡ t → cond t s (book y) ≡ book y
    by true e = absurd (new (subst (λ z. w.booked z ≡ 1) (eqb-true y x e) booked))
    by false e = refl

module _ (g : Setting) (w : State) (book : ℕ → Segment) (x : ℕ) (s : Segment) (group : groups.Group) (m : GroupMapState) (prior content : ℕ) where
  abbrev pub booked_state : State
  booked_state = books w x (g.number (text_of s)) (length group.members) (server_of group.members) prior content

  -- the group of the map is a group there
  pub stripe_group : w.servers ≡ suc g.servers → IsStripe g m group → Group w (length group.members) (server_of group.members)
  stripe_group servers fact =
      record { some = fact.some; known = λ j below. subst (λ n. server_of group.members j < n) (sym servers) (fact.exist j below); distinct = fact.differ }

  -- the owner may book it, in whatever phase it does so
  pub by_booking : (phase spanning : ℕ) → (w.booked x ≡ 1 → ⊥)
      → ByOwner g w (record booked_state { phase = phase; spanning = spanning }) book (with_page book x s)
  by_booking phase spanning new = record {
    others = refl;
    booked = λ y fact. stays y fact;
    segment = λ y fact. page_there w book x s new y fact;
    stores = λ p fact. fact;
    filed = λ y fact. fact;
    calm = λ none c. c;
  }
    where
      stays : (y : ℕ) → w.booked y ≡ 1 → put w.booked x 1 y ≡ 1
      stays y fact = grind (arith, nat_tests)

  -- the book of what is booked
  pub booked_pages : s.name ≡ name_of g x → 0 < s.name.pass.inc → s.group ≡ group.id → prior ≡ point g (s.name.seq - 1) s.prior.pass
      → content ≡ g.content s.items → IsStripe g m group → ((v : ℕ) → w.owner_generation v ≡ present_at m v) → Book g w book
      → Book g booked_state (with_page book x s)
  booked_pages named boot of after tells fact known paged y booked = by (y == x) refl booked
    where
      stripe : g.stripe s.group ≡ stripe_of_group group
      stripe = ap g.stripe of ∙ fact.named

      by : (t : Bool) → (y == x) ≡ t → cond t 1 (w.booked y) ≡ 1
          → Page g y (cond t s (book y)) (cond t (g.number (text_of s)) (w.text_of y)) (cond t (length group.members) (w.member_count y))
          (λ i. cond t (server_of group.members i) (w.member_server y i))
          (λ i. cond t (w.owner_generation (server_of group.members i)) (w.member_generation y i)) (cond t prior (w.prior_of y))
          (cond t content (w.content_of y))
      by true e h = record {
        named = named ∙ ap (name_of g) (sym (eqb-true y x e));
        boot = boot;
        spelled = refl;
        counted = ap (λ (z : Stripe). length z.members) (sym stripe);
        at_server = λ j. ap (λ (z : Stripe). server_of z.members j) (sym stripe);
        at_generation =
            λ j below. known (server_of group.members j)
            ∙ (sym (fact.present j (subst (λ (z : Stripe). j < length z.members) stripe below)) ∙ ap (λ (z : Stripe). generation_of z.members j) (sym stripe));
        follows = after;
        tells = tells;
      }
      by false e h = paged y h
