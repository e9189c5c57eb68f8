-- What was sent stays as it is shown while the state goes on.
use Rattle.std.proofs.Common.{◌≡◌, ℕ, ◌≤◌, List, [], ◌∷◌, sym, ap, subst, ◌∙◌, arith}
use Rattle.xfs_base.specs.declared.fragment.FragMeta.{FragMeta}
use Rattle.segment_format.specs.declared.segment.Segment.{Segment}
use Rattle.segment_format.specs.Text.{text_of}
use Rattle.group_map.specs.GroupMapState.{GroupMapState}
use Rattle.stripe_code.specs.Fragments.{meta_of}
use Rattle.log_protocol.specs.Packets.{StorePacket, StoredPacket, FragmentPacket, FencedPacket}
use Rattle.log_protocol.specs.State.{State}
use Rattle.log_protocol.specs.Tables.{In}
use Rattle.log_tie.specs.Setting.{Setting, fragment_of}
use Rattle.segment_format.specs.Ranges.{Fits}
use Rattle.segment_format.specs.Text.{IsText}
use Rattle.stripe_code.specs.Stripe.{IsBytes}
use Rattle.log_scan.specs.Transition.{name_at, end_below}
use Rattle.log_tie.specs.Rounds.{IsSpelled}
use Rattle.log_tie.specs.Scans.{Asked, AllMetas, WholeMap}
use Rattle.log_law.specs.Net.{Packet}
use Rattle.log_law.specs.Net.Packet.{StoreSent, StoredSent, FragmentSent, FenceSent, FencedSent, ListedSent, DeleteSent, MapSent, HelloSent, WelcomeSent}
use Rattle.log_law.proofs.Views.{HelloSeen, Shown}

-- The state went on: what is booked or dropped stays so with its segment, what was sent stays sent, generations and horizons rise.
pub record Later (w v : State) (book later : ℕ → Segment) : Type 0 where
  pub booked : (x : ℕ) → w.booked x ≡ 1 → v.booked x ≡ 1
  pub segment : (x : ℕ) → w.booked x ≡ 1 → later x ≡ book x
  pub stores : (p : StorePacket) → In p w.stores → In p v.stores
  pub storeds : (p : StoredPacket) → In p w.storeds → In p v.storeds
  pub fragments : (p : FragmentPacket) → In p w.fragments → In p v.fragments
  pub fenceds : (p : FencedPacket) → In p w.fenceds → In p v.fenceds
  pub dropped : (x : ℕ) → w.dropped x ≡ 1 → v.dropped x ≡ 1
  pub registry : (x : ℕ) → w.registry_generation x ≤ v.registry_generation x
  pub incarnation : w.incarnation ≤ v.incarnation
  pub low : w.low ≤ v.low

module _ (g : Setting) (w v : State) (book later : ℕ → Segment) (on : Later w v book later) where
  pub map_on : (m : GroupMapState) → WholeMap g w.registry_generation m → WholeMap g v.registry_generation m
  map_on m whole = record {
    seen = record { whole = whole.seen.whole; past = λ u. (let a = whole.seen.past u in let b = on.registry u in omega arith) };
    size = whole.size;
    named = whole.named;
    some = whole.some;
    cut = whole.cut;
  }

  pub metas_on : (metas : List FragMeta) → AllMetas book w.booked metas → AllMetas later v.booked metas
  metas_on [] all = tt
  metas_on (m ∷ ms) all =
      ((all.0.0, all.0.1, on.booked all.0.0 all.0.2, all.0.3 ∙ ap (λ b. meta_of b all.0.1) (sym (on.segment all.0.0 all.0.2))), metas_on ms all.1)

  module _ (hellos more : List Asked) (grows : (a : Asked) → In a hellos → In a more) where
    hello_on : (inc ask : ℕ) → HelloSeen hellos inc ask → HelloSeen more inc ask
    hello_on inc ask s = record { question = s.question; among = grows s.question s.among; boot = s.boot; number = s.number }

    pub shown_on : (p : Packet) → Shown g w book hellos p → Shown g v later more p
    unfolding hello_on
    shown_on (StoreSent to f generation) s = record {
      name = s.name;
      index = s.index;
      known = on.booked s.name s.known;
      named = s.named;
      fragment = s.fragment ∙ ap (λ b. fragment_of g b s.index) (sym (on.segment s.name s.known));
      sent = subst (λ b. In (record { to = to; name = s.name; index = s.index; generation = generation; text = g.number (text_of b) }) v.stores)
          (sym (on.segment s.name s.known)) (on.stores _ s.sent);
    }
    shown_on (StoredSent name index generation) s = record { number = s.number; named = s.named; sent = on.storeds _ s.sent }
    shown_on (FragmentSent f) s = record {
      name = s.name;
      index = s.index;
      known = on.booked s.name s.known;
      is_piece = s.is_piece ∙ ap (λ b. fragment_of g b s.index) (sym (on.segment s.name s.known));
      sent = subst (λ b. In (record { name = s.name; text = g.number (text_of b) }) v.fragments) (sym (on.segment s.name s.known)) (on.fragments _ s.sent);
    }
    shown_on (FenceSent to inc) s = let a = on.incarnation in omega arith
    shown_on (FencedSent from inc generation held) s =
        record { low = s.low; listed = s.listed; sent = on.fenceds _ s.sent; lists = s.lists; whole = metas_on held s.whole }
    shown_on (ListedSent metas) s = metas_on metas s
    shown_on (DeleteSent name) s = record { number = s.number; named = s.named; dropped = on.dropped s.number s.dropped }
    shown_on (MapSent m) s = map_on m s
    shown_on (HelloSent inc ask) s = hello_on inc ask s
    shown_on (WelcomeSent inc ask news m) s =
        record { hello = hello_on inc ask s.hello; later = s.later; known = (let a = s.known in let b = on.low in omega arith); map = map_on m s.map }

  -- what is booked is spelled as before, where nothing more is booked
  pub spelled_on : ((x : ℕ) → v.booked x ≡ 1 → w.booked x ≡ 1) → IsSpelled g book w.booked → IsSpelled g later v.booked
  spelled_on back s = record {
    fits = λ x fact. subst (λ b. Fits b) (sym (on.segment x (back x fact))) (s.fits x (back x fact));
    text = λ x fact. subst (λ b. IsText (text_of b) b) (sym (on.segment x (back x fact))) (s.text x (back x fact));
    bytes = λ x fact. subst (λ b. IsBytes (text_of b)) (sym (on.segment x (back x fact))) (s.bytes x (back x fact));
    grouped = λ x y at to named.
        ap (λ (b : Segment). b.group) (on.segment y (back y to))
        ∙ (s.grouped x y (back x at) (back y to)
        (ap (λ (b : Segment). b.name) (sym (on.segment y (back y to))) ∙ (named ∙ ap (λ (b : Segment). name_at g.log (end_below b)) (on.segment x (back x at))))
        ∙ ap (λ (b : Segment). b.prior.group) (sym (on.segment x (back x at))));
  }
