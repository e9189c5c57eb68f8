-- What a rebuild fills in is this server's fragment of the booked segment.
use Rattle.std.proofs.Common.{◌≡◌, ℕ, ◌<◌, ◌⊎◌, is_some, List, [], ◌∷◌, None, length, sym, ap, subst, ◌∙◌, inl, inr, arith}
use Rattle.std.specs.Prelude.{count_by}
use Rattle.std.proofs.lemmas.Bool.{leb-true}
use Rattle.xfs_base.specs.declared.fragment.FragMeta.{FragMeta}
use Rattle.xfs_base.specs.declared.fragment.Fragment.{Fragment}
use Rattle.segment_format.specs.Text.{text_of}
use Rattle.stripe_code.specs.Fragments.{meta_of, fragment_at}
use Rattle.stripe_code.specs.Round.{bytes_in, parts_in, count_of}
use Rattle.stripe_code.specs.Stripe.{stripe_of}
use Rattle.log_protocol.specs.Tables.{In}
use Rattle.log_tie.specs.Setting.{Setting, name_of}
use Rattle.log_flight.specs.Flights.{server_of}
use Rattle.log_tie.specs.Seen.{Page}
use Rattle.log_tie.specs.Scans.{AllMetas}
use Rattle.log_tie.specs.Shelves.{FillSeen}
use Rattle.log_law.specs.Net.{Net}
use Rattle.log_law.specs.Net.Packet.{FragmentSent, ListedSent}
use Rattle.log_law.specs.Events.{AllCame, IsFilling}
use Rattle.log_law.proofs.Reading.{gave, some_came, none_counted, same, brings}
use Rattle.log_law.proofs.Views.{FragmentSeen, View}

module _ (g : Setting) (n : Net) (h : View g n) (v : ℕ) (f : Fragment) (i : IsFilling g n v f) where
  -- the listed segment
  pub record Listed : Type 0 where
    pub number : ℕ
    pub index : ℕ
    pub booked : h.w.booked number ≡ 1
    pub describes : i.meta ≡ meta_of (h.book number) index

  listed_one : (ms : List FragMeta) → AllMetas h.book h.w.booked ms → In i.meta ms → Listed
  listed_one [] all fact = absurd fact
  listed_one (m ∷ ms) all (inl e) = record { number = all.0.0; index = all.0.1; booked = all.0.2; describes = e ∙ all.0.3 }
  listed_one (m ∷ ms) all (inr fact) = listed_one ms all.1 fact

  abbrev it : Listed
  it = listed_one i.lists (h.sent (ListedSent i.lists) i.sent) i.among

  abbrev x : ℕ
  x = it.number

  page : Page g x (h.book x) (h.w.text_of x) (h.w.member_count x) (h.w.member_server x) (h.w.member_generation x) (h.w.prior_of x) (h.w.content_of x)
  page = h.paged x it.booked

  named : i.meta.name ≡ name_of g x
  named = ap (λ (m : FragMeta). m.name) it.describes ∙ page.named

  -- its name and its group
  its_name : i.meta.name ≡ (h.book x).name
  its_name = ap (λ (m : FragMeta). m.name) it.describes

  group : i.meta.group ≡ (h.book x).group
  group = ap (λ (m : FragMeta). m.group) it.describes

  count : i.round.n ≡ length (g.stripe (h.book x).group).members
  count = i.count ∙ ap (λ z. length (g.stripe z).members) group

  parity : i.round.parity ≡ (g.stripe (h.book x).group).parity
  parity = i.parity ∙ ap (λ z. (g.stripe z).parity) group

  text : i.text ≡ text_of (h.book x)
  text = brings g n h x it.booked i.round i.is_round count parity (subst (λ z. AllCame n z i.round.answers) its_name i.came) i.text i.read

  came : (y : Fragment) × In (FragmentSent y) n.sent × (y.meta.name ≡ i.meta.name)
  came = by (some_came n i.meta.name i.round.answers i.came)
    where
      by : ((k : ℕ) → bytes_in k i.round.answers ≡ None) ⊎ ((y : Fragment) × In (FragmentSent y) n.sent × (y.meta.name ≡ i.meta.name))
          → (y : Fragment) × In (FragmentSent y) n.sent × (y.meta.name ≡ i.meta.name)
      by (inl none) = absurd (few none)
        where
          few : ((k : ℕ) → bytes_in k i.round.answers ≡ None) → ⊥
          few none = let a = leb-true (count_of i.round) (count_by is_some (parts_in i.round.n i.round.answers)) (gave i.round i.text i.read).enough in let b =
              none_counted (λ k. bytes_in k i.round.answers) none 0 i.round.n in let c = i.is_round.cut.least in omega arith
      by (inr y) = y

  pub fill_seen : FillSeen g h.w h.book v f
  fill_seen = record {
    name = x;
    index = i.place;
    known = it.booked;
    named = ap (λ (z : Fragment). z.meta.name) i.cut ∙ named;
    fragment = i.cut ∙ (λ j. record {
      meta = record {
        name = (it.describes j).name;
        group = (it.describes j).group;
        prior = (it.describes j).prior;
        index = i.place;
        len = (it.describes j).len;
      };
      bytes = fragment_at (stripe_of (text j) (count j) (parity j)) i.place;
    });
    sent = told (h.sent (FragmentSent came.0) came.1);
    member = subst (λ k. i.place < k) (count ∙ sym page.counted) i.within;
    own = page.at_server i.place ∙ (ap (λ z. server_of (g.stripe z).members i.place) (sym group) ∙ i.own);
  }
    where
      told : FragmentSeen g h.w h.book came.0 → In (record { name = x; text = h.w.text_of x }) h.w.fragments
      told s =
          let e : s.name ≡ x = same g n h x it.booked s.name s.known (ap (λ (z : Fragment). z.meta.name) (sym s.is_piece) ∙ (came.2 ∙ its_name)) in
          subst (λ t. In (record { name = x; text = t }) h.w.fragments) (sym page.spelled)
          (subst (λ y. In (record { name = y; text = g.number (text_of (h.book y)) }) h.w.fragments) e s.sent)
