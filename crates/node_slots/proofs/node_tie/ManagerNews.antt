-- What news of slots make of a manager's table: a slot gets a later epoch, and nothing happens in the small world.
use Rattle.std.proofs.Common.{◌≡◌, ℕ, Bool, ◌+◌, ◌≤◌, ◌<◌, List, [], ◌∷◌, ◌⊎◌, inl, inr, length, refl, sym, ap, subst, ◌∙◌, arith}
use Rattle.std.specs.List.{slice_set}
use Rattle.xfs_base.specs.declared.news.SlotNews.{SlotNews}
use Rattle.xfs_base.specs.Steps.{Stepped}
use Rattle.xfs_base.specs.Limits.{slot_count}
use Rattle.node_base.specs.declared.effects.Effect.{Effect}
use Rattle.token_law.specs.Net.{Net}
use Rattle.token_protocol.specs.Basics.{In}
use Rattle.manager_slots.specs.declared.slot_phase.SlotPhase.{SlotPhase}
use Rattle.manager_slots.specs.Slots.{epoch_of}
use Rattle.manager_slots.specs.SlotTable as table
use Rattle.manager_slots.specs.SlotTable.{Table, TableAsker, Hearer}
use Rattle.manager_slots.specs.Takeovers.{Asker, asker}
use Rattle.node_slots.specs.node_tie.ManagerEvents.{TableAgrees, NewsGets, AllNewsGets}
use Rattle.headline.specs.Managers.{phase_at}
use Rattle.node_slots.proofs.node_tie.ManagerMoves.{Rises, stays_same, rises_of, rises_then}
use Rattle.node_slots.proofs.node_tie.ManagerTaking.{slot_hears_of, other_hears_of}
use Rattle.node_slots.proofs.node_tie.ManagerTables.{set_there, by_slot, IsLow, at_part, set_slot, set_other, slot_or_other, as_slot, by_taken}

module _ (logs : Bool) (members part limit life : ℕ) (exists : part < slot_count) where
  -- how slots rise by news of slots
  pub record TableRose (named : ℕ → Type 0) (n : Net) (t u : Table) (outs : List Effect) : Type 0 where
    pub rises : Rises logs members part limit life named n (phase_at t part) (phase_at u part) outs
    pub agrees : TableAgrees members part n u
    pub within : IsLow logs members part limit life exists u

  abbrev pub IsAbove : Table → SlotNews → Type 0
  IsAbove u news = news.slot ≡ part → news.epoch ≤ epoch_of (phase_at u part)

  -- what an event that is given news owes
  pub record NewsHeard (j : ℕ) (n : Net) (h : Hearer) : Type 0 where
    pub number : h.ears.number ≡ j
    pub many : h.ears.clients + 1 ≡ members

  -- the table, once the news came to the slot that it names, which has what slot k has
  abbrev heard_at : (n : Net) (h : Hearer) (a : TableAsker) (news : SlotNews) → ℕ → Stepped Asker Effect
  heard_at n h a news k = table.hear_of h news (asker (phase_at a.table k) a.questions)

  abbrev HeardAt : (ℕ → Type 0) → Net → Hearer → TableAsker → SlotNews → ℕ → Type 0
  HeardAt named n h a news k =
      TableRose named n a.table (slice_set a.table news.slot (heard_at n h a news k).state.phase) (heard_at n h a news k).outs
      × IsAbove (slice_set a.table news.slot (heard_at n h a news k).state.phase) news

  hears_here : (named : ℕ → Type 0) (j : ℕ) (n : Net) (h : Hearer) (a : TableAsker) (news : SlotNews) → NewsHeard j n h → TableAgrees members part n a.table
      → IsLow logs members part limit life exists a.table
      → NewsGets part limit j n (epoch_of (phase_at a.table part)) news → (news.manager ≡ j → named news.epoch) → news.slot ≡ part
      → HeardAt named n h a news part
  hears_here named j n h a news ears agrees low gets named_ same =
      let d = heard_at n h a news part in
      let t = slot_hears_of logs members part limit life named j n h news
      (asker (phase_at a.table part) a.questions) ears.number ears.many same agrees.here low gets named_ in
      let at : phase_at (slice_set a.table news.slot d.state.phase) part ≡ d.state.phase =
      at_part logs members part limit life exists n a.table news.slot d.state.phase agrees same in (
        record {
          rises = subst (λ q. Rises logs members part limit life named n (phase_at a.table part) q d.outs) (sym at) t.rises;
          agrees = set_slot logs members part limit life exists n n a.table news.slot d.state.phase agrees same t.agrees;
          within = subst (λ q. epoch_of q ≤ limit) (sym at) t.within;
        },
        λ _. subst (λ q. news.epoch ≤ epoch_of q) (sym at) t.above,
      )

  hears_there : (named : ℕ → Type 0) (n : Net) (h : Hearer) (a : TableAsker) (news : SlotNews) → TableAgrees members part n a.table
      → IsLow logs members part limit life exists a.table
      → (news.slot ≡ part → ⊥) → news.slot < length a.table → HeardAt named n h a news news.slot
  hears_there named n h a news agrees low other within =
      let d = heard_at n h a news news.slot in
      let t = other_hears_of logs members part limit life n h news (asker (phase_at a.table news.slot) a.questions) other (agrees.there news.slot other) in
      let at : phase_at (slice_set a.table news.slot d.state.phase) part ≡ phase_at a.table part = set_there a.table news.slot part d.state.phase
      (λ e. other (sym e)) in (
        record {
          rises = subst (λ q. Rises logs members part limit life named n (phase_at a.table part) q d.outs) (sym at)
              (rises_of logs members part limit life named n _ _ d.outs (stays_same logs members part limit life n (phase_at a.table part) d.outs t.does));
          agrees = set_other logs members part limit life exists n a.table news.slot d.state.phase agrees other within t.agrees;
          within = subst (λ q. epoch_of q ≤ limit) (sym at) low;
        },
        λ same. absurd (other same),
      )

  table_hears : (named : ℕ → Type 0) (j : ℕ) (n : Net) (h : Hearer) (a : TableAsker) (news : SlotNews) → NewsHeard j n h → TableAgrees members part n a.table
      → IsLow logs members part limit life exists a.table
      → (news.slot ≡ part → NewsGets part limit j n (epoch_of (phase_at a.table part)) news) → (news.slot ≡ part → news.manager ≡ j → named news.epoch)
      → TableRose named n a.table (table.slot_table_hear h a news).state.table (table.slot_table_hear h a news).outs × IsAbove (table.slot_table_hear h a news).state.table news
  unfolding table.slot_table_hear
  table_hears named j n h a news ears agrees low gets named_ =
      by_taken (λ u outs. TableRose named n a.table u outs × IsAbove u news) a news.slot (table.hear_of h news)
      (by_slot (λ u outs. TableRose named n a.table u outs × IsAbove u news) a.table news.slot
      (as_slot a.questions (table.hear_of h news))
      (λ past. (
        record {
          rises = rises_of logs members part limit life named n _ _ []
              (stays_same logs members part limit life n (phase_at a.table part) [] tt);
          agrees = agrees;
          within = low;
        },
        λ same. absurd
            (let e = agrees.eight in omega arith),
      ))
      (λ within. slot_or_other logs members part limit life exists news.slot (HeardAt named n h a news news.slot)
      (λ same. subst (HeardAt named n h a news) (sym same) (hears_here named j n h a news ears agrees low (gets same) (named_ same) same))
      (λ other. hears_there named n h a news agrees low other within)))

  pub record AllRose (named : ℕ → Type 0) (n : Net) (t u : Table) (outs : List Effect) (slots : List SlotNews) : Type 0 where
    pub rises : Rises logs members part limit life named n (phase_at t part) (phase_at u part) outs
    pub agrees : TableAgrees members part n u
    pub within : IsLow logs members part limit life exists u
    pub above : (news : SlotNews) → In news slots → IsAbove u news

  -- what is new above an epoch is new above a later one
  later_gets : (j : ℕ) (n : Net) (known more : ℕ) (news : SlotNews) → known ≤ more → NewsGets part limit j n known news → NewsGets part limit j n more news
  later_gets j n known more news less h = record { within = h.within; new = λ ours above. h.new ours (omega arith) }

  pub table_hears_all : (named : ℕ → Type 0) (j : ℕ) (n : Net) (h : Hearer) (a : TableAsker) (slots : List SlotNews) → NewsHeard j n h
      → TableAgrees members part n a.table → IsLow logs members part limit life exists a.table
      → AllNewsGets part limit j n (epoch_of (phase_at a.table part)) slots →
      ((news : SlotNews) → In news slots → news.slot ≡ part → news.manager ≡ j → named news.epoch)
      → AllRose named n a.table (table.hear_each h a slots).state.table (table.hear_each h a slots).outs slots
  table_hears_all named j n h a [] ears agrees low gets named_ = record {
    rises = rises_of logs members part limit life named n _ _ [] (stays_same logs members part limit life n (phase_at a.table part) [] tt);
    agrees = agrees;
    within = low;
    above = λ news fact. absurd fact;
  }
  table_hears_all named j n h a (news ∷ slots) ears agrees low gets named_ =
      let d = table.slot_table_hear h a news in
      let one = table_hears named j n h a news ears agrees low (gets news (inl refl)) (named_ news (inl refl)) in
      let up = one.0.rises.rises in
      let rest = table_hears_all named j n h d.state slots ears one.0.agrees one.0.within
      (λ x fact same. later_gets j n (epoch_of (phase_at a.table part)) (epoch_of (phase_at d.state.table part)) x up (gets x (inr fact) same))
      (λ x fact. named_ x (inr fact)) in
      record {
        rises = rises_then logs members part limit life named n (phase_at a.table part) (phase_at d.state.table part)
            (phase_at (table.hear_each h d.state slots).state.table part) d.outs (table.hear_each h d.state slots).outs one.0.rises rest.rises;
        agrees = rest.agrees;
        within = rest.within;
        above = λ x fact same. either x (phase_at d.state.table part) (phase_at (table.hear_each h d.state slots).state.table part) news rest.rises.rises one.1
            (λ there. rest.above x there same) fact same;
      }
    where
      either : (x : SlotNews) (p q : SlotPhase) (y : SlotNews) → epoch_of p ≤ epoch_of q → (y.slot ≡ part → y.epoch ≤ epoch_of p)
          → (In x slots → x.epoch ≤ epoch_of q) → (x ≡ y) ⊎ In x slots → x.slot ≡ part → x.epoch ≤ epoch_of q
      either x p q y up above rest (inl fact) same =
          let here = above (sym (ap (λ (z : SlotNews). z.slot) fact) ∙ same) in
          let e : x.epoch ≡ y.epoch = ap (λ (z : SlotNews). z.epoch) fact in
          omega arith
      either x p q y up above rest (inr fact) same = rest fact
