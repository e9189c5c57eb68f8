-- Steps of the owner, one after another, and what they leave alone.
use Rattle.std.proofs.Common.{◌≡◌, ⊎_elim, ℕ, List, [], ◌∷◌, ◌++◌, refl, sym, ap, subst, ◌∙◌, inl, inr}
use Rattle.log_protocol.specs.Tables.{In}
use Rattle.log_protocol.specs.State.{State}
use Rattle.log_protocol.specs.Step.{Step, Steps}
use Rattle.log_protocol.specs.Step.Steps.{Done, More}
use Rattle.segment_format.specs.declared.segment.Segment.{Segment}
use Rattle.client_log.specs.declared.output.Out.{Out}
use Rattle.xfs_base.specs.declared.segment.SegName.{SegName}
use Rattle.client_log.specs.declared.output.Out.TheVariants.{Send, Settled}
use Rattle.segment_format.specs.Text.{text_of}
use Rattle.log_tie.specs.Setting.{name_of, Setting, fragment_of}
use Rattle.log_tie.specs.Seen.{EndFollows, Book, StoreSeen, AllSaid, log_filed, ByOwner, Goes}

pub steps_through : (w v u : State) → Steps w v → Steps v u → Steps w u
steps_through w v u s Done = s
steps_through w v u s (More {v = x} t step) = More (steps_through w v x s t) step

pub one_step : (w v : State) → Step w v → Steps w v
one_step w v s = More Done s

pub by_nothing : (g : Setting) (w : State) (book : ℕ → Segment) → ByOwner g w w book book
by_nothing g w book =
    record { others = refl; booked = λ x fact. fact; segment = λ x fact. refl; stores = λ p fact. fact; filed = λ x fact. fact; calm = λ none c. c }

pub by_through : (g : Setting) (w v u : State) (book later last : ℕ → Segment) → ByOwner g w v book later → ByOwner g v u later last → ByOwner g w u book last
by_through g w v u book later last p q = record {
  calm = λ none c. q.calm none (p.calm none c);
  others = q.others ∙ p.others;
  booked = λ x fact. q.booked x (p.booked x fact);
  segment = λ x fact. q.segment x (p.booked x fact) ∙ p.segment x fact;
  stores = λ x fact. q.stores x (p.stores x fact);
  filed = λ x fact. q.filed x (p.filed x fact);
}

module _ (g : Setting) where
  -- a Store that was sent stays sent
  pub store_on : (w v : State) (book later : ℕ → Segment) (to generation : ℕ) (f : _) → ByOwner g w v book later
      → StoreSeen g w.booked book w.stores to f generation → StoreSeen g v.booked later v.stores to f generation
  store_on w v book later to generation f by s = record {
    name = s.name;
    index = s.index;
    known = by.booked s.name s.known;
    named = s.named;
    fragment = s.fragment ∙ ap (λ b. fragment_of g b s.index) (sym (by.segment s.name s.known));
    sent = subst (λ b. In (record { to = to; name = s.name; index = s.index; generation = generation; text = g.number (text_of b) }) v.stores)
        (sym (by.segment s.name s.known)) (by.stores _ s.sent);
  }

  pub said_on : (w v : State) (book later : ℕ → Segment) (outs : List Out) → ByOwner g w v book later → AllSaid g w.booked book w.stores w.filed outs
      → AllSaid g v.booked later v.stores v.filed outs
  said_on w v book later [] by h = tt
  said_on w v book later (Send f m ∷ os) by h = (store_on w v book later m.server m.generation f by h.0, said_on w v book later os by h.1)
  said_on w v book later (Settled end rows ∷ os) by h = ((h.0.0, by.filed h.0.0 h.0.1, h.0.2, h.0.3), said_on w v book later os by h.1)

  pub said_both : (w : State) (book : ℕ → Segment) (outs more : List Out) → AllSaid g w.booked book w.stores w.filed outs
      → AllSaid g w.booked book w.stores w.filed more → AllSaid g w.booked book w.stores w.filed (outs ++ more)
  said_both w book [] more h k = k
  said_both w book (o ∷ os) more h k = (h.0, said_both w book os more h.1 k)

  filed_left : (outs more : List Out) (name : SegName) → In name (log_filed g.log outs) → In name (log_filed g.log (outs ++ more))
  filed_left [] more name fact = absurd fact
  filed_left (Send f m ∷ os) more name fact = filed_left os more name fact
  filed_left (Settled end rows ∷ os) more name (inl e) = inl e
  filed_left (Settled end rows ∷ os) more name (inr fact) = inr (filed_left os more name fact)

  filed_right : (outs more : List Out) (name : SegName) → In name (log_filed g.log more) → In name (log_filed g.log (outs ++ more))
  filed_right [] more name fact = fact
  filed_right (Send f m ∷ os) more name fact = filed_right os more name fact
  filed_right (Settled end rows ∷ os) more name fact = inr (filed_right os more name fact)

  end_follows_through : (w v u : State) (outs more : List Out) → EndFollows g w v outs → EndFollows g v u more → EndFollows g w u (outs ++ more)
  end_follows_through w v u outs more (inl e) (inl f) = inl (f ∙ e)
  end_follows_through w v u outs more (inr fact) (inl f) = inr (filed_left outs more _ (subst (λ z. In (name_of g z) (log_filed g.log outs)) (sym f) fact))
  end_follows_through w v u outs more a (inr fact) = inr (filed_right outs more _ fact)

  module _ (P : State → (ℕ → Segment) → Type 0) where
    -- nothing happens
    pub goes_nowhere : (w : State) (book : ℕ → Segment) → Book g w book → P w book → Goes g w book P []
    goes_nowhere w book paged shows =
        record {
          world = w;
          later = book;
          steps = Done;
          frame = by_nothing g w book;
          fresh = λ x fact. inl fact;
          paged = paged;
          shows = shows;
          said = tt;
          end_follows = inl refl;
        }

    -- some steps, which book nothing, and then others
    pub goes_through : (Q : State → (ℕ → Segment) → Type 0) (w : State) (book : ℕ → Segment) (outs more : List Out) (t : Goes g w book Q outs)
        → ((x : ℕ) → t.world.booked x ≡ 1 → w.booked x ≡ 1) → Goes g t.world t.later P more → Goes g w book P (outs ++ more)
    goes_through Q w book outs more t same u = record {
      world = u.world;
      later = u.later;
      steps = steps_through w t.world u.world t.steps u.steps;
      frame = by_through g w t.world u.world book t.later u.later t.frame u.frame;
      fresh = λ x fact. ⊎_elim (λ old. inl (same x old)) inr (u.fresh x fact);
      paged = u.paged;
      shows = u.shows;
      said = said_both u.world u.later outs more (said_on t.world u.world t.later u.later outs u.frame t.said) u.said;
      end_follows = end_follows_through w t.world u.world outs more t.end_follows u.end_follows;
    }
